-- `num_text::text::Text::put_number` meets its contract: the digits go into a local array, and from there to their place.
use mathlib.Core.Path.{sym, subst}
use Prim.Native.Nat.{ℕ, ◌<◌, ◌≤◌, ◌^◌}
use native.Mathlib.Omega.{arith}
use lib.ListN.{length}
use lib.Seq.{length-take-le}
use borrow.Author.Rules.{rules}
use Rattle.num_text.proofs.NumberLaws.{width_u64, numeral_taken}
use Rattle.num_text.proofs.PutLaws.{put_length}
use Rattle.num_text.proofs.TextLaws.{adds_same}
use Rattle.num_text.proofs.text.Text.put_number.Goals as goal

pub put_digits-requires : goal.put_digits-requires
put_digits-requires c =
    let room : c.width_of-k.result ≤ 20 = let h : c.args.n < 2 ^ 64 = omega (arith, c.ranges.n) in
    subst (λ (k : ℕ). k ≤ 20) (sym c.width_of-k.ensures) (width_u64 c.args.n h) in omega (arith, room)

pub slice_bounds-text-end : goal.slice_bounds-text-end
slice_bounds-text-end c =
    let room : c.width_of-k.result ≤ 20 = let h : c.args.n < 2 ^ 64 = omega (arith, c.ranges.n) in
    subst (λ (k : ℕ). k ≤ 20) (sym c.width_of-k.ensures) (width_u64 c.args.n h) in
    let written : c.width_of-k.result ≤ length c.put_digits.new.out = omega (arith, room, put_length _ c.put_digits.ensures) in written

pub slice_bounds-put_bytes-end : goal.slice_bounds-put_bytes-end
slice_bounds-put_bytes-end c =
    let room : c.width_of-k.result ≤ 20 = let h : c.args.n < 2 ^ 64 = omega (arith, c.ranges.n) in
    subst (λ (k : ℕ). k ≤ 20) (sym c.width_of-k.ensures) (width_u64 c.args.n h) in
    let written : c.width_of-k.result ≤ length c.put_digits.new.out = omega (arith, room, put_length _ c.put_digits.ensures) in sym (length-take-le _ _ written)

pub returns : goal.returns
returns c =
    let room : c.width_of-k.result ≤ 20 = let h : c.args.n < 2 ^ 64 = omega (arith, c.ranges.n) in
    subst (λ (k : ℕ). k ≤ 20) (sym c.width_of-k.ensures) (width_u64 c.args.n h) in
    adds_same _ _ (numeral_taken _ c.args.n c.put_digits.ensures room c.width_of-k.ensures) c.put_bytes.ensures
