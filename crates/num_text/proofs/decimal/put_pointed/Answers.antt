-- `num_text::decimal::put_pointed` meets its contract: one writer after the other, each with room.
use mathlib.Core.Path.{◌≡◌, sym, subst}
use mathlib.Core.List.{List}
use Prim.Native.Nat.{ℕ, ◌+◌, ◌≤◌, ◌<◌, ◌^◌}
use native.Mathlib.Nat.{pos_of_ne-zero}
use native.Mathlib.Omega.{arith}
use lib.Dec.{lit<}
use lib.ListN.{length, length-set}
use Rattle.num_text.specs.Number.{digits, width}
use Rattle.num_text.specs.Put.{Put}
use Rattle.num_text.proofs.NumberLaws.{length_digits, width_le, pointed_none, pointed_some}
use Rattle.num_text.proofs.PutLaws.{put_same, put_then, put_within, put_length, put_measures_lem}
use Rattle.num_text.proofs.decimal.put_pointed.Goals as goal

pub put_digits-end-requires : goal.put_digits-end-requires
put_digits-end-requires c =
    let short : c.width_of-k.result ≤ 19 = subst (λ (k : ℕ). k ≤ 19) (sym c.width_of-k.ensures) (width_le c.args.whole 19 (lit< tt) c.requires.fact_1) in omega (arith, short)

pub returns-then-places-eq0 : goal.returns-then-places-eq0
returns-then-places-eq0 c =
    put_same _ _ (pointed_none c.width_of-k.result c.args.whole c.args.places c.args.part c.width_of-k.ensures c.if-places-eq0.true) c.put_digits-end.ensures

-- where the point goes lies within
within : {d e : List ℕ} {k r : ℕ} (n : ℕ) → n < 10 ^ 19 → k ≡ width n → 24 ≤ length d → Put d 0 (digits k n) e r → r + 4 ≤ length e
within {d} {e} {k} {r} n h w l p =
    let short : k ≤ 19 = subst (λ (j : ℕ). j ≤ 19) (sym w) (width_le n 19 (lit< tt) h) in
    let long : length (digits k n) ≡ k = length_digits _ _ in
    let m = put_measures_lem _ p (omega (arith, short, long)) in
    omega (arith, short, long, m, put_length _ p)

pub bounds-out-end : goal.bounds-out-end
bounds-out-end c = omega (arith, within _ c.requires.fact_1 c.width_of-k.ensures c.requires.fact_3 c.put_digits-end.ensures)

pub put_digits-requires : goal.put_digits-requires
put_digits-requires c = simp length-set (omega (arith, within _ c.requires.fact_1 c.width_of-k.ensures c.requires.fact_3 c.put_digits-end.ensures))

pub overflow_add-end : goal.overflow_add-end
overflow_add-end c = omega (arith, within _ c.requires.fact_1 c.width_of-k.ensures c.requires.fact_3 c.put_digits-end.ensures)

pub returns : goal.returns
returns c =
    let room : length c.put_digits-end.new.out < 2 ^ 63 = omega (arith, put_length _ c.put_digits-end.ensures, c.put_digits-end.ensures.room) in
    let inside = within _ c.requires.fact_1 c.width_of-k.ensures c.requires.fact_3 c.put_digits-end.ensures in
    put_same _ _ (pointed_some c.width_of-k.result c.args.whole c.args.places c.args.part c.width_of-k.ensures (pos_of_ne-zero c.if-places-eq0.false))
    (put_then _ _ c.put_digits-end.ensures (put_then _ _ (put_within _ _ 46 room (omega (arith, inside))) c.put_digits.ensures))
