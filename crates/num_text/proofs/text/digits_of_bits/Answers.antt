-- `num_text::text::digits_of_bits` meets its contract. The invariant: the k highest digits are written.
use mathlib.Core.Path.{◌≡◌, sym, ap, ◌∙◌}
use mathlib.Core.List.{List, [], ◌∷◌}
use Prim.Native.Nat.{ℕ, suc, ◌<◌, ◌+◌, ◌-◌, ◌*◌, ◌/◌, ◌%◌, ◌^◌}
use native.Mathlib.Nat.{div-div-eq-div-mul, div-one}
use native.Mathlib.Numerals.{add-one}
use native.Mathlib.Omega.{arith}
use lib.Pow.{pow-add}
use Rattle.num_text.specs.Number.{positional, hex_digit, hex16}
use Rattle.num_text.specs.Put.{Put}
use Rattle.num_text.proofs.NumberLaws.{put_lower}
use Rattle.num_text.proofs.PutLaws.{put_none, put_same}
use Rattle.num_text.proofs.text.digits_of_bits.Goals as goal
use Rattle.num_text.proofs.text.digits_of_bits.Invariants.{highest}

-- one digit more, below those that are written
step : {d e f : List ℕ} {at r t b : ℕ} (n k : ℕ) → k < 16 → Put d at (highest k n) e r → b ≡ hex_digit (n / 2 ^ (60 - 4 * k) % 16) → Put e r (b ∷ []) f t
    → Put d at (highest (k + 1) n) f t
step {d} {e} {f} {at} {r} {t} {b} n k h a x p =
    let m = n / 2 ^ (60 - 4 * k) in
    let exponent : 64 - 4 * k ≡ 60 - 4 * k + 4 = omega arith in
    let left : 60 - 4 * k ≡ 64 - 4 * (k + 1) = omega arith in
    let above : n / 2 ^ (64 - 4 * k) ≡ m / 16 =
    ap (λ (j : ℕ). n / 2 ^ j) exponent ∙ ap (λ (j : ℕ). n / j) (pow-add 2 (60 - 4 * k) 4) ∙ sym (div-div-eq-div-mul n (2 ^ (60 - 4 * k)) 16) in
    let more : Put d at (positional 16 hex_digit (suc k) m) f t =
    put_lower 16 hex_digit k m (put_same _ _ (ap (positional 16 hex_digit k) above) a) (put_same _ _ (ap (λ (v : ℕ). v ∷ []) x) p) in
    put_same _ _ (ap (λ (j : ℕ). positional 16 hex_digit j m) (sym (add-one k)) ∙ ap (λ (j : ℕ). positional 16 hex_digit (k + 1) (n / 2 ^ j)) left) more

all : (n k : ℕ) → k ≡ 16 → highest k n ≡ hex16 n
unfolding hex16
all n k e = ap (λ (j : ℕ). highest j n) e ∙ ap (positional 16 hex_digit 16) (div-one n)

pub loop-k-init : goal.loop-k-init
unfolding positional
loop-k-init c = put_none _ _ (omega arith)

pub loop-k-preserved : goal.loop-k-preserved
loop-k-preserved c = step c.args.bits c.loop-k.k c.loop-k-test.true c.loop-k.invariant c.hex_digit.ensures c.place-next.ensures

pub returns : goal.returns
returns c = put_same _ _ (all c.args.bits c.loop-k.k (omega arith)) c.loop-k.invariant
