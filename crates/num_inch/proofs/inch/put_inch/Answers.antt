-- `num_inch::inch::put_inch` meets its contract: the tests of the decimal writer, then one writer after the other.
use mathlib.Core.Path.{◌≡◌, sym, ap, ◌∙◌, subst}
use mathlib.Core.Bool.{true, false}
use mathlib.Core.List.{◌++◌}
use Prim.Native.Nat.{ℕ, ◌/◌, ◌%◌}
use native.Mathlib.Omega.{arith}
use lib.Dec.{T}
use lib.Ieee.{le, lt}
use Rattle.num_text.specs.Put.{bytes}
use Rattle.num_text.specs.Decimal.{zero, limit}
use Rattle.num_text.proofs.DecimalLaws.{from_zero, to_limit, below_limit}
use Rattle.num_inch.specs.Inch.{mixed, inches}
use Rattle.num_inch.proofs.InchLaws.{taken_inch, negative_inch, large_inch}
use Rattle.num_text.proofs.TextLaws.{adds_none, adds_then, adds_same}
use Rattle.num_inch.proofs.inch.put_inch.Goals as goal

-- the text of the number that was found
inches_is : (n m : ℕ) → n ≡ m → mixed (n / 64) (n % 64) ++ bytes " in" ≡ inches m
unfolding inches
inches_is n m e = ap (λ (k : ℕ). mixed (k / 64) (k % 64) ++ bytes " in") e

pub nearest_64th-n-requires : goal.nearest_64th-n-requires
nearest_64th-n-requires c =
    let not_negative : T (le zero c.args.x) = subst T (sym (from_zero c.args.x true c.if-x.true)) tt in
    let not-large : T (lt c.args.x limit) = subst T (sym (to_limit c.args.x true c.if-x-2.true)) tt in below_limit c.args.x not_negative not-large

pub returns-then-x-2 : goal.returns-then-x-2
returns-then-x-2 c =
    let not_negative : T (le zero c.args.x) = subst T (sym (from_zero c.args.x true c.if-x.true)) tt in
    let not-large : T (lt c.args.x limit) = subst T (sym (to_limit c.args.x true c.if-x-2.true)) tt in
    let x = c.args.x in
    adds_same _ _ (inches_is _ _ c.nearest_64th-n.ensures ∙ sym (taken_inch x not_negative not-large)) (adds_then _ _ c.put_mixed.ensures c.put_bytes.ensures)

pub returns-else-x-2 : goal.returns-else-x-2
returns-else-x-2 c =
    let x = c.args.x in
    adds_same _ _ (sym (large_inch x (to_limit x false c.if-x-2.false))) (adds_none _)

pub returns-else-x : goal.returns-else-x
returns-else-x c =
    let x = c.args.x in
    adds_same _ _ (sym (negative_inch x (from_zero x false c.if-x.false))) (adds_none _)
