-- `num_text::digits::put_digits` meets its contract. The invariant: the digits still to be written, written now, give the whole result.
use mathlib.Core.Path.{◌≡◌, sym, ap, ◌∙◌}
use mathlib.Core.List.{List}
use Prim.Native.Nat.{ℕ, suc, ◌<◌, ◌+◌, ◌-◌, ◌/◌, ◌%◌}
use native.Mathlib.Omega.{arith}
use lib.ListN.{set, length-set}
use Rattle.num_text.specs.Number.{positional, digits}
use Rattle.num_text.specs.Put.{over}
use Rattle.num_text.proofs.NumberLaws.{over_lowest, put_digits}
use Rattle.num_text.proofs.digits.put_digits.Goals as goal

pub loop-i-preserved : goal.loop-i-preserved
loop-i-preserved c =
    let l = c.loop-i in
    (simp length-set l.invariant.0, step l.out c.args.at l.i l.v (omega arith) ∙ l.invariant.1)
  where
    step : (d : List ℕ) (at i v : ℕ) → 0 < i → over (set d (at + (i - 1)) (48 + v % 10)) at (digits (i - 1) (v / 10)) ≡ over d at (digits i v)
    step d at i v h =
        let e : suc (i - 1) ≡ i = omega arith in
        over_lowest d at (i - 1) v ∙ ap (λ (k : ℕ). over d at (digits k v)) e

pub returns : goal.returns
unfolding over positional
returns c =
    let l = c.loop-i in
    put_digits _ _ c.args.at c.args.k c.args.n (omega arith) (omega arith) (none l.out c.args.at l.i l.v (omega arith) ∙ l.invariant.1)
  where
    none : (d : List ℕ) (at i v : ℕ) → i ≡ 0 → d ≡ over d at (digits i v)
    none d at i v e = ap (λ (k : ℕ). over d at (digits k v)) (sym e)
