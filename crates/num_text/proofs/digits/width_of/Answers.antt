-- `num_text::digits::width_of` meets its contract. The invariant: the digits counted and those that v still has make up the width.
use mathlib.Core.Path.{◌≡◌, ap, ◌∙◌}
use Prim.Native.Nat.{ℕ, suc, ◌≤◌, ◌+◌, ◌-◌, ◌/◌}
use native.Mathlib.Omega.{arith}
use lib.Dec.{ltb}
use borrow.Author.Rules.{rules}
use Rattle.num_text.specs.Number.{count, width}
use Rattle.num_text.proofs.NumberLaws.{count_one, count_more}
use Rattle.num_text.proofs.digits.width_of.Goals as goal

pub loop-v-init : goal.loop-v-init
unfolding width
loop-v-init c = (search rules, omega arith, ap (λ (f : ℕ). 1 + count f (ltb c.args.n 10) c.args.n) (go c.args.n))
  where
    go : (n : ℕ) → n + 1 - 1 ≡ n
    go n = omega arith

pub loop-v-preserved : goal.loop-v-preserved
loop-v-preserved c =
    let l = c.loop-v in
    (omega arith, omega arith, step c.args.n l.k l.v l.invariant.1 c.loop-v-test.true ∙ l.invariant.2)
  where
    step : (n k v : ℕ) → k + v ≤ n + 1 → 10 ≤ v → k + 1 + count (n + 1 - (k + 1)) (ltb (v / 10) 10) (v / 10) ≡ k + count (n + 1 - k) (ltb v 10) v
    step n k v h g =
        let less : n + 1 - k ≡ suc (n + 1 - (k + 1)) = omega arith in
        let e : count (n + 1 - k) (ltb v 10) v ≡ suc (count (n + 1 - (k + 1)) (ltb (v / 10) 10) (v / 10)) =
        ap (λ (f : ℕ). count f (ltb v 10) v) less ∙ count_more (n + 1 - (k + 1)) v g in
        omega arith

pub returns : goal.returns
returns c =
    let l = c.loop-v in
    let n = c.args.n in
    done l.k (count (n + 1 - l.k) (ltb l.v 10) l.v) (width n) l.invariant.2 (count_one (n + 1 - l.k) l.v c.loop-v-test.false)
  where
    done : (k a w : ℕ) → k + a ≡ 1 + w → a ≡ 1 → k ≡ w
    done k a w h e = omega arith
