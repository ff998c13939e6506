-- `file_field::test::zero_words` meets its contract.
use mathlib.Core.Path.{◌≡◌, sym, ◌∙◌, subst}
use mathlib.Core.Bool.{true, false}
use mathlib.Core.List.{List}
use Prim.Native.Nat.{ℕ, ◌+◌, ◌*◌, ◌≤◌, ◌<◌}
use native.Mathlib.Nat.{le_antisymm}
use borrow.Author.Tests.{ne_eqb}
use Rattle.list_laws.proofs.Below.{all_none, all_more, all_fails}
use Rattle.file_field.specs.Field.{u64_at}
use Rattle.file_field.specs.Test.{zero_words}
use Rattle.file_field.proofs.test.zero_words.Goals as goal

none : (s : List ℕ) (i : ℕ) → zero_words s i 0 ≡ true
unfolding zero_words
none s i = all_none _

more : (s : List ℕ) (i k w : ℕ) → w ≡ u64_at s (i + 8 * k) → w ≡ 0 → zero_words s i k ≡ true → zero_words s i (k + 1) ≡ true
unfolding zero_words
more s i k w e z h = all_more k _ h (rw (← e, z))

other : (s : List ℕ) (i n k w : ℕ) → w ≡ u64_at s (i + 8 * k) → (w ≡ 0 → ⊥) → k < n → false ≡ zero_words s i n
unfolding zero_words
other s i n k w e z l = sym (all_fails n _ k l (ne_eqb _ _ (λ q. z (e ∙ q))))

whole : (s : List ℕ) (i k n : ℕ) → k ≤ n → n ≤ k → zero_words s i k ≡ true → true ≡ zero_words s i n
whole s i k n a b h = sym (subst (λ (j : ℕ). zero_words s i j ≡ true) (le_antisymm a b) h)

pub loop-k-init : goal.loop-k-init
loop-k-init c = none c.args.file.now c.args.at

pub returns-then-u64_at-ne0 : goal.returns-then-u64_at-ne0
returns-then-u64_at-ne0 c = other _ _ _ _ _ c.u64_at.ensures c.if-u64_at-ne0.true c.loop-k-test.true

pub loop-k-preserved : goal.loop-k-preserved
loop-k-preserved c = more _ _ _ _ c.u64_at.ensures c.if-u64_at-ne0.false c.loop-k.invariant
