-- `file_job_ok::rules::name_is_good` meets its contract.
use mathlib.Core.Path.{◌≡◌, sym, subst}
use mathlib.Core.Bool.{Bool, true, false}
use mathlib.Core.List.{List}
use Prim.Native.Nat.{ℕ, ◌+◌, ◌≤◌, ◌<◌}
use native.Mathlib.Nat.{le_antisymm}
use lib.ListN.{get_or}
use Rattle.list_laws.proofs.Below.{all_none, all_more, all_fails}
use Rattle.file_job.specs.file_field.specs.Field.{u32_at}
use Rattle.file_job_ok.specs.Rules.{name_byte_good, name_good}
use Rattle.file_job_ok.proofs.rules.name_is_good.Goals as goal
use Rattle.file_job_ok.proofs.rules.name_is_good.Invariants.{good_to}

none : (s : List ℕ) (at : ℕ) → good_to s at 0 ≡ true
unfolding good_to
none s at = all_none _

more :
    (s : List ℕ) (at k n : ℕ) (r : Bool) →
    n ≡ u32_at s (at + 76) →
    r ≡ name_byte_good k n (get_or s (at + 88 + k) 0) →
    r ≡ true →
    good_to s at k ≡ true →
    good_to s at (k + 1) ≡ true
unfolding good_to
more s at k n r en er is h = all_more k _ h (rw (← en, ← er, is))

other :
    (s : List ℕ) (at k n : ℕ) (r : Bool) →
    n ≡ u32_at s (at + 76) →
    r ≡ name_byte_good k n (get_or s (at + 88 + k) 0) →
    r ≡ false →
    k < 40 →
    false ≡ name_good s at
unfolding name_good
other s at k n r en er is l = sym (all_fails 40 _ k l (rw (← en, ← er, is)))

whole : (s : List ℕ) (at k : ℕ) → k ≤ 40 → 40 ≤ k → good_to s at k ≡ true → true ≡ name_good s at
unfolding good_to name_good
whole s at k a b h = sym (subst (λ (j : ℕ). good_to s at j ≡ true) (le_antisymm a b) h)

pub loop-k-init : goal.loop-k-init
loop-k-init c = none c.args.file.now c.args.at

pub returns-then-not-name_byte_is_good : goal.returns-then-not-name_byte_is_good
returns-then-not-name_byte_is_good c =
    other _ _ _ _ _ c.u32_at-length.ensures c.name_byte_is_good.ensures c.if-not-name_byte_is_good.true
    c.loop-k-test.true

pub loop-k-preserved : goal.loop-k-preserved
loop-k-preserved c = more _ _ _ _ _ c.u32_at-length.ensures c.name_byte_is_good.ensures c.if-not-name_byte_is_good.false c.loop-k.invariant

pub returns : goal.returns
returns c = whole _ _ _ c.loop-k.auto.k-end c.loop-k-test.false c.loop-k.invariant
