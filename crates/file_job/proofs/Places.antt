-- The place of a process among the variants, which is what a `match` on it knows.
use mathlib.Core.Path.{◌≡◌}
use mathlib.Core.Logic.{◌⊎◌, inl, inr}
use Prim.Native.Nat.{ℕ, ◌≤◌}
use native.Mathlib.Omega.{arith}
use denote.Enum.Declared.{tag_of}
use Rattle.file_job.specs.declared.Process.{Process}
use Rattle.file_job.specs.contracts.Process as process

abbrev pub place : Process → ℕ
place p = tag_of process.the_type p

-- one of the arms `0 | 1`, `2 | 3 | 4` and `0 | 1 | 2`
pub first_two : (k : ℕ) → (k ≡ 0) ⊎ (k ≡ 1) → k ≤ 1
first_two k (inl e) = omega (arith, e)
first_two k (inr e) = omega (arith, e)

pub last_three : (k : ℕ) → (k ≡ 2) ⊎ ((k ≡ 3) ⊎ (k ≡ 4)) → 2 ≤ k
last_three k (inl e) = omega (arith, e)
last_three k (inr (inl e)) = omega (arith, e)
last_three k (inr (inr e)) = omega (arith, e)

pub first_three : (k : ℕ) → (k ≡ 0) ⊎ ((k ≡ 1) ⊎ (k ≡ 2)) → k ≤ 2
first_three k (inl e) = omega (arith, e)
first_three k (inr (inl e)) = omega (arith, e)
first_three k (inr (inr e)) = omega (arith, e)
