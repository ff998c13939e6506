-- `file_job_ok::rules::name_is_good` meets its contract.
use mathlib.Core.Path.{◌≡◌}
use mathlib.Core.Bool.{Bool, true}
use mathlib.Core.List.{List}
use Prim.Native.Nat.{ℕ, ◌+◌}
use lib.ListN.{get_or}
use Rattle.list_laws.specs.Below.{all_below}
use Rattle.file_job.specs.file_field.specs.Field.{u32_at}
use Rattle.file_job_ok.specs.Rules.{name_byte_good}
use Rattle.file_job_ok.proofs.rules.name_is_good.Given as goal

-- the first k bytes of the name are good
unfoldable pub good_to : List ℕ → ℕ → ℕ → Bool
good_to s at n = all_below n (λ k. name_byte_good k (u32_at s (at + 76)) (get_or s (at + 88 + k) 0))

abbrev pub invariant-loop-k : goal.invariant-loop-k
invariant-loop-k l = good_to l.file l.at l.k ≡ true
