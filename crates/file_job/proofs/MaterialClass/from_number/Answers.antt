-- `file_job::MaterialClass::from_number` meets its contract.
use mathlib.Core.Path.{◌≡◌}
use Prim.Native.Nat.{ℕ}
use borrow.Author.Tests.{ne_eqb}
use Rattle.file_job.specs.declared.MaterialClass.TheVariants.{Metal, Plastic}
use Rattle.file_job.specs.Job.{class_of}
use Rattle.file_job.proofs.MaterialClass.from_number.Goals as goal

metal : (n : ℕ) → n ≡ 0 → Metal ≡ class_of n
unfolding class_of
metal n e = rw (e)

plastic : (n : ℕ) → (n ≡ 0 → ⊥) → Plastic ≡ class_of n
unfolding class_of
plastic n e = rw (ne_eqb n 0 e)

pub returns-in-0 : goal.returns-in-0
returns-in-0 c = metal c.args.n c.in-0.is

pub returns-in_default : goal.returns-in_default
returns-in_default c = plastic c.args.n c.in_default.in_default-own.rest.1
