-- `file_job::Process::is_printing` meets its contract.
use mathlib.Core.Path.{◌≡◌, refl}
use mathlib.Core.Bool.{true, false}
use mathlib.Core.Logic.{◌⊎◌, ⊎_elim}
use Rattle.file_job.specs.declared.Process.{Process}
use Rattle.file_job.specs.declared.Process.TheVariants.{CncMachining, SheetMetal, Fdm, Sla, Sls}
use Rattle.file_job.specs.Work.{is_printing}
use Rattle.file_job.proofs.Process.is_printing.Goals as goal

printed : (p : Process) → (p ≡ Fdm) ⊎ ((p ≡ Sla) ⊎ (p ≡ Sls)) → true ≡ is_printing p
unfolding is_printing
printed p h = ⊎_elim (λ e. rw e) (λ g. ⊎_elim (λ e. rw e) (λ e. rw e) g) h

cut : (p : Process) → (p ≡ Fdm → ⊥) → (p ≡ Sla → ⊥) → (p ≡ Sls → ⊥) → false ≡ is_printing p
unfolding is_printing
cut CncMachining a b d = refl
cut SheetMetal a b d = refl
cut Fdm a b d = absurd (a refl)
cut Sla a b d = absurd (b refl)
cut Sls a b d = absurd (d refl)

pub returns-in-Fdm : goal.returns-in-Fdm
returns-in-Fdm c = printed c.args.self c.in-Fdm.is

pub returns-in_default : goal.returns-in_default
returns-in_default c = cut c.args.self c.in_default.not-Fdm c.in_default.not-Sla c.in_default.not-Sls
