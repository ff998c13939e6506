-- `file_job::PrintSettings::defaults` meets its contract.
use mathlib.Core.Path.{◌≡◌, refl}
use Rattle.file_field.specs.math.specs.Vector.{y_vec}
use Rattle.file_job.specs.declared.Process.{Process}
use Rattle.file_job.specs.declared.Process.TheVariants.{CncMachining, SheetMetal, Fdm, Sla, Sls}
use Rattle.file_job.specs.Job.{defaults_of, sla_settings, sls_settings, fdm_settings}
use Rattle.file_job.proofs.PrintSettings.defaults.Goals as goal

sla : (p : Process) → p ≡ Sla → sla_settings ≡ defaults_of p
unfolding defaults_of
sla p e = rw (e)

sls : (p : Process) → p ≡ Sls → sls_settings ≡ defaults_of p
unfolding defaults_of
sls p e = rw (e)

fdm : (p : Process) → (p ≡ Sla → ⊥) → (p ≡ Sls → ⊥) → fdm_settings ≡ defaults_of p
unfolding defaults_of
fdm CncMachining h g = refl
fdm SheetMetal h g = refl
fdm Fdm h g = refl
fdm Sla h g = absurd (h refl)
fdm Sls h g = absurd (g refl)

pub returns-in-Sla : goal.returns-in-Sla
unfolding sla_settings y_vec
returns-in-Sla c = sla c.args.process c.in-Sla.is

pub returns-in-Sls : goal.returns-in-Sls
unfolding sls_settings y_vec
returns-in-Sls c = sls c.args.process c.in-Sls.is

pub returns-in_default : goal.returns-in_default
unfolding fdm_settings y_vec
returns-in_default c = fdm c.args.process c.in_default.not-Sla c.in_default.not-Sls
