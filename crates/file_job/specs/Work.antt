-- What private functions leave on the way; a reader may pass over it. Definitions only.
use Rattle.std.specs.Prelude.{Bool, true, false}
use Rattle.file_job.specs.declared.Process.{Process}
use Rattle.file_job.specs.declared.Process.TheVariants.{CncMachining, SheetMetal, Fdm, Sla, Sls}

-- ---- beside Job.antt
-- the 3D printing processes, as dfm.rs's `is_printing` has them
unfoldable pub is_printing : Process → Bool
is_printing CncMachining = false
is_printing SheetMetal = false
is_printing Fdm = true
is_printing Sla = true
is_printing Sls = true
