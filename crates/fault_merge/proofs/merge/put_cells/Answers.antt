-- `fault_merge::merge::put_cells` meets its contract: four stores.
use lib.ListN.{length-set}
use Rattle.fault_merge.proofs.CellLaws.{opened_by}
use native.Mathlib.Omega.{arith}
use Rattle.fault_merge.proofs.merge.put_cells.Goals as goal

pub bounds-work-at-2 : goal.bounds-work-at-2
bounds-work-at-2 c = simp length-set (omega (arith, c.requires))

pub bounds-work-at-3 : goal.bounds-work-at-3
bounds-work-at-3 c = simp length-set (omega (arith, c.requires))

pub bounds-work-at-4 : goal.bounds-work-at-4
bounds-work-at-4 c = simp length-set (omega (arith, c.requires))

pub returns : goal.returns
returns c = opened_by c.args.work.now c.args.i c.args.hash c.args.lead c.requires
