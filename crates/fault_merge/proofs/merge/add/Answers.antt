-- `fault_merge::merge::add` meets its contract: two stores.
use lib.ListN.{length-set}
use Rattle.fault_merge.proofs.CellLaws.{added_by}
use native.Mathlib.Omega.{arith}
use Rattle.fault_merge.proofs.merge.add.Goals as goal

pub overflow_add-work : goal.overflow_add-work
overflow_add-work c = omega (arith, c.requires.fact_2)

pub overflow_add-work-2 : goal.overflow_add-work-2
overflow_add-work-2 c = omega (arith, c.requires.fact_3)

pub bounds-work-at-4 : goal.bounds-work-at-4
bounds-work-at-4 c = simp length-set (omega (arith, c.requires.fact_1))

pub returns : goal.returns
returns c = added_by c.args.work.now c.args.lead c.args.count c.requires.fact_1
