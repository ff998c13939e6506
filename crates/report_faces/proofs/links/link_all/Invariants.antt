-- `report_faces::links::link_all` meets its contract: those from p on are linked.
use Rattle.fault_merge.specs.Work.{Front}
use Rattle.report_faces.specs.Work.{Linking}
use Rattle.report_faces.proofs.links.link_all.Given as goal

abbrev pub invariant-loop-p : goal.invariant-loop-p
invariant-loop-p l = Front l.from l.initial.work l.work × Linking l.labels l.from l.p l.work
