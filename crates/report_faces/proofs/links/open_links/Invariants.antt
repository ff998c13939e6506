-- `report_faces::links::open_links` meets its contract: the cells before b say that there is none.
use mathlib.Core.Path.{◌≡◌}
use Prim.Native.Nat.{ℕ, ◌+◌, ◌<◌}
use lib.ListN.{length, get_or}
use Rattle.fault_merge.specs.Work.{Front}
use Rattle.report_faces.proofs.links.open_links.Given as goal

abbrev pub invariant-loop-b : goal.invariant-loop-b
invariant-loop-b l = Front l.from l.initial.work l.work × ((q : ℕ) → q < l.b → get_or l.work (l.from + q) 0 ≡ length l.labels)
