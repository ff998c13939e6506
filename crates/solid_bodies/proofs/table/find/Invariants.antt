-- `solid_bodies::table::find` meets its contract: what the walk passes has another key, and the walk falls.
use Rattle.solid_bodies.specs.Work.{corners_of}
use Rattle.solid_bodies.proofs.TableLaws.{Seek}
use Rattle.solid_bodies.proofs.table.find.Given as goal

abbrev pub invariant-loop-at : goal.invariant-loop-at
invariant-loop-at l = Seek (corners_of l.n l.corners) l.n l.at l.v

abbrev pub decreases-loop-at : goal.decreases-loop-at
decreases-loop-at l = l.at
