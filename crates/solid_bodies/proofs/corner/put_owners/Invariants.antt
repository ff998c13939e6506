-- `solid_bodies::corner::put_owners` meets its contract.
use Rattle.file_part.specs.Layout.{vertex_count_of}
use Rattle.file_part.specs.Part.{part_of}
use Rattle.file_ok.specs.Rules.{run_start}
use Rattle.solid_bodies.specs.Work.{Owned}
use Rattle.solid_bodies.proofs.corner.put_owners.Given as goal

abbrev pub invariant-loop-p : goal.invariant-loop-p
invariant-loop-p l =
    Owned (part_of l.file) (run_start l.file (vertex_count_of l.file) l.p) l.corners
