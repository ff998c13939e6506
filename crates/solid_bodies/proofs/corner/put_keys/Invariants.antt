-- `solid_bodies::corner::put_keys` meets its contract.
use Rattle.file_part.specs.Part.{part_of}
use Rattle.solid_bodies.specs.Work.{Keyed}
use Rattle.solid_bodies.proofs.corner.put_keys.Given as goal

abbrev pub invariant-loop-v : goal.invariant-loop-v
invariant-loop-v l = Keyed (part_of l.file) l.n l.v l.initial.corners l.corners
