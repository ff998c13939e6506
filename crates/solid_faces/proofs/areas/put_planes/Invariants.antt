-- `solid_faces::areas::put_planes` meets its contract.
use Rattle.solid_polygon.specs.file_part.specs.Part.{part_of}
use Rattle.solid_faces.specs.Kept.{KeptPlanes}
use Rattle.solid_faces.proofs.areas.put_planes.Given as goal

abbrev pub invariant-loop-p : goal.invariant-loop-p
invariant-loop-p l = KeptPlanes (part_of l.file) l.p l.planes
