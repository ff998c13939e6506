-- `solid_faces::areas::put_areas` meets its contract.
use Rattle.solid_polygon.specs.file_part.specs.Part.{part_of}
use Rattle.solid_faces.specs.Kept.{KeptAreas}
use Rattle.solid_faces.proofs.areas.put_areas.Given as goal

abbrev pub invariant-loop-p : goal.invariant-loop-p
invariant-loop-p l = KeptAreas (part_of l.file) l.p l.areas
