-- `solid_faces::faces::find_face` meets its contract.
use Rattle.solid_polygon.specs.file_part.specs.Part.{part_of}
use Rattle.solid_faces.proofs.TableLaws.{Search}
use Rattle.solid_faces.proofs.faces.find_face.Given as goal

abbrev pub invariant-loop-t : goal.invariant-loop-t
invariant-loop-t l = Search (part_of l.file) l.p l.count l.t

abbrev pub decreases-loop-t : goal.decreases-loop-t
decreases-loop-t l = l.t
