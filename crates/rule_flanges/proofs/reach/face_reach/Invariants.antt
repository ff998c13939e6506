-- `rule_flanges::reach::face_reach` meets its contract: the polygons of the face that are passed.
use mathlib.Core.Path.{◌≡◌}
use Prim.Native.Nat.{◌-◌}
use Rattle.file_part.specs.Part.{part_of}
use Rattle.solid_faces.specs.Faces.{face_number}
use Rattle.solid_faces.proofs.ChainLaws.{OnFace}
use Rattle.rule_flanges.specs.Flanges.{reach_to}
use Rattle.rule_flanges.proofs.reach.face_reach.Given as goal

abbrev pub invariant-loop-q : goal.invariant-loop-q
invariant-loop-q l = OnFace (part_of l.file) (face_number (part_of l.file) l.first) l.q × (l.reach ≡ reach_to (part_of l.file) (face_number (part_of l.file) l.first) l.line.along l.line.from l.q)

abbrev pub decreases-loop-q : goal.decreases-loop-q
decreases-loop-q l = l.p - l.q
