-- `round_frame::extent::face_extent` meets its contract.
use mathlib.Core.Path.{◌≡◌}
use Prim.Native.Nat.{◌-◌}
use Rattle.file_part.specs.Part.{part_of}
use Rattle.solid_faces.specs.Faces.{face_number}
use Rattle.solid_faces.proofs.ChainLaws.{OnFace}
use Rattle.round_frame.specs.Polygons.{extent_to}
use Rattle.round_frame.proofs.extent.face_extent.Given as goal

abbrev pub invariant-loop-q : goal.invariant-loop-q
invariant-loop-q l = OnFace (part_of l.file) (face_number (part_of l.file) l.first) l.q × (l.e ≡ extent_to (part_of l.file) (face_number (part_of l.file) l.first) l.frame l.q)

abbrev pub decreases-loop-q : goal.decreases-loop-q
decreases-loop-q l = l.p - l.q
