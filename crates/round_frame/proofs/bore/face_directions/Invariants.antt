-- `round_frame::bore::face_directions` meets its contract.
use Prim.Native.Nat.{◌-◌}
use Rattle.file_part.specs.Part.{part_of}
use Rattle.solid_faces.specs.Faces.{face_number}
use Rattle.solid_faces.proofs.ChainLaws.{OnFace}
use Rattle.file_ok.specs.Rules.{run_start}
use Rattle.round_frame.specs.Polygons.{directions_to}
use Rattle.round_frame.specs.Work.{DirectionsPut}
use Rattle.round_frame.proofs.bore.face_directions.Given as goal

abbrev pub invariant-loop-q : goal.invariant-loop-q
invariant-loop-q l = OnFace (part_of l.file) (face_number (part_of l.file) l.first) l.q × DirectionsPut l.initial.cells l.cells (run_start l.file l.v l.q) l.n (directions_to (part_of l.file) (face_number (part_of l.file) l.first) l.frame l.q)

abbrev pub decreases-loop-q : goal.decreases-loop-q
decreases-loop-q l = l.p - l.q
