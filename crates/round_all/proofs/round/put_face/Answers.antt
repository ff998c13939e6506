-- `round_all::round::put_face` meets its contract.
use mathlib.Core.Path.{sym, subst}
use Rattle.solid_faces.proofs.BodyLaws.{checked_readable}
use Rattle.round_frame.specs.Work.{Central}
use Rattle.round_all.proofs.FrameLaws.{face_central}
use Rattle.round_all.proofs.SurfaceLaws.{round_is, frame_is, round_none}
use Rattle.round_all.proofs.PutLaws.{face_low, face_cylinder, face_none}
use borrow.Enum.Refused.{opened}
use Rattle.round_all.proofs.round.put_face.Goals as goal

pub put_cylinder-requires : goal.put_cylinder-requires
put_cylinder-requires c =
    record {
      fact_1 = c.requires.fact_1;
      fact_2 = c.requires.fact_2;
      fact_3 = subst Central (sym (frame_is _ _ _ _ _ _ _ c.requires.fact_3 c.in-Cylinder.is c.new-frame.ensures)) (face_central c.args.file.now c.args.f (checked_readable _ c.requires.fact_1.placed.checked) c.requires.fact_2 (round_is _ _ _ _ _ _ c.requires.fact_3 c.in-Cylinder.is));
    }

pub returns-in-Cylinder : goal.returns-in-Cylinder
returns-in-Cylinder c = face_cylinder _ _ _ _ _ _ _ c.requires.fact_1.placed.laid (face_low _ _ _ c.requires.fact_1.placed c.requires.fact_2).0 c.requires.fact_1.reals_room (frame_is _ _ _ _ _ _ _ c.requires.fact_3 c.in-Cylinder.is c.new-frame.ensures) (round_is _ _ _ _ _ _ c.requires.fact_3 c.in-Cylinder.is) c.put_cylinder.ensures

pub returns-in_default : goal.returns-in_default
returns-in_default c = face_none _ _ _ _ c.requires.fact_1.placed.laid (face_low _ _ _ c.requires.fact_1.placed c.requires.fact_2).0 c.requires.fact_1.reals_room (round_none _ _ _ c.requires.fact_3 (opened c.in_default.in_default-own.keys2))
