-- `round_all::round::put_extent` meets its contract.
use mathlib.Core.Path.{ap, ◌∙◌}
use Prim.Native.Nat.{ℕ}
use Rattle.file_part.specs.Part.{part_of}
use Rattle.round_frame.specs.Frame.{measure_of}
use Rattle.round_frame.specs.Work.{put_measure_of}
use Rattle.round_frame.specs.Polygons.{extent_to}
use Rattle.round_all.proofs.round.put_extent.Goals as goal

pub face_extent-e-requires : goal.face_extent-e-requires
face_extent-e-requires c =
    record {
      readable_1 = c.requires.readable_1;
      readable_2 = c.requires.readable_2;
      first_bound_1 = c.requires.first_bound_1;
      first_bound_2 = c.requires.first_bound_2;
    }

pub put_measure-requires : goal.put_measure-requires
put_measure-requires c = c.requires.readable_3

pub returns : goal.returns
returns c = let same = ap (λ (g : ℕ). extent_to (part_of c.args.file.now) g c.args.frame (part_of c.args.file.now).polygons) c.requires.first_bound_3 in c.put_measure.ensures ∙ ap (put_measure_of c.args.out.now c.args.f) (c.new.ensures ∙ ap (measure_of c.args.frame) (c.face_extent-e.ensures ∙ same))
