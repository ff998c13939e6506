-- `wall_samples::cast::centroid_of` meets its contract.
use mathlib.Core.Path.{refl, ap, ◌∙◌}
use Rattle.file_part.specs.Part.{first_at, count_at_of}
use Rattle.solid_faces.proofs.BodyLaws.{entry_room, run_room, run_corners, checked_readable}
use Rattle.wall_samples.proofs.CastLaws.{run_centroid}
use native.Mathlib.Omega.{arith}
use Rattle.wall_samples.proofs.cast.centroid_of.Goals as goal

pub entry_at-at-requires : goal.entry_at-at-requires
entry_at-at-requires c =
    let room = entry_room _ _ _ _ (checked_readable _ c.requires.fact_1) c.requires.fact_2 refl c.requires.fact_3 in
    (room.vertices, room.polygon)

pub first_vertex-requires : goal.first_vertex-requires
first_vertex-requires c =
    let room = entry_room _ _ _ _ (checked_readable _ c.requires.fact_1) c.requires.fact_2 refl c.requires.fact_3 in
    omega (arith, room.inside, c.entry_at-at.ensures)

pub run_length-requires : goal.run_length-requires
run_length-requires c =
    let room = entry_room _ _ _ _ (checked_readable _ c.requires.fact_1) c.requires.fact_2 refl c.requires.fact_3 in
    omega (arith, room.inside, c.entry_at-at.ensures)

pub centroid-requires : goal.centroid-requires
centroid-requires c =
    let place = c.entry_at-at.ensures in
    let run = run_room _ _ _ _ _ _ (checked_readable _ c.requires.fact_1) c.requires.fact_2 refl c.requires.fact_3 (c.first_vertex.ensures ∙ ap (first_at _) place) (c.run_length.ensures.fact_1 ∙ ap (count_at_of _) place) in
    let corners = run_corners _ _ _ _ _ _ _ (checked_readable _ c.requires.fact_1) c.requires.fact_2 refl c.requires.fact_3 place c.first_vertex.ensures c.run_length.ensures.fact_1 in
    record {
      fact_1 = corners;
      fact_2 = run.most;
    }

pub returns : goal.returns
returns c = run_centroid _ _ _ _ _ _ _ c.requires.fact_2 c.entry_at-at.ensures c.first_vertex.ensures c.run_length.ensures.fact_1 c.centroid.ensures
