-- `round_frame::votes::polygon_vote` meets its contract.
use mathlib.Core.Path.{ap, ◌∙◌}
use native.Mathlib.Omega.{arith}
use Rattle.solid_polygon.specs.declared.polygon.Plane.{Plane}
use Rattle.round_frame.proofs.RunLaws.{entry_of, entry_inside, run_of, corners_of_lem, run_centroid, run_vote}
use Rattle.round_frame.proofs.votes.polygon_vote.Goals as goal

pub entry_at-at-requires : goal.entry_at-at-requires
entry_at-at-requires c = let room = entry_of _ _ _ c.requires.readable_1 c.requires.readable_2 c.requires.readable_3 in (room.vertices, room.polygon)

pub first_vertex-requires : goal.first_vertex-requires
first_vertex-requires c = entry_inside _ _ _ _ c.requires.readable_1 c.requires.readable_2 c.requires.readable_3 c.entry_at-at.ensures

pub run_length-requires : goal.run_length-requires
run_length-requires c = entry_inside _ _ _ _ c.requires.readable_1 c.requires.readable_2 c.requires.readable_3 c.entry_at-at.ensures

pub centroid-centroid-requires : goal.centroid-centroid-requires
centroid-centroid-requires c = let run = run_of _ _ _ _ _ _ c.requires.readable_1 c.requires.readable_2 c.requires.readable_3 c.entry_at-at.ensures c.first_vertex.ensures c.run_length.ensures.fact_1 in
    record {
      fact_1 = corners_of_lem _ _ _ _ _ _ c.requires.readable_1 c.requires.readable_2 c.requires.readable_3 c.entry_at-at.ensures c.first_vertex.ensures c.run_length.ensures.fact_1;
      fact_2 = run.most;
    }

pub normal_at-requires : goal.normal_at-requires
normal_at-requires c = omega (arith, c.requires.readable_3, c.requires.kept_planes_1.long)

pub bounds-areas-q : goal.bounds-areas-q
bounds-areas-q c = omega (arith, c.requires.readable_3, c.requires.kept_planes_2.long)

pub returns : goal.returns
returns c =
    run_vote _ _ _ _ _ _ _
    (c.normal_at.ensures ∙ ap (λ (x : Plane). x.normal) (c.requires.kept_planes_1.each _ c.requires.readable_3))
    (c.requires.kept_planes_2.each _ c.requires.readable_3)
    (run_centroid _ _ _ _ _ _ c.requires.readable_1 c.requires.readable_2 c.requires.readable_3 c.entry_at-at.ensures c.first_vertex.ensures c.run_length.ensures.fact_1 _ c.centroid-centroid.ensures)
    c.vote.ensures
