-- `round_frame::extent::polygon_extent` meets its contract.
use Rattle.round_frame.proofs.RunLaws.{entry_of, entry_inside, corners_of_lem, run_extent_lem}
use Rattle.round_frame.proofs.extent.polygon_extent.Goals as goal

pub entry_at-at-requires : goal.entry_at-at-requires
entry_at-at-requires c = let room = entry_of _ _ _ c.requires.fact_1 c.requires.fact_2 c.requires.fact_3 in (room.vertices, room.polygon)

pub first_vertex-requires : goal.first_vertex-requires
first_vertex-requires c = entry_inside _ _ _ _ c.requires.fact_1 c.requires.fact_2 c.requires.fact_3 c.entry_at-at.ensures

pub run_length-requires : goal.run_length-requires
run_length-requires c = entry_inside _ _ _ _ c.requires.fact_1 c.requires.fact_2 c.requires.fact_3 c.entry_at-at.ensures

pub run_extent-requires : goal.run_extent-requires
run_extent-requires c = corners_of_lem _ _ _ _ _ _ c.requires.fact_1 c.requires.fact_2 c.requires.fact_3 c.entry_at-at.ensures c.first_vertex.ensures c.run_length.ensures.fact_1

pub returns : goal.returns
returns c = run_extent_lem _ _ _ _ _ _ c.requires.fact_1 c.requires.fact_2 c.requires.fact_3 c.entry_at-at.ensures c.first_vertex.ensures c.run_length.ensures.fact_1 _ _ _ c.run_extent.ensures
