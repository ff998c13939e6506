-- `round_frame::bore::polygon_directions` meets its contract.
use Rattle.round_frame.proofs.RunLaws.{entry_of, entry_inside}
use Rattle.round_frame.proofs.BoreLaws.{run_put, run_fits, run_whole}
use Rattle.round_frame.proofs.bore.polygon_directions.Goals as goal

pub entry_at-at-requires : goal.entry_at-at-requires
entry_at-at-requires c = let room = entry_of _ _ _ c.requires.readable_1 c.requires.readable_2 c.requires.readable_3 in (room.vertices, room.polygon)

pub first_vertex-requires : goal.first_vertex-requires
first_vertex-requires c = entry_inside _ _ _ _ c.requires.readable_1 c.requires.readable_2 c.requires.readable_3 c.entry_at-at.ensures

pub run_length-requires : goal.run_length-requires
run_length-requires c = entry_inside _ _ _ _ c.requires.readable_1 c.requires.readable_2 c.requires.readable_3 c.entry_at-at.ensures

pub run_directions-requires : goal.run_directions-requires
run_directions-requires c =
    record {
      fact_1 = c.requires.readable_1;
      fact_2 = run_whole _ _ _ _ _ _ c.requires.readable_1 c.requires.readable_2 c.requires.readable_3 c.entry_at-at.ensures c.first_vertex.ensures c.run_length.ensures.fact_1;
      fact_3 = run_fits _ _ _ _ _ _ c.requires.readable_1 c.requires.readable_2 c.requires.readable_3 c.entry_at-at.ensures c.first_vertex.ensures c.run_length.ensures.fact_1 _ _ c.requires.v_in_bounds_2 c.requires.v_in_bounds_1;
      fact_4 = c.requires.v_in_bounds_3;
    }

pub returns : goal.returns
returns c = run_put _ _ _ _ _ _ c.requires.readable_1 c.requires.readable_2 c.requires.readable_3 c.entry_at-at.ensures c.first_vertex.ensures c.run_length.ensures.fact_1 _ _ _ _ _ c.requires.v_in_bounds_2 c.run_directions.ensures
