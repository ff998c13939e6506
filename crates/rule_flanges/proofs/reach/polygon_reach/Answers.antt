-- `rule_flanges::reach::polygon_reach` meets its contract: its run of the file.
use Rattle.round_frame.proofs.RunLaws.{entry_of, entry_inside, run_of}
use Rattle.rule_flanges.proofs.ReachLaws.{run_reach_lem}
use Rattle.rule_flanges.proofs.reach.polygon_reach.Goals as goal

pub entry_at-at-requires : goal.entry_at-at-requires
entry_at-at-requires c = let room = entry_of _ _ _ c.requires.fact_1 c.requires.fact_2 c.requires.fact_3 in (room.vertices, room.polygon)

pub first_vertex-requires : goal.first_vertex-requires
first_vertex-requires c = entry_inside _ _ _ _ c.requires.fact_1 c.requires.fact_2 c.requires.fact_3 c.entry_at-at.ensures

pub run_length-requires : goal.run_length-requires
run_length-requires c = entry_inside _ _ _ _ c.requires.fact_1 c.requires.fact_2 c.requires.fact_3 c.entry_at-at.ensures

pub run_reach-requires : goal.run_reach-requires
run_reach-requires c = (run_of _ _ _ _ _ _ c.requires.fact_1 c.requires.fact_2 c.requires.fact_3 c.entry_at-at.ensures c.first_vertex.ensures c.run_length.ensures.fact_1).inside

pub returns : goal.returns
returns c = run_reach_lem _ _ _ _ _ _ c.requires.fact_2 c.entry_at-at.ensures c.first_vertex.ensures c.run_length.ensures.fact_1 _ _ _ _ c.run_reach.ensures
