-- `wall_pairs::order_walls` meets its contract.
use Rattle.wall_pairs.proofs.StepLaws.{faces_ready, sort_room, walls_put}
use Rattle.wall_pairs.proofs.order_walls.Goals as goal

pub put_keys-requires : goal.put_keys-requires
put_keys-requires c =
    let h = c.requires in
    record {
      fact_1 = faces_ready _ _ _ _ h.standing_1 h.standing_2 h.ranked_1;
      fact_2 = h.standing_1.reals_room;
      fact_3 = h.ranked_2;
    }

pub sort_items-requires : goal.sort_items-requires
sort_items-requires c =
    let h = c.requires in let all = sort_room _ _ _ _ _ h.standing_1 h.standing_2 h.ranked_1 h.ranked_2 _ c.put_keys.ensures.kept.long in record { fact_1 = all.0; fact_2 = all.1.0; fact_3 = all.1.1 }

pub shape_of-words : goal.shape_of-words
shape_of-words c =
    let h = c.requires in
    let k = c.put_keys.ensures in
    (walls_put _ _ _ _ _ h.standing_1 h.standing_2 h.ranked_1 h.ranked_2 _ k _ c.sort_items.ensures c.sort_items.auto.mem).words_kept.long

pub returns : goal.returns
returns c =
    let h = c.requires in
    let k = c.put_keys.ensures in
    walls_put _ _ _ _ _ h.standing_1 h.standing_2 h.ranked_1 h.ranked_2 _ k _ c.sort_items.ensures c.sort_items.auto.mem
