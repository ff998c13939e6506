-- `solid_tours::order::order_edges` meets its contract: sorted, then packed, then boxes around them.
use Rattle.solid_tours.proofs.PackLaws.{edges_put}
use Rattle.solid_tours.proofs.order.order_edges.Goals as goal

pub sort_edges-m-requires : goal.sort_edges-m-requires
sort_edges-m-requires c =
    record {
      fact_1 = c.requires.fact_1;
      fact_2 = c.requires.fact_2;
      fact_3 = c.requires.fact_3;
      fact_4 = c.requires.fact_4;
    }

pub pack_edges-requires : goal.pack_edges-requires
pack_edges-requires c =
    record {
      fact_1 = c.sort_edges-m.ensures.sorted;
      fact_2 = c.sort_edges-m.ensures.count;
    }

pub put_boxes-requires : goal.put_boxes-requires
put_boxes-requires c =
    record {
      fact_1 = c.pack_edges.ensures.ordered;
      fact_2 = c.sort_edges-m.ensures.count;
    }

pub shape_of-words : goal.shape_of-words
shape_of-words c = c.sort_edges-m.ensures.words_kept.long

pub shape_of-reals : goal.shape_of-reals
shape_of-reals c = (edges_put _ _ _ _ _ _ _ _ _ c.sort_edges-m.ensures c.pack_edges.ensures c.put_boxes.ensures).reals_kept.long

pub returns : goal.returns
returns c = edges_put _ _ _ _ _ _ _ _ _ c.sort_edges-m.ensures c.pack_edges.ensures c.put_boxes.ensures
