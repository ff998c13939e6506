-- `rule_holes::nearest::with_neighbour` meets its contract.
use Rattle.rule_holes.proofs.NearestLaws.{neighbour_flat, neighbour_other}
use Rattle.rule_holes.proofs.nearest.with_neighbour.Goals as goal

pub is_flat-requires : goal.is_flat-requires
is_flat-requires c =
    let g = c.requires in
    record {
      fact_1 = g.edges_ordered_1.standing;
      fact_2 = g.edges_ordered_3;
    }

pub with_plate-requires : goal.with_plate-requires
with_plate-requires c =
    record {
      edges_ordered_1 = c.requires.edges_ordered_1;
      edges_ordered_2 = c.requires.edges_ordered_2;
      edges_ordered_3 = c.requires.edges_ordered_3;
      plates_1 = c.requires.plates_1;
      plates_2 = c.requires.plates_2;
    }

pub returns-then-is_flat : goal.returns-then-is_flat
returns-then-is_flat c =
    record {
      fact_1 = neighbour_flat _ _ _ _ _ _ c.is_flat.ensures c.if-is_flat.true c.with_plate.ensures.fact_1;
      fact_2 = c.with_plate.ensures.fact_2;
    }

pub returns : goal.returns
returns c =
    record {
      fact_1 = neighbour_other _ _ _ _ _ c.is_flat.ensures c.if-is_flat.false;
      fact_2 = c.requires.plates_2;
    }
