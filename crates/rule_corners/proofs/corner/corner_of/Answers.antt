-- `rule_corners::corner::corner_of` meets its contract.
use native.Mathlib.Omega.{arith}
use Rattle.rule_corners.proofs.WalkLaws.{order_long, corner_is}
use Rattle.scratch.proofs.StandingLaws.{placed_vertices}
use Rattle.rule_corners.proofs.corner.corner_of.Goals as goal

pub total_length-length-requires : goal.total_length-length-requires
total_length-length-requires c =
    record {
      fact_1 = c.requires.fact_1;
      fact_2 = omega (arith, c.requires.fact_2);
      fact_3 = c.requires.fact_3;
    }

pub overflow_sub-e : goal.overflow_sub-e
overflow_sub-e c = omega (arith, c.requires.fact_2)

pub side_at-requires : goal.side_at-requires
side_at-requires c =
    record {
      fact_1 = c.requires.fact_1;
      fact_2 = omega (arith, c.requires.fact_2, c.requires.fact_3);
    }

pub mid_of-mid-requires : goal.mid_of-mid-requires
mid_of-mid-requires c =
    record {
      fact_1 = c.requires.fact_1.standing;
      fact_2 = omega (arith, c.side_at.ensures.below, placed_vertices _ _ c.requires.fact_1.standing.placed);
      fact_3 = c.requires.fact_1.edged;
    }

pub side_at-requires-2 : goal.side_at-requires-2
side_at-requires-2 c =
    record {
      fact_1 = c.requires.fact_1;
      fact_2 = omega (arith, c.requires.fact_2, c.requires.fact_3);
    }

pub normals_of-two-requires : goal.normals_of-two-requires
normals_of-two-requires c =
    record {
      fact_1 = c.requires.fact_1.standing;
      fact_2 = omega (arith, c.side_at-2.ensures.below, placed_vertices _ _ c.requires.fact_1.standing.placed);
      fact_3 = c.side_at-2.ensures.edge;
      fact_4 = c.requires.fact_1.edged;
    }

pub returns : goal.returns
returns c = corner_is _ _ _ _ _ c.requires.fact_2 (omega (arith, c.requires.fact_3, order_long _ _ _ _ c.requires.fact_1)) _ _ _ _ _ c.total_length-length.ensures c.side_at.ensures c.mid_of-mid.ensures c.side_at-2.ensures c.normals_of-two.ensures
