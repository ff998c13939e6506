-- `rule_corners::corner::total_length` meets its contract: the corners passed are added.
use native.Mathlib.Omega.{arith}
use Rattle.rule_corners.proofs.WalkLaws.{order_long, length_none, length_more, length_end}
use Rattle.file_part.specs.Part.{part_of}
use Rattle.scratch.proofs.StandingLaws.{placed_vertices}
use Rattle.rule_corners.specs.Work.{corner_order}
use Rattle.rule_corners.proofs.corner.total_length.Goals as goal

pub loop-j-init : goal.loop-j-init
loop-j-init c = length_none (part_of c.args.file.now) (corner_order c.args.at c.args.words.now) c.args.i

pub side_at-s-requires : goal.side_at-s-requires
side_at-s-requires c =
    record {
      fact_1 = c.requires.fact_1;
      fact_2 = omega (arith, c.loop-j-test.true, c.requires.fact_3);
    }

pub segment_length-x-requires : goal.segment_length-x-requires
segment_length-x-requires c =
    record {
      fact_1 = c.requires.fact_1.standing;
      fact_2 = omega (arith, c.side_at-s.ensures.below, placed_vertices _ _ c.requires.fact_1.standing.placed);
      fact_3 = c.requires.fact_1.edged;
    }

pub loop-j-preserved : goal.loop-j-preserved
loop-j-preserved c = length_more _ _ _ _ _ _ _ c.loop-j.auto.j (omega (arith, c.loop-j-test.true, c.requires.fact_3, order_long _ _ _ _ c.requires.fact_1)) c.loop-j.invariant c.side_at-s.ensures.side c.segment_length-x.ensures

pub returns : goal.returns
returns c = length_end _ _ _ _ _ _ (omega arith) c.loop-j-test.false c.loop-j.invariant
