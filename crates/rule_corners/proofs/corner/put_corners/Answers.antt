-- `rule_corners::corner::put_corners` meets its contract: the corners of the segments passed are kept.
use Rattle.rule_corners.proofs.CornerLaws.{corners_none, all_put}
use Rattle.solid_tours.proofs.PutLaws.{still_standing, still_ranked}
use native.Mathlib.Omega.{arith}
use lib.Ieee.{nan}
use Rattle.list_laws.proofs.Outside.{outside_none, outside_then}
use Rattle.rule_corners.proofs.corner.put_corners.Goals as goal

pub loop-s-init : goal.loop-s-init
loop-s-init c = (omega arith, corners_none _ _ _ _, outside_none 0 _ _ _, outside_none nan _ _ _)

pub put_corner-m-requires : goal.put_corner-m-requires
put_corner-m-requires c =
    record {
      standing_1 = still_standing _ _ _ _ _ _ _ c.requires.fact_1 (omega (arith, c.requires.fact_1.placed.laid)) c.loop-s.invariant.2 c.loop-s.invariant.3;
      standing_2 = still_ranked _ _ _ _ _ _ _ c.requires.fact_1 (omega (arith, c.requires.fact_1.placed.laid)) c.loop-s.invariant.2 c.loop-s.invariant.3 c.requires.fact_2;
      standing_3 = c.requires.fact_3;
      side_lt_vertices_1 = c.loop-s-test.true;
      side_lt_vertices_2 = c.loop-s.invariant.0;
      side_lt_vertices_3 = c.requires.fact_4;
    }

pub loop-s-preserved : goal.loop-s-preserved
loop-s-preserved c = (omega (arith, c.put_corner-m.ensures.few, c.loop-s.invariant.0), c.put_corner-m.ensures.more c.loop-s.invariant.1, outside_then 0 _ _ _ _ _ c.loop-s.invariant.2 c.put_corner-m.ensures.words_kept, outside_then nan _ _ _ _ _ c.loop-s.invariant.3 c.put_corner-m.ensures.reals_kept)

pub shape_of-words : goal.shape_of-words
shape_of-words c = c.loop-s.invariant.2.long

pub shape_of-reals : goal.shape_of-reals
shape_of-reals c = c.loop-s.invariant.3.long

pub returns : goal.returns
returns c = all_put _ _ _ _ _ _ _ _ c.requires.fact_1 (omega arith) c.loop-s-test.false c.loop-s.invariant.0 c.loop-s.invariant.1 c.loop-s.invariant.2 c.loop-s.invariant.3
