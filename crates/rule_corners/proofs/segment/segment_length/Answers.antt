-- `rule_corners::segment::segment_length` meets its contract.
use Rattle.rule_corners.proofs.SegmentLaws.{length_is}
use Rattle.file_ok.proofs.ReadableLaws.{readable_length}
use Rattle.solid_faces.proofs.BodyLaws.{checked_readable}
use native.Mathlib.Omega.{arith}
use Rattle.rule_corners.proofs.segment.segment_length.Goals as goal

pub side_end-to-requires : goal.side_end-to-requires
side_end-to-requires c =
    record {
      fact_1 = c.requires.fact_1;
      fact_2 = c.requires.fact_2;
      fact_3 = c.requires.fact_3;
    }

pub vertex-requires : goal.vertex-requires
vertex-requires c = omega (arith, c.side_end-to.ensures.fact_2, readable_length _ (checked_readable _ c.requires.fact_1.placed.checked), c.requires.fact_1.placed.vertices)

pub vertex-requires-2 : goal.vertex-requires-2
vertex-requires-2 c = omega (arith, c.requires.fact_2, readable_length _ (checked_readable _ c.requires.fact_1.placed.checked), c.requires.fact_1.placed.vertices)

pub returns : goal.returns
returns c = length_is _ _ _ _ _ _ _ c.side_end-to.ensures.fact_1 c.vertex.ensures c.vertex-2.ensures c.sub.ensures c.length.ensures
