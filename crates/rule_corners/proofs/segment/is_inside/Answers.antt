-- `rule_corners::segment::is_inside` meets its contract.
use Rattle.rule_corners.proofs.SegmentLaws.{near_curved, far_curved, both_flat}
use Rattle.file_part.proofs.PartLaws.{part_polygons}
use Rattle.scratch.proofs.StandingLaws.{placed_polygons}
use native.Mathlib.Omega.{arith}
use Rattle.rule_corners.proofs.segment.is_inside.Goals as goal

pub sides_of-of-requires : goal.sides_of-of-requires
sides_of-of-requires c =
    record {
      fact_1 = c.requires.fact_1;
      fact_2 = c.requires.fact_2;
      fact_3 = c.requires.fact_3;
      fact_4 = c.requires.fact_4;
    }

pub on_plane-requires : goal.on_plane-requires
on_plane-requires c =
    record {
      fact_1 = c.requires.fact_1.placed.checked;
      fact_2 = c.requires.fact_1.placed.vertices;
      fact_3 = omega (arith, c.sides_of-of.ensures.polygon_below, c.requires.fact_1.placed.polygons, part_polygons c.args.file.now);
    }

pub returns-then-not-on_plane : goal.returns-then-not-on_plane
returns-then-not-on_plane c = near_curved _ _ _ c.sides_of-of.ensures c.requires.fact_3 _ c.on_plane.ensures c.if-not-on_plane.true

pub on_plane-requires-2 : goal.on_plane-requires-2
on_plane-requires-2 c =
    record {
      fact_1 = c.requires.fact_1.placed.checked;
      fact_2 = c.requires.fact_1.placed.vertices;
      fact_3 = omega (arith, c.sides_of-of.ensures.beyond_below, c.requires.fact_1.placed.polygons, part_polygons c.args.file.now);
    }

pub returns-then-not-on_plane-2 : goal.returns-then-not-on_plane-2
returns-then-not-on_plane-2 c = far_curved _ _ _ c.sides_of-of.ensures c.requires.fact_3 _ c.on_plane.ensures c.if-not-on_plane.false _ c.on_plane-2.ensures c.if-not-on_plane-2.true

pub mid_of-requires : goal.mid_of-requires
mid_of-requires c =
    record {
      fact_1 = c.requires.fact_1;
      fact_2 = c.requires.fact_2;
      fact_3 = c.requires.fact_4;
    }

pub is_concave-requires : goal.is_concave-requires
is_concave-requires c =
    record {
      fact_1 = c.requires.fact_1;
      fact_2 = omega (arith, c.sides_of-of.ensures.polygon_below, placed_polygons _ _ c.requires.fact_1.placed);
      fact_3 = omega (arith, c.sides_of-of.ensures.beyond_below, placed_polygons _ _ c.requires.fact_1.placed);
    }

pub returns : goal.returns
returns c = both_flat _ _ _ c.sides_of-of.ensures c.requires.fact_3 _ c.on_plane.ensures c.if-not-on_plane.false _ _ _ c.on_plane-2.ensures c.if-not-on_plane-2.false c.mid_of.ensures c.is_concave.ensures
