-- `rule_corners::segment::is_concave` meets its contract.
use Rattle.rule_corners.proofs.SegmentLaws.{level, leaning}
use mathlib.Core.Path.{◌∙◌}
use native.Mathlib.Omega.{arith}
use Rattle.rule_corners.proofs.segment.is_concave.Goals as goal

pub offset_bounds-reals-start : goal.offset_bounds-reals-start
offset_bounds-reals-start c = omega (arith, c.requires.fact_1.placed.laid, c.requires.fact_1.reals_room)

pub slice_bounds-plane_at-count : goal.slice_bounds-plane_at-count
slice_bounds-plane_at-count c = omega (arith, c.requires.fact_1.placed.laid, c.requires.fact_1.reals_room)

pub slice_bounds-plane_at-start : goal.slice_bounds-plane_at-start
slice_bounds-plane_at-start c = omega (arith, c.requires.fact_1.placed.laid, c.requires.fact_1.reals_room)

pub slice_bounds-plane_at-end : goal.slice_bounds-plane_at-end
slice_bounds-plane_at-end c = omega (arith, c.requires.fact_1.placed.laid, c.requires.fact_1.reals_room)

pub plane_at-near-requires : goal.plane_at-near-requires
plane_at-near-requires c = omega (arith, c.requires.fact_2, c.requires.fact_1.the_reals.planes.long)

pub offset_bounds-reals-start-2 : goal.offset_bounds-reals-start-2
offset_bounds-reals-start-2 c = omega (arith, c.requires.fact_1.placed.laid, c.requires.fact_1.reals_room)

pub slice_bounds-plane_at-count-2 : goal.slice_bounds-plane_at-count-2
slice_bounds-plane_at-count-2 c = omega (arith, c.requires.fact_1.placed.laid, c.requires.fact_1.reals_room)

pub slice_bounds-plane_at-start-2 : goal.slice_bounds-plane_at-start-2
slice_bounds-plane_at-start-2 c = omega (arith, c.requires.fact_1.placed.laid, c.requires.fact_1.reals_room)

pub slice_bounds-plane_at-end-2 : goal.slice_bounds-plane_at-end-2
slice_bounds-plane_at-end-2 c = omega (arith, c.requires.fact_1.placed.laid, c.requires.fact_1.reals_room)

pub plane_at-far-requires : goal.plane_at-far-requires
plane_at-far-requires c = omega (arith, c.requires.fact_3, c.requires.fact_1.the_reals.planes.long)

pub returns-then-not-dot : goal.returns-then-not-dot
returns-then-not-dot c = level _ _ _ _ _ (c.plane_at-near.ensures ∙ c.requires.fact_1.the_reals.planes.each _ c.requires.fact_2) (c.plane_at-far.ensures ∙ c.requires.fact_1.the_reals.planes.each _ c.requires.fact_3) _ c.dot.ensures c.if-not-dot.true

pub centroid_of-c-requires : goal.centroid_of-c-requires
centroid_of-c-requires c =
    record {
      fact_1 = c.requires.fact_1.placed.checked;
      fact_2 = c.requires.fact_1.placed.vertices;
      fact_3 = omega (arith, c.requires.fact_3, c.requires.fact_1.placed.polygons);
    }

pub returns : goal.returns
returns c = leaning _ _ _ _ _ (c.plane_at-near.ensures ∙ c.requires.fact_1.the_reals.planes.each _ c.requires.fact_2) (c.plane_at-far.ensures ∙ c.requires.fact_1.the_reals.planes.each _ c.requires.fact_3) _ c.dot.ensures _ _ _ c.if-not-dot.false c.centroid_of-c.ensures c.sub.ensures c.dot-2.ensures
