-- `rule_corners::segment::find` meets its contract.
use Rattle.rule_corners.proofs.SegmentLaws.{edge_is, found_no_edge, found_no_corner, found_corner}
use Rattle.solid_tours.proofs.PutLaws.{standing_lent}
use Rattle.rule_corners.specs.Work.{FoundIs}
use mathlib.Core.Path.{sym, subst}
use native.Mathlib.Omega.{arith}
use Rattle.rule_corners.proofs.segment.find.Goals as goal

pub offset_bounds-words-sides : goal.offset_bounds-words-sides
offset_bounds-words-sides c = omega (arith, c.requires.fact_1.placed.laid, c.requires.fact_1.words_room)

pub slice_bounds-edge_at-count : goal.slice_bounds-edge_at-count
slice_bounds-edge_at-count c = omega (arith, c.requires.fact_1.placed.laid, c.requires.fact_1.words_room)

pub slice_bounds-edge_at-start : goal.slice_bounds-edge_at-start
slice_bounds-edge_at-start c = omega (arith, c.requires.fact_1.placed.laid, c.requires.fact_1.words_room)

pub slice_bounds-edge_at-end : goal.slice_bounds-edge_at-end
slice_bounds-edge_at-end c = omega (arith, c.requires.fact_1.placed.laid, c.requires.fact_1.words_room)

pub offset_bounds-words-faces : goal.offset_bounds-words-faces
offset_bounds-words-faces c = omega (arith, c.requires.fact_1.placed.laid, c.requires.fact_1.words_room)

pub slice_bounds-edge_at-count-2 : goal.slice_bounds-edge_at-count-2
slice_bounds-edge_at-count-2 c = omega (arith, c.requires.fact_1.placed.laid, c.requires.fact_1.words_room)

pub slice_bounds-edge_at-start-2 : goal.slice_bounds-edge_at-start-2
slice_bounds-edge_at-start-2 c = omega (arith, c.requires.fact_1.placed.laid, c.requires.fact_1.words_room)

pub slice_bounds-edge_at-end-2 : goal.slice_bounds-edge_at-end-2
slice_bounds-edge_at-end-2 c = omega (arith, c.requires.fact_1.placed.laid, c.requires.fact_1.words_room)

pub edge_at-requires : goal.edge_at-requires
edge_at-requires c =
    record {
      fact_1 = standing_lent _ _ _ _ c.requires.fact_1 c.requires.fact_3;
      fact_2 = omega (arith, c.requires.fact_2, c.requires.fact_1.placed.vertices);
    }

pub returns-in_err-e : goal.returns-in_err-e
returns-in_err-e c = subst (FoundIs _ _) (sym c.from_residual.ensures) (found_no_edge _ _ c.in_err-e.ensures)

pub is_inside-requires : goal.is_inside-requires
is_inside-requires c =
    record {
      fact_1 = c.requires.fact_1;
      fact_2 = c.requires.fact_2;
      fact_3 = edge_is _ _ _ c.in_ok-e.ensures;
      fact_4 = c.requires.fact_3;
    }

pub returns-then-not-is_inside : goal.returns-then-not-is_inside
returns-then-not-is_inside c = found_no_corner _ _ _ c.in_ok-e.ensures _ c.is_inside.ensures c.if-not-is_inside.true

pub returns : goal.returns
returns c = found_corner _ _ _ c.in_ok-e.ensures _ c.is_inside.ensures c.if-not-is_inside.false
