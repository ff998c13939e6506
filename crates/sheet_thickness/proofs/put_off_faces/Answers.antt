-- `sheet_thickness::put_off_faces` meets its contract.
use Rattle.list_laws.proofs.Outside.{outside_then}
use Rattle.sheet_thickness.proofs.DistanceLaws.{few}
use Rattle.sheet_thickness.proofs.FaceLaws.{filled_kept, filled_stands, filled_read, filled_marked, marked_more, marked_past, marked_stands, marked_read, off_faces_lem, is_off_lem}
use native.Mathlib.Omega.{arith}
use Rattle.sheet_thickness.proofs.put_off_faces.Goals as goal
use Rattle.sheet_thickness.proofs.put_off_faces.Goals.{then-is_off_at, else-is_off_at}

pub loop-k-init : goal.loop-k-init
loop-k-init c =
    let h = c.requires in
    filled_marked _ _ _ _ h.standing_1 _ c.fill.ensures

pub is_off_at-requires : goal.is_off_at-requires
is_off_at-requires c =
    let h = c.requires in
    let more = c.loop-k-test.true in
    record {
      fact_1 = omega (arith, few _ _ _ _ h.standing_1 _ h.counted_1.readings, more, h.standing_1.placed.laid, h.standing_1.reals_room);
      fact_2 = omega (arith, few _ _ _ _ h.standing_1 _ h.counted_1.readings, more, h.standing_1.placed.laid, h.standing_1.reals_room);
    }

pub mark_faces-requires : goal.mark_faces-requires
mark_faces-requires c =
    let h = c.requires in
    let inv = c.loop-k.invariant in
    record {
      fact_1 = marked_stands _ _ _ _ (filled_stands _ _ _ _ h.standing_1 _ c.fill.ensures) (filled_read _ _ _ _ h.standing_1 _ c.fill.ensures h.standing_2) _ _ inv;
      fact_2 = marked_read _ _ _ _ (filled_stands _ _ _ _ h.standing_1 _ c.fill.ensures) (filled_read _ _ _ _ h.standing_1 _ c.fill.ensures h.standing_2) _ _ inv;
      fact_3 = omega (arith, c.loop-k-test.true, h.counted_1.readings);
    }

pub loop-k-preserved : goal.loop-k-preserved
loop-k-preserved c =
    let h = c.requires in
    elim c.if-is_off_at.branch [
      | then-is_off_at w ↦ rw (w.words-is) (marked_more _ _ _ _ _ _ (is_off_lem _ _ _ _ h.standing_2 h.standing_3 _ _ h.counted_2 h.counted_3 _ (omega (arith, c.loop-k-test.true, h.counted_1.readings)) _ _ c.is_off_at.ensures w.if-is_off_at.true) c.loop-k.invariant w.mark_faces.ensures)
      | else-is_off_at w ↦ rw (w.words-is) (marked_past _ _ _ _ _ (is_off_lem _ _ _ _ h.standing_2 h.standing_3 _ _ h.counted_2 h.counted_3 _ (omega (arith, c.loop-k-test.true, h.counted_1.readings)) _ _ c.is_off_at.ensures w.if-is_off_at.false) c.loop-k.invariant)
    ]

pub returns : goal.returns
returns c =
    let h = c.requires in
    let inv = c.loop-k.invariant in
    record {
      fact_1 = off_faces_lem _ _ _ _ _ _ h.counted_1.readings (omega arith) c.loop-k-test.false inv;
      fact_2 = outside_then _ _ _ _ _ _ (filled_kept _ _ _ _ h.standing_1 _ c.fill.ensures) inv.kept;
    }
