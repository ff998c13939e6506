-- `sheet_thickness::put_distances` meets its contract.
use Rattle.list_laws.proofs.Outside.{outside_none}
use Rattle.sheet_thickness.proofs.KeptLaws.{still_stands, still_read, still_ordered}
use Rattle.sheet_thickness.proofs.DistanceLaws.{distances_more, face_below, edge_is, key_low, key_room}
use native.Mathlib.Omega.{arith}
use Rattle.sheet_thickness.proofs.put_distances.Goals as goal

pub sample_at-s-requires : goal.sample_at-s-requires
sample_at-s-requires c =
    let h = c.requires in
    let inv = c.loop-k.invariant in
    record {
      standing = still_stands _ _ _ _ _ _ (outside_none _ _ _ _) inv.kept h.edges_ordered_1.standing;
      readings_1 = still_read _ _ _ _ _ _ (outside_none _ _ _ _) inv.kept h.edges_ordered_1.standing h.edges_ordered_2;
      readings_2 = omega (arith, c.loop-k-test.true, h.counted_2);
    }

pub edge_distance-distance-requires : goal.edge_distance-distance-requires
edge_distance-distance-requires c =
    let h = c.requires in
    record {
      fact_1 = still_ordered _ _ _ _ _ _ (outside_none _ _ _ _) c.loop-k.invariant.kept h.edges_ordered_1;
      fact_2 = h.counted_1;
      fact_3 = face_below _ _ _ c.sample_at-s.ensures _ h.counted_1.faces (omega (arith, c.loop-k-test.true, h.counted_2));
    }

pub overflow_add-reals : goal.overflow_add-reals
overflow_add-reals c =
    let h = c.requires in
    omega (arith, key_low _ _ _ _ h.edges_ordered_1.standing _ h.counted_2 _ c.loop-k-test.true, h.edges_ordered_1.standing.placed.laid)

pub offset_bounds-reals-falling : goal.offset_bounds-reals-falling
offset_bounds-reals-falling c =
    let h = c.requires in
    omega (arith, key_low _ _ _ _ h.edges_ordered_1.standing _ h.counted_2 _ c.loop-k-test.true, h.edges_ordered_1.standing.placed.laid)

pub bounds-reals-falling : goal.bounds-reals-falling
bounds-reals-falling c =
    let h = c.requires in
    omega (arith, key_room _ _ _ _ h.edges_ordered_1.standing _ h.counted_2 _ c.loop-k-test.true, c.loop-k.invariant.kept.long)

pub loop-k-preserved : goal.loop-k-preserved
loop-k-preserved c =
    let h = c.requires in
    let more = c.loop-k-test.true in
    distances_more _ _ _ _ _ _ (key_low _ _ _ _ h.edges_ordered_1.standing _ h.counted_2 _ more) (key_room _ _ _ _ h.edges_ordered_1.standing _ h.counted_2 _ more) (edge_is _ _ _ c.sample_at-s.ensures _ c.edge_distance-distance.ensures) c.loop-k.invariant
