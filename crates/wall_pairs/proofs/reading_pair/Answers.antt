-- `wall_pairs::reading_pair` meets its contract.
use native.Mathlib.Omega.{arith}
use Rattle.wall_pairs.proofs.StepLaws.{face_room, start_room, hit_room, start_polygon, hit_polygon, both_below, pair_there}
use Rattle.wall_pairs.proofs.reading_pair.Goals as goal

pub overflow_add-at : goal.overflow_add-at
overflow_add-at c =
    let h = c.requires in
    omega (arith, start_room _ _ _ h.fact_1 _ h.fact_3)

pub cell-requires : goal.cell-requires
cell-requires c =
    let h = c.requires in
    start_room _ _ _ h.fact_1 _ h.fact_3

pub overflow_add-at-2 : goal.overflow_add-at-2
overflow_add-at-2 c =
    let h = c.requires in
    omega (arith, face_room _ _ _ h.fact_1 _ (start_polygon _ _ _ h.fact_1 _ h.fact_3 _ c.cell.ensures))

pub cell-from-requires : goal.cell-from-requires
cell-from-requires c =
    let h = c.requires in
    face_room _ _ _ h.fact_1 _ (start_polygon _ _ _ h.fact_1 _ h.fact_3 _ c.cell.ensures)

pub overflow_add-at-3 : goal.overflow_add-at-3
overflow_add-at-3 c =
    let h = c.requires in
    omega (arith, hit_room _ _ _ h.fact_1 _ h.fact_3)

pub cell-requires-2 : goal.cell-requires-2
cell-requires-2 c =
    let h = c.requires in
    hit_room _ _ _ h.fact_1 _ h.fact_3

pub overflow_add-at-4 : goal.overflow_add-at-4
overflow_add-at-4 c =
    let h = c.requires in
    omega (arith, face_room _ _ _ h.fact_1 _ (hit_polygon _ _ _ h.fact_1 _ h.fact_3 _ c.cell-2.ensures))

pub cell-hit-requires : goal.cell-hit-requires
cell-hit-requires c =
    let h = c.requires in
    face_room _ _ _ h.fact_1 _ (hit_polygon _ _ _ h.fact_1 _ h.fact_3 _ c.cell-2.ensures)

pub pair_of-requires : goal.pair_of-requires
pair_of-requires c =
    let h = c.requires in
    let q = c.cell.ensures in
    let f = c.cell-from.ensures in
    let o = c.cell-2.ensures in
    let g = c.cell-hit.ensures in
    record {
      placed_1 = h.fact_1.placed;
      placed_2 = h.fact_1.room;
      placed_3 = h.fact_1.ranked;
      n_value_1 = h.fact_2;
      n_value_2 = (both_below _ _ _ h.fact_1 _ h.fact_3 _ _ _ _ _ h.fact_2 q f o g).0;
      n_value_3 = (both_below _ _ _ h.fact_1 _ h.fact_3 _ _ _ _ _ h.fact_2 q f o g).1;
    }

pub returns : goal.returns
returns c =
    let h = c.requires in
    let q = c.cell.ensures in
    let f = c.cell-from.ensures in
    let o = c.cell-2.ensures in
    let g = c.cell-hit.ensures in
    pair_there _ _ _ h.fact_1 _ h.fact_3 _ _ _ _ _ h.fact_2 q f o g _ c.pair_of.ensures
