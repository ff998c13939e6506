-- `sheet_thickness::mark_faces` meets its contract.
use lib.ListN.{length-set}
use Rattle.sheet_thickness.proofs.FaceLaws.{start_room, hit_room, from_room, to_room, from_low, to_low, faces_marked}
use native.Mathlib.Omega.{arith}
use Rattle.sheet_thickness.proofs.mark_faces.Goals as goal

pub overflow_add-readings : goal.overflow_add-readings
overflow_add-readings c =
    let h = c.requires in
    omega (arith, start_room _ _ _ _ h.fact_1 h.fact_2 _ h.fact_3)

pub cell-requires : goal.cell-requires
cell-requires c =
    let h = c.requires in
    start_room _ _ _ _ h.fact_1 h.fact_2 _ h.fact_3

pub overflow_add-faces : goal.overflow_add-faces
overflow_add-faces c =
    let h = c.requires in
    omega (arith, from_room _ _ _ _ h.fact_1 h.fact_2 _ h.fact_3 _ c.cell.ensures)

pub cell-from-requires : goal.cell-from-requires
cell-from-requires c =
    let h = c.requires in
    from_room _ _ _ _ h.fact_1 h.fact_2 _ h.fact_3 _ c.cell.ensures

pub overflow_add-hits : goal.overflow_add-hits
overflow_add-hits c =
    let h = c.requires in
    omega (arith, hit_room _ _ _ _ h.fact_1 h.fact_2 _ h.fact_3)

pub cell-requires-2 : goal.cell-requires-2
cell-requires-2 c =
    let h = c.requires in
    hit_room _ _ _ _ h.fact_1 h.fact_2 _ h.fact_3

pub overflow_add-faces-2 : goal.overflow_add-faces-2
overflow_add-faces-2 c =
    let h = c.requires in
    omega (arith, to_room _ _ _ _ h.fact_1 h.fact_2 _ h.fact_3 _ c.cell-2.ensures)

pub cell-hit-requires : goal.cell-hit-requires
cell-hit-requires c =
    let h = c.requires in
    to_room _ _ _ _ h.fact_1 h.fact_2 _ h.fact_3 _ c.cell-2.ensures

pub overflow_add-words : goal.overflow_add-words
overflow_add-words c =
    let h = c.requires in
    omega (arith, (from_low _ _ _ _ h.fact_1 h.fact_2 _ h.fact_3 _ _ c.cell.ensures c.cell-from.ensures).1)

pub offset_bounds-words-order : goal.offset_bounds-words-order
offset_bounds-words-order c =
    let h = c.requires in
    omega (arith, (from_low _ _ _ _ h.fact_1 h.fact_2 _ h.fact_3 _ _ c.cell.ensures c.cell-from.ensures).1)

pub bounds-words-order : goal.bounds-words-order
bounds-words-order c =
    let h = c.requires in
    omega (arith, (from_low _ _ _ _ h.fact_1 h.fact_2 _ h.fact_3 _ _ c.cell.ensures c.cell-from.ensures).1)

pub overflow_add-words-2 : goal.overflow_add-words-2
overflow_add-words-2 c =
    let h = c.requires in
    omega (arith, (to_low _ _ _ _ h.fact_1 h.fact_2 _ h.fact_3 _ _ c.cell-2.ensures c.cell-hit.ensures).1)

pub offset_bounds-words-order-2 : goal.offset_bounds-words-order-2
offset_bounds-words-order-2 c =
    let h = c.requires in
    omega (arith, (to_low _ _ _ _ h.fact_1 h.fact_2 _ h.fact_3 _ _ c.cell-2.ensures c.cell-hit.ensures).1)

pub bounds-words-order-2 : goal.bounds-words-order-2
bounds-words-order-2 c =
    let h = c.requires in
    simp length-set (to_low _ _ _ _ h.fact_1 h.fact_2 _ h.fact_3 _ _ c.cell-2.ensures c.cell-hit.ensures).1

pub returns : goal.returns
returns c =
    let h = c.requires in
    faces_marked _ _ _ _ h.fact_1 h.fact_2 _ h.fact_3 _ _ _ _ c.cell.ensures c.cell-from.ensures c.cell-2.ensures c.cell-hit.ensures
