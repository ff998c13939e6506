-- `solid_ids::id_of` meets its contract.
use native.Mathlib.Omega.{arith}
use Rattle.solid_ids.proofs.KnownLaws.{trailer, first_fits, first_room, first_entry, id_is}
use Rattle.solid_ids.proofs.id_of.Goals as goal

pub vertex_count-vertices-requires : goal.vertex_count-vertices-requires
vertex_count-vertices-requires c = trailer c.requires.fact_1

pub polygon_count-requires : goal.polygon_count-requires
polygon_count-requires c = trailer c.requires.fact_1

pub overflow_add-polygon_count : goal.overflow_add-polygon_count
overflow_add-polygon_count c =
    omega (arith, first_fits c.requires.fact_1 _ _ c.polygon_count.ensures c.requires.fact_2)

pub cell-first-requires : goal.cell-first-requires
cell-first-requires c =
    first_room c.requires.fact_1 _ _ c.polygon_count.ensures c.requires.fact_2

pub entry_at-requires : goal.entry_at-requires
entry_at-requires c =
    let entry = first_entry c.requires.fact_1 _ _ c.polygon_count.ensures c.requires.fact_2 _ _ c.vertex_count-vertices.ensures c.cell-first.ensures in
    (entry.0, entry.1)

pub face_id-requires : goal.face_id-requires
face_id-requires c =
    rw c.entry_at.ensures
    (first_entry c.requires.fact_1 _ _ c.polygon_count.ensures c.requires.fact_2 _ _ c.vertex_count-vertices.ensures c.cell-first.ensures).2

pub returns : goal.returns
returns c =
    id_is c.requires.fact_1 _ _ c.polygon_count.ensures c.requires.fact_2 _ _ _ _ c.vertex_count-vertices.ensures c.cell-first.ensures
    c.entry_at.ensures c.face_id.ensures
