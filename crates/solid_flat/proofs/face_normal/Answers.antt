-- `solid_flat::face_normal` meets its contract: the normal of its first polygon.
use Rattle.solid_flat.proofs.FlatLaws.{first_fits, first_place, plane_room, normal_is}
use native.Mathlib.Omega.{arith}
use Rattle.solid_flat.proofs.face_normal.Goals as goal

pub overflow_add-firsts : goal.overflow_add-firsts
overflow_add-firsts c = omega (arith, first_fits _ _ _ _ c.requires.fact_1 _ c.requires.fact_2)

pub cell-q-requires : goal.cell-q-requires
cell-q-requires c = first_place _ _ _ _ c.requires.fact_1 _ c.requires.fact_2

pub slice_bounds-plane_at-end : goal.slice_bounds-plane_at-end
slice_bounds-plane_at-end c = omega (arith, c.requires.fact_1.placed.laid, c.requires.fact_1.reals_room)

pub plane_at-plane-requires : goal.plane_at-plane-requires
plane_at-plane-requires c = plane_room _ _ _ _ c.requires.fact_1 _ c.requires.fact_2 _ c.cell-q.ensures

pub returns : goal.returns
returns c = normal_is _ _ _ _ c.requires.fact_1 _ c.requires.fact_2 _ c.cell-q.ensures _ c.plane_at-plane.ensures
