-- `wall_pairs::thickness_at` meets its contract.
use native.Mathlib.Omega.{arith}
use Rattle.wall_pairs.proofs.StepLaws.{place_room, thickness_room, thickness_is}
use Rattle.wall_pairs.proofs.thickness_at.Goals as goal

pub overflow_add-at : goal.overflow_add-at
overflow_add-at c =
    let h = c.requires in
    omega (arith, place_room _ _ _ _ h.fact_1 c.args.j h.fact_2)

pub cell-requires : goal.cell-requires
cell-requires c =
    let h = c.requires in
    place_room _ _ _ _ h.fact_1 _ h.fact_2

pub overflow_add-result : goal.overflow_add-result
overflow_add-result c =
    let h = c.requires in
    omega (arith, thickness_room _ _ _ _ h.fact_1 c.args.j _ h.fact_2 c.cell.ensures)

pub offset_bounds-reals-at : goal.offset_bounds-reals-at
offset_bounds-reals-at c =
    let h = c.requires in
    omega (arith, thickness_room _ _ _ _ h.fact_1 c.args.j _ h.fact_2 c.cell.ensures)

pub bounds-reals-at : goal.bounds-reals-at
bounds-reals-at c =
    let h = c.requires in
    thickness_room _ _ _ _ h.fact_1 _ _ h.fact_2 c.cell.ensures

pub returns : goal.returns
returns c =
    let h = c.requires in
    thickness_is _ _ _ _ h.fact_1 _ _ h.fact_2 c.cell.ensures
