-- `solid_tours::tour::key_at` meets its contract.
use Rattle.solid_tours.proofs.PlaceLaws.{most, place_room, key_room, key_is}
use native.Mathlib.Omega.{arith}
use Rattle.solid_tours.proofs.tour.key_at.Goals as goal

pub overflow_add-sorted : goal.overflow_add-sorted
overflow_add-sorted c = omega (arith, c.requires.fact_1.standing.placed.laid, c.requires.fact_1.standing.words_room, c.requires.fact_1.standing.reals_room, most _ _ _ _ c.requires.fact_1, c.requires.fact_2)

pub cell-requires : goal.cell-requires
cell-requires c = place_room _ _ _ _ c.requires.fact_1 _ c.requires.fact_2

pub overflow_add-result : goal.overflow_add-result
overflow_add-result c = omega (arith, key_room _ _ _ _ c.requires.fact_1 _ _ c.requires.fact_2 c.cell.ensures, c.requires.fact_1.standing.placed.laid, c.requires.fact_1.standing.words_room, c.requires.fact_1.standing.reals_room, most _ _ _ _ c.requires.fact_1)

pub offset_bounds-reals-keys : goal.offset_bounds-reals-keys
offset_bounds-reals-keys c = omega (arith, key_room _ _ _ _ c.requires.fact_1 _ _ c.requires.fact_2 c.cell.ensures, c.requires.fact_1.standing.placed.laid, c.requires.fact_1.standing.words_room, c.requires.fact_1.standing.reals_room, most _ _ _ _ c.requires.fact_1)

pub bounds-reals-keys : goal.bounds-reals-keys
bounds-reals-keys c = omega (arith, key_room _ _ _ _ c.requires.fact_1 _ _ c.requires.fact_2 c.cell.ensures, c.requires.fact_1.standing.placed.laid, c.requires.fact_1.standing.words_room, c.requires.fact_1.standing.reals_room, most _ _ _ _ c.requires.fact_1)

pub returns : goal.returns
returns c = key_is _ _ _ _ c.requires.fact_1 _ _ c.requires.fact_2 c.cell.ensures
