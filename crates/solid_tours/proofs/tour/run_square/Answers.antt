-- `solid_tours::tour::run_square` meets its contract: a box that is no nearer spares its edges.
use mathlib.Core.Path.{refl, sym, ◌∙◌}
use Rattle.solid_tours.proofs.PlaceLaws.{most}
use Rattle.solid_tours.proofs.BoxLaws.{box_there, run_spared}
use native.Mathlib.Omega.{arith}
use Rattle.solid_tours.proofs.tour.run_square.Goals as goal

pub overflow_mul-place : goal.overflow_mul-place
overflow_mul-place c = omega (arith, c.requires.edges_ordered_1.standing.placed.laid, c.requires.edges_ordered_1.standing.reals_room, most _ _ _ _ c.requires.edges_ordered_1, c.requires.edges_ordered_2.items)

pub overflow_add-place : goal.overflow_add-place
overflow_add-place c = omega (arith, c.requires.edges_ordered_1.standing.placed.laid, c.requires.edges_ordered_1.standing.reals_room, most _ _ _ _ c.requires.edges_ordered_1, c.requires.edges_ordered_2.items)

pub overflow_mul-place-2 : goal.overflow_mul-place-2
overflow_mul-place-2 c = omega (arith, c.requires.start_le_end_1, c.requires.start_le_end_2, c.requires.edges_ordered_1.standing.placed.laid, c.requires.edges_ordered_1.standing.reals_room, most _ _ _ _ c.requires.edges_ordered_1, c.requires.edges_ordered_2.items)

pub overflow_add-place-2 : goal.overflow_add-place-2
overflow_add-place-2 c = omega (arith, c.requires.start_le_end_1, c.requires.start_le_end_2, c.requires.edges_ordered_1.standing.placed.laid, c.requires.edges_ordered_1.standing.reals_room, most _ _ _ _ c.requires.edges_ordered_1, c.requires.edges_ordered_2.items)

pub is_spared-requires : goal.is_spared-requires
is_spared-requires c = λ l. box_there _ _ _ _ c.requires.edges_ordered_1 _ _ _ c.requires.edges_ordered_3 c.requires.edges_ordered_2.items l

pub returns-then-is_spared : goal.returns-then-is_spared
returns-then-is_spared c = run_spared c.args.file.now c.args.edges.at c.args.words.now c.args.reals.now c.requires.edges_ordered_1 _ _ _ _ _ _ _ _ c.requires.edges_ordered_3 c.requires.edges_ordered_2.items refl refl c.requires.start_le_end_1 c.requires.start_le_end_2 c.requires.start_le_end_3 (sym c.is_spared.ensures ∙ c.if-is_spared.true)

pub least_square-requires : goal.least_square-requires
least_square-requires c =
    record {
      fact_1 = c.requires.edges_ordered_1;
      fact_2 = c.requires.start_le_end_1;
      fact_3 = c.requires.start_le_end_2;
    }

pub returns : goal.returns
returns c = c.least_square.ensures
