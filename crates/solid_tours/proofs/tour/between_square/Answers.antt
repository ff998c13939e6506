-- `solid_tours::tour::between_square` meets its contract: over its places.
use mathlib.Core.Path.{ap, ◌∙◌}
use Rattle.solid_tours.specs.Work.{least_square}
use native.Mathlib.Omega.{arith}
use Rattle.solid_tours.proofs.tour.between_square.Goals as goal

pub boxed_square-requires : goal.boxed_square-requires
boxed_square-requires c =
    record {
      edges_ordered_1 = c.requires.fact_1;
      edges_ordered_2 = c.requires.fact_2;
      start_le_end_1 = omega (arith, c.requires.fact_3.some);
      start_le_end_2 = c.requires.fact_3.inside;
    }

pub returns : goal.returns
returns c = c.boxed_square.ensures ∙ ap (least_square _ _ _) c.requires.fact_3.edges
