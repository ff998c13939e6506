-- `print_walls::sample_in_order` meets its contract.
use Rattle.wall_pairs.proofs.StepLaws.{place_room, place_below}
use Rattle.print_walls.proofs.ThinnestLaws.{sample_in_place}
use native.Mathlib.Omega.{arith}
use Rattle.print_walls.proofs.sample_in_order.Goals as goal

pub overflow_add-order : goal.overflow_add-order
overflow_add-order c = omega (arith, place_room _ _ _ _ c.requires.fact_1 c.args.j c.requires.fact_2)

pub cell-requires : goal.cell-requires
cell-requires c = place_room _ _ _ _ c.requires.fact_1 _ c.requires.fact_2

pub sample_at-requires : goal.sample_at-requires
sample_at-requires c =
    record {
      standing = c.requires.fact_1.standing;
      readings_1 = c.requires.fact_1.readings;
      readings_2 = place_below _ _ _ _ c.requires.fact_1 _ _ c.requires.fact_2 c.cell.ensures;
    }

pub returns : goal.returns
returns c = sample_in_place _ _ _ _ c.requires.fact_1 _ _ _ c.requires.fact_2 c.cell.ensures c.sample_at.ensures
