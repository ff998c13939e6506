-- `solid_tours::tour::rank_start` meets its contract: the place is between the two ends.
use native.Mathlib.Nat.{le_antisymm}
use Rattle.solid_tours.proofs.PlaceLaws.{few, most, start_inside, start_above, start_below, goal_inside, goal_is}
use native.Mathlib.Omega.{arith}
use Rattle.solid_tours.proofs.tour.rank_start.Goals as goal

pub edge_key-key-requires : goal.edge_key-key-requires
edge_key-key-requires c =
    record {
      fact_1 = c.requires.fact_3;
      fact_2 = omega arith;
      fact_3 = omega (arith, few _ _ _ _ c.requires.fact_1, c.requires.fact_2.faces);
    }

pub loop-low-init : goal.loop-low-init
loop-low-init c = (omega arith, omega (arith, c.requires.fact_2.items, start_inside _ _ _ _ c.requires.fact_1 _ (goal_inside _ _ _ c.requires.fact_2.faces c.requires.fact_3)), omega (arith, c.requires.fact_2.items))

pub overflow_sub-middle : goal.overflow_sub-middle
overflow_sub-middle c = omega arith

pub overflow_add-middle : goal.overflow_add-middle
overflow_add-middle c = omega (arith, c.loop-low.invariant, c.loop-low-test.true, c.requires.fact_1.standing.placed.laid, c.requires.fact_1.standing.words_room, c.requires.fact_1.standing.reals_room, most _ _ _ _ c.requires.fact_1)

pub key_at-requires : goal.key_at-requires
key_at-requires c =
    record {
      fact_1 = c.requires.fact_1;
      fact_2 = omega (arith, c.loop-low.invariant.2, c.loop-low-test.true);
    }

pub overflow_add-low : goal.overflow_add-low
overflow_add-low c = omega (arith, c.loop-low.invariant.2, c.loop-low-test.true, c.requires.fact_1.standing.placed.laid, c.requires.fact_1.standing.words_room, c.requires.fact_1.standing.reals_room, most _ _ _ _ c.requires.fact_1)

pub loop-low-smaller-then-key_at-key : goal.loop-low-smaller-then-key_at-key
loop-low-smaller-then-key_at-key c = omega (arith, c.loop-low-test.true)

pub loop-low-preserved-then-key_at-key : goal.loop-low-preserved-then-key_at-key
loop-low-preserved-then-key_at-key c = (start_above _ _ _ _ c.requires.fact_1 _ _ _ _ (omega (arith, c.loop-low.invariant.2, c.loop-low-test.true)) c.key_at.ensures (goal_is _ _ _ _ c.requires.fact_2.faces c.edge_key-key.ensures) c.if-key_at-key.true, c.loop-low.invariant.1, c.loop-low.invariant.2)

pub loop-low-smaller : goal.loop-low-smaller
loop-low-smaller c = omega (arith, c.loop-low-test.true)

pub loop-low-preserved : goal.loop-low-preserved
loop-low-preserved c = (c.loop-low.invariant.0, start_below _ _ _ _ c.requires.fact_1 _ _ _ _ (omega (arith, c.loop-low.invariant.2, c.loop-low-test.true)) c.key_at.ensures (goal_is _ _ _ _ c.requires.fact_2.faces c.edge_key-key.ensures) c.if-key_at-key.false, omega (arith, c.loop-low.invariant.2, c.loop-low-test.true))

pub returns : goal.returns
returns c = le_antisymm c.loop-low.invariant.0 (omega (arith, c.loop-low.invariant.1, c.loop-low-test.false))
