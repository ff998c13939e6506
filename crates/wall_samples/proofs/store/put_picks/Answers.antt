-- `wall_samples::store::put_picks` meets its contract.
use mathlib.Core.Path.{ap, refl, ◌∙◌}
use Prim.Native.Nat.{ℕ, ◌+◌, ◌<◌}
use Rattle.wall_samples.proofs.PicksLaws.{step_up, step_next}
use Rattle.wall_samples.proofs.StoredLaws.{standing_still}
use Rattle.wall_samples.proofs.TurnLaws.{goes_on, picked, pick_room, picks_start, picks_turn, picks_done}
use native.Mathlib.Omega.{arith}
use Rattle.wall_samples.proofs.store.put_picks.Goals as goal

pub loop-i-init : goal.loop-i-init
loop-i-init c =
    (omega arith, omega arith, picks_start _ _ _ _ _ _ _ c.requires.fact_1 c.requires.fact_3)

pub overflow_add-q : goal.overflow_add-q
overflow_add-q c =
    let test : (c.loop-i.i < c.args.turn.want) × (c.loop-i.place < c.args.n) = goes_on _ _ _ _ c.loop-i-test.true in omega (arith, test, c.requires.fact_1, c.requires.fact_3, c.requires.fact_4)

pub offset_bounds-words-order : goal.offset_bounds-words-order
offset_bounds-words-order c =
    let test : (c.loop-i.i < c.args.turn.want) × (c.loop-i.place < c.args.n) = goes_on _ _ _ _ c.loop-i-test.true in omega (arith, test, c.requires.fact_1, c.requires.fact_3, c.requires.fact_4)

pub bounds-words-order : goal.bounds-words-order
bounds-words-order c =
    let test : (c.loop-i.i < c.args.turn.want) × (c.loop-i.place < c.args.n) = goes_on _ _ _ _ c.loop-i-test.true in omega (arith, test, c.requires.fact_1, c.requires.fact_3, c.requires.fact_4, c.loop-i.invariant.2.words_kept.long)

pub put_pick-count-requires : goal.put_pick-count-requires
put_pick-count-requires c =
    let test : (c.loop-i.i < c.args.turn.want) × (c.loop-i.place < c.args.n) = goes_on _ _ _ _ c.loop-i-test.true in
    record {
      fact_1 = standing_still _ _ _ _ _ _ _ c.loop-i.invariant.2.words_kept c.loop-i.invariant.2.reals_kept c.requires.fact_1;
      fact_2 = pick_room _ _ _ _ _ _ _ c.requires.fact_1 c.requires.fact_3 _ _ _ _ _ c.loop-i.invariant.1 c.loop-i.invariant.2 c.step_of-step.ensures.fact_2 test.1;
      fact_3 = picked _ _ _ _ _ _ _ c.requires.fact_1 c.requires.fact_3 _ _ _ _ _ c.loop-i.invariant.1 c.loop-i.invariant.2 _ c.requires.fact_2 test.1 refl;
    }

pub overflow_add-i : goal.overflow_add-i
overflow_add-i c =
    let test : (c.loop-i.i < c.args.turn.want) × (c.loop-i.place < c.args.n) = goes_on _ _ _ _ c.loop-i-test.true in
    omega (arith, test, c.loop-i.invariant.1, step_up c.loop-i.i c.step_of-step.result c.step_of-step.ensures.fact_2, c.requires.fact_1, c.requires.fact_3, c.requires.fact_4)

pub overflow_add-place : goal.overflow_add-place
overflow_add-place c =
    let test : (c.loop-i.i < c.args.turn.want) × (c.loop-i.place < c.args.n) = goes_on _ _ _ _ c.loop-i-test.true in omega (arith, test, c.requires.fact_1, c.requires.fact_3, c.requires.fact_4, c.step_of-step.ensures.fact_3)

pub loop-i-smaller : goal.loop-i-smaller
loop-i-smaller c =
    let test : (c.loop-i.i < c.args.turn.want) × (c.loop-i.place < c.args.n) = goes_on _ _ _ _ c.loop-i-test.true in omega (arith, test)

pub loop-i-preserved : goal.loop-i-preserved
loop-i-preserved c =
    let test : (c.loop-i.i < c.args.turn.want) × (c.loop-i.place < c.args.n) = goes_on _ _ _ _ c.loop-i-test.true in
    (omega (arith, test), ap (λ (z : ℕ). z + c.step_of-step.result) c.loop-i.invariant.1 ∙ step_next c.loop-i.i c.step_of-step.result, picks_turn _ _ _ _ _ _ _ c.requires.fact_1 c.requires.fact_3 _ _ _ _ _ c.loop-i.invariant.1 c.loop-i.invariant.2 _ _ _ _ test.1 refl c.put_pick-count.ensures)

pub returns : goal.returns
returns c =
    picks_done _ _ _ _ _ _ _ c.requires.fact_1 c.requires.fact_3 _ _ _ _ _ c.loop-i.invariant.1 c.loop-i.invariant.2 _ c.loop-i.invariant.0 c.loop-i-test.false c.step_of-step.ensures.fact_1
