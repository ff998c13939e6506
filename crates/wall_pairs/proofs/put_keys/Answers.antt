-- `wall_pairs::put_keys` meets its contract.
use native.Mathlib.Omega.{arith}
use Rattle.list_groups.proofs.KeyLaws.{keys_none, keys_more, keys_all}
use Rattle.solid_pairs.proofs.PairLaws.{pair_key_lem}
use Rattle.wall_pairs.proofs.StepLaws.{keys_room}
use Rattle.wall_pairs.proofs.put_keys.Goals as goal

pub loop-s-init : goal.loop-s-init
loop-s-init c = keys_none _ _ _

pub overflow_add-reals : goal.overflow_add-reals
overflow_add-reals c =
    let h = c.requires in
    omega (arith, keys_room _ _ _ h.fact_1 _ h.fact_3 c.args.reals.now h.fact_2, c.loop-s-test.true)

pub offset_bounds-reals-at : goal.offset_bounds-reals-at
offset_bounds-reals-at c =
    let h = c.requires in
    omega (arith, keys_room _ _ _ h.fact_1 _ h.fact_3 c.args.reals.now h.fact_2, c.loop-s-test.true)

pub bounds-reals-at : goal.bounds-reals-at
bounds-reals-at c =
    let h = c.requires in
    omega (arith, keys_room _ _ _ h.fact_1 _ h.fact_3 c.args.reals.now h.fact_2, c.loop-s-test.true, c.loop-s.invariant.kept.long)

pub loop-s-preserved : goal.loop-s-preserved
loop-s-preserved c =
    let h = c.requires in
    let more = c.loop-s-test.true in
    keys_more _ _ _ _ _ _ _ (keys_room _ _ _ h.fact_1 _ h.fact_3 c.args.reals.now h.fact_2) more (pair_key_lem _ _ _ _ _ c.reading_pair-pair.ensures) c.loop-s.invariant

pub returns : goal.returns
returns c = keys_all _ _ _ _ _ _ c.loop-s.auto.s-end c.loop-s-test.false c.loop-s.invariant
