-- `rule_printing::closed::open_keys` meets its contract: the open keys of the sides that are passed are counted.
use Rattle.rule_printing.proofs.ClosedLaws.{keys_few, pair_small, pair_room, keys_fit, keys_none, keys_next, keys_end}
use native.Mathlib.Omega.{arith}
use Rattle.rule_printing.proofs.closed.open_keys.Goals as goal

pub loop-s-init : goal.loop-s-init
loop-s-init c = keys_none _

pub overflow_mul-s : goal.overflow_mul-s
overflow_mul-s c = omega (arith, pair_small _ _ c.requires.fact_1 c.loop-s.s c.loop-s-test.true)

pub overflow_add-s : goal.overflow_add-s
overflow_add-s c = omega (arith, pair_small _ _ c.requires.fact_1 c.loop-s.s c.loop-s-test.true)

pub overflow_add-sides : goal.overflow_add-sides
overflow_add-sides c = omega (arith, pair_small _ _ c.requires.fact_1 c.loop-s.s c.loop-s-test.true)

pub cell-requires : goal.cell-requires
cell-requires c = pair_room _ _ c.requires.fact_1 c.loop-s.s c.loop-s-test.true

pub counted-k-requires : goal.counted-k-requires
counted-k-requires c = let all = keys_fit _ _ c.requires.fact_1 c.loop-s.s c.loop-s-test.true c.loop-s.invariant in record { fact_1 = all.0; fact_2 = all.1 }

pub loop-s-preserved : goal.loop-s-preserved
loop-s-preserved c = keys_next _ _ c.requires.fact_1 c.loop-s.s c.loop-s-test.true c.requires.fact_2 c.cell.ensures c.loop-s.invariant c.counted-k.ensures

pub returns : goal.returns
returns c =
    record {
      fact_1 = keys_end _ _ c.requires.fact_1 (omega (arith, c.loop-s-test.false)) c.loop-s.invariant;
      fact_2 = omega (arith, keys_end _ _ c.requires.fact_1 (omega (arith, c.loop-s-test.false)) c.loop-s.invariant, keys_few _ _ c.requires.fact_1);
    }
