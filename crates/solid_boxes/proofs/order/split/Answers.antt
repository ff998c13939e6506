-- `solid_boxes::order::split` meets its contract.
use borrow.Author.Rules.{rules}
use native.Mathlib.Omega.{arith}
use Rattle.solid_boxes.proofs.OrderLaws.{splitting_none, splitting_more, splitting_done}
use Rattle.solid_boxes.proofs.order.split.Goals as goal

pub cut_of-cut-requires : goal.cut_of-cut-requires
cut_of-cut-requires c =
    record {
      fact_1 = c.requires.fact_1;
      fact_2 = omega (arith, c.requires.fact_2);
      fact_3 = c.requires.fact_3;
    }

pub loop-l-init : goal.loop-l-init
loop-l-init c = (omega arith, (omega (arith, c.requires.fact_2), (omega arith, splitting_none _ _ c.requires.fact_1.order)))

pub cell-p-requires : goal.cell-p-requires
cell-p-requires c = omega (arith, c.loop-l-test.true, c.loop-l.invariant.1.1.0, c.requires.fact_3, c.loop-l.invariant.1.1.1.order.room)

pub overflow_mul-p : goal.overflow_mul-p
overflow_mul-p c = search (rules, c.requires.fact_1.few, (c.loop-l.invariant.1.1.1.order.numbers c.loop-l.l (omega (arith, c.loop-l-test.true, c.loop-l.invariant.1.1.0, c.requires.fact_3))), c.cell-p.ensures)

pub overflow_add-p : goal.overflow_add-p
overflow_add-p c = search (rules, c.requires.fact_1.few, (c.loop-l.invariant.1.1.1.order.numbers c.loop-l.l (omega (arith, c.loop-l-test.true, c.loop-l.invariant.1.1.0, c.requires.fact_3))), c.cell-p.ensures, c.cut_of-cut.ensures)

pub key_at-requires : goal.key_at-requires
key_at-requires c = omega (arith, c.requires.fact_1.room, (c.loop-l.invariant.1.1.1.order.numbers c.loop-l.l (omega (arith, c.loop-l-test.true, c.loop-l.invariant.1.1.0, c.requires.fact_3))), c.cell-p.ensures, c.cut_of-cut.ensures)

pub overflow_add-l : goal.overflow_add-l
overflow_add-l c = search (rules, c.loop-l-test.true, c.loop-l.invariant.1.1.0, c.requires.fact_3, c.requires.fact_1.few)

pub loop-l-smaller-then-key_at-cut : goal.loop-l-smaller-then-key_at-cut
loop-l-smaller-then-key_at-cut c = omega (arith, c.loop-l-test.true)

pub loop-l-preserved-then-key_at-cut : goal.loop-l-preserved-then-key_at-cut
loop-l-preserved-then-key_at-cut c = (omega (arith, c.loop-l.invariant.0), (omega (arith, c.loop-l-test.true), (c.loop-l.invariant.1.1.0, c.loop-l.invariant.1.1.1)))

pub overflow_sub-r : goal.overflow_sub-r
overflow_sub-r c = omega (arith, c.loop-l-test.true)

pub swap-requires : goal.swap-requires
swap-requires c =
    record {
      fact_1 = omega (arith, c.loop-l-test.true, c.loop-l.invariant.1.1.0, c.requires.fact_3, c.loop-l.invariant.1.1.1.order.room);
      fact_2 = omega (arith, c.loop-l-test.true, c.loop-l.invariant.1.1.0, c.requires.fact_3, c.loop-l.invariant.1.1.1.order.room);
    }

pub loop-l-smaller : goal.loop-l-smaller
loop-l-smaller c = omega (arith, c.loop-l-test.true)

pub loop-l-preserved : goal.loop-l-preserved
loop-l-preserved c = (c.loop-l.invariant.0, (omega (arith, c.loop-l-test.true), (omega (arith, c.loop-l.invariant.1.1.0), splitting_more _ _ _ _ _ _ c.loop-l.invariant.1.1.1 (omega (arith, c.loop-l-test.true, c.loop-l.invariant.1.1.0, c.requires.fact_3)) (omega (arith, c.loop-l-test.true, c.loop-l.invariant.1.1.0, c.requires.fact_3)) c.swap.ensures)))

pub settle-requires : goal.settle-requires
settle-requires c =
    record {
      fact_1 = c.requires.fact_2;
      fact_2 = c.loop-l.invariant.0;
      fact_3 = omega (arith, c.loop-l.invariant.1.0, c.loop-l.invariant.1.1.0);
      fact_4 = omega (arith, c.requires.fact_3, c.requires.fact_1.few);
    }

pub shape_of-words : goal.shape_of-words
shape_of-words c = c.loop-l.invariant.1.1.1.size

pub returns : goal.returns
returns c = splitting_done _ _ _ _ _ _ c.loop-l.invariant.1.1.1 c.settle.ensures.fact_1 c.settle.ensures.fact_2
