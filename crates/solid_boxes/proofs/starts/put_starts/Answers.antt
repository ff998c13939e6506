-- `solid_boxes::starts::put_starts` meets its contract.
use borrow.Author.Rules.{rules}
use mathlib.Core.Path.{◌∙◌}
use native.Mathlib.Omega.{arith}
use Rattle.solid_boxes.proofs.StartLaws.{room, top_is, begun, leaf_step, split_step, finished}
use Rattle.solid_boxes.proofs.starts.put_starts.Goals as goal

pub overflow_mul-ends : goal.overflow_mul-ends
overflow_mul-ends c = search (rules, c.requires.fact_1.few)

pub overflow_add-ends : goal.overflow_add-ends
overflow_add-ends c = search (rules, c.requires.fact_1.few)

pub put_cell-requires : goal.put_cell-requires
put_cell-requires c =
    record {
      fact_1 = omega (arith, c.requires.fact_3, c.requires.fact_2);
      fact_2 = omega arith;
    }

pub put_cell-requires-2 : goal.put_cell-requires-2
put_cell-requires-2 c =
    record {
      fact_1 = omega (arith, c.put_cell.ensures.fact_2, c.requires.fact_3, c.requires.fact_2);
      fact_2 = omega (arith, c.requires.fact_1.few);
    }

pub loop-d-init : goal.loop-d-init
loop-d-init c = begun _ _ _ _ c.requires.fact_1.order c.requires.fact_2 c.requires.fact_3 c.put_cell.ensures.fact_1 c.put_cell-2.ensures.fact_1

pub overflow_sub-d : goal.overflow_sub-d
overflow_sub-d c = omega (arith, c.loop-d-test.true)

pub overflow_add-ends-in-loop-d : goal.overflow_add-ends-in-loop-d
overflow_add-ends-in-loop-d c = search (rules, c.put_cell.ensures.fact_2, c.put_cell-2.ensures.fact_2, c.loop-d.invariant.0, room _ _ _ _ _ _ c.loop-d-test.true c.loop-d.invariant.1.1, c.loop-d.invariant.1.1.count, c.requires.fact_3, c.requires.fact_1.few, c.requires.fact_2, c.loop-d-test.true)

pub cell-b-requires : goal.cell-b-requires
cell-b-requires c = omega (arith, c.put_cell.ensures.fact_2, c.put_cell-2.ensures.fact_2, c.loop-d.invariant.0, room _ _ _ _ _ _ c.loop-d-test.true c.loop-d.invariant.1.1, c.loop-d.invariant.1.1.count, c.requires.fact_3, c.requires.fact_1.few, c.requires.fact_2, c.loop-d-test.true)

pub overflow_add-m : goal.overflow_add-m
overflow_add-m c = search (rules, c.put_cell.ensures.fact_2, c.put_cell-2.ensures.fact_2, c.loop-d.invariant.0, room _ _ _ _ _ _ c.loop-d-test.true c.loop-d.invariant.1.1, c.loop-d.invariant.1.1.count, c.requires.fact_3, c.requires.fact_1.few, c.requires.fact_2, c.loop-d-test.true)

pub overflow_add-x : goal.overflow_add-x
overflow_add-x c = search (rules, c.put_cell.ensures.fact_2, c.put_cell-2.ensures.fact_2, c.loop-d.invariant.0, room _ _ _ _ _ _ c.loop-d-test.true c.loop-d.invariant.1.1, c.loop-d.invariant.1.1.count, c.requires.fact_3, c.requires.fact_1.few, c.requires.fact_2, c.loop-d-test.true)

pub overflow_add-n : goal.overflow_add-n
overflow_add-n c = search (rules, c.put_cell.ensures.fact_2, c.put_cell-2.ensures.fact_2, c.loop-d.invariant.0, room _ _ _ _ _ _ c.loop-d-test.true c.loop-d.invariant.1.1, c.loop-d.invariant.1.1.count, c.requires.fact_3, c.requires.fact_1.few, c.requires.fact_2, c.loop-d-test.true)

pub put_cell-requires-then-b-x : goal.put_cell-requires-then-b-x
put_cell-requires-then-b-x c =
    record {
      fact_1 = omega (arith, c.put_cell.ensures.fact_2, c.put_cell-2.ensures.fact_2, c.loop-d.invariant.0, room _ _ _ _ _ _ c.loop-d-test.true c.loop-d.invariant.1.1, c.loop-d.invariant.1.1.count, c.requires.fact_3, c.requires.fact_1.few, c.requires.fact_2, c.loop-d-test.true);
      fact_2 = omega (arith, (top_is _ _ _ _ _ c.loop-d-test.true c.loop-d.invariant.1.1 _ c.cell-b.ensures).1, c.requires.fact_1.few);
    }

pub overflow_sub-d-then-b-x : goal.overflow_sub-d-then-b-x
overflow_sub-d-then-b-x c = omega (arith, c.loop-d-test.true)

pub loop-d-smaller-then-b-x : goal.loop-d-smaller-then-b-x
loop-d-smaller-then-b-x c = omega (arith, c.put_cell.ensures.fact_2, c.put_cell-2.ensures.fact_2, c.loop-d.invariant.0, room _ _ _ _ _ _ c.loop-d-test.true c.loop-d.invariant.1.1, c.loop-d.invariant.1.1.count, c.requires.fact_3, c.requires.fact_1.few, c.requires.fact_2, c.loop-d-test.true, (top_is _ _ _ _ _ c.loop-d-test.true c.loop-d.invariant.1.1 _ c.cell-b.ensures).0)

pub loop-d-preserved-then-b-x : goal.loop-d-preserved-then-b-x
loop-d-preserved-then-b-x c = leaf_step _ _ _ _ _ _ _ c.loop-d.invariant.0 c.loop-d.invariant.1.0 c.loop-d.invariant.1.1 c.loop-d-test.true _ (c.loop-d.invariant.0 ∙ c.put_cell-2.ensures.fact_2 ∙ c.put_cell.ensures.fact_2) c.requires.fact_3 c.cell-b.ensures _ c.if-b-x.true c.put_cell-then-b-x.ensures.fact_1

pub split-k-requires : goal.split-k-requires
split-k-requires c =
    record {
      fact_1 = record { order = c.loop-d.invariant.1.0; room = c.requires.fact_1.room; few = c.requires.fact_1.few };
      fact_2 = omega (arith, c.if-b-x.false);
      fact_3 = omega (arith, (top_is _ _ _ _ _ c.loop-d-test.true c.loop-d.invariant.1.1 _ c.cell-b.ensures).1);
    }

pub overflow_add-ends-in-loop-d-2 : goal.overflow_add-ends-in-loop-d-2
overflow_add-ends-in-loop-d-2 c = search (rules, c.put_cell.ensures.fact_2, c.put_cell-2.ensures.fact_2, c.loop-d.invariant.0, room _ _ _ _ _ _ c.loop-d-test.true c.loop-d.invariant.1.1, c.loop-d.invariant.1.1.count, c.requires.fact_3, c.requires.fact_1.few, c.requires.fact_2, c.loop-d-test.true)

pub put_cell-requires-in-loop-d : goal.put_cell-requires-in-loop-d
put_cell-requires-in-loop-d c =
    record {
      fact_1 = omega (arith, c.put_cell.ensures.fact_2, c.put_cell-2.ensures.fact_2, c.loop-d.invariant.0, room _ _ _ _ _ _ c.loop-d-test.true c.loop-d.invariant.1.1, c.loop-d.invariant.1.1.count, c.requires.fact_3, c.requires.fact_1.few, c.requires.fact_2, c.loop-d-test.true, c.split-k.ensures.size);
      fact_2 = omega (arith, c.split-k.ensures.high, (top_is _ _ _ _ _ c.loop-d-test.true c.loop-d.invariant.1.1 _ c.cell-b.ensures).1, c.requires.fact_1.few);
    }

pub overflow_add-n-in-loop-d : goal.overflow_add-n-in-loop-d
overflow_add-n-in-loop-d c = search (rules, c.put_cell.ensures.fact_2, c.put_cell-2.ensures.fact_2, c.loop-d.invariant.0, room _ _ _ _ _ _ c.loop-d-test.true c.loop-d.invariant.1.1, c.loop-d.invariant.1.1.count, c.requires.fact_3, c.requires.fact_1.few, c.requires.fact_2, c.loop-d-test.true)

pub put_cell-requires-in-loop-d-2 : goal.put_cell-requires-in-loop-d-2
put_cell-requires-in-loop-d-2 c =
    record {
      fact_1 = omega (arith, c.put_cell-in-loop-d.ensures.fact_2, c.put_cell.ensures.fact_2, c.put_cell-2.ensures.fact_2, c.loop-d.invariant.0, room _ _ _ _ _ _ c.loop-d-test.true c.loop-d.invariant.1.1, c.loop-d.invariant.1.1.count, c.requires.fact_3, c.requires.fact_1.few, c.requires.fact_2, c.loop-d-test.true, c.split-k.ensures.size);
      fact_2 = omega (arith, (top_is _ _ _ _ _ c.loop-d-test.true c.loop-d.invariant.1.1 _ c.cell-b.ensures).0, (top_is _ _ _ _ _ c.loop-d-test.true c.loop-d.invariant.1.1 _ c.cell-b.ensures).1, c.requires.fact_1.few);
    }

pub overflow_add-d : goal.overflow_add-d
overflow_add-d c = search (rules, c.put_cell.ensures.fact_2, c.put_cell-2.ensures.fact_2, c.loop-d.invariant.0, room _ _ _ _ _ _ c.loop-d-test.true c.loop-d.invariant.1.1, c.loop-d.invariant.1.1.count, c.requires.fact_3, c.requires.fact_1.few, c.requires.fact_2, c.loop-d-test.true)

pub loop-d-smaller : goal.loop-d-smaller
loop-d-smaller c = omega (arith, c.put_cell.ensures.fact_2, c.put_cell-2.ensures.fact_2, c.loop-d.invariant.0, room _ _ _ _ _ _ c.loop-d-test.true c.loop-d.invariant.1.1, c.loop-d.invariant.1.1.count, c.requires.fact_3, c.requires.fact_1.few, c.requires.fact_2, c.loop-d-test.true)

pub loop-d-preserved : goal.loop-d-preserved
loop-d-preserved c = split_step _ _ _ _ _ _ _ _ _ c.loop-d.invariant.0 c.loop-d.invariant.1.0 c.loop-d.invariant.1.1 c.loop-d-test.true _ (c.loop-d.invariant.0 ∙ c.put_cell-2.ensures.fact_2 ∙ c.put_cell.ensures.fact_2) c.requires.fact_3 c.cell-b.ensures c.split-k.ensures _ _ c.put_cell-in-loop-d.ensures.fact_1 c.put_cell-in-loop-d-2.ensures.fact_1

pub shape_of-words : goal.shape_of-words
shape_of-words c = c.loop-d.invariant.0 ∙ c.put_cell-2.ensures.fact_2 ∙ c.put_cell.ensures.fact_2

pub returns : goal.returns
returns c =
    record {
      fact_1 = finished _ _ _ _ _ c.loop-d.invariant.1.0 c.loop-d.invariant.1.1 c.loop-d-test.false c.requires.fact_2;
      fact_2 = c.loop-d.invariant.0 ∙ c.put_cell-2.ensures.fact_2 ∙ c.put_cell.ensures.fact_2;
    }
