-- `solid_boxes::boxes::node_of` meets its contract.
use borrow.Author.Rules.{rules}
use mathlib.Core.Path.{subst}
use native.Mathlib.Omega.{arith}
use Rattle.math.specs.Vector.{zero_vec}
use Rattle.solid_boxes.specs.Tree.{Order}
use Rattle.solid_boxes.proofs.OwnLaws.{small_count}
use Rattle.solid_boxes.proofs.BoxLaws.{node_leaf, node_none, node_one, node_last, zero_self, end_inside, filled_at}
use Rattle.solid_boxes.proofs.boxes.node_of.Goals as goal

pub overflow_add-s : goal.overflow_add-s
overflow_add-s c = search (rules, small_count _ c.requires.checked_1 _ c.requires.checked_3, c.requires.started_4, c.requires.started_1.few)

pub overflow_add-n : goal.overflow_add-n
overflow_add-n c = search (rules, small_count _ c.requires.checked_1 _ c.requires.checked_3, c.requires.started_4, c.requires.started_1.few)

pub cell-a-requires : goal.cell-a-requires
cell-a-requires c = omega (arith, c.requires.started_3, c.requires.started_4, c.requires.started_1.few)

pub overflow_add-n-2 : goal.overflow_add-n-2
overflow_add-n-2 c = search (rules, small_count _ c.requires.checked_1 _ c.requires.checked_3, c.requires.started_4, c.requires.started_1.few)

pub cell-e-requires : goal.cell-e-requires
cell-e-requires c = omega (arith, c.requires.started_3, c.requires.started_4, c.requires.started_1.few)

pub leaf_box-b-requires : goal.leaf_box-b-requires
leaf_box-b-requires c =
    record {
      checked_1 = c.requires.checked_1;
      checked_2 = c.requires.checked_2;
      checked_3 = subst (Order c.args.words.now) c.requires.checked_3 c.requires.started_1.order;
      a_lt_e_1 = c.if-a-e.true;
      a_lt_e_2 = omega (arith, c.requires.checked_3, end_inside _ _ _ _ _ c.requires.started_1 c.requires.started_4 c.cell-e.ensures);
    }

pub returns-then-a-e : goal.returns-then-a-e
returns-then-a-e c = node_leaf _ _ _ _ _ _ c.requires.started_4 _ _ _ c.cell-a.ensures c.cell-e.ensures c.leaf_box-b.ensures

pub returns-then-s-m : goal.returns-then-s-m
unfolding zero_vec
returns-then-s-m c = node_none _ _ _ _ _ _ c.requires.started_4 _ _ _ c.cell-a.ensures c.cell-e.ensures c.if-a-e.false zero_self

pub overflow_mul-skips : goal.overflow_mul-skips
overflow_mul-skips c = search (rules, small_count _ c.requires.checked_1 _ c.requires.checked_3, c.requires.started_4, c.requires.started_1.few)

pub overflow_add-skips : goal.overflow_add-skips
overflow_add-skips c = search (rules, small_count _ c.requires.checked_1 _ c.requires.checked_3, c.requires.started_4, c.requires.started_1.few)

pub box_at-c-requires : goal.box_at-c-requires
box_at-c-requires c = omega (arith, c.requires.started_2, c.if-s-m.false)

pub overflow_add-skips-2 : goal.overflow_add-skips-2
overflow_add-skips-2 c = search (rules, small_count _ c.requires.checked_1 _ c.requires.checked_3, c.requires.started_4, c.requires.started_1.few, c.if-s-m.false)

pub cell-t-requires : goal.cell-t-requires
cell-t-requires c = omega (arith, c.requires.started_3, c.if-s-m.false, c.requires.started_1.few)

pub returns-then-t-m : goal.returns-then-t-m
returns-then-t-m c = node_one _ _ _ _ _ _ c.requires.started_4 _ _ _ _ _ c.cell-a.ensures c.cell-e.ensures c.if-a-e.false c.box_at-c.ensures c.cell-t.ensures (filled_at _ _ _ _ _ _ c.requires.filled c.if-s-m.false)

pub box_at-d-requires : goal.box_at-d-requires
box_at-d-requires c = omega (arith, c.requires.started_2, c.if-t-m.false)

pub overflow_add-skips-3 : goal.overflow_add-skips-3
overflow_add-skips-3 c = search (rules, small_count _ c.requires.checked_1 _ c.requires.checked_3, c.requires.started_1.few, c.if-t-m.false)

pub cell-u-requires : goal.cell-u-requires
cell-u-requires c = omega (arith, c.requires.started_3, c.if-t-m.false, c.requires.started_1.few)

pub returns : goal.returns
returns c = node_last _ _ _ _ _ _ c.requires.started_4 _ _ _ _ _ _ _ c.cell-a.ensures c.cell-e.ensures c.if-a-e.false c.box_at-c.ensures c.cell-t.ensures c.box_at-d.ensures c.cell-u.ensures c.join-b.ensures c.requires.filled c.if-s-m.false c.if-t-m.false
