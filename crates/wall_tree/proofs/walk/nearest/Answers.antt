-- `wall_tree::walk::nearest` meets its contract.
use borrow.Author.Rules.{rules}
use native.Mathlib.Omega.{arith}
use Rattle.solid_faces.proofs.BodyLaws.{readable_long, checked_readable, polygons_are}
use Rattle.solid_boxes.proofs.OwnLaws.{small_count}
use Rattle.wall_tree.proofs.WalkLaws.{begin, none_kept, box_room, few_nodes, skip_room, start_room, skip_on, past_to, the_order, next_on, next_start, leaf_rises, leaf_ends, done}
use Rattle.wall_tree.proofs.walk.nearest.Goals as goal

pub vertex_count-vertices-requires : goal.vertex_count-vertices-requires
vertex_count-vertices-requires c = readable_long _ (checked_readable _ c.requires.checked_1)

pub polygon_count-polygons-requires : goal.polygon_count-polygons-requires
polygon_count-polygons-requires c = readable_long _ (checked_readable _ c.requires.checked_1)

pub overflow_mul-skips : goal.overflow_mul-skips
overflow_mul-skips c = search (rules, small_count _ c.requires.checked_1 _ c.polygon_count-polygons.ensures)

pub overflow_add-skips : goal.overflow_add-skips
overflow_add-skips c = search (rules, small_count _ c.requires.checked_1 _ c.polygon_count-polygons.ensures)

pub loop-a-init : goal.loop-a-init
loop-a-init c = ((λ W. omega arith), (begin _ c.requires.checked_1 c.args.ray _ _ _ (polygons_are _ _ c.polygon_count-polygons.ensures) c.requires.part_tree, none_kept _ c.requires.checked_1 _ _))

pub is_open-requires : goal.is_open-requires
is_open-requires c =
    record {
      fact_1 = box_room _ c.requires.checked_1 c.args.ray _ _ _ (polygons_are _ _ c.polygon_count-polygons.ensures) c.requires.part_tree _ _ (c.loop-a.invariant.0 c.requires.part_tree) c.loop-a.invariant.1.0 c.loop-a-test.true;
      fact_2 = c.aim_of-aim.ensures.fact_2;
    }

pub overflow_add-skips-then-not-is_open : goal.overflow_add-skips-then-not-is_open
overflow_add-skips-then-not-is_open c = search (rules, small_count _ c.requires.checked_1 _ c.polygon_count-polygons.ensures, few_nodes _ c.requires.checked_1 c.args.ray _ _ _ (polygons_are _ _ c.polygon_count-polygons.ensures) c.requires.part_tree _ _ (c.loop-a.invariant.0 c.requires.part_tree) c.loop-a.invariant.1.0 c.loop-a-test.true)

pub cell-j-requires : goal.cell-j-requires
cell-j-requires c = skip_room _ c.requires.checked_1 c.args.ray _ _ _ (polygons_are _ _ c.polygon_count-polygons.ensures) c.requires.part_tree _ _ (c.loop-a.invariant.0 c.requires.part_tree) c.loop-a.invariant.1.0 c.loop-a-test.true

pub overflow_add-polygons : goal.overflow_add-polygons
overflow_add-polygons c = search (rules, small_count _ c.requires.checked_1 _ c.polygon_count-polygons.ensures, (skip_on _ c.requires.checked_1 c.args.ray _ _ _ (polygons_are _ _ c.polygon_count-polygons.ensures) c.requires.part_tree _ _ (c.loop-a.invariant.0 c.requires.part_tree) c.loop-a.invariant.1.0 c.loop-a-test.true _ c.cell-j.ensures).1.1)

pub cell-a-requires : goal.cell-a-requires
cell-a-requires c = start_room _ c.requires.checked_1 c.args.ray _ _ _ (polygons_are _ _ c.polygon_count-polygons.ensures) c.requires.part_tree _ _ (c.loop-a.invariant.0 c.requires.part_tree) c.loop-a.invariant.1.0 c.loop-a-test.true _ (skip_on _ c.requires.checked_1 c.args.ray _ _ _ (polygons_are _ _ c.polygon_count-polygons.ensures) c.requires.part_tree _ _ (c.loop-a.invariant.0 c.requires.part_tree) c.loop-a.invariant.1.0 c.loop-a-test.true _ c.cell-j.ensures).1.1

pub loop-a-smaller-then-not-is_open : goal.loop-a-smaller-then-not-is_open
loop-a-smaller-then-not-is_open c = omega (arith, few_nodes _ c.requires.checked_1 c.args.ray _ _ _ (polygons_are _ _ c.polygon_count-polygons.ensures) c.requires.part_tree _ _ (c.loop-a.invariant.0 c.requires.part_tree) c.loop-a.invariant.1.0 c.loop-a-test.true, (skip_on _ c.requires.checked_1 c.args.ray _ _ _ (polygons_are _ _ c.polygon_count-polygons.ensures) c.requires.part_tree _ _ (c.loop-a.invariant.0 c.requires.part_tree) c.loop-a.invariant.1.0 c.loop-a-test.true _ c.cell-j.ensures).0, (skip_on _ c.requires.checked_1 c.args.ray _ _ _ (polygons_are _ _ c.polygon_count-polygons.ensures) c.requires.part_tree _ _ (c.loop-a.invariant.0 c.requires.part_tree) c.loop-a.invariant.1.0 c.loop-a-test.true _ c.cell-j.ensures).1.1)

pub loop-a-preserved-then-not-is_open : goal.loop-a-preserved-then-not-is_open
loop-a-preserved-then-not-is_open c = ((λ W. (skip_on _ c.requires.checked_1 c.args.ray _ _ _ (polygons_are _ _ c.polygon_count-polygons.ensures) W _ _ (c.loop-a.invariant.0 W) c.loop-a.invariant.1.0 c.loop-a-test.true _ c.cell-j.ensures).1.0), past_to _ c.requires.checked_1 c.args.ray _ _ _ (polygons_are _ _ c.polygon_count-polygons.ensures) c.requires.part_tree _ _ (c.loop-a.invariant.0 c.requires.part_tree) c.loop-a.invariant.1.0 c.loop-a-test.true _ c.aim_of-aim.ensures.fact_1 _ _ _ c.limit.ensures c.is_open.ensures c.if-not-is_open.true c.loop-a.invariant.1.1 _ _ c.cell-j.ensures c.cell-a.ensures)

pub overflow_add-j : goal.overflow_add-j
overflow_add-j c = search (rules, small_count _ c.requires.checked_1 _ c.polygon_count-polygons.ensures, few_nodes _ c.requires.checked_1 c.args.ray _ _ _ (polygons_are _ _ c.polygon_count-polygons.ensures) c.requires.part_tree _ _ (c.loop-a.invariant.0 c.requires.part_tree) c.loop-a.invariant.1.0 c.loop-a-test.true)

pub overflow_add-polygons-in-loop-a : goal.overflow_add-polygons-in-loop-a
overflow_add-polygons-in-loop-a c = search (rules, small_count _ c.requires.checked_1 _ c.polygon_count-polygons.ensures, few_nodes _ c.requires.checked_1 c.args.ray _ _ _ (polygons_are _ _ c.polygon_count-polygons.ensures) c.requires.part_tree _ _ (c.loop-a.invariant.0 c.requires.part_tree) c.loop-a.invariant.1.0 c.loop-a-test.true)

pub cell-e-requires : goal.cell-e-requires
cell-e-requires c = start_room _ c.requires.checked_1 c.args.ray _ _ _ (polygons_are _ _ c.polygon_count-polygons.ensures) c.requires.part_tree _ _ (c.loop-a.invariant.0 c.requires.part_tree) c.loop-a.invariant.1.0 c.loop-a-test.true _ (few_nodes _ c.requires.checked_1 c.args.ray _ _ _ (polygons_are _ _ c.polygon_count-polygons.ensures) c.requires.part_tree _ _ (c.loop-a.invariant.0 c.requires.part_tree) c.loop-a.invariant.1.0 c.loop-a-test.true)

pub try_leaf-best-requires : goal.try_leaf-best-requires
try_leaf-best-requires c =
    record {
      checked_1 = c.requires.checked_1;
      checked_2 = c.requires.checked_2;
      order_1 = the_order _ c.requires.checked_1 c.args.ray _ _ _ (polygons_are _ _ c.polygon_count-polygons.ensures) c.requires.part_tree;
      order_2 = leaf_rises _ c.requires.checked_1 c.args.ray _ _ _ (polygons_are _ _ c.polygon_count-polygons.ensures) c.requires.part_tree _ _ (c.loop-a.invariant.0 c.requires.part_tree) c.loop-a.invariant.1.0 c.loop-a-test.true _ c.cell-e.ensures;
      order_3 = leaf_ends _ c.requires.checked_1 c.args.ray _ _ _ (polygons_are _ _ c.polygon_count-polygons.ensures) c.requires.part_tree _ _ (c.loop-a.invariant.0 c.requires.part_tree) c.loop-a.invariant.1.0 c.loop-a-test.true _ c.cell-e.ensures;
      vertices_value_1 = c.vertex_count-vertices.ensures;
      vertices_value_2 = c.aim_of-aim.ensures.fact_1.inverse;
    }

pub loop-a-smaller : goal.loop-a-smaller
loop-a-smaller c = omega (arith, few_nodes _ c.requires.checked_1 c.args.ray _ _ _ (polygons_are _ _ c.polygon_count-polygons.ensures) c.requires.part_tree _ _ (c.loop-a.invariant.0 c.requires.part_tree) c.loop-a.invariant.1.0 c.loop-a-test.true)

pub loop-a-preserved : goal.loop-a-preserved
loop-a-preserved c = ((λ W. next_on _ c.requires.checked_1 c.args.ray _ _ _ (polygons_are _ _ c.polygon_count-polygons.ensures) W _ _ (c.loop-a.invariant.0 W) c.loop-a.invariant.1.0 c.loop-a-test.true), (next_start _ c.requires.checked_1 c.args.ray _ _ _ (polygons_are _ _ c.polygon_count-polygons.ensures) c.requires.part_tree _ _ (c.loop-a.invariant.0 c.requires.part_tree) c.loop-a.invariant.1.0 c.loop-a-test.true _ c.cell-e.ensures, c.try_leaf-best.ensures.step c.loop-a.invariant.1.1))

pub returns : goal.returns
returns c = done _ c.requires.checked_1 c.args.ray _ _ _ (polygons_are _ _ c.polygon_count-polygons.ensures) c.requires.part_tree _ _ _ (c.loop-a.invariant.0 c.requires.part_tree) c.loop-a.invariant.1.0 c.loop-a-test.false c.loop-a.invariant.1.1
