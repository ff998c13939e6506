-- `scratch::tree::put_tree` meets its contract.
use mathlib.Core.Path.{◌∙◌}
use Rattle.list_laws.proofs.Regions.{part_length}
use Rattle.scratch.proofs.TreeLaws.{tree_none, tree_put}
use native.Mathlib.Omega.{arith}
use Rattle.scratch.proofs.tree.put_tree.Goals as goal

pub returns-then-at-le-SCANNED : goal.returns-then-at-le-SCANNED
returns-then-at-le-SCANNED c = tree_none _ c.args.at c.requires.fact_1.laid c.args.words.now c.args.reals.now c.requires.fact_2 c.requires.fact_3 c.if-at-le-SCANNED.true

pub offset_bounds-reals-boxes : goal.offset_bounds-reals-boxes
offset_bounds-reals-boxes c = omega (arith, c.requires.fact_1.laid, c.requires.fact_2, c.requires.fact_3)

pub slice_bounds-put_tree-count : goal.slice_bounds-put_tree-count
slice_bounds-put_tree-count c = omega (arith, c.requires.fact_1.laid, c.requires.fact_2, c.requires.fact_3)

pub slice_bounds-put_tree-start : goal.slice_bounds-put_tree-start
slice_bounds-put_tree-start c = omega (arith, c.requires.fact_1.laid, c.requires.fact_2, c.requires.fact_3)

pub slice_bounds-put_tree-end : goal.slice_bounds-put_tree-end
slice_bounds-put_tree-end c = omega (arith, c.requires.fact_1.laid, c.requires.fact_2, c.requires.fact_3)

pub offset_bounds-words-tree : goal.offset_bounds-words-tree
offset_bounds-words-tree c = omega (arith, c.requires.fact_1.laid, c.requires.fact_2, c.requires.fact_3)

pub slice_bounds-put_tree-count-2 : goal.slice_bounds-put_tree-count-2
slice_bounds-put_tree-count-2 c = omega (arith, c.requires.fact_1.laid, c.requires.fact_2, c.requires.fact_3)

pub slice_bounds-put_tree-start-2 : goal.slice_bounds-put_tree-start-2
slice_bounds-put_tree-start-2 c = omega (arith, c.requires.fact_1.laid, c.requires.fact_2, c.requires.fact_3)

pub slice_bounds-put_tree-end-2 : goal.slice_bounds-put_tree-end-2
slice_bounds-put_tree-end-2 c = omega (arith, c.requires.fact_1.laid, c.requires.fact_2, c.requires.fact_3)

pub put_tree-requires : goal.put_tree-requires
put_tree-requires c =
    record {
      fact_1 = c.requires.fact_1.checked;
      fact_2 = part_length c.args.at.boxes c.args.at.falling c.args.reals.now (omega (arith, c.requires.fact_1.laid, c.requires.fact_2, c.requires.fact_3)) ∙ omega (arith, c.requires.fact_1.laid, c.requires.fact_1.polygons);
      fact_3 = part_length c.args.at.tree c.args.at.sides c.args.words.now (omega (arith, c.requires.fact_1.laid, c.requires.fact_2, c.requires.fact_3)) ∙ omega (arith, c.requires.fact_1.laid, c.requires.fact_1.polygons);
    }

pub returns : goal.returns
returns c = tree_put _ c.args.at c.requires.fact_1.laid c.args.words.now c.args.reals.now c.requires.fact_2 c.requires.fact_3 c.put_tree.new.boxes c.put_tree.new.words (c.put_tree.auto.boxes ∙ part_length c.args.at.boxes c.args.at.falling c.args.reals.now (omega (arith, c.requires.fact_1.laid, c.requires.fact_2, c.requires.fact_3))) (c.put_tree.auto.words ∙ part_length c.args.at.tree c.args.at.sides c.args.words.now (omega (arith, c.requires.fact_1.laid, c.requires.fact_2, c.requires.fact_3))) c.put_tree.ensures
