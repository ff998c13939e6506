-- `probe::tree::gablemadder_put_tree` meets its contract.
use mathlib.Core.Path.{refl, sym, ◌∙◌}
use Prim.Native.Nat.{◌*◌, ◌≤◌}
use lib.ListN.{length}
use Rattle.list_laws.proofs.Regions.{part_length}
use Rattle.solid_faces.proofs.BodyLaws.{readable_long, checked_readable}
use Rattle.file_ok.proofs.RefusalLaws.{not_none, answered}
use Rattle.scratch.proofs.RefusalLaws.{refused_number, put_number, put_checked, put_room}
use Rattle.probe.proofs.TreeLaws.{tree_refused, tree_room, tree_few, tree_answered}
use native.Mathlib.Omega.{arith}
use Rattle.probe.proofs.tree.gablemadder_put_tree.Goals as goal

pub returns-in-Err : goal.returns-in-Err
returns-in-Err c = tree_refused _ _ _ _ (c.number.ensures ∙ refused_number _ _ _ _ (sym c.body_refusal.ensures ∙ c.in-Err.is)) (λ z. not_none _ (sym c.number.ensures ∙ z))

pub polygon_count-n-requires : goal.polygon_count-n-requires
polygon_count-n-requires c = readable_long _ (checked_readable _ (put_checked _ _ _ (put_number _ _ _ (sym c.body_refusal.ensures ∙ answered _ c.in_default.not-Err))))

pub overflow_mul-boxes : goal.overflow_mul-boxes
overflow_mul-boxes c =
    let few : c.polygon_count-n.result ≤ 4096 = omega (arith, c.polygon_count-n.ensures, tree_few _ c.args.words.now c.args.reals.now _ (sym (put_number _ _ _ (sym c.body_refusal.ensures ∙ answered _ c.in_default.not-Err))) refl) in omega (arith, few)

pub overflow_mul-order : goal.overflow_mul-order
overflow_mul-order c =
    let few : c.polygon_count-n.result ≤ 4096 = omega (arith, c.polygon_count-n.ensures, tree_few _ c.args.words.now c.args.reals.now _ (sym (put_number _ _ _ (sym c.body_refusal.ensures ∙ answered _ c.in_default.not-Err))) refl) in omega (arith, few)

pub offset_bounds-reals-start : goal.offset_bounds-reals-start
offset_bounds-reals-start c = omega arith

pub slice_bounds-put_tree-count : goal.slice_bounds-put_tree-count
slice_bounds-put_tree-count c = omega arith

pub slice_bounds-put_tree-start : goal.slice_bounds-put_tree-start
slice_bounds-put_tree-start c = omega arith

pub slice_bounds-put_tree-end : goal.slice_bounds-put_tree-end
slice_bounds-put_tree-end c =
    let room : (4 * c.polygon_count-n.result ≤ length c.args.words.now) × (8 * c.polygon_count-n.result ≤ length c.args.reals.now) = let k = tree_room _ c.args.words.now c.args.reals.now _ (sym (put_number _ _ _ (sym c.body_refusal.ensures ∙ answered _ c.in_default.not-Err))) refl in
    (omega (arith, c.polygon_count-n.ensures, k.0), omega (arith, c.polygon_count-n.ensures, k.1)) in omega (arith, room.1)

pub offset_bounds-words-start : goal.offset_bounds-words-start
offset_bounds-words-start c = omega arith

pub slice_bounds-put_tree-count-2 : goal.slice_bounds-put_tree-count-2
slice_bounds-put_tree-count-2 c = omega arith

pub slice_bounds-put_tree-start-2 : goal.slice_bounds-put_tree-start-2
slice_bounds-put_tree-start-2 c = omega arith

pub slice_bounds-put_tree-end-2 : goal.slice_bounds-put_tree-end-2
slice_bounds-put_tree-end-2 c =
    let room : (4 * c.polygon_count-n.result ≤ length c.args.words.now) × (8 * c.polygon_count-n.result ≤ length c.args.reals.now) = let k = tree_room _ c.args.words.now c.args.reals.now _ (sym (put_number _ _ _ (sym c.body_refusal.ensures ∙ answered _ c.in_default.not-Err))) refl in
    (omega (arith, c.polygon_count-n.ensures, k.0), omega (arith, c.polygon_count-n.ensures, k.1)) in omega (arith, room.0)

pub put_tree-requires : goal.put_tree-requires
put_tree-requires c =
    let room : (4 * c.polygon_count-n.result ≤ length c.args.words.now) × (8 * c.polygon_count-n.result ≤ length c.args.reals.now) = let k = tree_room _ c.args.words.now c.args.reals.now _ (sym (put_number _ _ _ (sym c.body_refusal.ensures ∙ answered _ c.in_default.not-Err))) refl in
    (omega (arith, c.polygon_count-n.ensures, k.0), omega (arith, c.polygon_count-n.ensures, k.1)) in
    record {
      fact_1 = put_checked _ _ _ (put_number _ _ _ (sym c.body_refusal.ensures ∙ answered _ c.in_default.not-Err));
      fact_2 = part_length 0 (8 * c.polygon_count-n.result) c.args.reals.now room.1 ∙ omega (arith, c.polygon_count-n.ensures);
      fact_3 = part_length 0 (4 * c.polygon_count-n.result) c.args.words.now room.0 ∙ omega (arith, c.polygon_count-n.ensures);
    }

pub returns : goal.returns
returns c =
    let room : (4 * c.polygon_count-n.result ≤ length c.args.words.now) × (8 * c.polygon_count-n.result ≤ length c.args.reals.now) = let k = tree_room _ c.args.words.now c.args.reals.now _ (sym (put_number _ _ _ (sym c.body_refusal.ensures ∙ answered _ c.in_default.not-Err))) refl in
    (omega (arith, c.polygon_count-n.ensures, k.0), omega (arith, c.polygon_count-n.ensures, k.1)) in
    let reals = c.args.reals.now in
    let words = c.args.words.now in
    let n = c.polygon_count-n.result in
    tree_answered _ words reals _ (sym (put_number _ _ _ (sym c.body_refusal.ensures ∙ answered _ c.in_default.not-Err))) refl n c.polygon_count-n.ensures c.put_tree.new.boxes c.put_tree.new.words
    (c.put_tree.auto.boxes ∙ part_length 0 (8 * n) reals room.1) (c.put_tree.auto.words ∙ part_length 0 (4 * n) words room.0) c.put_tree.ensures
