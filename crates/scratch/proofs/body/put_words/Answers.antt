-- `scratch::body::put_words` meets its contract.
use mathlib.Core.Path.{◌≡◌, ◌∙◌}
use mathlib.Core.List.{List}
use Prim.Native.Nat.{ℕ, ◌-◌, ◌≤◌}
use lib.ListN.{length}
use borrow.Rule.Slice.PartMut.{put_mid}
use Rattle.list_laws.specs.Region.{Outside}
use Rattle.list_laws.proofs.Regions.{part_length}
use Rattle.list_laws.proofs.Outside.{outside_then, outside_wide}
use Rattle.file_part.specs.Part.{part_of}
use Rattle.scratch.specs.Work.{WordsBefore}
use Rattle.scratch.proofs.StandingLaws.{placed_polygons}
use Rattle.scratch.proofs.WordsLaws.{words_put, words_chain}
use native.Mathlib.Omega.{arith}
use Rattle.scratch.proofs.body.put_words.Goals as goal

pub put_labels-requires : goal.put_labels-requires
put_labels-requires c =
    record {
      fact_1 = c.requires.fact_1;
      fact_2 = c.requires.fact_2;
    }

pub put_sides-requires : goal.put_sides-requires
put_sides-requires c =
    record {
      fact_1 = c.requires.fact_1;
      fact_2 = omega (arith, c.requires.fact_2, c.put_labels.ensures.kept.long);
    }

pub offset_bounds-words-faces : goal.offset_bounds-words-faces
offset_bounds-words-faces c = omega (arith, c.requires.fact_1.laid)

pub slice_bounds-faces-count : goal.slice_bounds-faces-count
slice_bounds-faces-count c = omega (arith, c.requires.fact_1.laid)

pub slice_bounds-faces-start : goal.slice_bounds-faces-start
slice_bounds-faces-start c = omega (arith, c.requires.fact_1.laid, c.requires.fact_2, c.put_labels.ensures.kept.long, c.put_sides.ensures.kept.long)

pub slice_bounds-faces-end : goal.slice_bounds-faces-end
slice_bounds-faces-end c = omega (arith, c.requires.fact_1.laid, c.requires.fact_2, c.put_labels.ensures.kept.long, c.put_sides.ensures.kept.long)

pub faces-n-requires : goal.faces-n-requires
faces-n-requires c =
    record {
      fact_1 = c.requires.fact_1.checked;
      fact_2 = part_length c.args.at.faces c.args.at.readings c.put_sides.new.words (omega (arith, c.requires.fact_1.laid, c.requires.fact_2, c.put_labels.ensures.kept.long, c.put_sides.ensures.kept.long)) ∙ omega (arith, c.requires.fact_1.laid, c.requires.fact_1);
    }

pub put_chain-requires : goal.put_chain-requires
put_chain-requires c =
    let faces-long : length c.faces-n.new.mem ≡ c.args.at.readings - c.args.at.faces = c.faces-n.auto.mem ∙ part_length c.args.at.faces c.args.at.readings c.put_sides.new.words (omega (arith, c.requires.fact_1.laid, c.requires.fact_2, c.put_labels.ensures.kept.long, c.put_sides.ensures.kept.long)) in
    let three : List ℕ = put_mid c.args.at.faces (c.args.at.readings - c.args.at.faces) c.put_sides.new.words c.faces-n.new.mem in
    let put : WordsBefore (part_of c.args.file.now) c.args.at three × Outside 0 0 c.args.at.readings c.args.words.now three = let done = words_put _ c.args.at c.requires.fact_1.laid c.args.words.now _ _ c.faces-n.new.mem c.requires.fact_2 faces-long c.put_labels.ensures c.put_sides.ensures in
    (done.0 (placed_polygons _ _ c.requires.fact_1) c.faces-n.ensures.value_2, done.1) in let put = put in
    record {
      fact_1 = c.requires.fact_1;
      fact_2 = omega (arith, c.requires.fact_2, put.1.long);
      fact_3 = put.0.faces;
    }

pub returns : goal.returns
returns c =
    let three : List ℕ = put_mid c.args.at.faces (c.args.at.readings - c.args.at.faces) c.put_sides.new.words c.faces-n.new.mem in
    let faces-long : length c.faces-n.new.mem ≡ c.args.at.readings - c.args.at.faces = c.faces-n.auto.mem ∙ part_length c.args.at.faces c.args.at.readings c.put_sides.new.words (omega (arith, c.requires.fact_1.laid, c.requires.fact_2, c.put_labels.ensures.kept.long, c.put_sides.ensures.kept.long)) in
    let put : WordsBefore (part_of c.args.file.now) c.args.at three × Outside 0 0 c.args.at.readings c.args.words.now three = let done = words_put _ c.args.at c.requires.fact_1.laid c.args.words.now _ _ c.faces-n.new.mem c.requires.fact_2 faces-long c.put_labels.ensures c.put_sides.ensures in
    (done.0 (placed_polygons _ _ c.requires.fact_1) c.faces-n.ensures.value_2, done.1) in
    let n = c.put_chain.ensures in
    let at = c.args.at in
    let laid = c.requires.fact_1.laid in
    let room : at.words ≤ length three = omega (arith, c.requires.fact_2, put.1.long) in
    record {
      value_1 = c.faces-n.ensures.value_1;
      value_2 = words_chain _ at three _ laid room (placed_polygons _ _ c.requires.fact_1) put.0 n.chain n.outside;
      outside = outside_then 0 _ _ _ three _ put.1 (outside_wide 0 _ _ 0 at.readings three _ (omega arith) (omega (arith, laid)) n.outside);
    }
