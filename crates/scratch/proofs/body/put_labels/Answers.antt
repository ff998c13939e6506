-- `scratch::body::put_labels` meets its contract.
use mathlib.Core.Path.{◌∙◌}
use Prim.Native.Nat.{◌-◌}
use lib.Seq.{length-take-le}
use Rattle.solid_faces.proofs.BodyLaws.{checked_readable}
use Rattle.scratch.proofs.StandingLaws.{placed_polygons}
use Rattle.scratch.proofs.WordsLaws.{labels_none, labels_put}
use native.Mathlib.Omega.{arith}
use Rattle.scratch.proofs.body.put_labels.Goals as goal

pub returns-then-not-at : goal.returns-then-not-at
returns-then-not-at c = labels_none _ _ c.requires.fact_1.laid _ c.requires.fact_2 c.if-not-at.true

pub offset_bounds-words-start : goal.offset_bounds-words-start
offset_bounds-words-start c = omega (arith, c.requires.fact_1.laid)

pub slice_bounds-bodies-count : goal.slice_bounds-bodies-count
slice_bounds-bodies-count c = omega (arith, c.requires.fact_1.laid)

pub slice_bounds-bodies-start : goal.slice_bounds-bodies-start
slice_bounds-bodies-start c = omega arith

pub slice_bounds-bodies-end : goal.slice_bounds-bodies-end
slice_bounds-bodies-end c = omega (arith, c.requires.fact_1.laid, c.requires.fact_2)

pub bodies-requires : goal.bodies-requires
bodies-requires c =
    record {
      fact_1 = checked_readable _ c.requires.fact_1.checked;
      fact_2 = length-take-le (c.args.at.work - 0) c.args.words.now (omega (arith, c.requires.fact_1.laid, c.requires.fact_2)) ∙ omega (arith, c.requires.fact_1.laid, c.requires.fact_1);
    }

pub returns : goal.returns
returns c = labels_put _ c.args.at c.requires.fact_1.laid c.args.words.now c.requires.fact_2 c.bodies.new.mem (c.bodies.auto.mem ∙ length-take-le (c.args.at.work - 0) c.args.words.now (omega (arith, c.requires.fact_1.laid, c.requires.fact_2))) (placed_polygons _ _ c.requires.fact_1) c.bodies.ensures
