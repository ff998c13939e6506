-- `scratch::body::put_sides` meets its contract.
use mathlib.Core.Path.{◌∙◌}
use Rattle.list_laws.proofs.Regions.{part_length}
use Rattle.solid_faces.proofs.BodyLaws.{checked_readable}
use Rattle.scratch.proofs.StandingLaws.{placed_vertices}
use Rattle.scratch.proofs.WordsLaws.{sides_none, sides_put}
use native.Mathlib.Omega.{arith}
use Rattle.scratch.proofs.body.put_sides.Goals as goal

pub returns-then-not-at : goal.returns-then-not-at
returns-then-not-at c = sides_none _ _ c.requires.fact_1.laid _ c.requires.fact_2 c.if-not-at.true

pub offset_bounds-words-sides : goal.offset_bounds-words-sides
offset_bounds-words-sides c = omega (arith, c.requires.fact_1.laid)

pub slice_bounds-shared_segments-count : goal.slice_bounds-shared_segments-count
slice_bounds-shared_segments-count c = omega (arith, c.requires.fact_1.laid)

pub slice_bounds-shared_segments-start : goal.slice_bounds-shared_segments-start
slice_bounds-shared_segments-start c = omega (arith, c.requires.fact_1.laid, c.requires.fact_2)

pub slice_bounds-shared_segments-end : goal.slice_bounds-shared_segments-end
slice_bounds-shared_segments-end c = omega (arith, c.requires.fact_1.laid, c.requires.fact_2)

pub shared_segments-requires : goal.shared_segments-requires
shared_segments-requires c =
    record {
      fact_1 = checked_readable _ c.requires.fact_1.checked;
      fact_2 = part_length c.args.at.sides c.args.at.faces c.args.words.now (omega (arith, c.requires.fact_1.laid, c.requires.fact_2)) ∙ omega (arith, c.requires.fact_1.laid, c.requires.fact_1);
    }

pub returns : goal.returns
returns c = sides_put _ c.args.at c.requires.fact_1.laid c.args.words.now c.requires.fact_2 c.shared_segments.new.mem (c.shared_segments.auto.mem ∙ part_length c.args.at.sides c.args.at.faces c.args.words.now (omega (arith, c.requires.fact_1.laid, c.requires.fact_2))) (placed_vertices _ _ c.requires.fact_1) c.shared_segments.ensures
