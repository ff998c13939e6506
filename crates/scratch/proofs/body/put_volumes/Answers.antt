-- `scratch::body::put_volumes` meets its contract.
use mathlib.Core.Path.{◌∙◌}
use borrow.Author.Tests.{not-false}
use Rattle.list_laws.proofs.Regions.{part_length}
use Rattle.solid_faces.proofs.BodyLaws.{checked_readable}
use Rattle.scratch.proofs.StandingLaws.{placed_polygons}
use Rattle.scratch.proofs.WordsLaws.{labels_lent}
use Rattle.scratch.proofs.RealsLaws.{volumes_none, volumes_put}
use native.Mathlib.Omega.{arith}
use Rattle.scratch.proofs.body.put_volumes.Goals as goal

pub returns-then-not-at : goal.returns-then-not-at
returns-then-not-at c = volumes_none _ _ c.requires.placed_1.laid _ c.requires.reals_in_bounds c.if-not-at.true

pub offset_bounds-words-start : goal.offset_bounds-words-start
offset_bounds-words-start c = omega (arith, c.requires.placed_1.laid)

pub slice_bounds-volumes-count : goal.slice_bounds-volumes-count
slice_bounds-volumes-count c = omega (arith, c.requires.placed_1.laid)

pub slice_bounds-volumes-start : goal.slice_bounds-volumes-start
slice_bounds-volumes-start c = omega (arith, c.requires.placed_1.laid)

pub slice_bounds-volumes-end : goal.slice_bounds-volumes-end
slice_bounds-volumes-end c = omega (arith, c.requires.placed_1.laid, c.requires.placed_2)

pub offset_bounds-reals-volume : goal.offset_bounds-reals-volume
offset_bounds-reals-volume c = omega (arith, c.requires.placed_1.laid)

pub slice_bounds-volumes-count-2 : goal.slice_bounds-volumes-count-2
slice_bounds-volumes-count-2 c = omega (arith, c.requires.placed_1.laid)

pub slice_bounds-volumes-start-2 : goal.slice_bounds-volumes-start-2
slice_bounds-volumes-start-2 c = omega (arith, c.requires.placed_1.laid, c.requires.reals_in_bounds)

pub slice_bounds-volumes-end-2 : goal.slice_bounds-volumes-end-2
slice_bounds-volumes-end-2 c = omega (arith, c.requires.placed_1.laid, c.requires.reals_in_bounds)

pub volumes-requires : goal.volumes-requires
volumes-requires c =
    record {
      fact_1 = checked_readable _ c.requires.placed_1.checked;
      fact_2 = labels_lent _ c.args.at c.args.words.now c.requires.placed_1.laid c.requires.placed_2 (placed_polygons _ _ c.requires.placed_1) c.requires.placed_3 (not-false _ c.if-not-at.false);
      fact_3 = part_length c.args.at.volumes c.args.at.boxes c.args.reals.now (omega (arith, c.requires.placed_1.laid, c.requires.reals_in_bounds)) ∙ omega (arith, c.requires.placed_1.laid, c.requires.placed_1);
    }

pub returns : goal.returns
returns c = volumes_put _ c.args.at c.requires.placed_1.laid c.args.reals.now c.requires.reals_in_bounds c.volumes.new.volume (c.volumes.auto.volume ∙ part_length c.args.at.volumes c.args.at.boxes c.args.reals.now (omega (arith, c.requires.placed_1.laid, c.requires.reals_in_bounds))) c.volumes.ensures
