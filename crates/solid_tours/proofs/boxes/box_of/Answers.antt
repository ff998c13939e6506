-- `solid_tours::boxes::box_of` meets its contract: the edges passed are inside.
use Rattle.solid_tours.proofs.BoxLaws.{around_more}
use Rattle.solid_tours.proofs.boxes.box_of.Goals as goal

pub loop-j-preserved : goal.loop-j-preserved
loop-j-preserved c = around_more c.args.at c.args.reals.now c.args.i _ _ _ _ c.loop-j.invariant c.segment_at.ensures c.with_segment-r.ensures
