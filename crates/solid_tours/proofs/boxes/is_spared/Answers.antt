-- `solid_tours::boxes::is_spared` meets its contract.
use Rattle.solid_tours.proofs.BoxLaws.{spared_in, spared_out}
use Rattle.solid_tours.proofs.boxes.is_spared.Goals as goal

pub reach_at-requires : goal.reach_at-requires
reach_at-requires c = c.requires c.if-b-count.true

pub gap_square-gap-requires : goal.gap_square-gap-requires
gap_square-gap-requires c = tt

pub returns-then-b-count : goal.returns-then-b-count
returns-then-b-count c = spared_in _ _ _ _ _ _ _ _ c.if-b-count.true c.reach_at.ensures c.gap_square-gap.ensures

pub returns : goal.returns
returns c = spared_out _ _ _ _ _ _ c.if-b-count.false
