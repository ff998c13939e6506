-- `solid_reach::reach::gap` meets its contract.
use Rattle.solid_reach.proofs.ReachLaws.{gap_below, gap_above, gap_none}
use Rattle.solid_reach.proofs.reach.gap.Goals as goal

pub returns-then-below : goal.returns-then-below
returns-then-below c = gap_below _ _ _ c.if-below.true

pub returns-then-above : goal.returns-then-above
returns-then-above c = gap_above _ _ _ c.if-below.false c.if-above.true

pub returns : goal.returns
returns c = gap_none _ _ _ c.if-below.false c.if-above.false
