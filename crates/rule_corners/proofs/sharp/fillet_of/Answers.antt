-- `rule_corners::sharp::fillet_of` meets its contract.
use Rattle.rule_corners.specs.Sharp.{fillet_of}
use Rattle.rule_corners.proofs.sharp.fillet_of.Goals as goal

pub returns : goal.returns
unfolding fillet_of
returns c = c.max.ensures
