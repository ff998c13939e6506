-- `round_frame::extent::Extent::reach` meets its contract.
use Rattle.round_frame.specs.Frame.{reach}
use Rattle.round_frame.proofs.extent.Extent.reach.Goals as goal

pub returns : goal.returns
unfolding reach
returns c = cc
