-- `round_frame::frame::Frame::height` meets its contract.
use Rattle.round_frame.specs.Frame.{height_of}
use Rattle.round_frame.proofs.frame.Frame.height.Goals as goal

pub returns : goal.returns
unfolding height_of
returns c = cc
