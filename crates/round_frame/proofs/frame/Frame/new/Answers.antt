-- `round_frame::frame::Frame::new` meets its contract.
use Rattle.round_frame.specs.Frame.{across_of, frame_of}
use Rattle.round_frame.proofs.frame.Frame.new.Goals as goal

pub returns : goal.returns
unfolding frame_of across_of
returns c = cc
