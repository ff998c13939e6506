-- `round_frame::frame::Frame::vote` meets its contract.
use Rattle.round_frame.specs.Frame.{height_of, radial_of, vote_of}
use Rattle.round_frame.proofs.frame.Frame.vote.Goals as goal

pub returns : goal.returns
unfolding vote_of radial_of height_of
returns c = cc
