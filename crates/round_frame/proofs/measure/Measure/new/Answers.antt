-- `round_frame::measure::Measure::new` meets its contract.
use Rattle.round_frame.specs.Frame.{measure_of}
use Rattle.round_frame.proofs.measure.Measure.new.Goals as goal

pub returns : goal.returns
unfolding measure_of
returns c = cc
