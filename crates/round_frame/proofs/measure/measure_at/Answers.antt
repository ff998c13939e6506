-- `round_frame::measure::measure_at` meets its contract.
use mathlib.Core.Path.{refl}
use Rattle.round_frame.specs.Measure.{measure_at}
use Rattle.round_frame.proofs.measure.measure_at.Goals as goal

pub returns : goal.returns
unfolding measure_at
returns c = refl
