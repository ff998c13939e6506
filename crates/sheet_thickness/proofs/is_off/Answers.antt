-- `sheet_thickness::is_off` meets its contract.
use mathlib.Core.Path.{ap}
use lib.Ieee.{binary64, mul, lt}
use Rattle.sheet_thickness.specs.Thickness.{three_hundredths, is_off_by}
use Rattle.sheet_thickness.proofs.is_off.Goals as goal

pub returns : goal.returns
unfolding is_off_by
returns c = ap (lt (mul binary64 three_hundredths c.args.thickness)) c.abs.ensures
