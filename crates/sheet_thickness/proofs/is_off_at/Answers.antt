-- `sheet_thickness::is_off_at` meets its contract.
use mathlib.Core.Path.{ap}
use mathlib.Core.Bool.{Bool, ◌&&◌}
use Prim.Native.Nat.{◌+◌}
use lib.ListN.{get_or}
use lib.Ieee.{nan, lt}
use Rattle.sheet_thickness.specs.Work.{is_far, is_far_off}
use Rattle.sheet_thickness.proofs.is_off_at.Goals as goal

pub returns : goal.returns
unfolding is_far_off is_far
returns c = ap (λ (b : Bool). lt c.args.limit (get_or c.args.reals.now (c.args.at.falling + c.args.k) nan) && b) c.is_off.ensures
