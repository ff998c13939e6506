-- `sheet_thickness::off_area` meets its contract.
use mathlib.Core.Path.{◌≡◌}
use Prim.Native.Nat.{◌+◌}
use lib.ListN.{get_or}
use lib.Ieee.{nan}
use Rattle.sheet_thickness.specs.Thickness.{added_to}
use Rattle.sheet_thickness.specs.Work.{is_far_off}
use Rattle.sheet_thickness.proofs.off_area.Given as goal

abbrev pub invariant-loop-k : goal.invariant-loop-k
invariant-loop-k l = l.sum ≡ added_to (is_far_off l.at l.limit l.thickness l.reals) (λ i. get_or l.reals (l.weights + i) nan) l.k
