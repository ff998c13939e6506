-- `round_frame::extent::run_extent` meets its contract.
use mathlib.Core.Path.{◌≡◌}
use Rattle.solid_polygon.specs.Work.{corner_at}
use Rattle.round_frame.specs.Frame.{run_extent}
use Rattle.round_frame.proofs.extent.run_extent.Given as goal

abbrev pub invariant-loop-k : goal.invariant-loop-k
invariant-loop-k l = l.e ≡ run_extent l.frame (corner_at l.file l.first) l.initial.e l.k
