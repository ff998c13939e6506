-- `round_frame::bore::run_directions` meets its contract.
use Prim.Native.Nat.{◌+◌}
use mathlib.Core.List.{◌++◌}
use Rattle.solid_polygon.specs.Work.{corner_at}
use Rattle.round_hole.specs.Work.{directions_in}
use Rattle.round_frame.specs.Frame.{run_directions}
use Rattle.round_frame.specs.Work.{DirectionsPut}
use Rattle.round_frame.proofs.bore.run_directions.Given as goal

abbrev pub invariant-loop-k : goal.invariant-loop-k
invariant-loop-k l =
    DirectionsPut l.initial.cells l.cells (l.n + l.k) l.m (directions_in l.n l.initial.cells ++ run_directions l.frame (corner_at l.file l.first) l.k)
