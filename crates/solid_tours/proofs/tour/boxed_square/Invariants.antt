-- `solid_tours::tour::boxed_square` meets its contract: the runs passed are no nearer.
use mathlib.Core.Path.{◌≡◌}
use Prim.Native.Nat.{◌-◌, ◌≤◌}
use Rattle.file_part.specs.Part.{part_of}
use Rattle.solid_tours.specs.Work.{least_square}
use Rattle.solid_tours.specs.Work.Kept.{sides_at}
use Rattle.solid_tours.proofs.tour.boxed_square.Given as goal

abbrev pub invariant-loop-j : goal.invariant-loop-j
invariant-loop-j l = (l.initial.j ≤ l.j) × (l.j ≤ l.end) × (l.best ≡ least_square (part_of l.file) l.p l.least (sides_at (part_of l.file) l.edges.at l.words l.initial.j l.j))

abbrev pub decreases-loop-j : goal.decreases-loop-j
decreases-loop-j l = l.end - l.j
