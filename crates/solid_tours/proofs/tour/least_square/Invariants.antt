-- `solid_tours::tour::least_square` meets its contract: the edges passed are no nearer.
use mathlib.Core.Path.{◌≡◌}
use Rattle.file_part.specs.Part.{part_of}
use Rattle.solid_tours.specs.Work.{least_square}
use Rattle.solid_tours.specs.Work.Kept.{sides_at}
use Rattle.solid_tours.proofs.tour.least_square.Given as goal

abbrev pub invariant-loop-j : goal.invariant-loop-j
invariant-loop-j l = l.best ≡ least_square (part_of l.file) l.p l.least (sides_at (part_of l.file) l.at l.words l.fn.places.start l.j)
