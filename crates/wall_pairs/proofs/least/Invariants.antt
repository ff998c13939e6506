-- `wall_pairs::least` meets its contract.
use mathlib.Core.Path.{◌≡◌}
use Rattle.list_laws.specs.Region.{part}
use Rattle.file_part.specs.Part.{part_of}
use Rattle.wall_pairs.specs.Walls.{least_of}
use Rattle.wall_pairs.specs.Work.{reading_order}
use Rattle.wall_pairs.proofs.least.Given as goal

abbrev pub invariant-loop-j : goal.invariant-loop-j
invariant-loop-j l = l.x ≡ least_of (part_of l.file) (part l.i l.j (reading_order l.at l.words))
