-- `print_walls::thinnest_reading` meets its contract.
use mathlib.Core.Path.{◌≡◌}
use Rattle.file_part.specs.Part.{part_of}
use Rattle.wall_pairs.specs.Work.{reading_order}
use Rattle.print_walls.proofs.ThinnestLaws.{thinnest_to}
use Rattle.print_walls.proofs.thinnest_reading.Given as goal

abbrev pub invariant-loop-j : goal.invariant-loop-j
invariant-loop-j l = l.least ≡ thinnest_to (part_of l.file) l.up (reading_order l.at l.words) l.i l.j
