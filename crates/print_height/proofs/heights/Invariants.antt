-- `print_height::heights` meets its contract: of the vertices that are passed.
use mathlib.Core.Path.{◌≡◌}
use Rattle.file_part.specs.Part.{part_of}
use Rattle.print_height.specs.Height.{heights_to}
use Rattle.print_height.proofs.heights.Given as goal

abbrev pub invariant-loop-i : goal.invariant-loop-i
invariant-loop-i l = l.e ≡ heights_to (part_of l.file) l.up l.i
