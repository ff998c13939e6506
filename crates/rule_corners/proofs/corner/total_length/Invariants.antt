-- `rule_corners::corner::total_length` meets its contract: the corners passed are added.
use mathlib.Core.Path.{◌≡◌}
use Rattle.list_laws.specs.Region.{part}
use Rattle.math.specs.Vector.{zero}
use Rattle.file_part.specs.Part.{part_of}
use Rattle.rule_corners.specs.Corners.{length_from_of}
use Rattle.rule_corners.specs.Work.{corner_order}
use Rattle.rule_corners.proofs.corner.total_length.Given as goal

abbrev pub invariant-loop-j : goal.invariant-loop-j
invariant-loop-j l = l.x ≡ length_from_of (part_of l.file) zero (part l.i l.j (corner_order l.at l.words))
