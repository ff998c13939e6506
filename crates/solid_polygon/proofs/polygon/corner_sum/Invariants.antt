-- `solid_polygon::polygon::corner_sum` meets its contract.
use mathlib.Core.Path.{◌≡◌}
use Rattle.solid_polygon.specs.Polygon.{corners_to}
use Rattle.solid_polygon.specs.Work.{corner_at}
use Rattle.solid_polygon.proofs.polygon.corner_sum.Given as goal

abbrev pub invariant-loop-k : goal.invariant-loop-k
invariant-loop-k l = l.sum ≡ corners_to (corner_at l.file l.first) l.k
