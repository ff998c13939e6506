-- `solid_polygon::polygon::poly_area` meets its contract.
use mathlib.Core.Path.{◌≡◌}
use Rattle.solid_polygon.specs.Polygon.{area_to}
use Rattle.solid_polygon.specs.Work.{corner_at}
use Rattle.solid_polygon.proofs.polygon.poly_area.Given as goal

abbrev pub invariant-loop-k : goal.invariant-loop-k
invariant-loop-k l = l.area ≡ area_to (corner_at l.file l.first) l.k
