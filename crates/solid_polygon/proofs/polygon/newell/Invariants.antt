-- `solid_polygon::polygon::newell` meets its contract.
use mathlib.Core.Path.{◌≡◌}
use Prim.Native.Nat.{◌+◌, ◌-◌, ◌*◌}
use Rattle.file_part.specs.file_field.specs.Field.{vec_at_of}
use Rattle.solid_polygon.specs.Polygon.{newell_to}
use Rattle.solid_polygon.specs.Work.{corner_at}
use Rattle.solid_polygon.proofs.polygon.newell.Given as goal

-- the side from a on comes next
abbrev pub invariant-loop-k : goal.invariant-loop-k
invariant-loop-k l = (l.a ≡ vec_at_of l.file (24 * (l.first + (l.k - 1)))) × (l.n ≡ newell_to (corner_at l.file l.first) l.count (l.k - 1))
