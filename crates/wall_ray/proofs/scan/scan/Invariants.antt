-- `wall_ray::scan::scan` meets its contract.
use mathlib.Core.Path.{◌≡◌}
use mathlib.Core.Bool.{true}
use Rattle.list_laws.specs.Below.{all_below}
use Rattle.file_part.specs.Part.{part_of}
use Rattle.solid_polygon.specs.Work.{corner_at}
use Rattle.wall_ray.specs.Strike.{is_within}
use Rattle.wall_ray.proofs.ScanLaws.{Scanned}
use Rattle.wall_ray.proofs.scan.scan.Given as goal

abbrev pub invariant-next : goal.invariant-next
invariant-next l = Scanned (part_of l.file) l.ray l.p l.best

abbrev pub invariant-loop-k : goal.invariant-loop-k
invariant-loop-k l = all_below l.k (is_within (corner_at l.file l.first) l.n l.plane.normal l.q) ≡ true
