-- What is known of a file that none of refusals 1 to 7 turns back, as later layers use it. Definitions only.
use Rattle.std.specs.Prelude.{◌≡◌, true, List, ℕ, ◌+◌, ◌≤◌}
use Rattle.std.specs.Float.Ieee.{le}
use Rattle.file_part.specs.math.specs.declared.Vec3.{Vec3}
use Rattle.file_part.specs.math.specs.Size.{VecWithin}
use Rattle.file_part.specs.file_field.specs.Test.{ten_thousand}
use Rattle.file_part.specs.file_field.specs.Direction.{Directed}
use Rattle.file_job_ok.specs.Rules.{thousandth}
use Rattle.file_part.specs.declared.read.SurfaceKind.{SurfaceKind}
use Rattle.file_part.specs.declared.read.SurfaceKind.TheVariants.{Plane, Cylinder, Revolved, Other}
use Rattle.file_part.specs.Layout.{entry_at}
use Rattle.file_part.specs.Part.{first_at, count_at_of}
use Rattle.file_ok.specs.Rules.{run_start}

-- the run of polygon p of a file with v vertices lies inside the vertex block
pub record Run (s : List ℕ) (v p : ℕ) : Type 0 where
  pub first : first_at s (entry_at v p) ≡ run_start s v p
  pub least : 3 ≤ count_at_of s (entry_at v p)
  pub most : count_at_of s (entry_at v p) ≤ 64
  pub inside : run_start s v p + count_at_of s (entry_at v p) ≤ v

-- origin and direction of an axis
pub record Axis (origin direction : Vec3) : Type 0 where
  pub near : VecWithin origin 10000
  pub directed : Directed direction

-- the numbers of a surface are in their ranges
unfoldable pub SurfaceWithin : SurfaceKind → Type 0
SurfaceWithin Plane = Unit {0}
SurfaceWithin (Cylinder o d r) = Axis o d × (le thousandth r ≡ true) × (le r ten_thousand ≡ true)
SurfaceWithin (Revolved o d) = Axis o d
SurfaceWithin Other = Unit {0}
