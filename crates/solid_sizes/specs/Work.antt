-- What laws speak of on the way; a reader may pass over it. Definitions only.
use Rattle.std.specs.Prelude.{ℕ, ◌<◌, T}
use Rattle.std.specs.Float.{binary64}
use Rattle.std.specs.Float.Ieee.{fits}
use Rattle.math.specs.declared.Vec3.{Vec3}
use Rattle.math.specs.Size.{VecWithin}
use Rattle.file_part.specs.declared.read.SurfaceKind.{SurfaceKind}
use Rattle.file_part.specs.declared.read.SurfaceKind.TheVariants.{Plane, Cylinder, Revolved, Other}
use Rattle.solid_sizes.specs.Sizes.{VecFits}

-- ---- beside Sizes.antt
-- the corners c below n have coordinates of at most 10,000 in size: "coordinates and origins within ±1e4"
unfoldable pub Near : (ℕ → Vec3) → ℕ → Type 0
Near c n = (k : ℕ) → k < n → VecWithin (c k) 10000

-- the numbers of a surface are f64
unfoldable pub SurfaceFits : SurfaceKind → Type 0
SurfaceFits Plane = Unit {0}
SurfaceFits (Cylinder o d r) = VecFits o × VecFits d × T (fits binary64 r)
SurfaceFits (Revolved o d) = VecFits o × VecFits d
SurfaceFits Other = Unit {0}
