-- The walls of a print, as dfm.rs's `printing` finds them: "One measured along the build direction is a floor or roof, made of layers; any other is made of
-- lines the nozzle lays (or the laser draws) side by side." Definitions only.
use Rattle.std.specs.Prelude.{Bool, false, not, ◌&&◌, cond, List, [], ◌∷◌, ℕ, Float}
use Rattle.std.specs.Float.{binary64, inf}
use Rattle.std.specs.Float.Ieee.{add, mul, div, lt, of_bits}
use Rattle.num_real.specs.Select.{abs_of}
use Rattle.math.specs.declared.Vec3.{Vec3}
use Rattle.math.specs.Vector.{dot_of}
use Rattle.file_part.specs.Part.{Part}
use Rattle.solid_polygon.specs.Polygon.{half}
use Rattle.solid_faces.specs.Faces.{polygon_plane}
use Rattle.wall_ray.specs.Strike.{e_9}
use Rattle.wall_samples.specs.Samples.{readings_of}
use Rattle.wall_samples.specs.Stored.{reading}
use Rattle.wall_pairs.specs.Walls.{over_walls}
use Rattle.print_height.specs.Height.{up_of}
use Rattle.fault_row.specs.declared.fault.Severity.{Severity}
use Rattle.fault_row.specs.declared.fault.Severity.TheVariants.{Error, Warning}
use Rattle.fault_row.specs.declared.flaw.Flaw.{Flaw}
use Rattle.fault_row.specs.declared.flaw.Flaw.TheVariants.{ThinnerThanALayer, FewLayers, ThinnerThanTheNozzle, PrintThinWall}
use Rattle.fault_text.specs.Printing.{two_layers}
use Rattle.print_walls.specs.declared.Thinnest.{Thinnest}

-- the f64 0.99
abbrev pub ninety_nine : Float
ninety_nine = of_bits binary64 0x3fef_ae14_7ae1_47ae

-- ---- the readings between two faces
-- `s.normal.dot(up).abs() > 0.99`
unfoldable pub is_stacked : Part → Vec3 → ℕ → Bool
is_stacked t up k = lt ninety_nine (abs_of (dot_of (polygon_plane t (reading (readings_of t) k).polygon).normal up))

-- `if s.thickness < e.0 { *e = (s.thickness, stacked); }`
unfoldable pub with_reading : Part → Vec3 → Thinnest → ℕ → Thinnest
with_reading t up e k =
    cond (lt (reading (readings_of t) k).thickness e.thickness) (record { thickness = (reading (readings_of t) k).thickness; stacked = is_stacked t up k }) e

unfoldable pub thinnest_from : Part → Vec3 → Thinnest → List ℕ → Thinnest
thinnest_from t up e [] = e
thinnest_from t up e (k ∷ l) = thinnest_from t up (with_reading t up e k) l

-- `or_insert((f64::INFINITY, stacked))`, by the first of them. (Of no readings, which nothing asks for, infinity.)
unfoldable pub thinnest_of : Part → Vec3 → List ℕ → Thinnest
thinnest_of t up [] = record { thickness = inf false; stacked = false }
thinnest_of t up (k ∷ l) = thinnest_from t up (record { thickness = inf false; stacked = is_stacked t up k }) (k ∷ l)

-- ---- the fault of a wall x thick between faces f and g: none or one
-- `t < need`, then `t + 1e-9 < print.layer`
unfoldable pub floor_flaw : Part → ℕ → ℕ → Float → List Flaw
floor_flaw t f g x =
    cond (lt x (two_layers t.job.print.layer))
    (cond (lt (add binary64 x e_9) t.job.print.layer) (ThinnerThanALayer f g x ∷ []) (FewLayers f g x (div binary64 x t.job.print.layer) ∷ [])) []

-- `print.nozzle.is_none() && t < 0.5 * print.min_wall`
unfoldable pub wall_severity : Part → Float → Severity
wall_severity t x = cond (not t.job.print.has_nozzle && lt x (mul binary64 half t.job.print.min_wall)) Error Warning

-- `Some(n) if t + 1e-9 < n`, then `t + 1e-9 < print.min_wall`
unfoldable pub side_flaw : Part → ℕ → ℕ → Float → List Flaw
side_flaw t f g x =
    cond (t.job.print.has_nozzle && lt (add binary64 x e_9) t.job.print.nozzle) (ThinnerThanTheNozzle f g x ∷ [])
    (cond (lt (add binary64 x e_9) t.job.print.min_wall) (PrintThinWall (wall_severity t x) f g x ∷ []) [])

unfoldable pub wall_flaw : Part → ℕ → ℕ → Thinnest → List Flaw
wall_flaw t f g e = cond e.stacked (floor_flaw t f g e.thickness) (side_flaw t f g e.thickness)

-- `for ((a, b), (t, stacked)) in thinnest`
unfoldable pub print_walls_of : Part → List Flaw
print_walls_of t = over_walls t (λ f g l. wall_flaw t f g (thinnest_of t (up_of t) l))
