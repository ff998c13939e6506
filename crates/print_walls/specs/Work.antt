-- What the functions of this crate leave on the way. A reader may pass over it.
use Rattle.std.specs.Prelude.{◌≡◌, Bool, not, ◌&&◌, cond, List, ℕ, ◌+◌, ◌≤◌, ◌<◌, length, Float}
use Rattle.std.specs.Float.{binary64}
use Rattle.std.specs.Float.Ieee.{add, mul, lt}
use Rattle.num_real.specs.Select.{abs_of}
use Rattle.math.specs.declared.Vec3.{Vec3}
use Rattle.math.specs.Vector.{dot_of}
use Rattle.file_job.specs.declared.PrintSettings.{PrintSettings}
use Rattle.file_part.specs.Part.{Part, part_of}
use Rattle.solid_polygon.specs.Polygon.{half}
use Rattle.solid_faces.specs.Faces.{faces_of, Checked}
use Rattle.wall_ray.specs.Strike.{e_9}
use Rattle.wall_samples.specs.declared.sample.Sample.{Sample}
use Rattle.measure_sizes.specs.Reading.{ReadingBounds}
use Rattle.wall_pairs.specs.declared.NextWall.{NextWall}
use Rattle.fault_row.specs.declared.fault.Severity.{Severity}
use Rattle.fault_row.specs.declared.fault.Severity.TheVariants.{Error, Warning}
use Rattle.fault_row.specs.declared.flaw.Flaw.{Flaw}
use Rattle.fault_row.specs.Flaws.{FlawsPut}
use Rattle.fault_text.specs.Good.{Good}
use Rattle.print_walls.specs.declared.Thinnest.{Thinnest}
use Rattle.print_walls.specs.Walls.{ninety_nine, floor_flaw, side_flaw}

-- `with_reading` of a reading as the rules read it
unfoldable pub with_sample : Vec3 → Thinnest → Sample → Thinnest
with_sample up e s = cond (lt s.thickness e.thickness) (record { thickness = s.thickness; stacked = lt ninety_nine (abs_of (dot_of s.normal up)) }) e

-- the test of `side_flaw`, and its severity, by the settings alone
unfoldable pub under_nozzle : PrintSettings → Float → Bool
under_nozzle p x = p.has_nozzle && lt (add binary64 x e_9) p.nozzle

unfoldable pub severity_by : PrintSettings → Float → Severity
severity_by p x = cond (not p.has_nozzle && lt x (mul binary64 half p.min_wall)) Error Warning

-- `wall_flaw` by its two parts
unfoldable pub flaw_by : Bool → Part → ℕ → ℕ → Float → List Flaw
flaw_by stacked t f g x = cond stacked (floor_flaw t f g x) (side_flaw t f g x)

-- the fault that `rule` finds in a wall x thick between two faces, or none, in any accepted file with these settings
pub record WallPut (rule : Part → ℕ → ℕ → Float → List Flaw) (settings : PrintSettings) (wall : NextWall) (x : Float) (from : ℕ) (cells cells' : List ℕ) (numbers numbers' : List Float)
    (r : ℕ) : Type 0 where
  pub few : r ≤ from + 1
  pub cells_long : length cells' ≡ length cells
  pub numbers_long : length numbers' ≡ length numbers
  pub put : (s : List ℕ) → Checked s → settings ≡ (part_of s).job.print → wall.first < faces_of (part_of s) → wall.second < faces_of (part_of s) → ReadingBounds x →
      FlawsPut (Good (part_of s)) from (rule (part_of s) wall.first wall.second x) cells cells' numbers numbers' r
