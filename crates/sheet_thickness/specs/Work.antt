-- What the functions of this crate leave on the way. A reader may pass over it.
use Rattle.std.specs.Prelude.{◌≡◌, Bool, ◌&&◌, ◌||◌, cond, List, ℕ, ◌+◌, ◌-◌, ◌<◌, eqb, length, get_or, take, Float}
use Rattle.std.specs.Float.Ieee.{lt}
use Rattle.std.specs.Float.{nan}
use Rattle.list_laws.specs.Region.{Outside}
use Rattle.list_sort.specs.Sorted.{in_order_of}
use Rattle.list_groups.specs.Groups.{passing}
use Rattle.list_median.specs.Median.{weight_to, Median}
use Rattle.file_part.specs.Part.{Part}
use Rattle.solid_faces.specs.Faces.{faces_of}
use Rattle.scratch.specs.declared.regions.Regions.{Regions}
use Rattle.wall_pairs.specs.Walls.{face_from, face_hit}
use Rattle.sheet_thickness.specs.declared.Middle.{Middle}
use Rattle.sheet_thickness.specs.Thickness.{is_off_by, kept_readings, kept_area, thickness_of, thinnest_of, thickest_of}
use Rattle.sheet_thickness.specs.Kept.{Distances}

-- the distances are put, and nothing else has changed
pub record DistancesPut (t : Part) (at : Regions) (reals reals' : List Float) : Type 0 where
  pub distances : Distances t at reals'
  pub kept : Outside nan at.falling at.thickness reals reals'

-- by the distances that stand: the reading is farther than the limit from the segments
unfoldable pub is_far : Regions → Float → List Float → ℕ → Bool
is_far at limit reals k = lt limit (get_or reals (at.falling + k) nan)

-- .. and its thickness is off
unfoldable pub is_far_off : Regions → Float → Float → List Float → ℕ → Bool
is_far_off at limit thickness reals k = is_far at limit reals k && is_off_by thickness (get_or reals (at.thickness + k) nan)

-- the r numbers below m that pass the test stand from `from` on
pub record PassingPut (test : ℕ → Bool) (m from : ℕ) (words words' : List ℕ) (r : ℕ) : Type 0 where
  pub count : r ≡ length (passing test m)
  pub each : (i : ℕ) → i < r → get_or words' (from + i) 0 ≡ get_or (passing test m) i 0
  pub kept : Outside 0 from (from + m) words words'

-- the readings that are kept stand in the order
pub record KeptStand (t : Part) (at : Regions) (words : List ℕ) : Type 0 where
  pub each : (i : ℕ) → i < length (kept_readings t) → get_or words (at.order + i) 0 ≡ get_or (kept_readings t) i 0

-- n pairs of value and weight are sorted, and r is what their order gives
pub record SortedMiddle (values weights : List Float) (n : ℕ) (before after : List ℕ) (r : Middle) : Type 0 where
  pub median : Median values weights n before after r.value
  pub total : r.total ≡ weight_to weights (in_order_of values (take n before)) n
  pub thinnest : r.thinnest ≡ get_or values (get_or (in_order_of values (take n before)) 0 0) nan
  pub thickest : r.thickest ≡ get_or values (get_or (in_order_of values (take n before)) (n - 1) 0) nan

-- the median of the readings that are kept, and what else their order gives
pub record MiddleIs (t : Part) (r : Middle) : Type 0 where
  pub value : r.value ≡ thickness_of t
  pub total : r.total ≡ kept_area t
  pub thinnest : r.thinnest ≡ thinnest_of t
  pub thickest : r.thickest ≡ thickest_of t

-- the faces of reading k are marked, and nothing else has changed
pub record FacesMarked (t : Part) (at : Regions) (k : ℕ) (words words' : List ℕ) : Type 0 where
  pub each : (f : ℕ) → f < faces_of t → get_or words' (at.order + f) 0 ≡ cond (eqb (face_from t k) f || eqb (face_hit t k) f) 1 (get_or words (at.order + f) 0)
  pub kept : Outside 0 at.order at.kinds words words'
