-- What the functions of this crate leave on the way. A reader may pass over it.
use Rattle.std.specs.Prelude.{Bool, true, false, cond, List, Option, Some, None, ◌≡◌, ℕ, ◌+◌, ◌*◌, ◌^◌, ◌≤◌, ◌<◌, drop, length, get_or, Float}
use Rattle.std.specs.Float.Ieee.{lt}
use Rattle.num_float.specs.Sign.{NonNeg}
use Rattle.num_float.specs.Within.{Within}
use Rattle.list_groups.specs.Groups.{joined}
use Rattle.file_part.specs.Part.{Part}
use Rattle.solid_faces.specs.Faces.{faces_of}
use Rattle.solid_tours.specs.declared.tour.Group.{Group}
use Rattle.round_all.specs.declared.round.Round.{Round}
use Rattle.round_all.specs.Round.{round_of}
use Rattle.measure_sizes.specs.Reading.{ReadingBounds}
use Rattle.measure_sizes.specs.Round.{RoundBounds}
use Rattle.fault_row.specs.Flaws.{FlawsPut}
use Rattle.fault_text.specs.Good.{Good}
use Rattle.rule_holes.specs.declared.nearest.Gap.{Gap}
use Rattle.rule_holes.specs.declared.holes.Limits.{Limits}
use Rattle.rule_holes.specs.Name.{starts_with}
use Rattle.rule_holes.specs.Nearest.{plates_of, is_among, gap_between}
use Rattle.rule_holes.specs.Holes.{min_hole_of, need_of, small_hole, gap_flaw, hole_flaws}

-- ---- beside Name.antt
-- the text has these bytes from place `at` on
unfoldable pub starts_at : List ℕ → List ℕ → ℕ → Bool
starts_at word text at = starts_with word (drop at text)

-- ---- on the way
-- 1 for each flat face around the hole h, 0 for the other faces
pub record Plates (t : Part) (h : ℕ) (plates : List ℕ) : Type 0 where
  pub each : (g : ℕ) → g < faces_of t → get_or plates g 0 ≡ cond (is_among (plates_of t h) g) 1 0
  pub long : faces_of t ≤ length plates

-- what is nearest, if anything, is a face of the part
unfoldable pub NearestThere : Part → Option Gap → Type 0
NearestThere t None = Unit {0}
NearestThere t (Some n) = n.other < faces_of t

-- the edge between the two faces of a group is no nearer than the nearest so far
pub record NoNearer (t : Part) (hole : Round) (group : Group) (best : Option Gap) : Type 0 where
  pub nearest : Gap
  pub found : best ≡ Some nearest
  pub not_less : lt (gap_between t hole group.face group.other) nearest.gap ≡ false

-- the limits of a sheet
pub record LimitsOf (t : Part) (thick : Float) (l : Limits) : Type 0 where
  pub hole : l.hole ≡ min_hole_of t thick
  pub bend : l.bend ≡ need_of t thick true
  pub edge : l.edge ≡ need_of t thick false

-- the fault of a small hole, or none, in any part where holes are to be so large
pub record SmallPut (hole : Round) (least : Float) (from : ℕ) (cells cells' : List ℕ) (numbers numbers' : List Float) (r : ℕ) : Type 0 where
  pub few : r ≤ from + 1
  pub put : (t : Part) (thick : Float) → least ≡ min_hole_of t thick → hole ≡ round_of t hole.face → ReadingBounds thick → RoundBounds hole → hole.face < faces_of t →
      FlawsPut (Good t) from (small_hole t thick hole.face) cells cells' numbers numbers' r

-- the fault of a hole, face h, that is closer than `need` to what is nearest, or none, in any part
pub record ClosePut (nearBend : Bool) (need : Float) (h : ℕ) (nearest : Gap) (from : ℕ) (cells cells' : List ℕ) (numbers numbers' : List Float) (r : ℕ) : Type 0 where
  pub few : r ≤ from + 1
  pub put : (t : Part) → Within need (2 ^ 20) → h < faces_of t → nearest.other < faces_of t → NonNeg need →
      FlawsPut (Good t) from (gap_flaw nearBend need h nearest) cells cells' numbers numbers' r

-- the faults of a part's holes below face f are put
pub record HolesTo (t : Part) (thick : Float) (f from : ℕ) (cells cells' : List ℕ) (numbers numbers' : List Float) (r : ℕ) : Type 0 where
  pub few : r ≤ from + 2 * f
  pub put : FlawsPut (Good t) from (joined (hole_flaws t thick) f) cells cells' numbers numbers' r
