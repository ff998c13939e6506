-- What the functions of this crate leave on the way. A reader may pass over it.
use Rattle.std.specs.Prelude.{◌≡◌, Bool, cond, List, [], ◌∷◌, ℕ, ◌+◌, ◌≤◌, ◌<◌, eqb, Float}
use Rattle.std.specs.Float.{nan, binary64}
use Rattle.std.specs.Float.Ieee.{add, lt}
use Rattle.list_laws.specs.Region.{Outside}
use Rattle.math.specs.declared.Vec3.{Vec3}
use Rattle.file_part.specs.Part.{Part, part_of}
use Rattle.solid_faces.specs.Faces.{faces_of, Checked}
use Rattle.solid_volumes.specs.Volume.{volume_of}
use Rattle.scratch.specs.declared.regions.Regions.{Regions}
use Rattle.scratch.specs.Standing.{Standing}
use Rattle.solid_ranks.specs.Kept.{Ranked}
use Rattle.round_frame.specs.declared.extent.Extent.{Extent}
use Rattle.round_all.specs.declared.round.Round.{Round}
use Rattle.measure_sizes.specs.Round.{RoundBounds, diameter_of}
use Rattle.wall_ray.specs.Strike.{e_9}
use Rattle.print_height.specs.Height.{up_of, heights_of}
use Rattle.print_overhang.specs.declared.Overhang.{Overhang}
use Rattle.print_overhang.specs.Overhang.{lean_of_word, overhang_count, overhang_area}
use Rattle.fault_row.specs.declared.flaw.Flaw.{Flaw}
use Rattle.fault_row.specs.declared.flaw.Flaw.TheVariants as flaw
use Rattle.fault_row.specs.Flaws.{FlawsPut}
use Rattle.print_walls.specs.fault_text.specs.Good.{Good}
use Rattle.rule_printing.specs.declared.printing.Upright.{Upright}
use Rattle.rule_printing.specs.Rules.{is_hollow, hollow_flaw}

-- the fault of so many open keys, or none, as the first of any part that has faces
pub record NotClosedPut (keys : ℕ) (cells cells' : List ℕ) (numbers numbers' : List Float) (r : ℕ) : Type 0 where
  pub few : r ≤ 1
  pub put : (t : Part) → 0 < faces_of t → FlawsPut (Good t) 0 (cond (eqb keys 0) [] (flaw.NotClosed keys ∷ [])) cells cells' numbers numbers' r

-- the fault of a small hole, or none, in any accepted file where holes are to be so large
pub record HolePut (hole : Round) (least : Float) (from : ℕ) (cells cells' : List ℕ) (numbers numbers' : List Float) (r : ℕ) : Type 0 where
  pub few : r ≤ from + 1
  pub put : (s : List ℕ) → Checked s → least ≡ (part_of s).job.print.min_hole → RoundBounds hole → hole.face < faces_of (part_of s) →
      FlawsPut (Good (part_of s)) from
      (cond (lt (add binary64 (diameter_of hole) e_9) least) (flaw.PrintSmallHole hole.face (diameter_of hole) ∷ []) []) cells cells' numbers numbers' r

-- the fault of a hollow, or none, in any accepted file
pub record HollowPut (sls : Bool) (b : ℕ) (volume : Float) (from : ℕ) (cells cells' : List ℕ) (numbers numbers' : List Float) (r : ℕ) : Type 0 where
  pub few : r ≤ from + 1
  pub put : (s : List ℕ) → Checked s → volume ≡ volume_of (part_of s) b → b < (part_of s).polygons → 0 < faces_of (part_of s) →
      FlawsPut (Good (part_of s)) from (cond (is_hollow (part_of s) b) (hollow_flaw (part_of s) sls b ∷ []) []) cells cells' numbers numbers' r

-- the build direction, the heights along it, and the limit
pub record HeightsAre (t : Part) (up : Vec3) (heights : Extent) (tenths : ℕ) : Type 0 where
  pub up_is : up ≡ up_of t
  pub heights_are : heights ≡ heights_of t
  pub limit_is : tenths ≡ t.job.print.overhang

-- the fault of what hangs over, or none, in any accepted file of which this is found
pub record OverhangPut (found : Overhang) (from : ℕ) (cells cells' : List ℕ) (numbers numbers' : List Float) (r : ℕ) : Type 0 where
  pub few : r ≤ from + 1
  pub put : (s : List ℕ) → Checked s → found.count ≡ overhang_count (part_of s) (lean_of_word (part_of s)) → found.area ≡ overhang_area (part_of s) (lean_of_word (part_of s)) → 0 < faces_of (part_of s) →
      FlawsPut (Good (part_of s)) from
      (cond (eqb found.count 0) [] (flaw.Overhang found.count found.area ∷ [])) cells cells' numbers numbers' r

-- ---- between the rules
-- the build direction, and the heights along it
pub record UprightIs (t : Part) (r : Upright) : Type 0 where
  pub up_is : r.up ≡ up_of t
  pub heights_are : r.heights ≡ heights_of t

-- a body that stands, with the ranks of its faces
pub record Ready (s : List ℕ) (at : Regions) (words : List ℕ) (reals : List Float) : Type 0 where
  pub standing : Standing s at words reals
  pub ranked : Ranked (part_of s) at words

-- a rule has put its faults after `from` others, at most as many as `most`, and left the body and the ranks
pub record RulePut (rule : Part → List Flaw) (most : ℕ) (s : List ℕ) (at : Regions) (from : ℕ) (words words' : List ℕ) (reals reals' : List Float) (cells cells' : List ℕ)
    (numbers numbers' : List Float) (r : ℕ) : Type 0 where
  pub ready : Ready s at words' reals'
  pub put : FlawsPut (Good (part_of s)) from (rule (part_of s)) cells cells' numbers numbers' r
  pub few : r ≤ from + most
  pub words_kept : Outside 0 at.items at.words words words'
  pub reals_kept : Outside nan at.falling at.free reals reals'
