-- What the functions of this crate leave on the way. A reader may pass over it.
use Rattle.std.specs.Prelude.{◌≡◌, true, List, ℕ, ◌+◌, ◌≤◌, ◌<◌, length, Float}
use Rattle.std.specs.Float.{nan}
use Rattle.list_laws.specs.Region.{Outside}
use Rattle.num_text.specs.Decimal.{accepted}
use Rattle.file_part.specs.Part.{Part, part_of}
use Rattle.solid_faces.specs.Faces.{faces_of}
use Rattle.scratch.specs.declared.regions.Regions.{Regions}
use Rattle.scratch.specs.Standing.{Standing}
use Rattle.solid_ranks.specs.Kept.{Ranked}
use Rattle.wall_samples.specs.Samples.{readings_of}
use Rattle.round_all.specs.declared.round.Round.{Round}
use Rattle.measure_sizes.specs.Round.{RoundBounds}
use Rattle.wall_pairs.specs.declared.NextWall.{NextWall}
use Rattle.fault_row.specs.declared.flaw.Flaw.{Flaw}
use Rattle.fault_row.specs.Flaws.{FlawsPut}
use Rattle.rule_corners.specs.fault_text.specs.Job.{min_wall_of}
use Rattle.rule_corners.specs.fault_text.specs.Good.{Good}
use Rattle.rule_machining.specs.declared.machining.WallCounts.{WallCounts}
use Rattle.rule_machining.specs.Machining.{wall_flaw, thin_walls}

-- the flaws that `rule` finds in a round are put; at most as many as `most`
pub record RoundPut (rule : Round → List Flaw) (most : ℕ) (round : Round) (from : ℕ) (cells cells' : List ℕ) (numbers numbers' : List Float) (r : ℕ) : Type 0 where
  pub few : r ≤ from + most
  pub put : (t : Part) → round.face < faces_of t → RoundBounds round → FlawsPut (Good t) from (rule round) cells cells' numbers numbers' r

-- the fault of a wall x thick, or none, in any part whose thinnest wall is `least`
pub record WallPut (wall : NextWall) (x least : Float) (from : ℕ) (cells cells' : List ℕ) (numbers numbers' : List Float) (r : ℕ) : Type 0 where
  pub few : r ≤ from + 1
  pub put : (t : Part) → min_wall_of t ≡ least → wall.first < faces_of t → wall.second < faces_of t → accepted x 2 ≡ true → accepted least 2 ≡ true →
      FlawsPut (Good t) from (wall_flaw t wall.first wall.second x) cells cells' numbers numbers' r

-- ---- between the rules
-- a body that stands, with the ranks of its faces
pub record Ready (s : List ℕ) (at : Regions) (words : List ℕ) (reals : List Float) : Type 0 where
  pub standing : Standing s at words reals
  pub ranked : Ranked (part_of s) at words

-- a rule has put its faults after `from` others, and left the body and the ranks
pub record RulePut (rule : Part → List Flaw) (s : List ℕ) (at : Regions) (from : ℕ) (words words' : List ℕ) (reals reals' : List Float) (cells cells' : List ℕ) (numbers numbers' : List Float)
    (r : ℕ) : Type 0 where
  pub ready : Ready s at words' reals'
  pub put : FlawsPut (Good (part_of s)) from (rule (part_of s)) cells cells' numbers numbers' r
  pub words_kept : Outside 0 at.items at.words words words'
  pub reals_kept : Outside nan at.falling at.free reals reals'

-- the walls: how many readings there are too
pub record WallsFound (s : List ℕ) (at : Regions) (words words' : List ℕ) (reals reals' : List Float) (cells cells' : List ℕ) (numbers numbers' : List Float) (r : WallCounts) : Type 0 where
  pub rule : RulePut thin_walls s at 0 words words' reals reals' cells cells' numbers numbers' r.faults
  pub readings : r.readings ≡ length (readings_of (part_of s))
  pub few : r.faults ≤ 4096
