-- All faults of machining, and what the function that finds them leaves. Definitions only.
use Rattle.std.specs.Prelude.{List, ◌++◌, ℕ, ◌≤◌, Float}
use Rattle.std.specs.Float.{nan}
use Rattle.list_laws.specs.Region.{Outside}
use Rattle.file_part.specs.Part.{Part, part_of}
use Rattle.scratch.specs.declared.regions.Regions.{Regions}
use Rattle.scratch.specs.Standing.{Standing}
use Rattle.solid_ranks.specs.Kept.{Ranked}
use Rattle.fault_row.specs.declared.flaw.Flaw.{Flaw}
use Rattle.fault_row.specs.Flaws.{FlawsPut}
use Rattle.rule_corners.specs.fault_text.specs.Good.{Good}
use Rattle.rule_corners.specs.Sharp.{sharp_corners}
use Rattle.rule_machining.specs.Machining.{thin_walls, rounds_flaws}

-- dfm.rs's `machining`, in its order. (A part without polygons has none: `machining_none` of the laws.)
unfoldable pub machining : Part → List Flaw
machining t = thin_walls t ++ (rounds_flaws t ++ sharp_corners t)

-- The faults are put as the rows from 0 on, as far as rows are lent, and r is their number. The body still stands in the scratch, with the ranks of
-- its faces; its other cells from `items` and from `falling` on are work.
pub record MachiningPut (s : List ℕ) (at : Regions) (words words' : List ℕ) (reals reals' : List Float) (cells cells' : List ℕ) (numbers numbers' : List Float) (r : ℕ) : Type 0 where
  pub put : FlawsPut (Good (part_of s)) 0 (machining (part_of s)) cells cells' numbers numbers' r
  pub few : r ≤ 65536
  pub standing : Standing s at words' reals'
  pub ranked : Ranked (part_of s) at words'
  pub words_kept : Outside 0 at.items at.words words words'
  pub reals_kept : Outside nan at.falling at.free reals reals'
