-- What the functions of this crate leave on the way. A reader may pass over it.
use Rattle.std.specs.Prelude.{◌≡◌, true, not, ◌&&◌, cond, List, [], ◌∷◌, ℕ, ◌+◌, ◌≤◌, ◌<◌, length, Float}
use Rattle.std.specs.Float.{nan}
use Rattle.num_float.specs.Within.{Within}
use Rattle.num_float.specs.Sign.{NonNeg}
use Rattle.list_laws.specs.Region.{Outside}
use Rattle.file_job.specs.declared.Job.{Job}
use Rattle.file_part.specs.Part.{Part, part_of}
use Rattle.solid_faces.specs.Faces.{faces_of, Checked}
use Rattle.scratch.specs.declared.regions.Regions.{Regions}
use Rattle.scratch.specs.Standing.{Standing}
use Rattle.solid_ranks.specs.Kept.{Ranked}
use Rattle.solid_tours.specs.Work.Kept.{item_count, EdgesOrdered}
use Rattle.wall_samples.specs.Samples.{readings_of}
use Rattle.wall_samples.specs.Stored.{Readings}
use Rattle.round_all.specs.declared.round.Round.{Round}
use Rattle.round_all.specs.Round.{round_of}
use Rattle.round_all.specs.Kept.{Rounds}
use Rattle.measure_sizes.specs.Round.{RoundBounds}
use Rattle.sheet_thickness.specs.declared.Thickness.{Thickness}
use Rattle.sheet_thickness.specs.Thickness.{thickness_of, is_uneven}
use Rattle.sheet_thickness.specs.Kept.{ThicknessIs, OffFaces}
use Rattle.sheet_bends.specs.Bends.{bend_count}
use Rattle.fault_row.specs.declared.summary.Summary.{Summary}
use Rattle.fault_row.specs.declared.summary.Found.{Found}
use Rattle.fault_row.specs.Flaws.{FlawsPut}
use Rattle.fault_row.specs.Summary.{no_summary, sheet_summary}
use Rattle.rule_flanges.specs.fault_text.specs.Good.{Good}
use Rattle.rule_sheet.specs.declared.ready.Ready.{Ready}
use Rattle.rule_sheet.specs.Material.{material_flaws}
use Rattle.rule_sheet.specs.Tight.{tight_bend}
use Rattle.rule_sheet.specs.All.{uneven_flaw, is_measured, formed_flaws}

-- what is said of the material of this job, in any part that has a face
pub record MaterialPut (job : Job) (cells cells' : List ℕ) (numbers numbers' : List Float) (r : ℕ) : Type 0 where
  pub few : r ≤ 1
  pub put : (t : Part) → 0 < faces_of t → FlawsPut (Good t) 0 (material_flaws job) cells cells' numbers numbers' r

-- readings, rounds and edges stand, and nothing else has changed
pub record ReadyPut (s : List ℕ) (at : Regions) (words words' : List ℕ) (reals reals' : List Float) (r : Ready) : Type 0 where
  pub items_are : r.items ≡ item_count (part_of s)
  pub readings_are : r.readings ≡ length (readings_of (part_of s))
  pub readings : Readings (part_of s) at words' reals'
  pub rounds : Rounds (part_of s) at words' reals'
  pub ordered : EdgesOrdered s at words' reals'
  pub words_kept : Outside 0 at.items at.ranks words words'
  pub reals_kept : Outside nan at.falling at.reals reals reals'

-- the fault of a tight bend, or none, in any part
pub record TightPut (inner : Round) (outer : ℕ) (least : Float) (from : ℕ) (cells cells' : List ℕ) (numbers numbers' : List Float) (r : ℕ) : Type 0 where
  pub few : r ≤ from + 1
  pub put : (t : Part) → inner ≡ round_of t inner.face → RoundBounds inner → inner.face < faces_of t → outer < faces_of t → NonNeg least → Within least 17179869184 →
      FlawsPut (Good t) from (tight_bend t least inner.face outer) cells cells' numbers numbers' r

-- the fault of a part that is not one thickness, in any part of which this is measured
pub record UnevenPut (found : Thickness) (from : ℕ) (cells cells' : List ℕ) (numbers numbers' : List Float) (r : ℕ) : Type 0 where
  pub few : r ≤ from + 1
  pub put : (s : List ℕ) → Checked s → ThicknessIs (part_of s) found → 0 < faces_of (part_of s) →
      FlawsPut (Good (part_of s)) from (uneven_flaw (part_of s) ∷ []) cells cells' numbers numbers' r

-- what is found of a part that can be formed
unfoldable pub formed_summary : Part → Summary
formed_summary t = cond (is_measured t && not (is_uneven t)) (sheet_summary (thickness_of t) (bend_count t (thickness_of t))) no_summary

-- the rules that follow those on the material have put their faults after `from` others
pub record FormedPut (s : List ℕ) (at : Regions) (from : ℕ) (words words' : List ℕ) (reals reals' : List Float) (cells cells' : List ℕ) (numbers numbers' : List Float) (r : Found) : Type 0 where
  pub put : FlawsPut (Good (part_of s)) from (formed_flaws (part_of s)) cells cells' numbers numbers' r.faults
  pub few : r.faults ≤ 4194304
  pub summary : r.summary ≡ formed_summary (part_of s)
  pub standing : Standing s at words' reals'
  pub ranked : Ranked (part_of s) at words'
  pub marks : is_measured (part_of s) ≡ true → is_uneven (part_of s) ≡ true → OffFaces (part_of s) at words'
  pub words_kept : Outside 0 at.items at.words words words'
  pub reals_kept : Outside nan at.falling at.reals reals reals'
