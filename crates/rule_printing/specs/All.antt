-- All faults of printing, what else is found of a print, and what the function that finds them leaves. Definitions only.
use Rattle.std.specs.Prelude.{◌≡◌, true, cond, List, [], ◌++◌, ℕ, ◌≤◌, Float}
use Rattle.std.specs.Float.{nan}
use Rattle.list_laws.specs.Region.{Outside}
use Rattle.file_part.specs.Part.{Part, part_of}
use Rattle.scratch.specs.declared.regions.Regions.{Regions}
use Rattle.scratch.specs.Standing.{Standing}
use Rattle.solid_ranks.specs.Kept.{Ranked}
use Rattle.print_height.specs.Height.{height_of}
use Rattle.print_walls.specs.Walls.{print_walls_of}
use Rattle.print_overhang.specs.Overhang.{lean_of_word}
use Rattle.print_overhang.specs.Kept.{Marks}
use Rattle.fault_row.specs.declared.summary.Summary.{Summary}
use Rattle.fault_row.specs.declared.summary.Found.{Found}
use Rattle.fault_row.specs.declared.flaw.Flaw.{Flaw}
use Rattle.fault_row.specs.Flaws.{FlawsPut}
use Rattle.fault_row.specs.Summary.{print_summary}
use Rattle.print_walls.specs.fault_text.specs.Good.{Good}
use Rattle.rule_printing.specs.Closed.{not_closed}
use Rattle.rule_printing.specs.Rules.{print_holes, overhangs, hollows, traps_hollows_of}

-- dfm.rs's `printing`, in its order
unfoldable pub printing : Part → List Flaw
printing t = not_closed t ++ (print_walls_of t ++ (print_holes t ++ (overhangs t ++ cond (traps_hollows_of t.job.process) (hollows t) [])))

-- `report.height = Some(top - base)`
unfoldable pub summary_of : Part → Summary
summary_of t = print_summary (height_of t)

-- The faults are put as the rows from 0 on, as far as rows are lent. The body still stands in the scratch, with the ranks of its faces, and where there
-- is a limit the marks of the faces that hang over; its other cells from `items` and from `falling` on are work.
pub record PrintingPut (s : List ℕ) (at : Regions) (words words' : List ℕ) (reals reals' : List Float) (cells cells' : List ℕ) (numbers numbers' : List Float) (r : Found) : Type 0 where
  pub put : FlawsPut (Good (part_of s)) 0 (printing (part_of s)) cells cells' numbers numbers' r.faults
  pub few : r.faults ≤ 65536
  pub summary : r.summary ≡ summary_of (part_of s)
  pub standing : Standing s at words' reals'
  pub ranked : Ranked (part_of s) at words'
  pub marks : (part_of s).job.print.has_overhang ≡ true → Marks (part_of s) (lean_of_word (part_of s)) at words'
  pub words_kept : Outside 0 at.items at.words words words'
  pub reals_kept : Outside nan at.falling at.free reals reals'
