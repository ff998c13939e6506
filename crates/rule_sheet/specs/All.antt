-- All faults of sheet metal, what else is found of a sheet, and what the function that finds them leaves. Definitions only.
use Rattle.std.specs.Prelude.{◌≡◌, Bool, true, not, ◌&&◌, cond, List, [], ◌∷◌, ◌++◌, ℕ, ◌≤◌, leb, length, Float}
use Rattle.std.specs.Float.{nan}
use Rattle.list_laws.specs.Region.{Outside}
use Rattle.file_part.specs.Part.{Part, part_of}
use Rattle.scratch.specs.declared.regions.Regions.{Regions}
use Rattle.scratch.specs.Standing.{Standing}
use Rattle.solid_ranks.specs.Kept.{Ranked}
use Rattle.sheet_thickness.specs.Thickness.{kept_readings, thickness_of, thinnest_of, thickest_of, is_uneven}
use Rattle.sheet_thickness.specs.Kept.{OffFaces}
use Rattle.sheet_bends.specs.Bends.{bend_count}
use Rattle.fault_row.specs.declared.summary.Summary.{Summary}
use Rattle.fault_row.specs.declared.summary.Found.{Found}
use Rattle.fault_row.specs.declared.flaw.Flaw.{Flaw}
use Rattle.fault_row.specs.declared.flaw.Flaw.TheVariants.{NotOneThickness}
use Rattle.fault_row.specs.Flaws.{FlawsPut}
use Rattle.fault_row.specs.Summary.{no_summary, sheet_summary}
use Rattle.rule_flanges.specs.fault_text.specs.Good.{Good}
use Rattle.rule_flanges.specs.Flanges.{short_flanges}
use Rattle.rule_holes.specs.Holes.{sheet_holes}
use Rattle.rule_sheet.specs.Material.{is_formed, material_flaws}
use Rattle.rule_sheet.specs.Tight.{tight_bends}

-- `Not one thickness`: "its faces are those of all readings that are off", which `told` finds
unfoldable pub uneven_flaw : Part → Flaw
uneven_flaw t = NotOneThickness (thinnest_of t) (thickest_of t) (thickness_of t)

-- a sheet of this thickness: its bends, its flanges, its holes
unfoldable pub bent_flaws : Part → Float → List Flaw
bent_flaws t thick = tight_bends t thick ++ (short_flanges t thick ++ sheet_holes t thick)

-- `if samples.is_empty() { return; }` fails
unfoldable pub is_measured : Part → Bool
is_measured t = leb 1 (length (kept_readings t))

-- of a part that can be formed: nothing more where no reading is kept, and nothing else where it is not one thickness
unfoldable pub formed_flaws : Part → List Flaw
formed_flaws t = cond (is_measured t) (cond (is_uneven t) (uneven_flaw t ∷ []) (bent_flaws t (thickness_of t))) []

-- dfm.rs's `sheet_metal`, in its order
unfoldable pub sheet_metal : Part → List Flaw
sheet_metal t = material_flaws t.job ++ cond (is_formed t.job) (formed_flaws t) []

-- `report.thickness = Some(t)` is reached
unfoldable pub is_sheet : Part → Bool
is_sheet t = is_formed t.job && (is_measured t && not (is_uneven t))

-- the thickness and the number of bends, where it is
unfoldable pub summary_of : Part → Summary
summary_of t = cond (is_sheet t) (sheet_summary (thickness_of t) (bend_count t (thickness_of t))) no_summary

-- The faults are put as the rows from 0 on, as far as rows are lent. The body still stands in the scratch, with the ranks of its faces, and where the
-- part is not one thickness the marks of the faces that are off; its other cells from `items` and from `falling` on are work.
pub record SheetPut (s : List ℕ) (at : Regions) (words words' : List ℕ) (reals reals' : List Float) (cells cells' : List ℕ) (numbers numbers' : List Float) (r : Found) : Type 0 where
  pub put : FlawsPut (Good (part_of s)) 0 (sheet_metal (part_of s)) cells cells' numbers numbers' r.faults
  pub few : r.faults ≤ 4194304
  pub summary : r.summary ≡ summary_of (part_of s)
  pub standing : Standing s at words' reals'
  pub ranked : Ranked (part_of s) at words'
  pub marks : is_formed (part_of s).job ≡ true → is_measured (part_of s) ≡ true → is_uneven (part_of s) ≡ true → OffFaces (part_of s) at words'
  pub words_kept : Outside 0 at.items at.words words words'
  pub reals_kept : Outside nan at.falling at.reals reals reals'
