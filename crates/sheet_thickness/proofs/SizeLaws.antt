-- The size of the thickness, the thinnest and the thickest: each is one of the readings.
use mathlib.Core.Path.{sym, subst}
use mathlib.Core.List.{List}
use Prim.Native.Nat.{ℕ, ◌-◌, ◌≤◌}
use native.Mathlib.Omega.{arith}
use lib.ListN.{length, get_or}
use Rattle.list_median.proofs.MedianLaws.{median_some}
use Rattle.file_part.specs.Part.{Part, part_of}
use Rattle.solid_faces.specs.Faces.{Checked}
use Rattle.wall_samples.specs.Samples.{readings_of}
use Rattle.wall_median.specs.measure_sizes.specs.Reading.{ReadingBounds}
use Rattle.wall_median.specs.measure_sizes.proofs.Readings.{reading_bounds}
use Rattle.wall_median.specs.Rough.{thicknesses, areas, reading_median}
use Rattle.wall_median.proofs.RoughLaws.{thickness_at}
use Rattle.sheet_thickness.specs.Thickness.{kept_readings, sorted_readings, thickness_of, thinnest_of, thickest_of}
use Rattle.sheet_thickness.proofs.ReadingLaws.{kept_below}
use Rattle.sheet_thickness.proofs.MiddleLaws.{sorted_below}

module _ (s : List ℕ) (h : Checked s) (some : 1 ≤ length (kept_readings (part_of s))) where
  abbrev t : Part
  t = part_of s

  middle : ReadingBounds (thickness_of t)
  unfolding thickness_of reading_median
  middle =
      median_some ReadingBounds (thicknesses (readings_of t)) (areas t (readings_of t)) (kept_readings t) (λ none. omega (arith, none, some))
      (λ i l. subst ReadingBounds (sym (thickness_at (readings_of t) (get_or (kept_readings t) i 0) (kept_below t i l))) (reading_bounds s h (get_or (kept_readings t) i 0) (kept_below t i l)))

  least : ReadingBounds (thinnest_of t)
  unfolding thinnest_of
  least = reading_bounds s h (get_or (sorted_readings t) 0 0) (sorted_below t 0 (omega (arith, some)))

  greatest : ReadingBounds (thickest_of t)
  unfolding thickest_of
  greatest = reading_bounds s h (get_or (sorted_readings t) (length (kept_readings t) - 1) 0) (sorted_below t (length (kept_readings t) - 1) (omega (arith, some)))

  pub thickness_bounds : ReadingBounds (thickness_of t) × ReadingBounds (thinnest_of t) × ReadingBounds (thickest_of t)
  thickness_bounds = (middle, least, greatest)
