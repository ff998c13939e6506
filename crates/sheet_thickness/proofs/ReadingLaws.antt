-- The tests of a reading by what stands in the scratch are those by the part.
use mathlib.Core.Path.{◌≡◌}
use mathlib.Core.List.{List}
use Prim.Native.Nat.{ℕ, ◌≤◌, ◌<◌}
use lib.ListN.{length, get_or}
use lib.Ieee.{Float}
use native.Mathlib.Omega.{arith}
use Rattle.list_laws.proofs.Count.{count_le}
use Rattle.list_groups.proofs.Counts.{passing_count}
use Rattle.file_part.specs.Part.{Part}
use Rattle.scratch.specs.declared.regions.Regions.{Regions}
use Rattle.wall_samples.specs.Samples.{readings_of}
use Rattle.wall_samples.specs.Stored.{Readings}
use Rattle.sheet_thickness.specs.Thickness.{edge_limit, is_kept, kept_readings, thickness_of, is_off}
use Rattle.sheet_thickness.specs.Kept.{Distances}
use Rattle.sheet_thickness.specs.Work.{is_far, is_far_off}
use Rattle.sheet_thickness.proofs.ListLaws.{passing_below}

-- ---- the readings that are kept
pub kept_below : (t : Part) (i : ℕ) → i < length (kept_readings t) → get_or (kept_readings t) i 0 < length (readings_of t)
unfolding kept_readings
kept_below t i l = passing_below (is_kept t) (length (readings_of t)) i l

pub kept_few : (t : Part) → length (kept_readings t) ≤ length (readings_of t)
unfolding kept_readings
kept_few t = omega (arith, passing_count (is_kept t) (length (readings_of t)), count_le (length (readings_of t)) (is_kept t))

module _ (t : Part) (at : Regions) (reals : List Float) (limit : Float) (d : Distances t at reals) (e : limit ≡ edge_limit t) where
  pub kept_is : (k : ℕ) → k < length (readings_of t) → is_far at limit reals k ≡ is_kept t k
  unfolding is_far is_kept
  kept_is k l = rw (e, d.each k l)

  pub off_is : (words : List ℕ) → Readings t at words reals → (thickness : Float) → thickness ≡ thickness_of t → (k : ℕ) → k < length (readings_of t) →
      is_far_off at limit thickness reals k ≡ is_off t k
  unfolding is_far_off is_off
  off_is words h thickness et k l = rw (kept_is k l, et, h.stored.thickness k l)
