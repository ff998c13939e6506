-- The thickness readings of a part as lists of numbers. Definitions only.
use Rattle.std.specs.Prelude.{◌≡◌, ◌||◌, List, [], ◌∷◌, ℕ, ◌+◌, ◌*◌, ◌<◌, ltb, length, get_or, Float}
use Rattle.std.specs.Float.{nan}
use Rattle.list_laws.specs.Region.{part, Outside}
use Rattle.file_part.specs.Layout.{polygon_count_of}
use Rattle.file_part.specs.Part.{Part, part_of}
use Rattle.file_ok.specs.Verdict.{or_too_little}
use Rattle.scratch.specs.Refusal.{body_refusal_of}
use Rattle.wall_samples.specs.declared.sample.Sample.{Sample}
use Rattle.wall_samples.specs.Samples.{readings_of, sample_of}
use Rattle.wall_samples.specs.Stored.{reading}
use Rattle.probe.specs.Scratch.{ReadingsPut}

-- ---- the cells of a reading
-- u32: its face and the face that it hits, by their numbers
unfoldable pub face_cells_of : Sample → List ℕ
face_cells_of x = x.face ∷ x.hit ∷ []

-- f64: thickness, area, point and normal
unfoldable pub number_cells_of : Sample → List Float
number_cells_of x = x.thickness ∷ x.area ∷ x.point.x ∷ x.point.y ∷ x.point.z ∷ x.normal.x ∷ x.normal.y ∷ x.normal.z ∷ []

-- ---- the lists
-- reading k of a part
abbrev pub sample : Part → ℕ → Sample
sample t k = sample_of t (reading (readings_of t) k)

-- the u32 list: how many readings there are, then the cells of each; the f64 list: the cells of each. Cells past them are as they were.
pub record SampleList (t : Part) (faces faces' : List ℕ) (numbers numbers' : List Float) : Type 0 where
  pub count : get_or faces' 0 0 ≡ length (readings_of t)
  pub face_cells : (k : ℕ) → k < length (readings_of t) → part (2 * k + 1) (2 * k + 3) faces' ≡ face_cells_of (sample t k)
  pub number_cells : (k : ℕ) → k < length (readings_of t) → part (8 * k) (8 * k + 8) numbers' ≡ number_cells_of (sample t k)
  pub faces_kept : Outside 0 0 (2 * length (readings_of t) + 1) faces faces'
  pub numbers_kept : Outside nan 0 (8 * length (readings_of t)) numbers numbers'

-- ---- the answer
-- the body's refusals, then 10 for lists of fewer cells than so many polygons can need
unfoldable pub samples_refusal : List ℕ → ℕ → ℕ → ℕ → ℕ → ℕ
samples_refusal s words reals faces numbers = or_too_little (body_refusal_of s words reals) (ltb faces (2 * polygon_count_of s + 1) || ltb numbers (8 * polygon_count_of s))

-- "1 to 10 .. change no buffer"; else the scratch holds the body and the readings, and the lists hold the readings
pub record SamplesListed (s words words' : List ℕ) (reals reals' : List Float) (faces faces' : List ℕ) (numbers numbers' : List Float) (r : ℕ) : Type 0 where
  pub answer : r ≡ samples_refusal s (length words) (length reals) (length faces) (length numbers)
  pub refused : (r ≡ 0 → ⊥) → (words' ≡ words) × (reals' ≡ reals) × (faces' ≡ faces) × (numbers' ≡ numbers)
  pub scratch : r ≡ 0 → ReadingsPut s words words' reals reals'
  pub lists : r ≡ 0 → SampleList (part_of s) faces faces' numbers numbers'
