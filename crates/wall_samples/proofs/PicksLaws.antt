-- The picks of a face, face by face: one more at a time, and how many readings there are at most.
use mathlib.Core.Path.{◌≡◌, refl, sym, ap, ◌∙◌, subst}
use mathlib.Core.Bool.{false, ◌&&◌, cond}
use mathlib.Core.List.{List, [], ◌++◌}
use mathlib.Core.Logic.{◌⊎◌, inl, inr}
use Prim.Native.Nat.{ℕ, zero, suc, ◌+◌, ◌*◌, ◌≤◌, ◌<◌}
use native.Mathlib.Omega.{arith}
use native.Mathlib.Numerals.{add-one}
use native.Mathlib.Nat.{le_antisymm, mul-le-mul_right, mul-le-mul_left, mul-one, le_trans, add-mul}
use lib.Dec.{ltb}
use lib.ListN.{length, get_or, length-append}
use borrow.Author.Tests.{ltb-false, lt-ltb, le-ltb}
use Rattle.num_float.proofs.Tests.{lt_or_ge}
use Rattle.file_part.specs.Part.{Part}
use Rattle.wall_tree.specs.wall_ray.specs.declared.strike.Hit.{Hit}
use Rattle.std.specs.Prelude.{Option, Some, None}
use Rattle.wall_tree.specs.wall_ray.specs.Nearest.{hit_of}
use Rattle.wall_starts.specs.Starts.{wanted, face_polygons, ordered_polygons, step_of}
use Rattle.wall_starts.proofs.ShareLaws.{step_least}
use Rattle.wall_starts.proofs.OrderLaws.{ordered_length, lengths_more, lengths_within}
use Rattle.wall_starts.specs.Work.{lengths_to}
use Rattle.wall_samples.specs.declared.cast.Reading.{Reading}
use Rattle.wall_samples.specs.Samples.{ray_of, readings_from, picks_to, face_readings, readings_to}
use Rattle.wall_samples.specs.Work.{back_hit, taken}
use Rattle.wall_samples.proofs.CastLaws.{readings_from_lem}

-- a step is one place at least
pub step_up : (i step : ℕ) → 1 ≤ step → i ≤ i * step
step_up i step h = subst (λ (k : ℕ). k ≤ i * step) (mul-one i) (mul-le-mul_left i h)

pub step_next : (i step : ℕ) → i * step + step ≡ (i + 1) * step
step_next i step = omega (arith, add-mul i 1 step)

-- ---- one pick more
taken_few : (p : ℕ) (h : Option Hit) → length (taken p h) ≤ 1
unfolding taken
taken_few p (Some h) = omega arith
taken_few p None = omega arith

pub reading_few : (t : Part) (q : ℕ) → length (readings_from t q) ≤ 1
reading_few t q =
    subst (λ (l : List Reading). length l ≤ 1) (sym (readings_from_lem t q (back_hit t q (hit_of t (ray_of t q))) refl))
    (taken_few q (back_hit t q (hit_of t (ray_of t q))))

module _ (t : Part) (order : List ℕ) (step : ℕ) where
  pub picks_none : picks_to t order step 0 ≡ []
  unfolding picks_to
  picks_none = refl

  picks_suc : (n : ℕ) → picks_to t order step (suc n) ≡ cond (ltb (n * step) (length order)) (picks_to t order step n ++ readings_from t (get_or order (n * step) 0)) (picks_to t order step n)
  unfolding picks_to
  picks_suc n = refl

  pub picks_more : (n : ℕ) → n * step < length order → picks_to t order step (n + 1) ≡ picks_to t order step n ++ readings_from t (get_or order (n * step) 0)
  picks_more n l = rw (add-one, picks_suc n, lt-ltb (n * step) (length order) l)

  pub picks_past : (n : ℕ) → length order ≤ n * step → picks_to t order step (n + 1) ≡ picks_to t order step n
  picks_past n l = rw (add-one, picks_suc n, le-ltb (n * step) (length order) l)

  -- past the last polygon none are added
  picks_stop : (i n : ℕ) → length order ≤ i * step → i ≤ n → picks_to t order step n ≡ picks_to t order step i
  picks_stop i zero l h = let same : 0 ≡ i = omega (arith, h) in ap (picks_to t order step) same
  picks_stop i (suc n) l h = go (picks_stop i n l) (lt_or_ge n i)
    where
      go : (i ≤ n → picks_to t order step n ≡ picks_to t order step i) → (n < i) ⊎ (i ≤ n) → picks_to t order step (suc n) ≡ picks_to t order step i
      go before (inl below) = let same : suc n ≡ i = omega (arith, below, h) in ap (picks_to t order step) same
      go before (inr above) = ap (picks_to t order step) (sym (add-one n)) ∙ picks_past n (le_trans l (mul-le-mul_right step above)) ∙ before above

  -- where the loop ends, all are there
  pub picks_all : (i want n : ℕ) → n ≡ length order → i ≤ want → (ltb i want && ltb (i * step) n) ≡ false → picks_to t order step i ≡ picks_to t order step want
  picks_all i want n e h k = go (lt_or_ge i want)
    where
      go : (i < want) ⊎ (want ≤ i) → picks_to t order step i ≡ picks_to t order step want
      go (inl below) =
          let past : ltb (i * step) n ≡ false = sym (rw (lt-ltb i want below) refl) ∙ k in
          sym (picks_stop i want (omega (arith, e, ltb-false (i * step) n past)) h)
      go (inr above) = ap (picks_to t order step) (le_antisymm h above)

  -- no more readings than picks, nor than polygons
  pub picks_few : (n : ℕ) → 1 ≤ step → (length (picks_to t order step n) ≤ n) × (length (picks_to t order step n) ≤ length order)
  picks_few zero h = (omega (arith, ap length picks_none), omega (arith, ap length picks_none))
  picks_few (suc n) h =
      subst (λ (k : ℕ). (length (picks_to t order step k) ≤ k) × (length (picks_to t order step k) ≤ length order)) (add-one n)
      (go (picks_few n h) (lt_or_ge (n * step) (length order)))
    where
      go : (length (picks_to t order step n) ≤ n) × (length (picks_to t order step n) ≤ length order) → (n * step < length order) ⊎ (length order ≤ n * step) →
          (length (picks_to t order step (n + 1)) ≤ n + 1) × (length (picks_to t order step (n + 1)) ≤ length order)
      go before (inl below) =
          let last = readings_from t (get_or order (n * step) 0) in
          let long : length (picks_to t order step (n + 1)) ≡ length (picks_to t order step n) + length last = ap length (picks_more n below) ∙ length-append (picks_to t order step n) last in
          let one = reading_few t (get_or order (n * step) 0) in
          (omega (arith, long, one, before.0), omega (arith, long, one, before.0, below, step_up n step h))
      go before (inr above) = let same = ap length (picks_past n above) in (omega (arith, same, before.0), omega (arith, same, before.1))

-- ---- face by face
pub readings_none : (t : Part) → readings_to t 0 ≡ []
unfolding readings_to
readings_none t = refl

readings_suc : (t : Part) (f : ℕ) → readings_to t (suc f) ≡ readings_to t f ++ face_readings t f
unfolding readings_to
readings_suc t f = refl

pub readings_more : (t : Part) (f : ℕ) → readings_to t (f + 1) ≡ readings_to t f ++ face_readings t f
readings_more t f = rw (add-one, readings_suc t f)

-- no more than polygons
face_few : (t : Part) (f : ℕ) → length (face_readings t f) ≤ length (face_polygons t f)
unfolding face_readings
face_few t f =
    omega (arith, (picks_few t (ordered_polygons t f) (step_of (length (ordered_polygons t f)) (wanted t f)) (wanted t f) (step_least _ _)).1, ordered_length t f)

pub readings_few : (t : Part) (f : ℕ) → length (readings_to t f) ≤ lengths_to t f
readings_few t zero = omega (arith, ap length (readings_none t))
readings_few t (suc f) =
    subst (λ (k : ℕ). length (readings_to t k) ≤ lengths_to t k) (add-one f)
    (omega (arith, readings_few t f, face_few t f, lengths_more t f, ap length (readings_more t f), length-append (readings_to t f) (face_readings t f)))

-- the readings of face f have their places after those of the faces before it
pub readings_room : (t : Part) (f : ℕ) → length (readings_to t f) + length (face_polygons t f) ≤ t.polygons
readings_room t f = omega (arith, readings_few t f, lengths_more t f, lengths_within t (f + 1))
