-- The thinnest of some readings: one more at a time, as `thinnest_reading` finds it, and how thick it is.
use mathlib.Core.Path.{◌≡◌, refl, sym, ap, ap₂, ◌∙◌, subst}
use mathlib.Core.Bool.{Bool, true, false, cond}
use mathlib.Core.List.{List, [], ◌∷◌, ◌++◌, Memᴰ}
use Prim.Native.Nat.{ℕ, ◌+◌, ◌-◌, ◌≤◌, ◌<◌}
use native.Mathlib.Omega.{arith}
use lib.Dec.{T}
use lib.ListN.{length, get_or, take, drop}
use lib.Ieee.{Float, fin, inf, nan, binary64, lt, of_bits}
use lib.Ieee.Scale.{finite}
use Rattle.num_real.specs.Select.{abs_of}
use Rattle.num_float.proofs.Tests.{cond_has}
use Rattle.math.specs.declared.Vec3.{Vec3}
use Rattle.math.specs.Vector.{dot_of}
use Rattle.list_laws.specs.Region.{part}
use Rattle.list_laws.proofs.Regions.{part_length, part_more, part_first}
use Rattle.file_part.specs.Part.{Part, part_of}
use Rattle.scratch.specs.declared.regions.Regions.{Regions}
use Rattle.wall_samples.specs.declared.sample.Sample.{Sample}
use Rattle.wall_samples.specs.Samples.{readings_of, sample_of}
use Rattle.wall_samples.specs.Stored.{reading}
use Rattle.measure_sizes.specs.Reading.{ReadingBounds}
use Rattle.measure_sizes.proofs.Readings.{reading_bounds}
use Rattle.wall_pairs.specs.Work.{reading_order, WallsOrdered}
use Rattle.wall_pairs.proofs.WallLaws.{walls_below}
use Rattle.wall_pairs.proofs.StepLaws.{cell_is}
use Rattle.print_walls.specs.declared.Thinnest.{Thinnest}
use Rattle.print_walls.specs.Walls.{ninety_nine, is_stacked, with_reading, thinnest_from, thinnest_of}
use Rattle.print_walls.specs.Work.{with_sample}

-- ---- one reading, in the words of `with_sample`
pub sample_thinner : (up : Vec3) (e : Thinnest) (s : Sample) (b : Bool) → lt s.thickness e.thickness ≡ true → b ≡ lt ninety_nine (abs_of (dot_of s.normal up)) →
    record { thickness = s.thickness; stacked = b } ≡ with_sample up e s
unfolding with_sample
sample_thinner up e s b h k =
    ap (λ (c : Bool). record { thickness = s.thickness; stacked = c }) k
    ∙ sym (ap (λ (c : Bool). cond c (record { thickness = s.thickness; stacked = lt ninety_nine (abs_of (dot_of s.normal up)) }) e) h)

pub sample_other : (up : Vec3) (e : Thinnest) (s : Sample) → lt s.thickness e.thickness ≡ false → e ≡ with_sample up e s
unfolding with_sample
sample_other up e s h = sym (ap (λ (c : Bool). cond c (record { thickness = s.thickness; stacked = lt ninety_nine (abs_of (dot_of s.normal up)) }) e) h)

with_is : (t : Part) (up : Vec3) (e : Thinnest) (k : ℕ) → with_sample up e (sample_of t (reading (readings_of t) k)) ≡ with_reading t up e k
unfolding with_sample with_reading sample_of is_stacked
with_is t up e k = refl

stacked_is : (t : Part) (up : Vec3) (k : ℕ) → lt ninety_nine (abs_of (dot_of (sample_of t (reading (readings_of t) k)).normal up)) ≡ is_stacked t up k
unfolding sample_of is_stacked
stacked_is t up k = refl

-- ---- the loop
-- what `or_insert` puts for a first reading
abbrev start_of : Part → Vec3 → ℕ → Thinnest
start_of t up k = record { thickness = inf false; stacked = is_stacked t up k }

-- of the readings from place i to before place j, where the first is at place i
unfoldable pub thinnest_to : Part → Vec3 → List ℕ → ℕ → ℕ → Thinnest
thinnest_to t up xs i j = thinnest_from t up (start_of t up (get_or xs i 0)) (part i j xs)

from_more : (t : Part) (up : Vec3) (e : Thinnest) (l : List ℕ) (k : ℕ) → thinnest_from t up e (l ++ (k ∷ [])) ≡ with_reading t up (thinnest_from t up e l) k
unfolding thinnest_from
from_more t up e [] k = refl
from_more t up e (i ∷ l) k = from_more t up (with_reading t up e i) l k

module _ (t : Part) (up : Vec3) (xs : List ℕ) where
  pub thinnest_start : (i : ℕ) (s : Sample) (b : Bool) → s ≡ sample_of t (reading (readings_of t) (get_or xs i 0)) → b ≡ lt ninety_nine (abs_of (dot_of s.normal up)) →
      record { thickness = of_bits binary64 0x7ff0_0000_0000_0000; stacked = b } ≡ thinnest_to t up xs i i
  unfolding thinnest_to thinnest_from of_bits
  thinnest_start i s b es eb =
      let none : 0 ≡ i - i = omega arith in
      let flag : b ≡ is_stacked t up (get_or xs i 0) = eb ∙ ap (λ (z : Sample). lt ninety_nine (abs_of (dot_of z.normal up))) es ∙ stacked_is t up (get_or xs i 0) in
      ap (λ (c : Bool). record { thickness = inf false; stacked = c }) flag
      ∙ ap (λ (k : ℕ). thinnest_from t up (start_of t up (get_or xs i 0)) (take k (drop i xs))) none

  pub thinnest_more : (i j : ℕ) (e r : Thinnest) (s : Sample) → i ≤ j → j < length xs → e ≡ thinnest_to t up xs i j →
      s ≡ sample_of t (reading (readings_of t) (get_or xs j 0)) → r ≡ with_sample up e s → r ≡ thinnest_to t up xs i (j + 1)
  unfolding thinnest_to
  thinnest_more i j e r s l h ee es er =
      er ∙ ap₂ (with_sample up) ee es ∙ with_is t up (thinnest_to t up xs i j) (get_or xs j 0)
      ∙ sym (from_more t up (start_of t up (get_or xs i 0)) (part i j xs) (get_or xs j 0))
      ∙ ap (thinnest_from t up (start_of t up (get_or xs i 0))) (sym (part_more xs 0 i j l h))

  pub thinnest_end : (i j e : ℕ) (r : Thinnest) → i < e → e ≤ length xs → j ≤ e → e ≤ j → r ≡ thinnest_to t up xs i j → r ≡ thinnest_of t up (part i e xs)
  unfolding thinnest_to thinnest_of
  thinnest_end i j e r more inside a b h =
      let same : j ≡ e = omega (arith, a, b) in
      let first = part_first xs 0 i e more inside in
      h ∙ ap (λ (k : ℕ). thinnest_to t up xs i k) same ∙ ap (thinnest_from t up (start_of t up (get_or xs i 0))) first ∙ sym (ap (thinnest_of t up) first)

-- ---- it is the thickness of one of them
less_than_infinity : (y : Float) → T (finite y) → lt y (inf false) ≡ true
unfolding lt
less_than_infinity (fin s m e) h = refl
less_than_infinity (inf s) h = absurd h
less_than_infinity nan h = absurd h

abbrev Thick : Thinnest → Type 0
Thick e = ReadingBounds e.thickness

from_thick : (t : Part) (up : Vec3) (e : Thinnest) (l : List ℕ) → Thick e → ((z : ℕ) → Memᴰ z l → ReadingBounds (reading (readings_of t) z).thickness) → Thick (thinnest_from t up e l)
unfolding thinnest_from with_reading
from_thick t up e [] h each = h
from_thick t up e (k ∷ l) h each =
    from_thick t up (with_reading t up e k) l (cond_has Thick (lt (reading (readings_of t) k).thickness e.thickness) (each k (Memᴰ.head refl)) h) (λ z m. each z (Memᴰ.tail m))

of_thick : (t : Part) (up : Vec3) (l : List ℕ) → 0 < length l → ((z : ℕ) → Memᴰ z l → ReadingBounds (reading (readings_of t) z).thickness) → Thick (thinnest_of t up l)
unfolding thinnest_of thinnest_from with_reading
of_thick t up [] h each = absurd (omega (arith, h))
of_thick t up (k ∷ l) h each =
    let first : ReadingBounds (reading (readings_of t) k).thickness = each k (Memᴰ.head refl) in
    let taken = less_than_infinity (reading (readings_of t) k).thickness first.within.is_finite in
    from_thick t up (with_reading t up (start_of t up k) k) l
    (subst (λ (b : Bool). Thick (cond b (record { thickness = (reading (readings_of t) k).thickness; stacked = is_stacked t up k }) (start_of t up k))) (sym taken) first)
    (λ z m. each z (Memᴰ.tail m))

pub thinnest_bounds : (s : List ℕ) (at : Regions) (words : List ℕ) (reals : List Float) → WallsOrdered s at words reals → (up : Vec3) (i e : ℕ) → i < e → e ≤ length (readings_of (part_of s)) →
    ReadingBounds (thinnest_of (part_of s) up (part i e (reading_order at words))).thickness
thinnest_bounds s at words reals o up i e more to =
    let inside = o.sorted.grouped.inside in
    of_thick (part_of s) up (part i e (reading_order at words)) (omega (arith, part_length i e (reading_order at words) (omega (arith, to, inside)), more))
    (λ z m. reading_bounds s o.standing.placed.checked z (walls_below s at words reals o i e to z m))

-- ---- the reading at place j, in the words of `sample_in_order`
pub sample_in_place : (s : List ℕ) (at : Regions) (words : List ℕ) (reals : List Float) → WallsOrdered s at words reals → (j x : ℕ) (r : Sample) → j < length (readings_of (part_of s)) →
    x ≡ get_or words (at.order + j) 0 → r ≡ sample_of (part_of s) (reading (readings_of (part_of s)) x) →
    r ≡ sample_of (part_of s) (reading (readings_of (part_of s)) (get_or (reading_order at words) j 0))
sample_in_place s at words reals o j x r low is e =
    e ∙ ap (λ (k : ℕ). sample_of (part_of s) (reading (readings_of (part_of s)) k)) (is ∙ cell_is s at words reals o j low)
