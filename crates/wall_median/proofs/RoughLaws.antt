-- The readings of a part as pairs of value and weight: what the lent parts hold, and what their median is.
use mathlib.Core.Path.{◌≡◌, refl, sym, ap, ◌∙◌, subst₂}
use mathlib.Core.Bool.{false}
use mathlib.Core.List.{List, [], ◌∷◌}
use Prim.Native.Nat.{ℕ, zero, suc, ◌+◌, ◌-◌, ◌*◌, ◌≤◌, ◌<◌}
use native.Mathlib.Omega.{arith}
use lib.ListN.{length, get_or, take}
use lib.Seq.{ext_get_or}
use lib.Ieee.{Float, nan, is_nan}
use borrow.Rule.Slice.PartMut.{put_mid}
use Rattle.num_float.proofs.NonNegative.{finite_number}
use Rattle.list_laws.specs.Region.{part, Outside}
use Rattle.list_laws.proofs.Regions.{part_length, part_place}
use Rattle.list_laws.proofs.Outside.{outside_then, outside_wide, outside_put}
use Rattle.list_sort.specs.Sorted.{key_of}
use Rattle.list_median.specs.Median.{Median}
use Rattle.list_median.specs.Work.{Pairs}
use Rattle.file_part.specs.Part.{Part, part_of}
use Rattle.solid_faces.specs.Faces.{Checked, polygon_area}
use Rattle.scratch.specs.declared.regions.Regions.{Regions}
use Rattle.scratch.specs.Standing.{Standing}
use Rattle.scratch.proofs.StandingLaws.{placed_polygons}
use Rattle.wall_samples.specs.declared.cast.Reading.{Reading}
use Rattle.wall_samples.specs.Samples.{readings_of}
use Rattle.wall_samples.specs.Stored.{reading, Readings}
use Rattle.wall_samples.proofs.ReadingLaws.{readings_most}
use Rattle.measure_sizes.proofs.Readings.{reading_bounds}
use Rattle.wall_median.specs.Rough.{thicknesses, areas, numbers_to, reading_median, rough_of}
use Rattle.wall_median.specs.Work.{NumbersPut}
use Rattle.wall_median.proofs.NumberLaws.{numbers_place, numbers_taken}

-- ---- the thickness and the area of each reading
thicknesses_length : (l : List Reading) → length (thicknesses l) ≡ length l
unfolding thicknesses
thicknesses_length [] = refl
thicknesses_length (r ∷ l) = ap suc (thicknesses_length l)

pub thickness_at : (l : List Reading) (i : ℕ) → i < length l → get_or (thicknesses l) i nan ≡ (reading l i).thickness
unfolding thicknesses
thickness_at [] i h = absurd (omega (arith, h))
thickness_at (r ∷ l) zero h = refl
thickness_at (r ∷ l) (suc i) h = thickness_at l i (omega (arith, h))

areas_length : (t : Part) (l : List Reading) → length (areas t l) ≡ length l
unfolding areas
areas_length t [] = refl
areas_length t (r ∷ l) = ap suc (areas_length t l)

area_at : (t : Part) (l : List Reading) (i : ℕ) → i < length l → get_or (areas t l) i nan ≡ polygon_area t (reading l i).polygon
unfolding areas
area_at t [] i h = absurd (omega (arith, h))
area_at t (r ∷ l) zero h = refl
area_at t (r ∷ l) (suc i) h = area_at t l i (omega (arith, h))

-- ---- the parts that hold them
module _ (t : Part) (at : Regions) (words : List ℕ) (reals : List Float) (n : ℕ) (en : n ≡ length (readings_of t)) (h : Readings t at words reals) where
  -- a part is as long as the readings, and each of its cells is known
  held : (a : ℕ) (l : List Float) → a + n ≤ length reals → length l ≡ length (readings_of t) →
      ((i : ℕ) → i < length (readings_of t) → get_or reals (a + i) nan ≡ get_or l i nan) → part a (a + n) reals ≡ l
  held a l inside long each =
      let here : length (part a (a + n) reals) ≡ n = part_length a (a + n) reals inside ∙ omega arith in
      ext_get_or nan (part a (a + n) reals) l (here ∙ en ∙ sym long)
      (λ i g. part_place a (a + n) reals nan i (omega (arith, g, here)) ∙ each i (omega (arith, g, here, en)))

  pub thickness_part : at.thickness + n ≤ length reals → part at.thickness (at.thickness + n) reals ≡ thicknesses (readings_of t)
  thickness_part inside =
      held at.thickness (thicknesses (readings_of t)) inside (thicknesses_length (readings_of t))
      (λ i l. h.stored.thickness i l ∙ sym (thickness_at (readings_of t) i l))

  pub area_part : at.weights + n ≤ length reals → part at.weights (at.weights + n) reals ≡ areas t (readings_of t)
  area_part inside =
      held at.weights (areas t (readings_of t)) inside (areas_length t (readings_of t))
      (λ i l. h.stored.areas i l ∙ sym (area_at t (readings_of t) i l))

-- ---- the median of the readings whose numbers are the first n cells of mem
-- no reading is a NaN
thickness_number : (s : List ℕ) → Checked s → (i : ℕ) → i < length (readings_of (part_of s)) → is_nan (key_of (thicknesses (readings_of (part_of s))) i) ≡ false
thickness_number s h i l =
    ap is_nan (thickness_at (readings_of (part_of s)) i l)
    ∙ finite_number (reading (readings_of (part_of s)) i).thickness (reading_bounds s h i l).within.is_finite

pub reading_pairs : (s : List ℕ) (values weights : List Float) (mem : List ℕ) (n : ℕ) → Checked s → values ≡ thicknesses (readings_of (part_of s)) →
    weights ≡ areas (part_of s) (readings_of (part_of s)) → 2 * n ≤ length mem → ((i : ℕ) → i < n → get_or mem i 0 < length (readings_of (part_of s))) →
    Pairs values weights mem n
reading_pairs s values weights mem n h ev ew room below =
    let t = part_of s in
    subst₂ (λ (x y : List Float). Pairs x y mem n) (sym ev) (sym ew)
    (record {
      room = room;
      valued = record { has = λ i a l. omega (arith, below i l, thicknesses_length (readings_of t)) };
      weighed = record { has = λ i a l. omega (arith, below i l, areas_length t (readings_of t)) };
      plain = record { is = λ i l. thickness_number s h (get_or mem i 0) (below i l) };
    })

pub reading_median_lem : (t : Part) (values weights : List Float) (n : ℕ) (before after xs : List ℕ) (r : Float) → values ≡ thicknesses (readings_of t) →
    weights ≡ areas t (readings_of t) → take n before ≡ xs → Median values weights n before after r → r ≡ reading_median t xs
unfolding reading_median
reading_median_lem t values weights n before after xs r ev ew ex h = h.is ∙ rw (ev, ew, ex)

-- ---- the steps of `rough`
module _ (s words : List ℕ) (reals : List Float) (at : Regions) (n : ℕ) (g : Standing s at words reals) (h : Readings (part_of s) at words reals) (e : n ≡ length (readings_of (part_of s))) where
  abbrev t : Part
  t = part_of s

  -- no more readings than polygons
  pub few : n ≤ at.polygons
  few = omega (arith, e, readings_most t, placed_polygons s at g.placed)

  abbrev values : List Float
  values = part at.thickness (at.thickness + n) reals

  abbrev weights : List Float
  weights = part at.weights (at.weights + n) reals

  values_are : values ≡ thicknesses (readings_of t)
  values_are = thickness_part t at words reals n e h (omega (arith, few, g.reals_room, g.placed.laid))

  weights_are : weights ≡ areas t (readings_of t)
  weights_are = area_part t at words reals n e h (omega (arith, few, g.reals_room, g.placed.laid))

  module _ (words₁ : List ℕ) (put : NumbersPut n at.order words words₁) where
    pub inside : at.kinds ≤ length words₁
    inside = omega (arith, g.words_room, g.placed.laid, put.kept.long)

    room : at.order + n ≤ at.kinds
    room = omega (arith, few, g.placed.laid)

    abbrev lent : List ℕ
    lent = part at.order at.kinds words₁

    pub all_pairs : Pairs values weights lent n
    all_pairs =
        reading_pairs s values weights lent n g.placed.checked values_are weights_are
        (omega (arith, few, g.placed.laid, part_length at.order at.kinds words₁ inside))
        (λ i l. omega (arith, l, e, numbers_place n at.order at.kinds words words₁ room inside put i l))

    module _ (r : Float) (after : List ℕ) (m : Median values weights n lent after r) where
      pub rough_is : r ≡ rough_of t
      unfolding rough_of
      rough_is =
          reading_median_lem t values weights n lent after (numbers_to n) r values_are weights_are (numbers_taken n at.order at.kinds words words₁ room inside put) m
          ∙ ap (λ (k : ℕ). reading_median t (numbers_to k)) e

      pub order_outside : Outside 0 at.order at.kinds words (put_mid at.order (at.kinds - at.order) words₁ after)
      order_outside =
          outside_then 0 _ _ words words₁ _ (outside_wide 0 at.order (at.order + n) at.order at.kinds words words₁ (omega arith) room put.kept)
          (outside_put 0 at.order at.kinds words₁ after (omega (arith, g.placed.laid)) inside (m.long ∙ part_length at.order at.kinds words₁ inside))
