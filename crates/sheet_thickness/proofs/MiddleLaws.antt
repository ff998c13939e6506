-- The median of the readings that are kept, and what else their order gives.
use mathlib.Core.Path.{◌≡◌, sym, ap, ◌∙◌}
use mathlib.Core.List.{List}
use Prim.Native.Nat.{ℕ, ◌+◌, ◌-◌, ◌≤◌, ◌<◌}
use native.Mathlib.Omega.{arith}
use lib.ListN.{length, get_or, take}
use lib.Seq.{ext_get_or, get_or-take, length-take-le}
use lib.Ieee.{Float, nan}
use borrow.Rule.Slice.PartMut.{put_mid}
use Rattle.list_laws.specs.Region.{part, Outside}
use Rattle.list_laws.proofs.Regions.{part_length, part_place}
use Rattle.list_laws.proofs.Outside.{outside_put}
use Rattle.list_sort.specs.Sorted.{in_order_of}
use Rattle.list_sort.specs.Work.{Numbered}
use Rattle.list_sort.proofs.Counts.{each_first}
use Rattle.list_sort.proofs.InOrder.{sorted_is, in_order_same}
use Rattle.list_median.specs.Median.{weight_to, Median}
use Rattle.list_median.specs.Work.{Pairs}
use Rattle.list_median.proofs.MedianLaws.{weight_same, sorted_numbered}
use Rattle.file_part.specs.Part.{Part, part_of}
use Rattle.scratch.specs.declared.regions.Regions.{Regions}
use Rattle.scratch.specs.Standing.{Standing}
use Rattle.wall_samples.specs.Samples.{readings_of}
use Rattle.wall_samples.specs.Stored.{reading, Readings}
use Rattle.wall_median.specs.Rough.{thicknesses, areas}
use Rattle.wall_median.proofs.RoughLaws.{thickness_at, thickness_part, area_part, reading_pairs, reading_median_lem}
use Rattle.sheet_thickness.specs.declared.Middle.{Middle}
use Rattle.sheet_thickness.specs.Thickness.{kept_readings, sorted_readings, kept_area, thickness_of, thinnest_of, thickest_of}
use Rattle.sheet_thickness.specs.Work.{KeptStand, SortedMiddle, MiddleIs}
use Rattle.sheet_thickness.proofs.ReadingLaws.{kept_below, kept_few}
use Rattle.sheet_thickness.proofs.DistanceLaws.{few}

-- ---- of pairs that are sorted
module _ (values weights : List Float) (n : ℕ) (before after : List ℕ) (pairs : Pairs values weights before n) (x : Float) (h : Median values weights n before after x) where
  room : n ≤ length after
  room = omega (arith, pairs.room, h.long)

  abbrev sorted : List ℕ
  sorted = in_order_of values (take n before)

  place_is : (i : ℕ) → i < n → get_or sorted i 0 ≡ get_or after i 0
  place_is i l =
      ap (λ (xs : List ℕ). get_or xs i 0) (sym (sorted_is values n before after h.sorted pairs.plain (omega (arith, pairs.room)) room)) ∙ get_or-take n after i 0 l

  pub sum_asks : (n ≤ length after) × Numbered weights after 0 n
  sum_asks = (room, sorted_numbered values weights n before after h.sorted pairs.weighed)

  pub pair_asks : (i : ℕ) → i < n → (i < length after) × (get_or after i 0 < length values)
  pair_asks i l = (omega (arith, l, room), (sorted_numbered values values n before after h.sorted pairs.valued).has i (omega arith) l)

  pub middle_sorted : (total thin thick : Float) → 1 ≤ n → total ≡ weight_to weights after n → thin ≡ get_or values (get_or after 0 0) nan →
      thick ≡ get_or values (get_or after (n - 1) 0) nan →
      SortedMiddle values weights n before after (record { value = x; total = total; thinnest = thin; thickest = thick })
  middle_sorted total thin thick some ea eb ec =
      record {
        median = h;
        total = ea ∙ weight_same weights sorted after n (λ i l. sym (place_is i l));
        thinnest = eb ∙ ap (λ (i : ℕ). get_or values i nan) (sym (place_is 0 (omega (arith, some))));
        thickest = ec ∙ ap (λ (i : ℕ). get_or values i nan) (sym (place_is (n - 1) (omega (arith, some))));
      }

-- ---- of readings
-- the readings that are kept, in order, are readings
pub sorted_below : (t : Part) (i : ℕ) → i < length (kept_readings t) → get_or (sorted_readings t) i 0 < length (readings_of t)
unfolding sorted_readings
sorted_below t i l =
    each_first (λ k. k < length (readings_of t)) (kept_readings t) (in_order_of (thicknesses (readings_of t)) (kept_readings t)) (length (kept_readings t))
    (in_order_same (thicknesses (readings_of t)) (kept_readings t)) (kept_below t) i l

module _ (s words : List ℕ) (reals : List Float) (at : Regions) (m n : ℕ) (g : Standing s at words reals) (h : Readings (part_of s) at words reals)
    (em : m ≡ length (readings_of (part_of s))) (en : n ≡ length (kept_readings (part_of s))) (k : KeptStand (part_of s) at words) where
  abbrev t : Part
  t = part_of s

  fewer : n ≤ at.polygons
  fewer = omega (arith, en, kept_few t, em, few s at words reals g m em)

  inside : at.kinds ≤ length words
  inside = omega (arith, g.words_room, g.placed.laid)

  abbrev values : List Float
  values = part at.thickness (at.thickness + m) reals

  abbrev weights : List Float
  weights = part at.weights (at.weights + m) reals

  abbrev lent : List ℕ
  lent = part at.order at.kinds words

  values_are : values ≡ thicknesses (readings_of t)
  values_are = thickness_part t at words reals m em h (omega (arith, few s at words reals g m em, g.reals_room, g.placed.laid))

  weights_are : weights ≡ areas t (readings_of t)
  weights_are = area_part t at words reals m em h (omega (arith, few s at words reals g m em, g.reals_room, g.placed.laid))

  lent_at : (i : ℕ) → i < n → get_or lent i 0 ≡ get_or (kept_readings t) i 0
  lent_at i l = part_place at.order at.kinds words 0 i (omega (arith, l, fewer, g.placed.laid)) ∙ k.each i (omega (arith, l, en))

  pub kept_pairs : Pairs values weights lent n
  kept_pairs =
      reading_pairs s values weights lent n g.placed.checked values_are weights_are
      (omega (arith, fewer, g.placed.laid, part_length at.order at.kinds words inside))
      (λ i l. omega (arith, lent_at i l, kept_below t i (omega (arith, l, en))))

  taken : take n lent ≡ kept_readings t
  taken =
      let long : length (take n lent) ≡ n = length-take-le n lent (omega (arith, fewer, g.placed.laid, part_length at.order at.kinds words inside)) in
      ext_get_or 0 (take n lent) (kept_readings t) (long ∙ en)
      (λ i l. let low : i < n = omega (arith, l, long) in get_or-take n lent i 0 low ∙ lent_at i low)

  -- a value at a place of the order
  value_is : (i : ℕ) → i < n → get_or values (get_or (in_order_of values (take n lent)) i 0) nan ≡ (reading (readings_of t) (get_or (sorted_readings t) i 0)).thickness
  unfolding sorted_readings
  value_is i l = rw (values_are, taken) (thickness_at (readings_of t) (get_or (sorted_readings t) i 0) (sorted_below t i (omega (arith, l, en))))

  module _ (after : List ℕ) (r : Middle) (some : 1 ≤ n) (q : SortedMiddle values weights n lent after r) where
    pub middle_is : MiddleIs t r
    unfolding thickness_of kept_area sorted_readings thinnest_of thickest_of
    middle_is =
        record {
          value = reading_median_lem t values weights n lent after (kept_readings t) r.value values_are weights_are taken q.median;
          total = q.total ∙ rw (weights_are, values_are, taken, en);
          thinnest = q.thinnest ∙ value_is 0 (omega (arith, some));
          thickest = q.thickest ∙ value_is (n - 1) (omega (arith, some)) ∙ ap (λ (j : ℕ). (reading (readings_of t) (get_or (sorted_readings t) (j - 1) 0)).thickness) en;
        }

    pub order_outside : Outside 0 at.order at.kinds words (put_mid at.order (at.kinds - at.order) words after)
    order_outside =
        outside_put 0 at.order at.kinds words after (omega (arith, g.placed.laid)) inside (q.median.long ∙ part_length at.order at.kinds words inside)
