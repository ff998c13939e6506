-- The steps of `measure`: from the rough thickness to what is measured.
use mathlib.Core.Path.{subst, ◌≡◌, ap, ◌∙◌}
use mathlib.Core.List.{List}
use Prim.Native.Nat.{ℕ, ◌+◌, ◌≤◌}
use native.Mathlib.Omega.{arith}
use lib.ListN.{length, get_or}
use lib.Ieee.{Float, binary64, nan, mul, lt}
use Rattle.list_laws.specs.Region.{Outside}
use Rattle.list_laws.proofs.Outside.{outside_none, outside_then, outside_wide}
use Rattle.list_groups.specs.Groups.{passing}
use Rattle.list_groups.proofs.Pairs.{passing_same}
use Rattle.file_part.specs.Part.{Part, part_of}
use Rattle.solid_faces.specs.Faces.{polygon_area}
use Rattle.scratch.specs.declared.regions.Regions.{Regions}
use Rattle.scratch.specs.Standing.{Standing}
use Rattle.solid_tours.specs.Work.Kept.{EdgesOrdered}
use Rattle.wall_samples.specs.Samples.{readings_of}
use Rattle.wall_samples.specs.Stored.{reading, Readings}
use Rattle.wall_median.specs.Rough.{rough_of}
use Rattle.sheet_thickness.specs.declared.Middle.{Middle}
use Rattle.sheet_thickness.specs.Thickness.{six_tenths, fifteen_hundredths, edge_limit, is_kept, kept_readings, is_off, added_to, off_area_of, is_uneven}
use Rattle.std.specs.Prelude.{Ok, Err}
use Rattle.sheet_thickness.specs.declared.Thickness.{Thickness}
use Rattle.sheet_thickness.specs.declared.NoneKept.{NoneKept}
use Rattle.sheet_thickness.specs.Kept.{ThicknessIs, Measured}
use Rattle.sheet_thickness.specs.Work.{DistancesPut, is_far, is_far_off, PassingPut, KeptStand, MiddleIs}
use Rattle.sheet_thickness.proofs.ListLaws.{added_same}
use Rattle.sheet_thickness.proofs.KeptLaws.{still_stands, still_read, still_ordered}
use Rattle.sheet_thickness.proofs.DistanceLaws.{few}
use Rattle.sheet_thickness.proofs.ReadingLaws.{kept_is, off_is}

limit_is : (t : Part) (x : Float) → x ≡ rough_of t → mul binary64 six_tenths x ≡ edge_limit t
unfolding edge_limit
limit_is t x e = ap (mul binary64 six_tenths) e

module _ (s : List ℕ) (at : Regions) (words : List ℕ) (reals : List Float) (m : ℕ) (o : EdgesOrdered s at words reals) (h : Readings (part_of s) at words reals)
    (em : m ≡ length (readings_of (part_of s))) where
  abbrev t : Part
  t = part_of s

  most : m ≤ at.polygons
  most = few s at words reals o.standing m em

  -- after the rough thickness
  module _ (words1 : List ℕ) (w1 : Outside 0 at.order at.kinds words words1) where
    pub rough_ordered : EdgesOrdered s at words1 reals
    rough_ordered = still_ordered s at words words1 reals reals w1 (outside_none nan _ _ reals) o

    pub rough_read : Readings t at words1 reals
    rough_read = still_read s at words words1 reals reals w1 (outside_none nan _ _ reals) o.standing h

    -- after the distances
    module _ (x : Float) (ex : x ≡ rough_of t) (reals1 : List Float) (d : DistancesPut t at reals reals1) where
      abbrev limit : Float
      limit = mul binary64 six_tenths x

      pub kept_room : (at.order + m ≤ length words1) × ((at.falling + m ≤ length reals1) × (m ≤ 4096))
      kept_room =
          let laid = o.standing.placed.laid in (
            omega (arith, most, laid, o.standing.words_room, w1.long),
            (omega (arith, most, laid, o.standing.reals_room, d.kept.long), omega (arith, most, laid)),
          )

      pub areas_room : (at.falling + m ≤ length reals1) × ((at.thickness + m ≤ length reals1) × (at.weights + m ≤ length reals1))
      areas_room =
          let laid = o.standing.placed.laid in (
            omega (arith, most, laid, o.standing.reals_room, d.kept.long),
            (omega (arith, most, laid, o.standing.reals_room, d.kept.long), omega (arith, most, laid, o.standing.reals_room, d.kept.long)),
          )

      -- after the readings that are kept
      module _ (n : ℕ) (words2 : List ℕ) (p : PassingPut (is_far at limit reals1) m at.order words1 words2 n) where
        the_kept : passing (is_far at limit reals1) m ≡ kept_readings t
        unfolding kept_readings
        the_kept =
            passing_same (is_far at limit reals1) (is_kept t) m (λ k l. kept_is t at reals1 limit d.distances (limit_is t x ex) k (omega (arith, l, em)))
            ∙ ap (passing (is_kept t)) em

        count_is : n ≡ length (kept_readings t)
        count_is = p.count ∙ ap length the_kept

        kept_stand : KeptStand t at words2
        kept_stand = record { each = λ i l. p.each i (omega (arith, l, count_is)) ∙ ap (λ (xs : List ℕ). get_or xs i 0) the_kept }

        w2 : Outside 0 at.order at.kinds words words2
        w2 =
            outside_then 0 _ _ words words1 words2 w1
            (outside_wide 0 at.order (at.order + m) at.order at.kinds words1 words2 (omega arith) (omega (arith, most, o.standing.placed.laid)) p.kept)

        kept_read : Readings t at words2 reals1
        kept_read = still_read s at words words2 reals reals1 w2 d.kept o.standing h

        -- what `middle_of` asks for
        pub middle_asks : (n ≡ 0 → ⊥) →
            Standing s at words2 reals1 ×
            (Readings t at words2 reals1 × ((m ≡ length (readings_of t)) × ((n ≡ length (kept_readings t)) × ((1 ≤ n) × KeptStand t at words2))))
        middle_asks some = (
          still_stands s at words words2 reals reals1 w2 d.kept o.standing,
          (kept_read, (em, (count_is, (omega (arith, some), kept_stand)))),
        )

        -- there is none
        abbrev found_none : NoneKept
        found_none = record { limit = limit }

        pub none_measured : n ≡ 0 → Measured t at words words2 reals reals1 (Err found_none)
        none_measured none =
            record {
              none = λ y e. let same : found_none ≡ y = cc in (omega (arith, none, count_is), subst (λ (z : NoneKept). z.limit ≡ edge_limit t) same (limit_is t x ex));
              some = λ y e. cc;
              distances = d.distances;
              words_kept = w2;
              reals_kept = d.kept;
            }

        -- after the median and the area that is off
        module _ (r : Middle) (words3 : List ℕ) (i : MiddleIs t r) (w3 : Outside 0 at.order at.kinds words2 words3) (off : Float)
            (eo : off ≡ added_to (is_far_off at limit r.value reals1) (λ k. get_or reals1 (at.weights + k) nan) m) where
          off_area : off ≡ off_area_of t
          unfolding off_area_of
          off_area =
              eo
              ∙ added_same (is_far_off at limit r.value reals1) (is_off t) (λ k. get_or reals1 (at.weights + k) nan) (λ k. polygon_area t (reading (readings_of t) k).polygon) m
              (λ k l. off_is t at reals1 limit d.distances (limit_is t x ex) words2 kept_read r.value i.value k (omega (arith, l, em)))
              (λ k l. kept_read.stored.areas k (omega (arith, l, em)))
              ∙ ap (added_to (is_off t) (λ k. polygon_area t (reading (readings_of t) k).polygon)) em

          uneven_is : lt (mul binary64 fifteen_hundredths r.total) off ≡ is_uneven t
          unfolding is_uneven
          uneven_is = rw (off_area, i.total)

          abbrev found : Thickness
          found =
              record {
                kept = n;
                limit = limit;
                value = r.value;
                thinnest = r.thinnest;
                thickest = r.thickest;
                uneven = lt (mul binary64 fifteen_hundredths r.total) off;
              }

          found_is : 1 ≤ n → ThicknessIs t found
          found_is some =
              record {
                some = omega (arith, some, count_is);
                kept = count_is;
                limit = limit_is t x ex;
                value = i.value;
                thinnest = i.thinnest;
                thickest = i.thickest;
                uneven = uneven_is;
              }

          pub measured : (n ≡ 0 → ⊥) → Measured t at words words3 reals reals1 (Ok found)
          measured some =
              record {
                none = λ y e. cc;
                some = λ y e. let same : found ≡ y = cc in subst (ThicknessIs t) same (found_is (omega (arith, some)));
                distances = d.distances;
                words_kept = outside_then 0 _ _ words words2 words3 w2 w3;
                reals_kept = d.kept;
              }
