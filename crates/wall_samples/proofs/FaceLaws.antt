-- The readings of a face, of all faces, and of a part, in the words of what the code calls.
use mathlib.Core.Path.{◌≡◌, refl, sym, ap, ◌∙◌, subst}
use mathlib.Core.Bool.{true, false}
use mathlib.Core.List.{List, []}
use Prim.Native.Nat.{ℕ, ◌+◌, ◌≤◌, ◌<◌}
use native.Mathlib.Omega.{arith}
use native.Mathlib.Nat.{le_antisymm, zero-add}
use lib.ListN.{length, get_or}
use lib.Ieee.{Float, nan, le}
use Rattle.list_laws.specs.Region.{part, Outside}
use Rattle.list_laws.proofs.Regions.{part_length, part_place}
use Rattle.list_laws.proofs.Outside.{outside_none, outside_then, outside_wide}
use Rattle.math.specs.Vector as vector
use Rattle.file_part.specs.Part.{Part, part_of}
use Rattle.file_part.proofs.PartLaws.{part_polygons}
use Rattle.solid_faces.specs.Faces.{faces_of, next_polygon, face_area}
use Rattle.solid_faces.proofs.BodyLaws.{checked_readable, checked_faces, three_vertices}
use Rattle.solid_faces.proofs.FaceLaws.{Begins}
use Rattle.solid_faces.proofs.ChainLaws.{next_rises}
use Rattle.solid_sizes.proofs.Areas.{area_number}
use Rattle.scratch.specs.declared.regions.Regions.{Regions}
use Rattle.scratch.specs.Standing.{Standing}
use Rattle.scratch.proofs.StandingLaws.{placed_polygons, standing_kept}
use Rattle.scratch.proofs.WordsLaws.{begins_at, link_at}
use Rattle.wall_starts.specs.Starts.{total_area_of, wanted, face_polygons, ordered_polygons, step_of}
use Rattle.wall_starts.specs.Work.{Total, Negated, Along, AreaNumbers, Room, Ordered}
use Rattle.wall_starts.proofs.KeptLaws.{falling_kept, ordered_place}
use Rattle.wall_starts.proofs.OrderLaws.{ordered_length, ordered_each}
use Rattle.wall_samples.specs.declared.cast.Reading.{Reading}
use Rattle.wall_samples.specs.Samples.{picks_to, face_readings, readings_to, readings_of}
use Rattle.wall_samples.specs.Stored.{Stored, Readings}
use Rattle.wall_samples.specs.Work.{Added, Listed, Ready}
use Rattle.wall_samples.proofs.StoredLaws.{stored_none, added_none, added_then, added_order, standing_still}
use Rattle.wall_samples.proofs.PicksLaws.{readings_none, readings_more, readings_room}

-- ---- one face
face_picks : (t : Part) (f : ℕ) (order : List ℕ) (m want : ℕ) → order ≡ ordered_polygons t f → m ≡ length (ordered_polygons t f) → want ≡ wanted t f →
    picks_to t order (step_of m want) want ≡ face_readings t f
unfolding face_readings
face_picks t f order m want a b c = rw (a, b, c)

module _ (s : List ℕ) (at : Regions) (words : List ℕ) (reals : List Float) (h : Ready s at words reals) where
  polygons : at.polygons ≡ (part_of s).polygons
  polygons = placed_polygons s at h.standing.placed

  link : (q : ℕ) → q < at.polygons → get_or words (at.chain + q) 0 ≡ next_polygon (part_of s) q
  link q l = link_at (part_of s) at words q h.standing.placed.laid h.standing.words_room h.standing.the_words polygons l

  pub order_room : Room words at.chain at.order at.polygons
  order_room =
      let laid = h.standing.placed.laid in
      record {
        few = laid.few;
        rises = λ q l. omega (arith, link q l, next_rises (part_of s) q (omega (arith, l, polygons)));
        apart = omega (arith, laid, three_vertices s (checked_readable s h.standing.placed.checked), h.standing.placed);
        inside = omega (arith, laid, h.standing.words_room);
      }

  module _ (f first n : ℕ) (after : List ℕ) (low : f < faces_of (part_of s)) (is : first ≡ get_or words (at.firsts + f) 0)
      (o : Ordered (part at.falling at.thickness reals) words after at.chain at.order at.polygons first n) where
    begins : Begins (part_of s) (part_of s).polygons f first
    begins =
        begins_at (part_of s) at words f first h.standing.placed.laid h.standing.the_words polygons low
        (checked_faces s h.standing.placed.checked) is

    along : Along (part_of s) at.polygons words at.chain first
    along = record { polygons = polygons; each = link; below = omega (arith, begins.below, polygons); new = begins.new }

    -- no area of an accepted part is a NaN
    areas : AreaNumbers (part_of s)
    areas = record { each = λ q l. area_number s (checked_readable s h.standing.placed.checked) q (omega (arith, l, part_polygons s)) }

    order_is : part at.order (at.order + n) after ≡ ordered_polygons (part_of s) f
    order_is = o.is (part_of s) along h.falling areas ∙ ap (ordered_polygons (part_of s)) begins.number

    pub order_count : n ≡ length (face_polygons (part_of s) f)
    order_count = o.count (part_of s) along ∙ ap (λ (g : ℕ). length (face_polygons (part_of s) g)) begins.number

    order_kept : Outside 0 at.order at.kinds words after
    order_kept = outside_wide 0 _ _ at.order at.kinds words after (omega arith) (omega (arith, h.standing.placed.laid)) o.kept

    pub order_standing : Standing s at after reals
    order_standing =
        standing_still s at at.kinds words after reals reals
        (outside_wide 0 _ _ at.readings at.kinds words after (omega (arith, h.standing.placed.laid)) (omega arith) order_kept) (outside_none nan _ _ reals) h.standing

    pub order_listed : Listed at n after
    order_listed = record {
      each = λ i low.
          let there = ordered_place _ words after _ _ _ first n o (part_of s) along h.falling areas i low
          ∙ ap (λ (g : ℕ). get_or (ordered_polygons (part_of s) g) i 0) begins.number in
          omega (arith, there, (ordered_each (part_of s) f i (omega (arith, low, order_count, ordered_length (part_of s) f))).below, polygons);
    }

    -- all of its rays are cast
    pub face_put : (k want r : ℕ) (c : List ℕ) (e : List Float) → want ≡ wanted (part_of s) f → k ≤ at.polygons →
        Added (part_of s) at at.order k (picks_to (part_of s) (part at.order (at.order + n) after) (step_of n want) want) after c reals e r →
        Added (part_of s) at at.kinds k (face_readings (part_of s) f) words c reals e r
    face_put k want r c e is few added =
        added_order (part_of s) at h.standing.placed.laid k r (face_readings (part_of s) f) words after c reals e few order_kept
        (subst (λ (x : List Reading). Added (part_of s) at at.order k x after c reals e r)
        (face_picks (part_of s) f (part at.order (at.order + n) after) n want order_is (order_count ∙ sym (ordered_length (part_of s) f)) is) added)

-- ---- face by face
module _ (s : List ℕ) (at : Regions) (words : List ℕ) (reals : List Float) where
  abbrev pub FacesPut : ℕ → List ℕ → List Float → ℕ → Type 0
  FacesPut f b e k = Added (part_of s) at at.kinds 0 (readings_to (part_of s) f) words b reals e k

  pub faces_start : FacesPut 0 words reals 0
  faces_start =
      subst (λ (l : List Reading). Added (part_of s) at at.kinds 0 l words words reals reals 0) (sym (readings_none (part_of s)))
      (added_none (part_of s) at at.kinds 0 words reals)

  -- the area of a face, when readings were put
  pub face_area_lem : (f k : ℕ) (b : List ℕ) (e : List Float) → Standing s at words reals → f < faces_of (part_of s) → FacesPut f b e k → get_or e (at.totals + f) nan ≡ face_area (part_of s) f
  face_area_lem f k b e h l a =
      let laid = h.placed.laid in
      let low = checked_faces s h.placed.checked in
      a.reals_kept.below (at.totals + f) (omega (arith, l, low, laid)) ∙ sym (part_place at.totals at.volumes reals nan f (omega (arith, l, low, laid)))
      ∙ h.the_reals.totals.each f (omega (arith, l, low, laid, part_length at.totals at.volumes reals (omega (arith, laid, h.reals_room))))

  pub face_room : (f k : ℕ) (b : List ℕ) (e : List Float) → Standing s at words reals → FacesPut f b e k → k + length (face_polygons (part_of s) f) ≤ at.polygons
  face_room f k b e h a = omega (arith, a.count, readings_room (part_of s) f, placed_polygons s at h.placed)

  pub faces_turn : (f k r : ℕ) (b c : List ℕ) (d e : List Float) → FacesPut f b d k → Added (part_of s) at at.kinds k (face_readings (part_of s) f) b c d e r → FacesPut (f + 1) c e r
  faces_turn f k r b c d e before one =
      subst (λ (l : List Reading). Added (part_of s) at at.kinds 0 l words c reals e r) (sym (readings_more (part_of s) f))
      (added_then (part_of s) at at.kinds 0 k r (readings_to (part_of s) f) (face_readings (part_of s) f) words b c reals d e before one)

  pub faces_done : (f n k : ℕ) (b : List ℕ) (e : List Float) → f ≤ n → n ≤ f → FacesPut f b e k → FacesPut n b e k
  faces_done f n k b e low high a = subst (λ (m : ℕ). FacesPut m b e k) (le_antisymm low high) a

-- ---- all of them
-- no area, no reading
none_is : (t : Part) (total : Float) → total ≡ total_area_of t → le total vector.zero ≡ true → [] ≡ readings_of t
unfolding readings_of
none_is t total e h = rw (← e, h)

all_is : (t : Part) (n : ℕ) (total : Float) → n ≡ faces_of t → total ≡ total_area_of t → le total vector.zero ≡ false → readings_to t n ≡ readings_of t
unfolding readings_of
all_is t n total en e h = rw (← e, h, en)

module _ (s : List ℕ) (at : Regions) (words : List ℕ) (reals : List Float) (h : Standing s at words reals) (n : ℕ) (c : n ≡ faces_of (part_of s)) where
  pub totals_room : n ≤ length (part at.totals at.volumes reals)
  totals_room =
      let laid = h.placed.laid in
      omega (arith, c, laid, checked_faces s h.placed.checked, part_length at.totals at.volumes reals (omega (arith, laid, h.reals_room)))

  -- what a call that puts all readings gives back
  pub record SamplesPut (words' : List ℕ) (reals' : List Float) (r : ℕ) : Type 0 where
    pub count : r ≡ length (readings_of (part_of s))
    pub readings : Readings (part_of s) at words' reals'
    pub standing : Standing s at words' reals'
    pub words_kept : Outside 0 at.readings at.kinds words words'
    pub reals_kept : Outside nan at.falling at.rounds reals reals'

  module _ (total : Float) (t : Total (part at.totals at.volumes reals) n total) where
    pub total_is : total ≡ total_area_of (part_of s)
    total_is = t.is (part_of s) c h.the_reals.totals

    pub none_put : le total vector.zero ≡ true → SamplesPut words reals 0
    none_put test =
        let is = none_is (part_of s) total total_is test in
        record {
          count = ap length is;
          readings = record { stored = subst (λ (l : List Reading). Stored (part_of s) at l words reals) is (stored_none (part_of s) at words reals) };
          standing = h;
          words_kept = outside_none 0 _ _ words;
          reals_kept = outside_none nan _ _ reals;
        }

    module _ (after : List Float) (f : Negated reals after at.areas at.falling at.polygons) where
      -- with the areas negated, all is there that the rays ask for
      negated : Outside nan at.falling at.rounds reals after
      negated = outside_wide nan _ _ at.falling at.rounds reals after (omega arith) (omega (arith, h.placed.laid)) f.kept

      pub ready : Ready s at words after
      ready =
          let laid = h.placed.laid in
          record {
            standing = standing_kept s at at.kinds at.rounds words words reals after h (outside_none 0 _ _ words) negated;
            falling = falling_kept (part_of s) reals after at.areas at.falling at.polygons at.totals at.thickness f (omega (arith, laid)) (omega (arith, laid)) (omega (arith, laid, h.reals_room)) h.the_reals.areas;
          }

      pub all_put : (words' : List ℕ) (reals' : List Float) (m : ℕ) → le total vector.zero ≡ false →
          Added (part_of s) at at.kinds 0 (readings_to (part_of s) n) words words' after reals' m → SamplesPut words' reals' m
      all_put words' reals' m test a =
          let is = all_is (part_of s) n total c total_is test in
          let kept = outside_then nan _ _ reals after reals' negated (outside_wide nan _ _ at.falling at.rounds after reals' (omega (arith, h.placed.laid)) (omega arith) a.reals_kept) in
          record {
            count = a.count ∙ zero-add (length (readings_to (part_of s) n)) ∙ ap length is;
            readings = record { stored = subst (λ (l : List Reading). Stored (part_of s) at l words' reals') is (a.stored [] refl (stored_none (part_of s) at words after)) };
            standing = standing_kept s at at.kinds at.rounds words words' reals reals' h a.words_kept kept;
            words_kept = a.words_kept;
            reals_kept = kept;
          }
