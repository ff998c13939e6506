-- The steps of the functions: the cells of a reading, the keys, the sort, and the next two faces.
use mathlib.Core.Path.{◌≡◌, sym, ap, ◌∙◌, subst, subst₂}
use mathlib.Core.List.{List}
use Prim.Native.Nat.{ℕ, ◌+◌, ◌-◌, ◌*◌, ◌≤◌, ◌<◌}
use native.Mathlib.Omega.{arith}
use lib.ListN.{length, get_or}
use lib.Ieee.{Float, nan}
use borrow.Rule.Slice.PartMut.{put_mid}
use Rattle.list_laws.specs.Region.{Outside}
use Rattle.list_laws.proofs.Regions.{part_length, part_place, part_put}
use Rattle.list_laws.proofs.Outside.{outside_wide, outside_put}
use Rattle.list_sort.specs.Work.{Numbered}
use Rattle.list_groups.specs.Work.{KeysPut, Sorted, RunEnds}
use Rattle.file_part.specs.Part.{Part, part_of}
use Rattle.solid_faces.specs.Faces.{faces_of, face_number}
use Rattle.solid_faces.proofs.BodyLaws.{checked_faces}
use Rattle.scratch.specs.declared.regions.Regions.{Regions}
use Rattle.scratch.specs.Standing.{Standing}
use Rattle.scratch.proofs.StandingLaws.{placed_polygons}
use Rattle.scratch.proofs.WordsLaws.{face_at_lem}
use Rattle.solid_pairs.specs.solid_ranks.specs.Kept.{Ranked, SortsOnly}
use Rattle.solid_pairs.specs.solid_ranks.proofs.KeptLaws.{sorts_only, only_standing, ranked_kept}
use Rattle.solid_pairs.specs.declared.FacePair.{FacePair}
use Rattle.solid_pairs.specs.Pairs.{lower, higher}
use Rattle.solid_pairs.specs.Work.{PairIs, item_key, PairsSorted}
use Rattle.solid_pairs.proofs.PairLaws.{lower_below, higher_below, pairs_sorted, item_below}
use Rattle.wall_samples.specs.Samples.{readings_of}
use Rattle.wall_samples.specs.Stored.{reading, Readings}
use Rattle.wall_samples.proofs.ReadingLaws.{readings_inside, readings_most}
use Rattle.wall_pairs.specs.declared.Counts.{Counts}
use Rattle.wall_pairs.specs.Walls.{face_from, face_hit}
use Rattle.wall_pairs.specs.Work.{Counted, reading_keys, reading_order, WallsOrdered, WallsPut, NextWallIs, FacesReady}
use Rattle.wall_pairs.proofs.KeptLaws.{readings_kept}
use Rattle.wall_pairs.proofs.WallLaws.{walls_inside}

-- ---- the faces of a reading
module _ (s : List ℕ) (at : Regions) (words : List ℕ) (g : FacesReady s at words) where
  abbrev t : Part
  t = part_of s

  abbrev m : ℕ
  m = length (readings_of t)

  pub few : m ≤ at.polygons
  few = omega (arith, readings_most t, placed_polygons s at g.placed)

  pub keys_room : (counts : Counts) → Counted t counts → (reals : List Float) → at.reals ≤ length reals → at.falling + counts.readings ≤ length reals
  keys_room counts counted reals room = omega (arith, counted.readings, few, g.placed.laid, room)

  pub face_room : (q : ℕ) → q < at.polygons → at.faces + q < length words
  face_room q h = omega (arith, h, g.placed.laid, g.room)

  face_there : (q f : ℕ) → q < at.polygons → f ≡ get_or words (at.faces + q) 0 → f ≡ face_number t q
  face_there q f l e = e ∙ face_at_lem t at words q g.placed.laid g.the_words (placed_polygons s at g.placed) l

  module _ (k : ℕ) (low : k < m) where
    pub start_room : at.readings + k < length words
    start_room = omega (arith, low, few, g.placed.laid, g.room)

    pub hit_room : at.hits + k < length words
    hit_room = omega (arith, low, few, g.placed.laid, g.room)

    pub start_polygon : (q : ℕ) → q ≡ get_or words (at.readings + k) 0 → q < at.polygons
    start_polygon q e = omega (arith, e, g.starts k low, (readings_inside t k low).polygon, placed_polygons s at g.placed)

    pub hit_polygon : (q : ℕ) → q ≡ get_or words (at.hits + k) 0 → q < at.polygons
    hit_polygon q e = omega (arith, e, g.hits k low, (readings_inside t k low).hit, placed_polygons s at g.placed)

    pub from_is : (q f : ℕ) → q ≡ get_or words (at.readings + k) 0 → f ≡ get_or words (at.faces + q) 0 → f ≡ face_from t k
    unfolding face_from
    from_is q f e h = face_there q f (start_polygon q e) h ∙ ap (face_number t) (e ∙ g.starts k low)

    pub hit_is : (q f : ℕ) → q ≡ get_or words (at.hits + k) 0 → f ≡ get_or words (at.faces + q) 0 → f ≡ face_hit t k
    unfolding face_hit
    hit_is q f e h = face_there q f (hit_polygon q e) h ∙ ap (face_number t) (e ∙ g.hits k low)

    -- below the number of faces, in the words of `pair_of`
    module _ (n q f o h : ℕ) (count : n ≡ faces_of t) (eq : q ≡ get_or words (at.readings + k) 0) (ef : f ≡ get_or words (at.faces + q) 0)
        (eo : o ≡ get_or words (at.hits + k) 0) (eh : h ≡ get_or words (at.faces + o) 0) where
      pub both_below : (f < n) × (h < n)
      both_below = (omega (arith, from_is q f eq ef, (walls_inside t k low).0, count), omega (arith, hit_is o h eo eh, (walls_inside t k low).1, count))

      pub pair_there : (r : FacePair) → PairIs t f h r → PairIs t (face_from t k) (face_hit t k) r
      pair_there r is = subst₂ (λ (a b : ℕ). PairIs t a b r) (from_is q f eq ef) (hit_is o h eo eh) is

-- ---- what the walk is given
pub faces_ready : (s : List ℕ) (at : Regions) (words : List ℕ) (reals : List Float) → Standing s at words reals → Readings (part_of s) at words reals → Ranked (part_of s) at words →
    FacesReady s at words
faces_ready s at words reals g readings ranked =
    record {
      placed = g.placed;
      room = g.words_room;
      the_words = g.the_words;
      ranked = ranked;
      starts = readings.stored.polygons;
      hits = readings.stored.hits;
    }

-- ---- the sort
module _ (s : List ℕ) (at : Regions) (words : List ℕ) (reals : List Float) (counts : Counts) (g : Standing s at words reals) (readings : Readings (part_of s) at words reals)
    (ranked : Ranked (part_of s) at words) (counted : Counted (part_of s) counts) where
  most : counts.readings ≤ at.polygons
  most = omega (arith, counted.readings, few s at words (faces_ready s at words reals g readings ranked))

  pub sort_room : (reals' : List Float) → length reals' ≡ length reals →
      (2 * counts.readings ≤ length (reading_order at words)) × ((counts.readings ≤ length (reading_keys at reals')) × (counts.readings ≤ 16384))
  sort_room reals' same =
      let laid = g.placed.laid in (
        omega (arith, part_length at.order at.kinds words (omega (arith, laid, g.words_room)), most, laid),
        (omega (arith, part_length at.falling at.thickness reals' (omega (arith, laid, g.reals_room, same)), most, laid), omega (arith, most, laid)),
      )

  module _ (reals' : List Float) (keys : KeysPut (item_key (part_of s) (face_from (part_of s)) (face_hit (part_of s))) at.falling counts.readings reals reals') (x : List ℕ)
      (sorted : Sorted (reading_keys at reals') counts.readings (reading_order at words) x) (same : length x ≡ length (reading_order at words)) where
    abbrev words' : List ℕ
    words' = put_mid at.order (at.kinds - at.order) words x

    inside : at.kinds ≤ length words
    inside = omega (arith, g.placed.laid, g.words_room)

    long : length x ≡ at.kinds - at.order
    long = same ∙ part_length at.order at.kinds words inside

    words_kept : Outside 0 at.order at.kinds words words'
    words_kept = outside_put 0 at.order at.kinds words x (omega (arith, g.placed.laid)) inside long

    reals_kept : Outside nan at.falling at.thickness reals reals'
    reals_kept = outside_wide nan _ _ _ _ reals reals' (omega arith) (omega (arith, most, g.placed.laid)) keys.kept

    only : SortsOnly at words words' reals reals'
    only = sorts_only at words words' reals reals' g.placed.laid words_kept reals_kept

    order_is : reading_order at words' ≡ x
    order_is = part_put at.order at.kinds words x (omega (arith, inside, g.placed.laid)) long

    abbrev t' : Part
    t' = part_of s

    in_order : PairsSorted t' (face_from t') (face_hit t') counts.readings (reading_keys at reals') x
    in_order =
        pairs_sorted t' (face_from t') (face_hit t') counts.readings (λ k h. walls_inside t' k (omega (arith, h, counted.readings))) (checked_faces s g.placed.checked)
        at.falling at.thickness reals reals' (reading_order at words) x (omega (arith, most, g.placed.laid)) keys sorted

    pub walls_put : WallsPut s at words words' reals reals'
    walls_put =
        record {
          ordered = record {
            standing = only_standing s at words words' reals reals' only g;
            readings = readings_kept s at words words' reals reals' only g readings;
            ranked = ranked_kept (part_of s) at words words' (λ f l. words_kept.above (at.ranks + f) (omega (arith, g.placed.laid))) ranked;
            sorted =
                subst₂ (λ (k : ℕ) (l : List ℕ). PairsSorted t' (face_from t') (face_hit t') k (reading_keys at reals') l) counted.readings (sym order_is) in_order;
          };
          words_kept = words_kept;
          reals_kept = reals_kept;
        }

-- ---- the sorted readings
module _ (s : List ℕ) (at : Regions) (words : List ℕ) (reals : List Float) (o : WallsOrdered s at words reals) where
  abbrev all : ℕ
  all = length (readings_of (part_of s))

  pub ready : FacesReady s at words
  ready = faces_ready s at words reals o.standing o.readings o.ranked

  pub order_inside : at.kinds ≤ length words
  order_inside = omega (arith, o.standing.placed.laid, o.standing.words_room)

  pub keys_inside : at.thickness ≤ length reals
  keys_inside = omega (arith, o.standing.placed.laid, o.standing.reals_room)

  pub order_long : all ≤ length (reading_order at words)
  order_long = o.sorted.grouped.inside

  -- in the words of `group_end`
  pub order_numbered : (m : ℕ) → m ≡ all → (m ≤ length (reading_order at words)) × Numbered (reading_keys at reals) (reading_order at words) 0 m
  order_numbered m count = (
    omega (arith, count, order_long),
    record {
      has = λ i a h.
          let laid = o.standing.placed.laid in
          omega (
            arith,
            part_length at.falling at.thickness reals keys_inside,
            few s at words ready,
            laid,
            item_below (part_of s) (face_from (part_of s)) (face_hit (part_of s)) all (reading_keys at reals) (reading_order at words) o.sorted i (omega (arith, h, count)),
          );
    },
  )

  pub place_room : (j : ℕ) → j < all → at.order + j < length words
  place_room j h = omega (arith, h, few s at words ready, o.standing.placed.laid, o.standing.words_room)

  pub cell_is : (j : ℕ) → j < all → get_or words (at.order + j) 0 ≡ get_or (reading_order at words) j 0
  cell_is j h = sym (part_place at.order at.kinds words 0 j (omega (arith, h, few s at words ready, o.standing.placed.laid)))

  pub place_below : (j x : ℕ) → j < all → x ≡ get_or words (at.order + j) 0 → x < all
  place_below j x h e =
      omega (arith, e, cell_is j h, item_below (part_of s) (face_from (part_of s)) (face_hit (part_of s)) all (reading_keys at reals) (reading_order at words) o.sorted j h)

  -- its thickness
  pub thickness_room : (j x : ℕ) → j < all → x ≡ get_or words (at.order + j) 0 → at.thickness + x < length reals
  thickness_room j x h e = omega (arith, place_below j x h e, few s at words ready, o.standing.placed.laid, o.standing.reals_room)

  pub thickness_is : (j x : ℕ) → j < all → x ≡ get_or words (at.order + j) 0 →
      get_or reals (at.thickness + x) nan ≡ (reading (readings_of (part_of s)) (get_or (reading_order at words) j 0)).thickness
  thickness_is j x h e =
      o.readings.stored.thickness x (place_below j x h e) ∙ ap (λ (k : ℕ). (reading (readings_of (part_of s)) k).thickness) (e ∙ cell_is j h)

  -- ---- the next two faces
  pub next_is : (m i e x : ℕ) (r : FacePair) → m ≡ all → RunEnds (reading_keys at reals) (reading_order at words) m i e → x ≡ get_or words (at.order + i) 0 →
      PairIs (part_of s) (face_from (part_of s) x) (face_hit (part_of s) x) r →
      NextWallIs (part_of s) at words reals i (record { first = r.first; second = r.second; end = e })
  next_is m i e x r count run is pair =
      let low : i < all = omega (arith, run.more, run.inside, count) in
      let there : x ≡ get_or (reading_order at words) i 0 = is ∙ cell_is i low in
      let faces = walls_inside (part_of s) x (place_below i x low is) in
      record {
        run = subst (λ (k : ℕ). RunEnds (reading_keys at reals) (reading_order at words) k i e) count run;
        first = pair.first ∙ ap (λ (z : ℕ). lower (part_of s) (face_from (part_of s) z) (face_hit (part_of s) z)) there;
        second = pair.second ∙ ap (λ (z : ℕ). higher (part_of s) (face_from (part_of s) z) (face_hit (part_of s) z)) there;
        first_below = subst (λ (f : ℕ). f < faces_of (part_of s)) (sym pair.first) (lower_below (part_of s) (face_from (part_of s) x) (face_hit (part_of s) x) faces.0 faces.1);
        second_below = subst (λ (f : ℕ). f < faces_of (part_of s)) (sym pair.second) (higher_below (part_of s) (face_from (part_of s) x) (face_hit (part_of s) x) faces.0 faces.1);
      }
