-- The walk over the sorted corners: a corner in its place, the next two faces, and what is kept of the corners between them.
use mathlib.Core.Path.{◌≡◌, refl, sym, ap, ◌∙◌, subst, subst₂}
use mathlib.Core.Bool.{Bool, true, false, cond}
use mathlib.Core.List.{List, [], ◌∷◌, ◌++◌, Memᴰ}
use Prim.Native.Nat.{ℕ, ◌+◌, ◌-◌, ◌≤◌, ◌<◌}
use native.Mathlib.Omega.{arith}
use lib.ListN.{length, get_or, take, drop}
use lib.Ieee.{Float, binary64, add}
use Rattle.list_laws.specs.Region.{part}
use Rattle.list_laws.proofs.Regions.{part_length, part_place, part_more, part_first}
use Rattle.list_sort.specs.Work.{Numbered}
use Rattle.list_groups.specs.Work.{RunEnds}
use Rattle.math.specs.declared.Vec3.{Vec3}
use Rattle.math.specs.Vector.{zero}
use Rattle.file_part.specs.Part.{Part, part_of}
use Rattle.solid_polygon.specs.declared.polygon.Plane.{Plane}
use Rattle.solid_faces.specs.Faces.{faces_of, face_number, polygon_plane}
use Rattle.solid_faces.proofs.FaceLaws.{number_below}
use Rattle.solid_ids.specs.Ids.{face_before}
use Rattle.solid_segments.specs.Sides.{owner_of}
use Rattle.solid_edges.specs.Edges.{face_of_side, face_beyond, is_edge_of}
use Rattle.scratch.specs.declared.regions.Regions.{Regions}
use Rattle.scratch.specs.Standing.{Standing}
use Rattle.scratch.proofs.StandingLaws.{placed_polygons, placed_vertices}
use Rattle.scratch.proofs.WordsLaws.{face_at_lem}
use Rattle.solid_pairs.specs.declared.FacePair.{FacePair}
use Rattle.solid_pairs.specs.Pairs.{lower, higher}
use Rattle.solid_pairs.specs.Work.{PairIs}
use Rattle.solid_pairs.proofs.PairLaws.{lower_below, higher_below, item_below, group_below, pairs_start, next_pair, pairs_end}
use Rattle.rule_corners.specs.declared.segment.Sides.{Sides}
use Rattle.rule_corners.specs.declared.corner.Two.{Two}
use Rattle.rule_corners.specs.declared.corner.Corner.{Corner}
use Rattle.rule_corners.specs.declared.corner.NextCorner.{NextCorner}
use Rattle.rule_corners.specs.Corners.{polygon_beyond, corner_count, corner_side, near_face, far_face, mid_of, segment_length, length_from_of, last_of, is_turned, lower_normal, higher_normal, corner_of_word, over_corners}
use Rattle.rule_corners.specs.Work.{corner_keys, corner_order, CornersOrdered, CornersMet, NextCornerIs, SidesOf, SideAt, Normals}
use Rattle.rule_corners.proofs.CornerLaws.{corner_most, corner_side_lem, corner_faces, corner_edge}

-- ---- the faces of a corner are those of its segment
near_of : (t : Part) (r z : ℕ) → r ≡ corner_side t z → face_of_side t r ≡ near_face t z
unfolding near_face
near_of t r z e = ap (face_of_side t) e

far_of : (t : Part) (r z : ℕ) → r ≡ corner_side t z → face_beyond t r ≡ far_face t z
unfolding far_face
far_of t r z e = ap (face_beyond t) e

-- ---- the two faces of a segment
module _ (s : List ℕ) (at : Regions) (words : List ℕ) (reals : List Float) (h : Standing s at words reals) (i : ℕ) (of : Sides) (sides : SidesOf (part_of s) i of) where
  abbrev t : Part
  t = part_of s

  pub polygon_in : (of.polygon < at.polygons) × (of.beyond < at.polygons)
  polygon_in = (omega (arith, sides.polygon_below, placed_polygons s at h.placed), omega (arith, sides.beyond_below, placed_polygons s at h.placed))

  pub near_is : (f : ℕ) → f ≡ get_or words (at.faces + of.polygon) 0 → f ≡ face_of_side t i
  unfolding face_of_side
  near_is f e =
      e ∙ face_at_lem t at words of.polygon h.placed.laid h.the_words (placed_polygons s at h.placed) polygon_in.0 ∙ ap (face_number t) sides.polygon_is

  pub far_is : (f : ℕ) → f ≡ get_or words (at.faces + of.beyond) 0 → f ≡ face_beyond t i
  unfolding face_beyond face_of_side polygon_beyond
  far_is f e =
      e ∙ face_at_lem t at words of.beyond h.placed.laid h.the_words (placed_polygons s at h.placed) polygon_in.1 ∙ ap (face_number t) sides.beyond_is

  pub near_below : (f : ℕ) → f ≡ get_or words (at.faces + of.polygon) 0 → f < faces_of t
  near_below f e =
      omega (arith, e, face_at_lem t at words of.polygon h.placed.laid h.the_words (placed_polygons s at h.placed) polygon_in.0, number_below t of.polygon sides.polygon_below)

  pub far_below : (f : ℕ) → f ≡ get_or words (at.faces + of.beyond) 0 → f < faces_of t
  far_below f e =
      omega (arith, e, face_at_lem t at words of.beyond h.placed.laid h.the_words (placed_polygons s at h.placed) polygon_in.1, number_below t of.beyond sides.beyond_below)

  -- ---- its normals, that of the lower id first
  module _ (x y : Plane) (ex : x ≡ polygon_plane t of.polygon) (ey : y ≡ polygon_plane t of.beyond) (f g : ℕ) (b : Bool) (ef : f ≡ get_or words (at.faces + of.polygon) 0)
      (eg : g ≡ get_or words (at.faces + of.beyond) 0) (eb : b ≡ face_before t g f) where
    turned : b ≡ is_turned t i
    unfolding is_turned
    turned = eb ∙ ap (λ (z : ℕ). face_before t z f) (far_is g eg) ∙ ap (face_before t (face_beyond t i)) (near_is f ef)

    pub normals_turned : b ≡ true → Normals t i (record { low = y.normal; high = x.normal })
    unfolding lower_normal higher_normal
    normals_turned e =
        record {
          low_is = ap (λ (p : Plane). p.normal) (ey ∙ ap (polygon_plane t) sides.beyond_is) ∙ ap (λ (c : Bool). (polygon_plane t (cond c (polygon_beyond t i) (owner_of t i))).normal) (sym e ∙ turned);
          high_is = ap (λ (p : Plane). p.normal) (ex ∙ ap (polygon_plane t) sides.polygon_is) ∙ ap (λ (c : Bool). (polygon_plane t (cond c (owner_of t i) (polygon_beyond t i))).normal) (sym e ∙ turned);
        }

    pub normals_straight : b ≡ false → Normals t i (record { low = x.normal; high = y.normal })
    unfolding lower_normal higher_normal
    normals_straight e =
        record {
          low_is = ap (λ (p : Plane). p.normal) (ex ∙ ap (polygon_plane t) sides.polygon_is) ∙ ap (λ (c : Bool). (polygon_plane t (cond c (polygon_beyond t i) (owner_of t i))).normal) (sym e ∙ turned);
          high_is = ap (λ (p : Plane). p.normal) (ey ∙ ap (polygon_plane t) sides.beyond_is) ∙ ap (λ (c : Bool). (polygon_plane t (cond c (owner_of t i) (polygon_beyond t i))).normal) (sym e ∙ turned);
        }

-- ---- the sorted corners
module _ (s : List ℕ) (at : Regions) (words : List ℕ) (reals : List Float) (o : CornersOrdered s at words reals) where
  abbrev u : Part
  u = part_of s

  abbrev all : ℕ
  all = corner_count u

  pub order_inside : at.chain ≤ length words
  order_inside = omega (arith, o.standing.placed.laid, o.standing.words_room)

  pub order_long : all ≤ length (corner_order at words)
  order_long = o.sorted.grouped.inside

  -- a corner is a segment, and there are no more corners than segments
  pub most : all ≤ at.vertices
  most = omega (arith, corner_most u, placed_vertices s at o.standing.placed)

  -- in the words of `group_end`
  pub order_numbered : (m : ℕ) → m ≡ all → (m ≤ length (corner_order at words)) × Numbered (corner_keys at reals) (corner_order at words) 0 m
  order_numbered m count = (
    omega (arith, count, order_long),
    record {
      has = λ i a h.
          let laid = o.standing.placed.laid in
          omega (
            arith,
            part_length at.directions at.free reals (omega (arith, laid, o.standing.reals_room)),
            most,
            laid,
            item_below u (near_face u) (far_face u) all (corner_keys at reals) (corner_order at words) o.sorted i (omega (arith, h, count)),
          );
    },
  )

  pub place_room : (j : ℕ) → j < all → at.sorted + j < length words
  place_room j h = omega (arith, h, most, o.standing.placed.laid, o.standing.words_room)

  cell_is : (j x : ℕ) → j < all → x ≡ get_or words (at.sorted + j) 0 → x ≡ get_or (corner_order at words) j 0
  cell_is j x h e = e ∙ sym (part_place at.sorted at.chain words 0 j (omega (arith, h, most, o.standing.placed.laid)))

  place_below : (j x : ℕ) → j < all → x ≡ get_or words (at.sorted + j) 0 → x < all
  place_below j x h e = omega (arith, cell_is j x h e, item_below u (near_face u) (far_face u) all (corner_keys at reals) (corner_order at words) o.sorted j h)

  pub item_room : (j x : ℕ) → j < all → x ≡ get_or words (at.sorted + j) 0 → at.items + x < length words
  item_room j x h e = omega (arith, place_below j x h e, most, o.standing.placed.laid, o.standing.words_room)

  pub side_is : (j x r : ℕ) → j < all → x ≡ get_or words (at.sorted + j) 0 → r ≡ get_or words (at.items + x) 0 → SideAt u at words j r
  side_is j x r h e q =
      let there : r ≡ corner_side u x = q ∙ o.sides x (place_below j x h e) in
      let c = corner_side_lem u x (place_below j x h e) in
      record {
        side = there ∙ ap (corner_side u) (cell_is j x h e);
        below = omega (arith, there, c.0);
        edge = ap (is_edge_of u) there ∙ corner_edge u (corner_side u x) c.1;
      }

  -- ---- the next two faces
  pub next_is : (m i e r : ℕ) (of : Sides) (near far : ℕ) (p : FacePair) → m ≡ all → RunEnds (corner_keys at reals) (corner_order at words) m i e → SideAt u at words i r → SidesOf u r of →
      near ≡ get_or words (at.faces + of.polygon) 0 → far ≡ get_or words (at.faces + of.beyond) 0 → PairIs u near far p →
      NextCornerIs u at words reals i (record { first = p.first; second = p.second; end = e })
  next_is m i e r of near far p count run side sides en ef pair =
      let low : i < all = omega (arith, run.more, run.inside, count) in
      let z = get_or (corner_order at words) i 0 in
      let inside = item_below u (near_face u) (far_face u) all (corner_keys at reals) (corner_order at words) o.sorted i low in
      let faces = corner_faces s at words reals o.standing z inside in
      let a : near ≡ near_face u z = near_is s at words reals o.standing r of sides near en ∙ near_of u r z side.side in
      let b : far ≡ far_face u z = far_is s at words reals o.standing r of sides far ef ∙ far_of u r z side.side in
      record {
        run = subst (λ (k : ℕ). RunEnds (corner_keys at reals) (corner_order at words) k i e) count run;
        first = pair.first ∙ ap (λ (k : ℕ). lower u k far) a ∙ ap (lower u (near_face u z)) b;
        second = pair.second ∙ ap (λ (k : ℕ). higher u k far) a ∙ ap (higher u (near_face u z)) b;
        first_below = subst (λ (k : ℕ). k < faces_of u) (sym (pair.first ∙ ap (λ (k : ℕ). lower u k far) a ∙ ap (lower u (near_face u z)) b))
            (lower_below u (near_face u z) (far_face u z) faces.0 faces.1);
        second_below = subst (λ (k : ℕ). k < faces_of u) (sym (pair.second ∙ ap (λ (k : ℕ). higher u k far) a ∙ ap (higher u (near_face u z)) b))
            (higher_below u (near_face u z) (far_face u z) faces.0 faces.1);
      }

-- ---- the walk
pub corners_start : {X : Type 0} (t : Part) (h : ℕ → ℕ → List ℕ → List X) → CornersMet t h 0 []
unfolding CornersMet
corners_start t h = pairs_start t (near_face t) (far_face t) (corner_count t) h

module _ {X : Type 0} (s : List ℕ) (at : Regions) (words : List ℕ) (reals : List Float) (o : CornersOrdered s at words reals) (h : ℕ → ℕ → List ℕ → List X) where
  pub next_corner : (i : ℕ) (r : NextCorner) → NextCornerIs (part_of s) at words reals i r → (out : List X) → CornersMet (part_of s) h i out →
      CornersMet (part_of s) h r.end (out ++ h r.first r.second (part i r.end (corner_order at words)))
  unfolding CornersMet
  next_corner i r is out w =
      subst₂ (λ (f g : ℕ). CornersMet (part_of s) h r.end (out ++ h f g (part i r.end (corner_order at words)))) (sym is.first) (sym is.second)
      (next_pair (part_of s) (near_face (part_of s)) (far_face (part_of s)) (corner_count (part_of s)) (corner_faces s at words reals o.standing) h (corner_keys at reals)
      (corner_order at words) o.sorted i r.end is.run out w)

  pub corners_end : (i : ℕ) (out : List X) → corner_count (part_of s) ≤ i → CornersMet (part_of s) h i out → out ≡ over_corners (part_of s) h
  unfolding CornersMet over_corners
  corners_end i out l w =
      pairs_end (part_of s) (near_face (part_of s)) (far_face (part_of s)) (corner_count (part_of s)) (corner_faces s at words reals o.standing) h i out l w

-- ---- the length of some corners
pub length_none : (t : Part) (xs : List ℕ) (i : ℕ) → zero ≡ length_from_of t zero (part i i xs)
unfolding length_from_of
length_none t xs i =
    let none : 0 ≡ i - i = omega arith in
    ap (λ (k : ℕ). length_from_of t zero (take k (drop i xs))) none

from_more : (t : Part) (x : Float) (l : List ℕ) (k : ℕ) → length_from_of t x (l ++ (k ∷ [])) ≡ add binary64 (length_from_of t x l) (segment_length t (corner_side t k))
unfolding length_from_of
from_more t x [] k = refl
from_more t x (j ∷ l) k = from_more t (add binary64 x (segment_length t (corner_side t j))) l k

pub length_more : (t : Part) (xs : List ℕ) (i j r : ℕ) (x y : Float) → i ≤ j → j < length xs → x ≡ length_from_of t zero (part i j xs) → r ≡ corner_side t (get_or xs j 0) →
    y ≡ segment_length t r → add binary64 x y ≡ length_from_of t zero (part i (j + 1) xs)
length_more t xs i j r x y l h ex er ey =
    ap (λ (z : Float). add binary64 z y) ex ∙ ap (add binary64 (length_from_of t zero (part i j xs))) (ey ∙ ap (segment_length t) er)
    ∙ sym (from_more t zero (part i j xs) (get_or xs j 0)) ∙ ap (length_from_of t zero) (sym (part_more xs 0 i j l h))

pub length_end : (t : Part) (xs : List ℕ) (i j e : ℕ) (x : Float) → j ≤ e → e ≤ j → x ≡ length_from_of t zero (part i j xs) → x ≡ length_from_of t zero (part i e xs)
length_end t xs i j e x a b h =
    let same : j ≡ e = omega (arith, a, b) in
    h ∙ ap (λ (k : ℕ). length_from_of t zero (part i k xs)) same

-- ---- all that is kept of them
last_more : (k z : ℕ) (l : List ℕ) → last_of k (l ++ (z ∷ [])) ≡ z
unfolding last_of
last_more k z [] = refl
last_more k z (j ∷ l) = last_more j z l

last_is : (k z : ℕ) (l xs : List ℕ) → k ∷ l ≡ xs ++ (z ∷ []) → last_of k l ≡ z
unfolding last_of
last_is k z l [] e = let same : l ≡ [] = cc in let here : k ≡ z = cc in ap (last_of k) same ∙ here
last_is k z l (j ∷ xs) e = let same : l ≡ xs ++ (z ∷ []) = cc in ap (last_of k) same ∙ last_more k z xs

corner_parts : (t : Part) (k : ℕ) (l : List ℕ) (x : Float) (m a b : Vec3) → x ≡ length_from_of t zero (k ∷ l) → m ≡ mid_of t (corner_side t (last_of k l)) →
    a ≡ lower_normal t (corner_side t k) → b ≡ higher_normal t (corner_side t k) → ◌≡◌ {A = Corner} (record { length = x; mid = m; low = a; high = b }) (corner_of_word t (k ∷ l))
unfolding corner_of_word
corner_parts t k l x m a b ex em ea eb = rw (ex, em, ea, eb)

module _ (t : Part) (at : Regions) (words : List ℕ) (i e : ℕ) (low : i < e) (high : e ≤ length (corner_order at words)) where
  abbrev xs : List ℕ
  xs = corner_order at words

  abbrev first : ℕ
  first = get_or xs i 0

  abbrev rest : List ℕ
  rest = part (i + 1) e xs

  front : part i e xs ≡ first ∷ rest
  front = part_first xs 0 i e low high

  last : last_of first rest ≡ get_or xs (e - 1) 0
  last =
      let end : e - 1 + 1 ≡ e = omega (arith, low) in
      last_is first (get_or xs (e - 1) 0) rest (part i (e - 1) xs)
      (sym front ∙ ap (λ (k : ℕ). part i k xs) (sym end) ∙ part_more xs 0 i (e - 1) (omega (arith, low)) (omega (arith, low, high)))

  pub corner_is : (x : Float) (m : Vec3) (r q : ℕ) (two : Two) → x ≡ length_from_of t zero (part i e xs) → SideAt t at words (e - 1) r → m ≡ mid_of t r → SideAt t at words i q →
      Normals t q two → ◌≡◌ {A = Corner} (record { length = x; mid = m; low = two.low; high = two.high }) (corner_of_word t (part i e xs))
  corner_is x m r q two el sr em sq n =
      corner_parts t first rest x m two.low two.high (el ∙ ap (length_from_of t zero) front) (em ∙ ap (mid_of t) (sr.side ∙ ap (corner_side t) (sym last)))
      (n.low_is ∙ ap (lower_normal t) sq.side) (n.high_is ∙ ap (higher_normal t) sq.side)
      ∙ ap (corner_of_word t) (sym front)

-- what stands in the order are corners
pub corners_below : (s : List ℕ) (at : Regions) (words : List ℕ) (reals : List Float) → CornersOrdered s at words reals → (i e : ℕ) → e ≤ corner_count (part_of s) →
    (z : ℕ) → Memᴰ z (part i e (corner_order at words)) → z < corner_count (part_of s)
corners_below s at words reals o i e h z mem =
    group_below (part_of s) (near_face (part_of s)) (far_face (part_of s)) (corner_count (part_of s)) (corner_keys at reals) (corner_order at words) o.sorted i e h z mem
