-- Places of the sorted items: what stands at one, where a face's items begin, and the edges of a face and between two faces.
use mathlib.Core.Path.{◌≡◌, refl, sym, ap, ◌∙◌, subst}
use mathlib.Core.Bool.{true, false}
use mathlib.Core.List.{List, [], ◌∷◌, ◌++◌, map, map-append, append_assoc}
use Prim.Native.Nat.{ℕ, zero, suc, ◌+◌, ◌-◌, ◌*◌, ◌^◌, ◌≤◌, ◌<◌}
use native.Mathlib.Nat.{le_trans, mul-le-mul_right}
use native.Mathlib.Omega.{arith}
use lib.Dec.{ltb, lit≤}
use lib.IntN.{pos}
use lib.Ieee.{Float, binary64, nan, lt, of_int}
use lib.ListN.{length, get_or, take, length-append}
use lib.Seq.{drop_at, take_at, length-take-le}
use borrow.Author.Tests.{ltb-true, ltb-false}
use Rattle.list_laws.specs.Region.{part}
use Rattle.list_laws.proofs.Regions.{part_place}
use Rattle.list_groups.specs.Groups.{joined, unless_empty}
use Rattle.list_groups.specs.Work.{with_key, in_key_order, start_of, WholeIs, Grouped}
use Rattle.list_groups.proofs.Whole.{whole_lt}
use Rattle.list_groups.proofs.Flat.{joined_none, joined_suc, joined_add, joined_same}
use Rattle.list_groups.proofs.Order.{order_long, start_mono, start_le}
use Rattle.list_groups.proofs.Walks.{front_part, place_group, place_item}
use Rattle.file_part.specs.Part.{Part, part_of}
use Rattle.file_ok.specs.Work.{Readable}
use Rattle.solid_faces.specs.Faces.{faces_of}
use Rattle.solid_faces.proofs.BodyLaws.{checked_readable, checked_faces}
use Rattle.solid_faces.proofs.CountLaws.{few_faces}
use Rattle.solid_edges.specs.Edges.{is_edge_of}
use Rattle.scratch.specs.declared.regions.Regions.{Regions}
use Rattle.scratch.proofs.StandingLaws.{placed_polygons, placed_vertices}
use Rattle.solid_ranks.specs.Ranks.{rank_of, face_of_rank}
use Rattle.solid_ranks.proofs.RankLaws.{rank_below}
use Rattle.solid_tours.specs.Tours.{edges_between, over_neighbours, edges_of}
use Rattle.solid_tours.specs.Work.Kept.{item_count, item_side, item_key, key_start, edge_order, sides_at, OrderedTo, FacePlaces, ItemAt}
use Rattle.solid_tours.proofs.FewEdges.{items_most}
use Rattle.solid_tours.proofs.ItemLaws.{item_side_lem, rank_items}

-- ---- the groups of several keys in a row
module _ (key : ℕ → ℕ) (m n : ℕ) (xs : List ℕ) (grouped : Grouped key m n xs) where
  all_start : start_of key m n ≡ m
  all_start = sym (order_long key m n) ∙ ap length (sym grouped.is) ∙ length-take-le m xs grouped.inside

  pub start_most : (a : ℕ) → a ≤ n → start_of key m a ≤ m
  start_most a h = omega (arith, all_start, start_le key m a n h)

  rows : (a c d : ℕ) → in_key_order key m (a + c + d) ≡ in_key_order key m a ++ (joined (λ i. with_key key (a + i) m) c ++ joined (λ i. with_key key (a + c + i) m) d)
  unfolding in_key_order
  rows a c d =
      joined_add (λ k. with_key key k m) (a + c) d
      ∙ ap (λ (l : List ℕ). l ++ joined (λ i. with_key key (a + c + i) m) d) (joined_add (λ k. with_key key k m) a c)
      ∙ append_assoc (joined (λ k. with_key key k m) a) (joined (λ i. with_key key (a + i) m) c) (joined (λ i. with_key key (a + c + i) m) d)

  row_long : (a c : ℕ) → start_of key m (a + c) ≡ start_of key m a + length (joined (λ i. with_key key (a + i) m) c)
  unfolding start_of in_key_order
  row_long a c =
      ap length (joined_add (λ k. with_key key k m) a c) ∙ length-append (joined (λ k. with_key key k m) a) (joined (λ i. with_key key (a + i) m) c)

  pub part_keys : (a c : ℕ) → a + c ≤ n → part (start_of key m a) (start_of key m (a + c)) xs ≡ joined (λ i. with_key key (a + i) m) c
  part_keys a c h =
      let from = start_of key m a in
      let to = start_of key m (a + c) in
      let d = n - (a + c) in
      let all : a + c + d ≡ n = omega (arith, h) in
      let mid = joined (λ i. with_key key (a + i) m) c in
      let rest = joined (λ i. with_key key (a + c + i) m) d in
      let size : length mid ≡ to - from = omega (arith, row_long a c) in
      front_part m from to xs (start_mono key m a c) (start_most (a + c) h) grouped.inside
      ∙ ap (part from to) (grouped.is ∙ ap (in_key_order key m) (sym all) ∙ rows a c d)
      ∙ ap (take (to - from)) (drop_at (in_key_order key m a) (mid ++ rest) from (order_long key m a))
      ∙ take_at mid rest (to - from) size

map_joined : (f : ℕ → ℕ) (h : ℕ → List ℕ) (n : ℕ) → map f (joined h n) ≡ joined (λ i. map f (h i)) n
map_joined f h zero = ap (map f) (joined_none h) ∙ sym (joined_none (λ i. map f (h i)))
map_joined f h (suc n) =
    ap (map f) (joined_suc h n) ∙ map-append f (joined h n) (h n) ∙ ap (λ (l : List ℕ). l ++ map f (h n)) (map_joined f h n)
    ∙ sym (joined_suc (λ i. map f (h i)) n)

-- ---- the key that a rank's items begin with
pub goal_inside : (r k n : ℕ) → k ≡ n → r ≤ k → r * n ≤ n * n
goal_inside r k n e h = mul-le-mul_right n (omega (arith, e, h))

pub goal_is : (r k n : ℕ) (x : Float) → k ≡ n → WholeIs (r * k + 0) x → WholeIs (r * n) x
goal_is r k n x e h =
    let same : r * k + 0 ≡ r * n = add_zero (r * k) ∙ ap (λ (i : ℕ). r * i) e in
    subst (λ (i : ℕ). WholeIs i x) same h
  where
    add_zero : (i : ℕ) → i + 0 ≡ i
    add_zero i = omega arith

-- ---- the edges of a face, of each neighbour in turn
unless_self : (l : List ℕ) → unless_empty l l ≡ l
unfolding unless_empty
unless_self [] = refl
unless_self (x ∷ xs) = refl

pub edges_joined : (t : Part) (f : ℕ) → edges_of t f ≡ joined (λ r. edges_between t f (face_of_rank t r)) (faces_of t)
unfolding edges_of over_neighbours
edges_joined t f =
    joined_same (λ r. unless_empty (edges_between t f (face_of_rank t r)) (edges_between t f (face_of_rank t r))) (λ r. edges_between t f (face_of_rank t r)) (faces_of t)
    (λ r h. unless_self (edges_between t f (face_of_rank t r)))

-- ---- the sorted items
module _ (s : List ℕ) (at : Regions) (words : List ℕ) (reals : List Float) {done boxes : ℕ} (o : OrderedTo s at words reals done boxes) where
  abbrev t : Part
  t = part_of s

  abbrev n : ℕ
  n = faces_of t

  abbrev m : ℕ
  m = item_count t

  abbrev xs : List ℕ
  xs = edge_order at words

  pub readable : Readable s
  readable = checked_readable s o.standing.placed.checked

  pub few : n ≤ 1024
  few = checked_faces s o.standing.placed.checked

  pub most : m ≤ at.vertices
  most = omega (arith, items_most t, placed_vertices s at o.standing.placed)

  pub item_below : (j : ℕ) → j < m → get_or xs j 0 < m
  item_below j h = (place_item (item_key t) m (n * n) xs o.grouped j h).0

  pub place_room : (j : ℕ) → j < m → at.sorted + j < length words
  place_room j h = omega (arith, h, most, o.standing.placed.laid, o.standing.words_room)

  cell_is : (j x : ℕ) → j < m → x ≡ get_or words (at.sorted + j) 0 → x ≡ get_or xs j 0
  cell_is j x h e = e ∙ sym (part_place at.sorted at.chain words 0 j (omega (arith, h, most, o.standing.placed.laid)))

  place_below : (j x : ℕ) → j < m → x ≡ get_or words (at.sorted + j) 0 → x < m
  place_below j x h e = omega (arith, cell_is j x h e, item_below j h)

  pub item_room : (j x : ℕ) → j < m → x ≡ get_or words (at.sorted + j) 0 → at.items + x < length words
  item_room j x h e = omega (arith, place_below j x h e, most, o.standing.placed.laid, o.standing.words_room)

  pub key_room : (j x : ℕ) → j < m → x ≡ get_or words (at.sorted + j) 0 → at.directions + x < length reals
  key_room j x h e = omega (arith, place_below j x h e, most, o.standing.placed.laid, o.standing.reals_room)

  pub item_is : (j x r : ℕ) → j < m → x ≡ get_or words (at.sorted + j) 0 → r ≡ get_or words (at.items + x) 0 → ItemAt t at words j r
  item_is j x r h e q =
      let there : r ≡ item_side t x = q ∙ o.sides x (place_below j x h e) in
      let c = item_side_lem s readable x (place_below j x h e) in
      record {
        side = there ∙ ap (item_side t) (cell_is j x h e);
        below = omega (arith, there, c.0);
        edge = ap (is_edge_of t) there ∙ c.1;
      }

  pub key_is : (j x : ℕ) → j < m → x ≡ get_or words (at.sorted + j) 0 → get_or reals (at.directions + x) nan ≡ of_int binary64 (pos (item_key t (get_or xs j 0)))
  key_is j x h e =
      sym (part_place at.directions at.free reals nan x (omega (arith, place_below j x h e, most, o.standing.placed.laid)))
      ∙ o.keyed.each x (place_below j x h e) ∙ ap (λ (k : ℕ). of_int binary64 (pos (item_key t k))) (cell_is j x h e)

  -- ---- where the items of a key begin, by halving
  pub start_mono_key : (a b : ℕ) → a ≤ b → key_start t a ≤ key_start t b
  unfolding key_start
  start_mono_key a b h = start_le (item_key t) m a b h

  pub start_inside : (a : ℕ) → a ≤ n * n → key_start t a ≤ m
  unfolding key_start
  start_inside a h = start_most (item_key t) m (n * n) xs o.grouped a h

  pub in_group : (j : ℕ) → j < m → (key_start t (item_key t (get_or xs j 0)) ≤ j) × (j < key_start t (suc (item_key t (get_or xs j 0))))
  unfolding key_start
  in_group j h =
      let w = place_group (item_key t) m (n * n) xs o.grouped j h in
      (w.from, w.to)

  module _ (j a : ℕ) (x y : Float) (h : j < m) (ex : x ≡ of_int binary64 (pos (item_key t (get_or xs j 0)))) (whole : WholeIs a y) where
    key_small : item_key t (get_or xs j 0) ≤ 2 ^ 53
    key_small = le_trans (let l = o.keyed.below (get_or xs j 0) (item_below j h) in omega (arith, l)) o.keyed.exact

    goal_small : a ≤ 2 ^ 53
    goal_small = le_trans (let l = whole.small in below l) (lit≤ tt)
      where
        below : a < 9007199254740992 → a ≤ 9007199254740992
        below l = omega (arith, l)

    test_is : lt x y ≡ ltb (item_key t (get_or xs j 0)) a
    test_is = ap (λ (z : Float). lt z y) ex ∙ ap (lt (of_int binary64 (pos (item_key t (get_or xs j 0))))) whole.is ∙ whole_lt (item_key t (get_or xs j 0)) a key_small goal_small

    pub start_above : lt x y ≡ true → j + 1 ≤ key_start t a
    start_above e =
        let l = ltb-true (item_key t (get_or xs j 0)) a (sym test_is ∙ e) in
        omega (arith, (in_group j h).1, start_mono_key (suc (item_key t (get_or xs j 0))) a (omega (arith, l)))

    pub start_below : lt x y ≡ false → key_start t a ≤ j
    start_below e =
        let l = ltb-false (item_key t (get_or xs j 0)) a (sym test_is ∙ e) in
        omega (arith, (in_group j h).0, start_mono_key a (item_key t (get_or xs j 0)) l)

  -- ---- the places of a face
  module _ (f : ℕ) (lf : f < n) where
    abbrev row : ℕ
    row = rank_of t f * n

    pub row_inside : row + n ≤ n * n
    row_inside =
        let step : suc (rank_of t f) * n ≤ n * n = mul-le-mul_right n (rank_below t f lf) in
        let one : suc (rank_of t f) * n ≡ row + n = omega arith in
        omega (arith, step, one)

    pub face_edges : sides_at t at words (key_start t row) (key_start t (row + n)) ≡ edges_of t f
    unfolding sides_at key_start
    face_edges =
        ap (map (item_side t)) (part_keys (item_key t) m (n * n) xs o.grouped row n row_inside)
        ∙ map_joined (item_side t) (λ b. with_key (item_key t) (row + b) m) n
        ∙ joined_same (λ b. map (item_side t) (with_key (item_key t) (row + b) m)) (λ b. edges_between t f (face_of_rank t b)) n (λ b h. rank_items s readable f b lf h)
        ∙ sym (edges_joined t f)

    pub places_are : (r a b : ℕ) → r ≡ rank_of t f → a ≡ key_start t (r * n) → b ≡ key_start t ((r + 1) * n) → FacePlaces t at words f (record { start = a; end = b })
    places_are r a b er ea eb =
        let next : (r + 1) * n ≡ r * n + n = omega arith in
        let start : a ≡ key_start t row = ea ∙ ap (λ (k : ℕ). key_start t (k * n)) er in
        let end : b ≡ key_start t (row + n) = eb ∙ ap (key_start t) next ∙ ap (λ (k : ℕ). key_start t (k * n + n)) er in
        record {
          start_is = start;
          end_is = end;
          some = omega (arith, start, end, start_mono_key row (row + n) (omega arith));
          inside = omega (arith, end, start_inside (row + n) row_inside);
          edges = ap (λ (i : ℕ). sides_at t at words i b) start ∙ ap (sides_at t at words (key_start t row)) end ∙ face_edges;
        }

  -- the rank of a face, in its cell
  pub rank_room : (f : ℕ) → f < n → at.ranks + f < length words
  rank_room f h = omega (arith, h, few_faces t, placed_polygons s at o.standing.placed, o.standing.placed.laid, o.standing.words_room)

  pub rank_is : (f r : ℕ) → f < n → r ≡ get_or words (at.ranks + f) 0 → (r ≡ rank_of t f) × (r < n)
  rank_is f r h e = (e ∙ o.ranked.each f h, omega (arith, e, o.ranked.each f h, rank_below t f h))
