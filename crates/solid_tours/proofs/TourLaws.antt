-- A tour of the edges of a face: the least distance from those at some places, and one neighbour after the other.
use mathlib.Core.Path.{◌≡◌, refl, sym, ap, ◌∙◌, subst}
use mathlib.Core.Bool.{true, false}
use mathlib.Core.Logic.{◌⊎◌, inl, inr}
use mathlib.Core.List.Memᴰ
use Rattle.std.proofs.Common.{Option, Some}
use mathlib.Core.List.{List, [], ◌∷◌, ◌++◌, map, map-append, Memᴰ}
use Prim.Native.Nat.{ℕ, zero, suc, ◌+◌, ◌-◌, ◌*◌, ◌≤◌, ◌<◌}
use native.Mathlib.Nat.{le_antisymm}
use native.Mathlib.Numerals.{add-one}
use native.Mathlib.Omega.{arith}
use lib.Ieee.{Float, binary64, lt, of_bits}
use lib.ListN.{length, get_or, take, drop}
use borrow.Author.Tests.{ltb-true, ltb-false}
use Rattle.num_float.specs.Order.{lesser}
use Rattle.num_float.proofs.Tests.{lt_or_ge}
use Rattle.num_root.specs.Root.{root}
use Rattle.math.specs.declared.Vec3.{Vec3}
use Rattle.list_laws.specs.Region.{part}
use Rattle.list_laws.proofs.Regions.{part_length, part_place, part_more, part_first}
use Rattle.list_sort.specs.Work.{Numbered}
use Rattle.list_groups.specs.Groups.{joined, unless_empty}
use Rattle.list_groups.specs.Work.{with_key, start_of, RunEnds}
use Rattle.list_groups.proofs.Flat.{joined_none, joined_suc, joined_skip}
use Rattle.list_groups.proofs.Strict.{place_mem}
use Rattle.list_groups.proofs.Order.{start_le, start_suc}
use Rattle.list_groups.proofs.Grouping.{keyed_lt}
use Rattle.list_groups.proofs.Walks.{empty_between}
use Rattle.file_part.specs.Part.{Part, part_of}
use Rattle.file_ok.specs.Work.{Readable}
use Rattle.solid_faces.specs.Faces.{faces_of}
use Rattle.solid_distance.specs.declared.kept.Segment.{Segment}
use Rattle.solid_distance.specs.Kept.{square_to_of}
use Rattle.solid_edges.specs.Edges.{is_edge_of_word, is_between}
use Rattle.solid_edges.specs.Work.{side_square, leads_to}
use Rattle.solid_edges.specs.Neighbours.{first_between}
use Rattle.scratch.specs.declared.regions.Regions.{Regions}
use Rattle.solid_ranks.specs.Ranks.{rank_of, face_of_rank}
use Rattle.solid_ranks.proofs.RankLaws.{rank_below, rank_apart, face_of_rank_lem}
use Rattle.solid_tours.specs.declared.tour.Places.{Places}
use Rattle.solid_tours.specs.declared.tour.Group.{Group}
use Rattle.solid_tours.specs.Tours.{edges_between, over_neighbours}
use Rattle.solid_tours.specs.Work.{least_square, least_distance}
use Rattle.solid_tours.specs.Work.Kept.{item_count, item_side, item_face, item_other, item_key, key_start, edge_keys, edge_order, sides_at, side_segment, EdgesOrdered, FacePlaces, RestPlaces, GroupPlaces, NextGroup, TourTo, ItemAt}
use Rattle.solid_tours.proofs.ItemLaws.{face_inside, other_inside, item_leads, between_items, rank_items}
use Rattle.solid_tours.proofs.ItemLaws as items
use Rattle.solid_tours.proofs.PlaceLaws.{part_keys, readable, most, item_below, start_mono_key, start_inside, in_group, row_inside}
use Rattle.solid_tours.proofs.PackLaws.{side_square_lem}
use Rattle.solid_tours.proofs.LeastLaws.{least_more, inf_bits}
use Rattle.solid_tours.proofs.EdgeLaws.{between_edge, of_edge, first_edge}

-- ---- the edges at some places
pub sides_none : (t : Part) (at : Regions) (words : List ℕ) (i : ℕ) → sides_at t at words i i ≡ []
unfolding sides_at
sides_none t at words i =
    let none : i - i ≡ 0 = omega arith in
    ap (λ (k : ℕ). map (item_side t) (take k (drop i (edge_order at words)))) none

pub sides_more : (t : Part) (at : Regions) (words : List ℕ) (i j : ℕ) → i ≤ j → j < length (edge_order at words)
    → sides_at t at words i (j + 1) ≡ sides_at t at words i j ++ (item_side t (get_or (edge_order at words) j 0) ∷ [])
unfolding sides_at
sides_more t at words i j l h =
    ap (map (item_side t)) (part_more (edge_order at words) 0 i j l h)
    ∙ map-append (item_side t) (part i j (edge_order at words)) (get_or (edge_order at words) j 0 ∷ [])

-- one of them
mem_map : (f : ℕ → ℕ) (l : List ℕ) {z : ℕ} → Memᴰ z l → Memᴰ (f z) (map f l)
mem_map f [] m = absurd (Memᴰ.not-nil m)
mem_map f (x ∷ l) {z} m = go (λ k. mem_map f l k) (Memᴰ.cases_cons m)
  where
    go : (Memᴰ z l → Memᴰ (f z) (map f l)) → (z ≡ x) ⊎ Memᴰ z l → Memᴰ (f z) (f x ∷ map f l)
    go before (inl e) = Memᴰ.head (ap f e)
    go before (inr k) = Memᴰ.tail (before k)

pub sides_mem : (t : Part) (at : Regions) (words : List ℕ) (i e j r : ℕ) → i ≤ j → j < e → e ≤ length (edge_order at words) → ItemAt t at words j r
    → Memᴰ r (sides_at t at words i e)
unfolding sides_at
sides_mem t at words i e j r l h room item =
    let xs = edge_order at words in
    let here : i + (j - i) ≡ j = omega (arith, l) in
    let low : j - i < e - i = omega (arith, l, h) in
    let is : get_or (part i e xs) (j - i) 0 ≡ get_or xs j 0 = part_place i e xs 0 (j - i) low ∙ ap (λ (k : ℕ). get_or xs k 0) here in
    let mem = place_mem (part i e xs) (j - i) (omega (arith, low, part_length i e xs room)) in
    subst (λ (k : ℕ). Memᴰ k (map (item_side t) (part i e xs))) (ap (item_side t) is ∙ sym item.side) (mem_map (item_side t) (part i e xs) mem)

-- the first of them
sides_first : (t : Part) (at : Regions) (words : List ℕ) (i e r : ℕ) → i < e → e ≤ length (edge_order at words) → ItemAt t at words i r
    → sides_at t at words i e ≡ r ∷ sides_at t at words (i + 1) e
unfolding sides_at
sides_first t at words i e r h room item =
    ap (map (item_side t)) (part_first (edge_order at words) 0 i e h room)
    ∙ ap (λ (k : ℕ). k ∷ map (item_side t) (part (i + 1) e (edge_order at words))) (sym item.side)

least_none : (t : Part) (p : Vec3) (z : Float) → z ≡ least_square t p z []
unfolding least_square
least_none t p z = refl

-- ---- the loop of `least_square`
module _ (t : Part) (p : Vec3) (at : Regions) (words : List ℕ) where
  abbrev square_at : ℕ → Float
  square_at j = side_square t p (item_side t (get_or (edge_order at words) j 0))

  pub least_start : (z : Float) (i : ℕ) → z ≡ least_square t p z (sides_at t at words i i)
  least_start z i = least_none t p z ∙ ap (least_square t p z) (sym (sides_none t at words i))

  least_step : (z : Float) (i j : ℕ) → i ≤ j → j < length (edge_order at words)
      → least_square t p z (sides_at t at words i (j + 1)) ≡ lesser (least_square t p z (sides_at t at words i j)) (square_at j)
  least_step z i j l h =
      ap (least_square t p z) (sides_more t at words i j l h) ∙ least_more t p z (sides_at t at words i j) (item_side t (get_or (edge_order at words) j 0))

  pub least_next : (z : Float) (i j : ℕ) (x y : Float) (q : Segment) → i ≤ j → j < length (edge_order at words) → x ≡ least_square t p z (sides_at t at words i j)
      → q ≡ side_segment t (item_side t (get_or (edge_order at words) j 0)) → y ≡ lesser x (square_to_of p q) → y ≡ least_square t p z (sides_at t at words i (j + 1))
  least_next z i j x y q l h ex eq ey =
      let r = item_side t (get_or (edge_order at words) j 0) in
      ey ∙ ap (λ (w : Float). lesser w (square_to_of p q)) ex
      ∙ ap (lesser (least_square t p z (sides_at t at words i j))) (ap (square_to_of p) eq ∙ side_square_lem t p r)
      ∙ sym (least_step z i j l h)

  pub least_stop : (z : Float) (i j e : ℕ) (x : Float) → j ≤ e → e ≤ j → x ≡ least_square t p z (sides_at t at words i j) → x ≡ least_square t p z (sides_at t at words i e)
  least_stop z i j e x a b ex =
      let same : j ≡ e = omega (arith, a, b) in
      ex ∙ ap (λ (k : ℕ). least_square t p z (sides_at t at words i k)) same

  -- ---- one run of places after another
  join_step : (z : Float) (i j n : ℕ) → i ≤ j → j + n ≤ length (edge_order at words)
      → least_square t p (least_square t p z (sides_at t at words i j)) (sides_at t at words j (j + n)) ≡ least_square t p z (sides_at t at words i (j + n))
  join_step z i j zero l h =
      let here : j + 0 ≡ j = omega arith in
      ap (λ (k : ℕ). least_square t p (least_square t p z (sides_at t at words i j)) (sides_at t at words j k)) here
      ∙ sym (least_start (least_square t p z (sides_at t at words i j)) j)
      ∙ ap (λ (k : ℕ). least_square t p z (sides_at t at words i k)) (sym here)
  join_step z i j (suc n) l h =
      let here : j + suc n ≡ j + n + 1 = omega arith in
      let x = least_square t p z (sides_at t at words i j) in
      ap (λ (k : ℕ). least_square t p x (sides_at t at words j k)) here
      ∙ least_step x j (j + n) (omega arith) (omega (arith, h))
      ∙ ap (λ (w : Float). lesser w (square_at (j + n))) (join_step z i j n l (omega (arith, h)))
      ∙ sym (least_step z i (j + n) (omega (arith, l)) (omega (arith, h)))
      ∙ ap (λ (k : ℕ). least_square t p z (sides_at t at words i k)) (sym here)

  pub least_join : (z : Float) (i j e : ℕ) (x y : Float) → i ≤ j → j ≤ e → e ≤ length (edge_order at words) → x ≡ least_square t p z (sides_at t at words i j)
      → y ≡ least_square t p x (sides_at t at words j e) → y ≡ least_square t p z (sides_at t at words i e)
  least_join z i j e x y l h k ex ey =
      let there : j + (e - j) ≡ e = omega (arith, h) in
      ey ∙ ap (λ (w : Float). least_square t p w (sides_at t at words j e)) ex
      ∙ ap (λ (q : ℕ). least_square t p (least_square t p z (sides_at t at words i j)) (sides_at t at words j q)) (sym there)
      ∙ join_step z i j (e - j) l (omega (arith, there, k))
      ∙ ap (λ (q : ℕ). least_square t p z (sides_at t at words i q)) there

  -- ---- a run of places none of which is nearer
  lesser_kept : (x y : Float) → lt y x ≡ false → lesser x y ≡ x
  lesser_kept x y h = rw h

  spared_step : (x : Float) (i n : ℕ) → i + n ≤ length (edge_order at words) → ((j : ℕ) → i ≤ j → j < i + n → lt (square_at j) x ≡ false)
      → least_square t p x (sides_at t at words i (i + n)) ≡ x
  spared_step x i zero h far =
      let here : i + 0 ≡ i = omega arith in
      ap (λ (k : ℕ). least_square t p x (sides_at t at words i k)) here ∙ sym (least_start x i)
  spared_step x i (suc n) h far =
      let here : i + suc n ≡ i + n + 1 = omega arith in
      ap (λ (k : ℕ). least_square t p x (sides_at t at words i k)) here
      ∙ least_step x i (i + n) (omega arith) (omega (arith, h))
      ∙ ap (λ (w : Float). lesser w (square_at (i + n))) (spared_step x i n (omega (arith, h)) (λ j a b. far j a (omega (arith, b))))
      ∙ lesser_kept x (square_at (i + n)) (far (i + n) (omega arith) (omega arith))

  pub least_spared : (x : Float) (i e : ℕ) → i ≤ e → e ≤ length (edge_order at words) → ((j : ℕ) → i ≤ j → j < e → lt (square_at j) x ≡ false)
      → x ≡ least_square t p x (sides_at t at words i e)
  least_spared x i e l h far =
      let there : i + (e - i) ≡ e = omega (arith, l) in
      sym (spared_step x i (e - i) (omega (arith, there, h)) (λ j a b. far j a (omega (arith, b, there))))
      ∙ ap (λ (q : ℕ). least_square t p x (sides_at t at words i q)) there

  -- ---- from infinity on, and the root
  pub least_end : (i j e : ℕ) (x r : Float) → j ≤ e → e ≤ j → x ≡ least_square t p (of_bits binary64 0x7ff0_0000_0000_0000) (sides_at t at words i j) → r ≡ root x
      → r ≡ least_distance t p (sides_at t at words i e)
  unfolding least_distance
  least_end i j e x r a b ex er =
      er ∙ ap root (least_stop (of_bits binary64 0x7ff0_0000_0000_0000) i j e x a b ex ∙ ap (λ (z : Float). least_square t p z (sides_at t at words i e)) (inf_bits t p))

-- ---- the next neighbour
module _ (s : List ℕ) (at : Regions) (words : List ℕ) (reals : List Float) (o : EdgesOrdered s at words reals) where
  abbrev t : Part
  t = part_of s

  abbrev n : ℕ
  n = faces_of t

  abbrev m : ℕ
  m = item_count t

  abbrev xs : List ℕ
  xs = edge_order at words

  pub order_long : m ≤ length xs
  order_long = o.grouped.inside

  -- in the words of `group_end`
  pub order_numbered : (e : ℕ) → e ≤ m → (e ≤ length xs) × Numbered (edge_keys at reals) xs 0 e
  order_numbered e h = (
    omega (arith, h, order_long),
    record {
      has = λ i a l.
          let laid = o.standing.placed.laid in
          omega (
            arith,
            part_length at.directions at.free reals (omega (arith, laid, o.standing.reals_room)),
            most s at words reals o,
            laid,
            item_below s at words reals o i (omega (arith, l, h)),
          );
    },
  )

  module _ (f : ℕ) (lf : f < n) (rest : Places) (left : RestPlaces t f rest) (more : rest.start < rest.end) where
    abbrev row : ℕ
    row = rank_of t f * n

    abbrev i : ℕ
    i = rest.start

    pub rest_inside : rest.end ≤ m
    rest_inside = omega (arith, left.end_is, start_inside s at words reals o (row + n) (row_inside s at words reals o f lf))

    inside : i < m
    inside = omega (arith, more, rest_inside)

    abbrev z : ℕ
    z = get_or xs i 0

    abbrev key : ℕ
    key = item_key t z

    z_below : z < m
    z_below = item_below s at words reals o i inside

    low : row + left.upto ≤ key
    low = go (lt_or_ge key (row + left.upto))
      where
        go : (key < row + left.upto) ⊎ (row + left.upto ≤ key) → row + left.upto ≤ key
        go (inl less) =
            absurd (omega (arith, left.start_is, (in_group s at words reals o i inside).1, start_mono_key s at words reals o (suc key) (row + left.upto) (omega (arith, less))))
        go (inr ge) = ge

    high : key < row + n
    high = go (lt_or_ge key (row + n))
      where
        go : (key < row + n) ⊎ (row + n ≤ key) → key < row + n
        go (inl less) = less
        go (inr ge) = absurd (omega (arith, left.end_is, more, (in_group s at words reals o i inside).0, start_mono_key s at words reals o (row + n) key ge))

    -- the item's face is f
    abbrev b : ℕ
    b = key - row

    faces : (rank_of t (item_face t z) ≡ rank_of t f) × (rank_of t (item_other t z) ≡ b)
    faces = items.key_faces s (readable s at words reals o) z z_below (rank_of t f) b (omega (arith, high, low)) (omega (arith, low))

    pub face_is : item_face t z ≡ f
    face_is = rank_apart t (item_face t z) f (face_inside s (readable s at words reals o) z z_below) lf faces.0

    abbrev g : ℕ
    g = item_other t z

    g_below : g < n
    g_below = other_inside s (readable s at words reals o) z z_below

    key_at_lem : key ≡ row + rank_of t g
    key_at_lem = omega (arith, low, faces.1)

    begins : i ≡ key_start t key
    begins = le_antisymm (omega (arith, left.start_is, start_mono_key s at words reals o (row + left.upto) key low)) (in_group s at words reals o i inside).0

    -- where its edges lead to
    pub leads : (r : ℕ) (k : Option ℕ) → ItemAt t at words i r → k ≡ leads_to t f r → k ≡ Some g
    leads r k item e = e ∙ ap (leads_to t f) item.side ∙ item_leads s (readable s at words reals o) z z_below f face_is

    module _ (e : ℕ) (run : RunEnds (edge_keys at reals) xs rest.end i e) where
      ends_after : e ≤ key_start t (suc key)
      ends_after =
          let j = e - 1 in
          let l : j < m = omega (arith, run.more, run.inside, rest_inside) in
          let le : item_key t (get_or xs j 0) ≤ key
          = ltb-false key (item_key t (get_or xs j 0))
          (sym (keyed_lt (edge_keys at reals) (item_key t) m (n * n) o.keyed z (get_or xs j 0) z_below (item_below s at words reals o j l))
          ∙ run.same j (omega (arith, run.more)) (omega (arith, run.more))) in
          omega (arith, run.more, (in_group s at words reals o j l).1, start_mono_key s at words reals o (suc (item_key t (get_or xs j 0))) (suc key) (omega (arith, le)))

      ends_before : (e < rest.end) ⊎ (rest.end ≤ e) → key_start t (suc key) ≤ e
      ends_before (inl under) =
          let l : e < m = omega (arith, under, rest_inside) in
          let more-key : key < item_key t (get_or xs e 0)
          = ltb-true key (item_key t (get_or xs e 0))
          (sym (keyed_lt (edge_keys at reals) (item_key t) m (n * n) o.keyed z (get_or xs e 0) z_below (item_below s at words reals o e l)) ∙ run.next under) in
          omega (arith, (in_group s at words reals o e l).0, start_mono_key s at words reals o (suc key) (item_key t (get_or xs e 0)) (omega (arith, more-key)))
      ends_before (inr all) = omega (arith, all, left.end_is, start_mono_key s at words reals o (suc key) (row + n) (omega (arith, high)))

      ends : e ≡ key_start t (suc key)
      ends = le_antisymm ends_after (ends_before (lt_or_ge e rest.end))

      next_row : suc key ≡ row + rank_of t g + 1
      next_row = omega (arith, key_at_lem)

      group_edges : sides_at t at words (key_start t (row + rank_of t g)) (key_start t (row + rank_of t g + 1)) ≡ edges_between t f g
      unfolding sides_at key_start
      group_edges =
          let here : row + rank_of t g + 0 ≡ row + rank_of t g = omega arith in
          let one : joined (λ k. with_key (item_key t) (row + rank_of t g + k) m) 1 ≡ with_key (item_key t) (row + rank_of t g) m
          = joined_suc (λ k. with_key (item_key t) (row + rank_of t g + k) m) 0
          ∙ ap (λ (l : List ℕ). l ++ with_key (item_key t) (row + rank_of t g + 0) m) (joined_none (λ k. with_key (item_key t) (row + rank_of t g + k) m))
          ∙ ap (λ (k : ℕ). with_key (item_key t) k m) here in
          ap (map (item_side t))
          (part_keys (item_key t) m (n * n) xs o.grouped (row + rank_of t g) 1 (omega (arith, rank_below t g g_below, row_inside s at words reals o f lf)) ∙ one)
          ∙ between_items s (readable s at words reals o) f g lf g_below

      pub next_is : (r x : ℕ) (k : Option ℕ) → ItemAt t at words i r → k ≡ leads_to t f r → k ≡ Some x →
          NextGroup t at words f rest (record { face = f; other = x; start = i; end = e })
      next_is r x k item leads-to there =
          let same : x ≡ g = grind (arith, sym there ∙ leads r k item leads-to) in
          subst (λ (x : ℕ). NextGroup t at words f rest (record { face = f; other = x; start = i; end = e })) (sym same)
          (record {
            face_is = refl;
            from = refl;
            to = run.inside;
            group = record {
              face_below = lf;
              other_below = g_below;
              start_is = begins ∙ ap (key_start t) key_at_lem;
              end_is = ends ∙ ap (key_start t) next_row;
              some = run.more;
              inside = omega (arith, run.inside, rest_inside);
              edges = ap (λ (a : ℕ). sides_at t at words a e) (begins ∙ ap (key_start t) key_at_lem)
                  ∙ ap (sides_at t at words (key_start t (row + rank_of t g))) (ends ∙ ap (key_start t) next_row) ∙ group_edges;
            };
            left = record {
              upto = rank_of t g + 1;
              low = omega (arith, rank_below t g g_below);
              start_is = ends ∙ ap (key_start t) (next_row ∙ omega arith);
              end_is = left.end_is;
            };
          })

-- ---- the edges of a face and of a group, one by one
module _ (s : List ℕ) (at : Regions) (words : List ℕ) (reals : List Float) (o : EdgesOrdered s at words reals) where
  -- at the places of a face stand its edges
  pub place_edge : (f j r : ℕ) (places : Places) → FacePlaces (part_of s) at words f places → places.start ≤ j → j < places.end → ItemAt (part_of s) at words j r
      → is_edge_of_word (part_of s) f r ≡ true
  place_edge f j r places h l k item =
      (of_edge (part_of s) f
      (subst (Memᴰ r) h.edges (sides_mem (part_of s) at words places.start places.end j r l k (omega (arith, h.inside, order_long s at words reals o)) item))).1

  -- at those of a group the edges between two faces
  pub place_between : (g : Group) (j r : ℕ) → GroupPlaces (part_of s) at words g → g.start ≤ j → j < g.end → ItemAt (part_of s) at words j r
      → is_between (part_of s) g.face g.other r ≡ true
  place_between g j r h l k item =
      (between_edge (part_of s) g.face g.other
      (subst (Memᴰ r) h.edges (sides_mem (part_of s) at words g.start g.end j r l k (omega (arith, h.inside, order_long s at words reals o)) item))).1

  -- the first of them first
  pub group_first : (g : Group) (r : ℕ) → GroupPlaces (part_of s) at words g → ItemAt (part_of s) at words g.start r → r ≡ first_between (part_of s) g.face g.other
  group_first g r h item =
      let front = sym h.edges ∙ sides_first (part_of s) at words g.start g.end r h.some (omega (arith, h.inside, order_long s at words reals o)) item in
      let some : 0 < length (edges_between (part_of s) g.face g.other) = (let size = ap length front in omega (arith, size)) in
      sym (ap (λ (l : List ℕ). get_or l 0 0) front) ∙ first_edge (part_of s) g.face g.other some

-- ---- the tour
pub rest_all : (t : Part) (at : Regions) (words : List ℕ) (f : ℕ) (r : Places) → FacePlaces t at words f r → RestPlaces t f r
rest_all t at words f r h =
    let all : rank_of t f * faces_of t ≡ rank_of t f * faces_of t + 0 = omega arith in
    record { upto = 0; low = omega arith; start_is = h.start_is ∙ ap (key_start t) all; end_is = h.end_is }

start_up : (t : Part) (a b : ℕ) → a ≤ b → key_start t a ≤ key_start t b
unfolding key_start
start_up t a b h = start_le (item_key t) (item_count t) a b h

map_none : (f : ℕ → ℕ) (l : List ℕ) → map f l ≡ [] → l ≡ []
map_none f [] e = refl
map_none f (x ∷ l) e =
    let z : ◌≡◌ {A = ℕ} (length (map f (x ∷ l))) 0 = ap length e in
    absurd (omega (arith, z))

group_at : (t : Part) (k : ℕ) → key_start t (k + 1) ≡ key_start t k + length (with_key (item_key t) k (item_count t))
unfolding key_start
group_at t k = ap (start_of (item_key t) (item_count t)) (add-one k) ∙ start_suc (item_key t) (item_count t) k

module _ {X : Type 0} (s : List ℕ) (readable : Readable s) (f : ℕ) (h : ℕ → List ℕ → List X) where
  abbrev p : Part
  p = part_of s

  abbrev base : ℕ
  base = rank_of p f * faces_of p

  abbrev of_rank : ℕ → List X
  of_rank r = unless_empty (edges_between p f (face_of_rank p r)) (h (face_of_rank p r) (edges_between p f (face_of_rank p r)))

  unless_none : (l : List ℕ) (x : List X) → l ≡ [] → unless_empty l x ≡ []
  unfolding unless_empty
  unless_none [] x e = refl
  unless_none (y ∷ l) x e =
      let z : ◌≡◌ {A = ℕ} (length (y ∷ l)) 0 = ap length e in
      absurd (omega (arith, z))

  unless_some : (l : List ℕ) (x : List X) → (l ≡ [] → ⊥) → unless_empty l x ≡ x
  unfolding unless_empty
  unless_some [] x e = absurd (e refl)
  unless_some (y ∷ l) x e = refl

  -- between two equal starts there are no edges
  skipped : (a c k : ℕ) → f < faces_of p → key_start p (base + a) ≡ key_start p (base + c) → a ≤ k → k < c → k < faces_of p → of_rank k ≡ []
  unfolding key_start
  skipped a c k lf e low high inside =
      let none : with_key (item_key p) (base + k) (item_count p) ≡ []
      = empty_between (item_key p) (item_count p) (base + a) (base + c) (base + k) e (omega (arith, low)) (omega (arith, high)) in
      unless_none (edges_between p f (face_of_rank p k)) (h (face_of_rank p k) (edges_between p f (face_of_rank p k)))
      (sym (rank_items s readable f k lf inside) ∙ ap (map (item_side p)) none)

  skip : (a c : ℕ) → f < faces_of p → a ≤ c → c ≤ faces_of p → key_start p (base + a) ≡ key_start p (base + c) → joined of_rank a ≡ joined of_rank c
  skip a c lf l all e =
      let there : a + (c - a) ≡ c = omega (arith, l) in
      sym (joined_skip of_rank a (c - a) (λ k low high. skipped a c k lf e low (omega (arith, high, there)) (omega (arith, high, there, all)))) ∙ ap (joined of_rank) there

  -- it starts with nothing
  pub tour_start : (at : Regions) (words : List ℕ) (r : Places) → FacePlaces p at words f r → TourTo p f h r.start []
  tour_start at words r places =
      let all : base ≡ base + 0 = omega arith in
      record { upto = 0; low = omega arith; place = places.start_is ∙ ap (key_start p) all; met = sym (joined_none of_rank) }

  -- one neighbour more
  pub tour_more : (at : Regions) (words : List ℕ) (rest : Places) (g : Group) → NextGroup p at words f rest g → (out : List X) → TourTo p f h rest.start out
      → TourTo p f h g.end (out ++ h g.other (edges_between p f g.other))
  tour_more at words rest g next out w =
      let lf : f < faces_of p = omega (arith, next.face_is, next.group.face_below) in
      let lo : g.other < faces_of p = next.group.other_below in
      let r = rank_of p g.other in
      let lr : r < faces_of p = rank_below p g.other lo in
      let begins : g.start ≡ key_start p (base + r) = next.group.start_is ∙ ap (λ (k : ℕ). key_start p (rank_of p k * faces_of p + r)) next.face_is in
      let ends : g.end ≡ key_start p (base + r + 1) = next.group.end_is ∙ ap (λ (k : ℕ). key_start p (rank_of p k * faces_of p + r + 1)) next.face_is in
      let more = next.group.some in
      let place : key_start p (base + w.upto) ≡ key_start p (base + r) = sym w.place ∙ sym next.from ∙ begins in
      let one : base + r + 1 ≡ base + suc r = omega arith in
      let low : w.upto ≤ r = first w.upto r g.start g.end more (begins ∙ sym place) ends in
      let some = has_edges r lf lo refl g.start g.end more begins ends in
      record {
        upto = suc r;
        low = lr;
        place = ends ∙ ap (key_start p) one;
        met = ap (λ (l : List X). l ++ h g.other (edges_between p f g.other)) (w.met ∙ skip w.upto r lf low (omega (arith, lr)) place)
            ∙ ap (λ (l : List X). joined of_rank r ++ l) (sym (at_rank g.other lo some)) ∙ sym (joined_suc of_rank r);
      }
    where
      first : (a r x y : ℕ) → x < y → x ≡ key_start p (base + a) → y ≡ key_start p (base + r + 1) → a ≤ r
      first a r x y l ex ey = go (lt_or_ge r a)
        where
          go : (r < a) ⊎ (a ≤ r) → a ≤ r
          go (inl less) = absurd (omega (arith, l, ex, ey, start_up p (base + r + 1) (base + a) (omega (arith, less))))
          go (inr le) = le

      at_rank : (k : ℕ) → k < faces_of p → (edges_between p f k ≡ [] → ⊥) → of_rank (rank_of p k) ≡ h k (edges_between p f k)
      at_rank k l some =
          ap (λ (z : ℕ). unless_empty (edges_between p f z) (h z (edges_between p f z))) (face_of_rank_lem p k l)
          ∙ unless_some (edges_between p f k) (h k (edges_between p f k)) some

      has_edges : (r : ℕ) → f < faces_of p → g.other < faces_of p → r ≡ rank_of p g.other → (x y : ℕ) → x < y → x ≡ key_start p (base + r) → y ≡ key_start p (base + r + 1)
          → edges_between p f g.other ≡ [] → ⊥
      has_edges r lf lo er x y l ex ey none = go (group_at p (base + r))
        where
          items_none : with_key (item_key p) (base + r) (item_count p) ≡ []
          items_none =
              map_none (item_side p) (with_key (item_key p) (base + r) (item_count p))
              (ap (λ (k : ℕ). map (item_side p) (with_key (item_key p) (base + k) (item_count p))) er ∙ between_items s readable f g.other lf lo ∙ none)

          go : key_start p (base + r + 1) ≡ key_start p (base + r) + length (with_key (item_key p) (base + r) (item_count p)) → ⊥
          go e = let size = ap length items_none in omega (arith, l, ex, ey, e, size)

  -- at the end it has met all
  pub tour_end : (rest : Places) → f < faces_of p → RestPlaces p f rest → rest.end ≤ rest.start → (out : List X) → TourTo p f h rest.start out → out ≡ over_neighbours p f h
  unfolding over_neighbours
  tour_end rest lf left none out w =
      let up = start_up p (base + w.upto) (base + faces_of p) (omega (arith, w.low)) in
      w.met
      ∙ skip w.upto (faces_of p) lf w.low (omega arith) (le_antisymm up (omega (arith, none, left.end_is, w.place)))
