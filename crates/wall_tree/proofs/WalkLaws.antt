-- A box that is not opened holds nothing that comes before what is kept; and the walk's answer is the scan's.
use mathlib.Core.Path.{◌≡◌, refl, sym, ap, ◌∙◌, subst}
use mathlib.Core.Bool.{Bool, true, false}
use mathlib.Core.List.{List}
use Prim.Native.Nat.{ℕ, ◌+◌, ◌*◌, ◌≤◌, ◌<◌}
use native.Mathlib.Omega.{arith}
use native.Mathlib.Nat.{le_antisymm}
use lib.ListN.{length}
use lib.Ieee.{Float, lt, le, is_nan, inf, of_bits, of_fields, odd}
use Rattle.num_float.proofs.Tests.{refuted, contrary}
use Rattle.num_float.proofs.Order.{lt_trans, eq_lt_trans, lt_irrefl, lt_le_trans, le_numbers, not_le_lt}
use Rattle.num_order.proofs.Signed.{by_lt}
use Rattle.num_order.proofs.Sums.{most}
use Rattle.file_part.specs.Layout.{polygon_count_of}
use Rattle.file_part.specs.Part.{Part, part_of}
use Rattle.file_part.proofs.PartLaws.{part_polygons}
use Rattle.solid_faces.specs.Faces.{Checked}
use Rattle.solid_boxes.specs.Bounds.{padded, own_box_of}
use Rattle.solid_boxes.specs.Tree.{at, Order, start_at, skip_at, Tree, PartTree}
use Rattle.solid_boxes.proofs.OwnLaws.{own_tidy}
use Rattle.wall_ray.specs.declared.strike.Ray.{Ray}
use Rattle.wall_ray.specs.declared.strike.Hit.{Hit}
use Rattle.std.specs.Prelude.{Option, Some, None, is_some}
use Rattle.wall_ray.specs.Slab.{endless}
use Rattle.wall_ray.specs.Strike.{hit_time, own_span, struck}
use Rattle.wall_ray.specs.Nearest.{best, Nearest, hit_of, Answer, is_nothing_of}
use Rattle.wall_ray.specs.Work.{tried}
use Rattle.wall_ray.proofs.SlabLaws.{reached_passes, reached_after}
use Rattle.wall_ray.proofs.StruckLaws.{struck_reached, struck_number}
use Rattle.wall_ray.proofs.NearestLaws.{best_is_nearest, hit_answer}
use Rattle.wall_tree.specs.declared.aim.Aim.{Aim}
use Rattle.wall_tree.specs.Work.{Aimed, opens_at, limit_of, After, Real, Best, Kept}
use Rattle.wall_tree.proofs.BestLaws.{best_none, best_tried, best_past, best_scan}
use Rattle.wall_tree.proofs.AimLaws.{opens_sound}

endless_inf : endless ≡ inf false
unfolding of_bits of_fields odd
endless_inf = refl

-- ---- one place more of the order
pub kept_on : (s : List ℕ) (r : Ray) (words : List ℕ) (x p n : ℕ) (h k : Option Hit) → Order words n → (part_of s).polygons ≡ n → x < n → p ≡ at words x →
    k ≡ tried (struck (part_of s) r) (hit_time (part_of s) r) h p → Kept (part_of s) r words x h → Kept (part_of s) r words (x + 1) k
unfolding Kept
kept_on s r words x p n h k O e l ep ek w =
    subst (Best (struck (part_of s) r) (hit_time (part_of s) r) (at words) (part_of s).polygons (x + 1))
    (sym (ek ∙ ap (tried (struck (part_of s) r) (hit_time (part_of s) r) h) ep))
    (best_tried (struck (part_of s) r) (hit_time (part_of s) r) (at words) (part_of s).polygons x h (omega (arith, O.numbers x l, e)) w)

module _ (s : List ℕ) (C : Checked s) (r : Ray) where
  abbrev t : Part
  t = part_of s

  kept_number : (h : Hit) → Real (struck t r) (hit_time t r) t.polygons (Some h) → is_nan h.t ≡ false
  kept_number h w = subst (λ (k : Float). is_nan k ≡ false) (sym w.1.1) (struck_number t r h.polygon w.1.0)

  -- what is entered beyond the limit does not come first
  pruned : (p : ℕ) (h : Option Hit) → Real (struck t r) (hit_time t r) t.polygons h → struck t r p ≡ true →
      (le (own_span t r p).t0 (limit_of h) ≡ true → ⊥) →
      After h p (hit_time t r p)
  unfolding limit_of
  pruned p None w g f =
      f (subst (λ (k : Float). le (own_span t r p).t0 k ≡ true) (sym endless_inf)
      (most (own_span t r p).t0 (le_numbers _ _ (reached_after (own_span t r p) (hit_time t r p) (struck_reached t r p g))).0))
  pruned p (Some h) w g f =
      let c = reached_after (own_span t r p) (hit_time t r p) (struck_reached t r p g) in
      let b = not_le_lt (own_span t r p).t0 h.t (le_numbers _ _ c).0 (kept_number h w) (refuted _ f) in
      let d : lt h.t (hit_time t r p) ≡ true = lt_le_trans h.t (own_span t r p).t0 (hit_time t r p) b c in (
        refuted (lt (hit_time t r p) h.t) (λ k. contrary (lt_trans h.t (hit_time t r p) h.t d k) (lt_irrefl h.t)),
        λ e. absurd (contrary (eq_lt_trans (hit_time t r p) h.t (hit_time t r p) e d) (lt_irrefl (hit_time t r p))),
      )

  module _ (boxes : List Float) (words : List ℕ) (n : ℕ) (en : n ≡ t.polygons) (W : PartTree t boxes words) where
    abbrev m : ℕ
    m = W.nodes

    tree : Tree (λ p. padded (own_box_of t p)) boxes words n m
    tree = subst (λ (k : ℕ). Tree (λ p. padded (own_box_of t p)) boxes words k m) (sym en) W.tree

    -- ---- where the walk is
    -- a start before the last polygon is that of a node
    node_here : (j a : ℕ) → j ≤ m → a ≡ start_at words n j → a < n → j < m
    node_here j a l e h =
        by_lt j m (λ k. k)
        (λ k.
        let f : j ≡ m = le_antisymm l k in
        let z : a ≡ n = e ∙ ap (start_at words n) f ∙ tree.starts.last in
        absurd {A = j < m} (omega (arith, z, h)))

    -- and no node starts after it
    at_end : (j a : ℕ) → j ≤ m → a ≡ start_at words n j → n ≤ a → a ≡ n
    at_end j a l e h = le_antisymm (omega (arith, e, tree.starts.inside j l)) h

    -- ---- a box that is not opened
    past : (a : Aim) → Aimed r a → (j : ℕ) → j < m → (h : Option Hit) (limit : Float) (b : Bool) → limit ≡ limit_of h → b ≡ opens_at boxes j a limit →
        b ≡ false →
        Kept t r words (start_at words n j) h → Kept t r words (start_at words n (skip_at words n j)) h
    unfolding own_span Kept
    past a A j l h limit b el eb f w =
        best_past (struck t r) (hit_time t r) (at words) t.polygons (start_at words n j) (start_at words n (skip_at words n j)) h w
        (λ x lo hi g.
        let y : x < n = omega (arith, tree.starts.inside (skip_at words n j) (tree.within j l)) in
        let p : at words x < t.polygons = omega (arith, en, tree.ordered.numbers x y) in
        pruned (at words x) h w.real g
        (λ e. contrary
        (opens_sound boxes j a r A (padded (own_box_of t (at words x))) (tree.holds j x l lo hi) (own_tidy s C (at words x) p) limit
        (reached_passes (own_span t r (at words x)) (hit_time t r (at words x)) (struck_reached t r (at words x) g))
        (subst (λ (k : Float). le (own_span t r (at words x)).t0 k ≡ true) (sym el) e))
        (sym eb ∙ f)))

    module _ (j a : ℕ) (low : j ≤ m) (here : a ≡ start_at words n j) (more : a < n) where
      at_node : j < m
      at_node = node_here j a low here more

      -- room in the slices
      pub box_room : 6 * j + 6 ≤ length boxes
      box_room = omega (arith, tree.room_boxes, at_node)

      pub few_nodes : j + 1 ≤ n
      few_nodes = omega (arith, tree.room_nodes, at_node)

      pub skip_room : 2 * n + 1 + j < length words
      skip_room = omega (arith, tree.room_words (omega (arith, at_node)), tree.room_nodes, at_node)

      pub start_room : (k : ℕ) → k ≤ n → n + k < length words
      start_room k l = omega (arith, l, tree.room_words (omega (arith, at_node)), tree.room_nodes, at_node)

      -- to the skip
      pub skip_on : (k : ℕ) → k ≡ at words (2 * n + 1 + j) → (j < k) × ((k ≤ m) × (k ≤ n))
      unfolding skip_at
      skip_on k e =
          let l = tree.within j at_node in
          (omega (arith, e, tree.ahead j at_node), (omega (arith, e, l), omega (arith, e, l, tree.room_nodes)))

      pub past_to : (i : Aim) → Aimed r i → (h : Option Hit) (limit : Float) (b : Bool) → limit ≡ limit_of h → b ≡ opens_at boxes j i limit → b ≡ false →
          Kept t r words a h → (k e : ℕ) → k ≡ at words (2 * n + 1 + j) → e ≡ at words (n + k) → (e ≡ start_at words n k) × Kept t r words e h
      unfolding skip_at start_at
      past_to i A h limit b el eb f w k e ek ee =
          let z = past i A j at_node h limit b el eb f (subst (λ (x : ℕ). Kept t r words x h) here w) in
          (ee, subst (λ (x : ℕ). Kept t r words x h) (ap (λ (x : ℕ). at words (n + x)) (sym ek) ∙ sym ee) z)

      -- to the next node
      pub next_on : j + 1 ≤ m
      next_on = omega (arith, at_node)

      pub next_start : (e : ℕ) → e ≡ at words (n + (j + 1)) → e ≡ start_at words n (j + 1)
      unfolding start_at
      next_start e q = q

      pub leaf_rises : (e : ℕ) → e ≡ at words (n + (j + 1)) → a ≤ e
      leaf_rises e q = omega (arith, here, next_start e q, tree.starts.rising j at_node)

      pub leaf_ends : (e : ℕ) → e ≡ at words (n + (j + 1)) → e ≤ polygon_count_of s
      leaf_ends e q = omega (arith, next_start e q, tree.starts.inside (j + 1) next_on, part_polygons s, en)

    pub the_order : Order words (polygon_count_of s)
    the_order = subst (Order words) (en ∙ part_polygons s) tree.ordered

    -- ---- begin and end
    pub begin : 0 ≡ start_at words n 0
    begin = sym tree.starts.first

    numbers : (q : ℕ) → q < t.polygons → struck t r q ≡ true → is_nan (hit_time t r q) ≡ false
    numbers q l g = struck_number t r q g

    places : (p : ℕ) → p < t.polygons → (x : ℕ) × ((x < t.polygons) × (at words x ≡ p))
    places p l = let z = tree.ordered.onto p (omega (arith, l, en)) in (z.place, (omega (arith, z.below, en), z.is))

    pub done : (j a : ℕ) (h : Option Hit) → j ≤ m → a ≡ start_at words n j → n ≤ a → Kept t r words a h → Answer t r h
    unfolding hit_of Kept
    done j a h l e z w =
        hit_answer t r h
        (best_scan (struck t r) (hit_time t r) (at words) t.polygons places numbers h (subst (λ (x : ℕ). Kept t r words x h) (at_end j a l e z ∙ en) w))

  pub none_kept : (words : List ℕ) → Kept t r words 0 None
  unfolding Kept
  none_kept words = best_none (struck t r) (hit_time t r) (at words) t.polygons

  -- ---- a strike shows that the ray does not strike nothing
  pub stops : (words : List ℕ) (c : ℕ) (h : Option Hit) (b : Bool) → Kept t r words c h → b ≡ is_some h → b ≡ true → false ≡ is_nothing_of (hit_of t r)
  unfolding is_nothing_of hit_of Kept
  stops words c None b w e f = absurd (contrary f e)
  stops words c (Some h) b w e f =
      go (best (struck t r) (hit_time t r) t.polygons) (best_is_nearest (struck t r) (hit_time t r) t.polygons)
    where
      go : (k : Option Hit) → Nearest (struck t r) (hit_time t r) t.polygons k → false ≡ is_nothing_of k
      go (Some k) n = refl
      go None n = absurd (contrary w.real.1.0 (unfold Nearest in n h.polygon w.real.0))

  pub goes_on : (words : List ℕ) (c : ℕ) (h : Option Hit) (b : Bool) → Kept t r words c h → b ≡ is_some h → b ≡ false → Kept t r words c None
  goes_on words c None b w e f = w
  goes_on words c (Some h) b w e f = absurd (contrary e f)

  pub clear : None ≡ hit_of t r → true ≡ is_nothing_of (hit_of t r)
  unfolding is_nothing_of
  clear f = ap is_nothing_of f
