-- Boxes around the packed edges: how many there are, one more, and what one spares.
use mathlib.Core.Path.{◌≡◌, refl, sym, ap, ◌∙◌, subst}
use mathlib.Core.Bool.{Bool, true, false, not, cond}
use mathlib.Core.Logic.{◌⊎◌, inl, inr}
use mathlib.Core.List.{List}
use Prim.Native.Nat.{ℕ, zero, suc, ◌+◌, ◌-◌, ◌*◌, ◌/◌, ◌≤◌, ◌<◌}
use native.Mathlib.Omega.{arith}
use borrow.Author.Tests.{ltb-true, ltb-false, lt-ltb, le-ltb}
use lib.Dec.{ltb}
use lib.ListN.{length, get_or}
use lib.Ieee.{Float, nan, lt}
use Rattle.std.specs.Prelude.{min}
use Rattle.num_float.proofs.Tests.{contrary, lt_or_ge}
use Rattle.math.specs.declared.Vec3.{Vec3}
use Rattle.list_laws.specs.Region.{Outside}
use Rattle.list_laws.proofs.Outside.{outside_none, outside_then, outside_wide}
use Rattle.file_part.specs.Part.{Part, part_of}
use Rattle.solid_distance.specs.declared.kept.Segment.{Segment}
use Rattle.solid_distance.specs.Kept.{square_to_of}
use Rattle.solid_distance.specs.Work.{segment_at_of}
use Rattle.solid_distance.proofs.KeptLaws.{segment_same}
use Rattle.solid_reach.specs.declared.reach.Reach.{Reach}
use Rattle.solid_reach.specs.Work.{with_segment, Holds, gap_square, reach_at, put_reach}
use Rattle.solid_reach.proofs.ReachLaws.{no_nearer, with_new, with_old, put_same, put_kept, reach_same, holds_same}
use Rattle.solid_edges.specs.Work.{side_square}
use Rattle.scratch.specs.declared.regions.Regions.{Regions}
use Rattle.solid_tours.specs.Work.{least_square, Around, RunEnd, is_spared, BoxesPut}
use Rattle.solid_tours.specs.Work.Kept.{item_count, item_side, edge_order, sides_at, packed_at, box_count_of, box_at, OrderedTo, EdgesOrdered}
use Rattle.solid_tours.proofs.PlaceLaws.{most}
use Rattle.solid_tours.proofs.PackLaws.{side_square_lem, ordered_still}
use Rattle.solid_tours.proofs.TourLaws.{order_long, least_spared}

-- ---- how many
chosen_least : (a c : ℕ) → min a c ≡ cond (ltb a c) a c
chosen_least a c = go (lt_or_ge a c)
  where
    go : (a < c) ⊎ (c ≤ a) → min a c ≡ cond (ltb a c) a c
    go (inl less) = rw (lt-ltb a c less) (omega (arith, less))
    go (inr most) = rw (le-ltb a c most) (omega (arith, most))

pub count_least : (m v : ℕ) → min (m / 16 + 1) ((7 * (v - m) + 1024) / 6) ≡ box_count_of m v
unfolding box_count_of
count_least m v = chosen_least (m / 16 + 1) ((7 * (v - m) + 1024) / 6)

chosen_below : (a c : ℕ) → (cond (ltb a c) a c ≤ a) × (cond (ltb a c) a c ≤ c)
chosen_below a c = go (ltb a c) refl
  where
    go : (b : Bool) → ltb a c ≡ b → (cond b a c ≤ a) × (cond b a c ≤ c)
    go true e = (omega arith, omega (arith, ltb-true a c e))
    go false e = (omega (arith, ltb-false a c e), omega arith)

pub few_boxes : (m v : ℕ) → (box_count_of m v ≤ m / 16 + 1) × (box_count_of m v ≤ (7 * (v - m) + 1024) / 6)
unfolding box_count_of
few_boxes m v = chosen_below (m / 16 + 1) ((7 * (v - m) + 1024) / 6)

-- ---- a box around some edges
module _ (at : Regions) (reals : List Float) (i : ℕ) where
  pub around_more : (e : ℕ) (r r' : Reach) (q : Segment) → Around at reals i e r → q ≡ segment_at_of reals (packed_at at e) → r' ≡ with_segment r q → Around at reals i (e + 1) r'
  around_more e r r' q around eq er j a b = go (lt_or_ge j e)
    where
      go : (j < e) ⊎ (e ≤ j) → Holds r' (segment_at_of reals (packed_at at j))
      go (inl below) = holds_same (sym er) refl (with_old r q (segment_at_of reals (packed_at at j)) (around j a below))
      go (inr above) =
          let same : e ≡ j = omega (arith, b, above) in
          holds_same (sym er) (eq ∙ ap (λ (k : ℕ). segment_at_of reals (packed_at at k)) same) (with_new r q)

  pub around_all : (j e : ℕ) (r : Reach) → j ≤ e → e ≤ j → Around at reals i j r → Around at reals i e r
  around_all j e r a b around =
      let same : j ≡ e = omega (arith, a, b) in
      subst (λ (k : ℕ). Around at reals i k r) same around

-- ---- one box more
module _ (s : List ℕ) (at : Regions) (words : List ℕ) where
  abbrev t : Part
  t = part_of s

  module _ (reals : List Float) {done boxes : ℕ} (o : OrderedTo s at words reals done boxes) (b : ℕ) (low : b < box_count_of (item_count t) at.vertices) where
    pub box_first : 16 * b ≤ item_count t
    box_first = omega (arith, low, (few_boxes (item_count t) at.vertices).0)

    box_room : box_at t at b + 6 ≤ at.reals
    box_room = omega (arith, low, (few_boxes (item_count t) at.vertices).1, most s at words reals o, o.standing.placed.laid)

    pub box_inside : box_at t at b + 6 ≤ length reals
    box_inside = omega (arith, box_room, o.standing.reals_room)

  module _ (reals reals' : List Float) (b : ℕ) (o : OrderedTo s at words reals (item_count t) b) (low : b < box_count_of (item_count t) at.vertices) (e : ℕ) (r : Reach)
      (run : RunEnd (16 * b) (item_count t) e) (around : Around at reals (16 * b) e r) (put : reals' ≡ put_reach reals (box_at t at b) r) where
    only : Outside nan (box_at t at b) (box_at t at b + 6) reals reals'
    only = subst (Outside nan (box_at t at b) (box_at t at b + 6) reals) (sym put) (put_kept reals (box_at t at b) r)

    kept : Outside nan at.free at.reals reals reals'
    kept = outside_wide nan _ _ _ _ reals reals' (omega arith) (box_room reals o b low) only

    same_segment : (j : ℕ) → j < item_count t → segment_at_of reals' (packed_at at j) ≡ segment_at_of reals (packed_at at j)
    same_segment j l = segment_same reals reals' (packed_at at j) (λ k a c. only.below k (omega (arith, c, l)))

    here : reach_at reals' (box_at t at b) ≡ r
    here = ap (λ (l : List Float). reach_at l (box_at t at b)) put ∙ put_same reals (box_at t at b) r (box_inside reals o b low)

    boxed : (c j : ℕ) → c < b + 1 → 16 * c ≤ j → j < 16 * c + 16 → j < item_count t → Holds (reach_at reals' (box_at t at c)) (segment_at_of reals' (packed_at at j))
    boxed c j l from to inside = go (lt_or_ge c b)
      where
        go : (c < b) ⊎ (b ≤ c) → Holds (reach_at reals' (box_at t at c)) (segment_at_of reals' (packed_at at j))
        go (inl below) =
            holds_same (sym (reach_same reals reals' (box_at t at c) (λ k a d. only.below k (omega (arith, d, below))))) (sym (same_segment j inside))
            (o.boxed c j below from to inside)
        go (inr above) =
            let same : b ≡ c = omega (arith, l, above) in
            holds_same (sym here ∙ ap (λ (k : ℕ). reach_at reals' (box_at t at k)) same) (sym (same_segment j inside))
            (around j (omega (arith, same, from)) (run.all j (omega (arith, same, to)) inside))

    pub box_one : BoxesPut s at words reals reals' (b + 1)
    box_one =
        record {
          ordered = ordered_still s at words reals reals' (item_count t) (item_count t) b (b + 1) o kept (λ j l. same_segment j l ∙ o.packed j l) boxed;
          kept = kept;
        }

  -- ---- all boxes
  pub box_none : (reals : List Float) → OrderedTo s at words reals (item_count t) 0 → BoxesPut s at words reals reals 0
  box_none reals o = record { ordered = o; kept = outside_none nan _ _ reals }

  pub box_then : (reals reals1 reals2 : List Float) (i j : ℕ) → BoxesPut s at words reals reals1 i → BoxesPut s at words reals1 reals2 j → BoxesPut s at words reals reals2 j
  box_then reals reals1 reals2 i j a b = record { ordered = b.ordered; kept = outside_then nan _ _ reals reals1 reals2 a.kept b.kept }

  pub box_all : (reals reals' : List Float) (b m n : ℕ) → m ≡ item_count t → n ≡ box_count_of m at.vertices → b ≤ n → n ≤ b → BoxesPut s at words reals reals' b →
      BoxesPut s at words reals reals' (box_count_of (item_count t) at.vertices)
  box_all reals reals' b m n count boxes l h put =
      let all : b ≡ n = omega (arith, l, h) in
      subst (BoxesPut s at words reals reals') (all ∙ boxes ∙ ap (λ (k : ℕ). box_count_of k at.vertices) count) put

-- ---- what a box spares
pub spared_in : (reals : List Float) (count b place : ℕ) (p : Vec3) (x : Float) (r : Reach) (g : Float) → b < count → r ≡ reach_at reals place → g ≡ gap_square p r
    → not (lt g x) ≡ is_spared reals count b p x place
unfolding is_spared
spared_in reals count b place p x r g l er eg = rw (lt-ltb b count l, eg, er)

pub spared_out : (reals : List Float) (count b place : ℕ) (p : Vec3) (x : Float) → count ≤ b → false ≡ is_spared reals count b p x place
unfolding is_spared
spared_out reals count b place p x l = rw (le-ltb b count l)

-- the test, taken apart
record Spared (reals : List Float) (count b place : ℕ) (p : Vec3) (x : Float) : Type 0 where
  below : b < count
  far : lt (gap_square p (reach_at reals place)) x ≡ false

spared_is : (reals : List Float) (count b place : ℕ) (p : Vec3) (x : Float) → is_spared reals count b p x place ≡ true → Spared reals count b place p x
unfolding is_spared
spared_is reals count b place p x h = go (ltb b count) (lt (gap_square p (reach_at reals place)) x) refl refl h
  where
    go : (v w : Bool) → ltb b count ≡ v → lt (gap_square p (reach_at reals place)) x ≡ w → cond v (not w) false ≡ true → Spared reals count b place p x
    go true true e f k = absurd (contrary k refl)
    go true false e f k = record { below = ltb-true b count e; far = f }
    go false w e f k = absurd (contrary k refl)

-- the edges of a box that is no nearer
pub run_spared : (s : List ℕ) (at : Regions) (words : List ℕ) (reals : List Float) → EdgesOrdered s at words reals → (count b place i e items : ℕ) (p : Vec3) (x : Float) →
    count ≡ box_count_of (item_count (part_of s)) at.vertices → items ≡ item_count (part_of s) → b ≡ i / 16 → place ≡ at.free + 7 * items + 6 * b → i ≤ e → e ≤ item_count (part_of s) →
    e ≤ i / 16 * 16 + 16 → is_spared reals count b p x place ≡ true → x ≡ least_square (part_of s) p x (sides_at (part_of s) at words i e)
run_spared s at words reals o count b place i e items p x ec ei eb ep l h short spared =
    least_spared (part_of s) p at words x i e l (omega (arith, h, order_long s at words reals o)) each
  where
    w : Spared reals count b place p x
    w = spared_is reals count b place p x spared

    at_box : place ≡ box_at (part_of s) at b
    at_box = ep ∙ ap (λ (k : ℕ). at.free + 7 * k + 6 * b) ei

    far : lt (gap_square p (reach_at reals (box_at (part_of s) at b))) x ≡ false
    far = subst (λ (k : ℕ). lt (gap_square p (reach_at reals k)) x ≡ false) at_box w.far

    each : (j : ℕ) → i ≤ j → j < e → lt (side_square (part_of s) p (item_side (part_of s) (get_or (edge_order at words) j 0))) x ≡ false
    each j a c =
        let inside : j < item_count (part_of s) = omega (arith, c, h) in
        let held : Holds (reach_at reals (box_at (part_of s) at b)) (segment_at_of reals (packed_at at j))
        = o.boxed b j (omega (arith, ec, w.below)) (omega (arith, eb, a)) (omega (arith, eb, c, short)) inside in
        subst (λ (z : Float). lt z x ≡ false) (ap (square_to_of p) (o.packed j inside) ∙ side_square_lem (part_of s) p (item_side (part_of s) (get_or (edge_order at words) j 0)))
        (no_nearer p (segment_at_of reals (packed_at at j)) (reach_at reals (box_at (part_of s) at b)) held x far)

-- ---- in the words of the functions, whose m is the number of items
pub low_box : (b m k v : ℕ) → m ≡ k → b < box_count_of m v → b < box_count_of k v
low_box b m k v e l = subst (λ (i : ℕ). b < box_count_of i v) e l

pub count_items : (n m k v : ℕ) → m ≡ k → n ≡ box_count_of m v → n ≡ box_count_of k v
count_items n m k v e h = h ∙ ap (λ (i : ℕ). box_count_of i v) e

pub run_items : (a m k e : ℕ) → m ≡ k → RunEnd a m e → RunEnd a k e
run_items a m k e h run = subst (λ (i : ℕ). RunEnd a i e) h run

pub put_items : (f m k b : ℕ) (l l' : List Float) (r : Reach) → m ≡ k → l' ≡ put_reach l (f + 7 * m + 6 * b) r → l' ≡ put_reach l (f + 7 * k + 6 * b) r
put_items f m k b l l' r h e = e ∙ ap (λ (i : ℕ). put_reach l (f + 7 * i + 6 * b) r) h

-- a run of places goes on from its first
module _ (a m e : ℕ) (run : RunEnd a m e) where
  run_all : (n : ℕ) → n ≤ m → n ≤ a → n ≤ e
  run_all zero l h = omega arith
  run_all (suc n) l h = let more = run.all n (omega (arith, h)) (omega (arith, l)) in omega (arith, more)

pub run_some : (a m k e : ℕ) → m ≡ k → a ≤ k → RunEnd a m e → a ≤ e
run_some a m k e h l run = run_all a m e run a (omega (arith, h, l)) (omega arith)

pub run_on : (j end e : ℕ) → j < end → RunEnd (j / 16 * 16) end e → j ≤ e
run_on j end e l run = let more = run.all j (omega arith) l in omega (arith, more)

pub run_less : (j end e : ℕ) → j < end → RunEnd (j / 16 * 16) end e → end - e < end - j
run_less j end e l run = let more = run.all j (omega arith) l in omega (arith, more, l)

pub box_there : (s : List ℕ) (at : Regions) (words : List ℕ) (reals : List Float) → EdgesOrdered s at words reals → (count b items : ℕ) →
    count ≡ box_count_of (item_count (part_of s)) at.vertices → items ≡ item_count (part_of s) → b < count → at.free + 7 * items + 6 * b + 6 ≤ length reals
box_there s at words reals o count b items ec ei l =
    let inside = box_inside s at words reals o b (omega (arith, ec, l)) in
    omega (arith, inside, ei)
