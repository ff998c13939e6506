-- The sorted edges packed, place by place.
use mathlib.Core.Path.{◌≡◌, sym, ap, ◌∙◌, subst}
use mathlib.Core.Bool.{true, false}
use mathlib.Core.Logic.{◌⊎◌, inl, inr}
use mathlib.Core.List.{List}
use Prim.Native.Nat.{ℕ, ◌+◌, ◌*◌, ◌≤◌, ◌<◌}
use native.Mathlib.Omega.{arith}
use lib.ListN.{length, get_or}
use lib.Ieee.{Float, nan, lt}
use Rattle.num_float.specs.Order.{lesser}
use Rattle.num_float.proofs.Tests.{lt_or_ge}
use Rattle.math.specs.declared.Vec3.{Vec3}
use Rattle.list_laws.specs.Region.{Outside}
use Rattle.list_laws.proofs.Outside.{outside_none, outside_then, outside_wide, outside_part}
use Rattle.list_groups.specs.Work.{Keyed}
use Rattle.file_field.specs.Field.{vec_at_of}
use Rattle.file_part.specs.Part.{Part, part_of}
use Rattle.file_part.proofs.PartLaws.{part_vertex}
use Rattle.solid_faces.specs.Faces.{faces_of}
use Rattle.solid_segments.specs.Sides.{to_of}
use Rattle.solid_distance.specs.declared.kept.Segment.{Segment}
use Rattle.solid_distance.specs.Kept.{square_to_of}
use Rattle.solid_distance.specs.Work.{segment_of, segment_at_of, put_segment}
use Rattle.solid_distance.proofs.KeptLaws.{square_is, put_same, put_kept, segment_same}
use Rattle.solid_reach.specs.Work.{Holds, reach_at}
use Rattle.solid_edges.specs.Work.{side_square}
use Rattle.scratch.specs.declared.regions.Regions.{Regions}
use Rattle.scratch.proofs.StandingLaws.{standing_kept}
use Rattle.solid_tours.specs.Work.Kept.{item_count, item_side, item_key, edge_keys, edge_order, side_segment, packed_at, box_count_of, box_at, OrderedTo, EdgesSorted, EdgesPut, ItemAt}
use Rattle.solid_tours.specs.Work.{SortedPut, PackedPut, BoxesPut}
use Rattle.solid_tours.proofs.PlaceLaws.{most}

-- the squared distance from a side, by its segment
pub side_square_lem : (t : Part) (p : Vec3) (s : ℕ) → square_to_of p (side_segment t s) ≡ side_square t p s
unfolding side_segment side_square
side_square_lem t p s = square_is p (t.vertex s) (t.vertex (to_of t s))

-- the lesser of two squares, in the words of `nearer`
module _ (p : Vec3) (x y : Float) (q q' : Segment) (kept : q ≡ q') (e : y ≡ square_to_of p q) where
  pub lesser_new : lt y x ≡ true → y ≡ lesser x (square_to_of p q')
  lesser_new l = rw (← kept, ← e, l)

  pub lesser_old : lt y x ≡ false → x ≡ lesser x (square_to_of p q')
  lesser_old l = rw (← kept, ← e, l)

-- the segment of a side, by the vertices that are read
pub segment_read : (file : List ℕ) (s to : ℕ) (a b : Vec3) (x : Segment) → to ≡ to_of (part_of file) s → a ≡ vec_at_of file (24 * s) → b ≡ vec_at_of file (24 * to) → x ≡ segment_of a b →
    x ≡ side_segment (part_of file) s
unfolding side_segment
segment_read file s to a b x e ea eb ex =
    let from : a ≡ (part_of file).vertex s = ea ∙ sym (part_vertex file s) in
    let far : b ≡ (part_of file).vertex (to_of (part_of file) s) = eb ∙ sym (part_vertex file to) ∙ ap (λ (k : ℕ). (part_of file).vertex k) e in
    ex ∙ rw (from, far)

module _ (s : List ℕ) (at : Regions) (words : List ℕ) where
  -- what is sorted needs no packing
  pub edges_sorted : {reals : List Float} {done boxes : ℕ} → OrderedTo s at words reals done boxes → EdgesSorted s at words reals
  edges_sorted o =
      record {
        standing = o.standing;
        edged = o.edged;
        ranked = o.ranked;
        sides = o.sides;
        keyed = o.keyed;
        grouped = o.grouped;
        packed = λ j l. absurd (omega (arith, l));
        boxed = λ b j l. absurd (omega (arith, l));
      }

  -- changes of the packed cells leave the order; more or fewer places may be packed then
  pub ordered_still : (reals reals' : List Float) (done next boxes put : ℕ) → OrderedTo s at words reals done boxes → Outside nan at.free at.reals reals reals' →
      ((j : ℕ) → j < next → segment_at_of reals' (packed_at at j) ≡ side_segment (part_of s) (item_side (part_of s) (get_or (edge_order at words) j 0))) →
      ((b j : ℕ) → b < put → 16 * b ≤ j → j < 16 * b + 16 → j < item_count (part_of s) → Holds (reach_at reals' (box_at (part_of s) at b)) (segment_at_of reals' (packed_at at j))) →
      OrderedTo s at words reals' next put
  ordered_still reals reals' done next boxes put o r packed boxed =
      let laid = o.standing.placed.laid in
      let same : edge_keys at reals' ≡ edge_keys at reals
      = outside_part nan at.free at.reals at.directions at.free reals reals' (omega arith) (omega (arith, laid, o.standing.reals_room)) r in
      record {
        standing = standing_kept s at at.ranks at.reals words words reals reals' o.standing (outside_none 0 _ _ words)
            (outside_wide nan _ _ _ _ reals reals' (omega (arith, laid)) (omega arith) r);
        edged = o.edged;
        ranked = o.ranked;
        sides = o.sides;
        keyed = subst (λ (l : List Float). Keyed l (item_key (part_of s)) (item_count (part_of s)) (faces_of (part_of s) * faces_of (part_of s))) (sym same) o.keyed;
        grouped = o.grouped;
        packed = packed;
        boxed = boxed;
      }

  -- there is room for all
  module _ (reals : List Float) {done boxes : ℕ} (o : OrderedTo s at words reals done boxes) (j : ℕ) (low : j < item_count (part_of s)) where
    packed_room : packed_at at j + 7 ≤ at.reals
    packed_room = omega (arith, low, most s at words reals o, o.standing.placed.laid)

    pub packed_inside : packed_at at j + 7 ≤ length reals
    packed_inside = omega (arith, packed_room, o.standing.reals_room)

  -- ---- one place more
  module _ (reals : List Float) (j : ℕ) (o : OrderedTo s at words reals j 0) (low : j < item_count (part_of s)) where
    pub pack_one : (r to : ℕ) (a b : Vec3) (x : Segment) (reals' : List Float) → ItemAt (part_of s) at words j r → to ≡ to_of (part_of s) r → a ≡ vec_at_of s (24 * r) →
        b ≡ vec_at_of s (24 * to) → x ≡ segment_of a b → reals' ≡ put_segment reals (packed_at at j) x → PackedPut s at words reals reals' (j + 1)
    pack_one r to a b x reals' item e ea eb ex put =
        let only : Outside nan (packed_at at j) (packed_at at j + 7) reals reals' = subst (Outside nan (packed_at at j) (packed_at at j + 7) reals) (sym put) (put_kept reals (packed_at at j) x) in
        let kept : Outside nan at.free at.reals reals reals' = outside_wide nan _ _ _ _ reals reals' (omega arith) (packed_room reals o j low) only in
        let here : segment_at_of reals' (packed_at at j) ≡ side_segment (part_of s) (item_side (part_of s) (get_or (edge_order at words) j 0))
        = ap (λ (l : List Float). segment_at_of l (packed_at at j)) put ∙ put_same reals (packed_at at j) x (packed_inside reals o j low) ∙ segment_read s r to a b x e ea eb ex
        ∙ ap (side_segment (part_of s)) item.side in
        record { ordered = ordered_still reals reals' j (j + 1) 0 0 o kept (λ i l. go only here i l (lt_or_ge i j)) (λ b i l. absurd (omega (arith, l))); kept = kept }
      where
        go : {reals' : List Float} → Outside nan (packed_at at j) (packed_at at j + 7) reals reals' →
            segment_at_of reals' (packed_at at j) ≡ side_segment (part_of s) (item_side (part_of s) (get_or (edge_order at words) j 0)) → (i : ℕ) → i < j + 1 → (i < j) ⊎ (j ≤ i) →
            segment_at_of reals' (packed_at at i) ≡ side_segment (part_of s) (item_side (part_of s) (get_or (edge_order at words) i 0))
        go {reals'} only here i l (inl below) =
            segment_same reals reals' (packed_at at i) (λ k a b. only.below k (omega (arith, b, below))) ∙ o.packed i below
        go {reals'} only here i l (inr above) =
            let same : j ≡ i = omega (arith, l, above) in
            subst (λ (k : ℕ). segment_at_of reals' (packed_at at k) ≡ side_segment (part_of s) (item_side (part_of s) (get_or (edge_order at words) k 0))) same here

  -- ---- all places
  pub pack_none : (reals : List Float) → EdgesSorted s at words reals → PackedPut s at words reals reals 0
  pack_none reals o = record { ordered = o; kept = outside_none nan _ _ reals }

  pub pack_then : (reals reals1 reals2 : List Float) (i j : ℕ) → PackedPut s at words reals reals1 i → PackedPut s at words reals1 reals2 j → PackedPut s at words reals reals2 j
  pack_then reals reals1 reals2 i j a b = record { ordered = b.ordered; kept = outside_then nan _ _ reals reals1 reals2 a.kept b.kept }

  pub pack_all : (reals reals' : List Float) (i m : ℕ) → m ≡ item_count (part_of s) → i ≤ m → m ≤ i → PackedPut s at words reals reals' i →
      PackedPut s at words reals reals' (item_count (part_of s))
  pack_all reals reals' i m count l h put =
      let all : i ≡ item_count (part_of s) = omega (arith, count, l, h) in
      subst (PackedPut s at words reals reals') all put

-- sorted, then packed, then boxes around them
pub edges_put : (s : List ℕ) (at : Regions) (words words' : List ℕ) (reals reals1 reals2 reals3 : List Float) (m : ℕ) → SortedPut s at words words' reals reals1 m →
    PackedPut s at words' reals1 reals2 (item_count (part_of s)) → BoxesPut s at words' reals2 reals3 (box_count_of (item_count (part_of s)) at.vertices) →
    EdgesPut s at words words' reals reals3 m
edges_put s at words words' reals reals1 reals2 reals3 m a b c =
    let laid = a.sorted.standing.placed.laid in
    record {
      count = a.count;
      few = a.few;
      ordered = c.ordered;
      words_kept = a.words_kept;
      reals_kept = outside_then nan _ _ reals reals1 reals3 (outside_wide nan _ _ _ _ reals reals1 (omega arith) (omega (arith, laid)) a.reals_kept)
          (outside_wide nan _ _ _ _ reals1 reals3 (omega (arith, laid)) (omega arith) (outside_then nan _ _ reals1 reals2 reals3 b.kept c.kept));
    }
