-- The sorted edges still stand after changes of the readings, the hits, the work of sorting, the rounds and their measures.
use mathlib.Core.Path.{◌≡◌, sym, ap, ◌∙◌, subst}
use mathlib.Core.List.{List}
use Prim.Native.Nat.{ℕ, ◌+◌, ◌*◌}
use native.Mathlib.Omega.{arith}
use lib.ListN.{get_or}
use lib.Ieee.{Float, nan}
use Rattle.list_laws.specs.Region.{Outside}
use Rattle.list_laws.proofs.Outside.{outside_part, outside_after}
use Rattle.list_groups.specs.Work.{Keyed, Grouped}
use Rattle.file_part.specs.Part.{part_of}
use Rattle.solid_faces.specs.Faces.{faces_of}
use Rattle.solid_distance.proofs.KeptLaws.{segment_same}
use Rattle.solid_reach.proofs.ReachLaws.{reach_same, holds_same}
use Rattle.scratch.specs.declared.regions.Regions.{Regions}
use Rattle.scratch.proofs.StandingLaws.{placed_vertices, standing_kept}
use Rattle.solid_ranks.proofs.KeptLaws.{ranked_kept}
use Rattle.solid_tours.specs.Work.Kept.{item_count, item_side, item_key, edge_keys, edge_order, side_segment, packed_at, box_at, OrderedTo}
use Rattle.solid_tours.proofs.FewEdges.{items_most}

module _ (s : List ℕ) (at : Regions) (words words' : List ℕ) (reals reals' : List Float) {done boxes : ℕ} (o : OrderedTo s at words reals done boxes) (w : Outside 0 at.readings at.ranks words words')
    (r : Outside nan at.falling at.directions reals reals') where
  keys_same : edge_keys at reals' ≡ edge_keys at reals
  keys_same =
      outside_after nan at.falling at.directions at.directions at.free reals reals' (omega arith) (omega (arith, o.standing.placed.laid, o.standing.reals_room)) r

  order_same : edge_order at words' ≡ edge_order at words
  order_same =
      outside_part 0 at.readings at.ranks at.sorted at.chain words words' (omega (arith, o.standing.placed.laid))
      (omega (arith, o.standing.placed.laid, o.standing.words_room)) w

  pub ordered_kept : OrderedTo s at words' reals' done boxes
  ordered_kept =
      record {
        standing = standing_kept s at at.ranks at.directions words words' reals reals' o.standing w r;
        edged = o.edged;
        ranked = ranked_kept (part_of s) at words words' (λ f l. w.above (at.ranks + f) (omega arith)) o.ranked;
        sides = λ k l.
            w.below (at.items + k) (omega (arith, l, items_most (part_of s), placed_vertices s at o.standing.placed, o.standing.placed.laid)) ∙ o.sides k l;
        keyed = subst (λ (l : List Float). Keyed l (item_key (part_of s)) (item_count (part_of s)) (faces_of (part_of s) * faces_of (part_of s))) (sym keys_same) o.keyed;
        grouped = subst (Grouped (item_key (part_of s)) (item_count (part_of s)) (faces_of (part_of s) * faces_of (part_of s))) (sym order_same) o.grouped;
        packed = λ j l.
            segment_same reals reals' (packed_at at j) (λ i a b. r.above i (omega (arith, a, o.standing.placed.laid))) ∙ o.packed j l
            ∙ ap (λ (xs : List ℕ). side_segment (part_of s) (item_side (part_of s) (get_or xs j 0))) (sym order_same);
        boxed = λ b j l from to inside.
            holds_same (sym (reach_same reals reals' (box_at (part_of s) at b) (λ i a c. r.above i (omega (arith, a, o.standing.placed.laid)))))
            (sym (segment_same reals reals' (packed_at at j) (λ i a c. r.above i (omega (arith, a, o.standing.placed.laid))))) (o.boxed b j l from to inside);
      }
