-- The tree of boxes in the scratch, where a part has one: put last, between the regions of the body, which still stand after it.
use mathlib.Core.Path.{◌≡◌, sym, subst}
use mathlib.Core.List.{List}
use Prim.Native.Nat.{ℕ, ◌-◌, ◌≤◌}
use native.Mathlib.Omega.{arith}
use lib.ListN.{length}
use lib.Ieee.{Float, nan}
use borrow.Rule.Slice.PartMut.{put_mid}
use Rattle.list_laws.specs.Region.{part}
use Rattle.list_laws.proofs.Regions.{part_put}
use Rattle.list_laws.proofs.Outside.{outside_none, outside_put, outside_part, outside_after}
use Rattle.file_part.specs.Part.{Part, part_of}
use Rattle.solid_volumes.specs.solid_segments.specs.Sides.{SharedSegments}
use Rattle.solid_volumes.specs.solid_bodies.proofs.BodyLaws.{labels_as}
use Rattle.solid_volumes.specs.Volume.{Volumes}
use Rattle.solid_faces.specs.Kept.{Faces, Chain, KeptPlanes, KeptAreas, FaceAreas}
use Rattle.solid_boxes.specs.Tree.{PartTree}
use Rattle.scratch.specs.declared.regions.Regions.{Regions}
use Rattle.scratch.specs.Regions.{scanned, Laid}
use Rattle.scratch.specs.Standing.{Placed, Words, Reals, Standing}
use Rattle.scratch.specs.Work.{TreePut}
use Rattle.scratch.proofs.StandingLaws.{placed_polygons}

-- ---- the tree alone: x and y are what its stage leaves
module _ (t : Part) (at : Regions) (laid : Laid at) (words : List ℕ) (reals : List Float) (words_room : at.words ≤ length words)
    (reals_room : at.reals ≤ length reals) where
  pub tree_none : at.polygons ≤ scanned → TreePut t at words words reals reals
  tree_none few =
      record { tree = λ many. absurd (omega (arith, few, many)); words_kept = outside_none 0 _ _ words; reals_kept = outside_none nan _ _ reals }

  pub tree_put : (x : List Float) (y : List ℕ) → length x ≡ at.falling - at.boxes → length y ≡ at.sides - at.tree → PartTree t x y →
      TreePut t at words (put_mid at.tree (at.sides - at.tree) words y) reals (put_mid at.boxes (at.falling - at.boxes) reals x)
  tree_put x y lx ly h =
      record {
        tree = λ many.
            subst (λ (b : List Float). PartTree t b (part at.tree at.sides (put_mid at.tree (at.sides - at.tree) words y)))
            (sym (part_put at.boxes at.falling reals x (omega (arith, reals_room, laid)) lx))
            (subst (PartTree t x) (sym (part_put at.tree at.sides words y (omega (arith, words_room, laid)) ly)) h);
        words_kept = outside_put 0 at.tree at.sides words y (omega (arith, laid)) (omega (arith, words_room, laid)) ly;
        reals_kept = outside_put nan at.boxes at.falling reals x (omega (arith, laid)) (omega (arith, reals_room, laid)) lx;
      }

-- ---- with it the body stands
module _ (s : List ℕ) (at : Regions) (words words' : List ℕ) (reals reals' : List Float) (placed : Placed s at) (words_room : at.words ≤ length words)
    (reals_room : at.reals ≤ length reals) (put : TreePut (part_of s) at words words' reals reals') where
  words_with : Words (part_of s) at words → Words (part_of s) at words'
  words_with w =
      record {
        labels = λ on.
            labels_as (part_of s) words words' (w.labels on) (λ q l. put.words_kept.below q (omega (arith, l, placed.laid, placed_polygons s at placed)))
            (omega (arith, words_room, placed.laid, placed_polygons s at placed, put.words_kept.long));
        sides = λ on. subst (SharedSegments (part_of s)) (sym (after at.sides at.items (omega arith) (omega (arith, words_room, placed.laid)))) (w.sides on);
        chain = subst (Chain (part_of s)) (sym (after at.chain at.faces (omega (arith, placed.laid)) (omega (arith, words_room, placed.laid)))) w.chain;
        faces = subst (Faces (part_of s)) (sym (after at.faces at.readings (omega (arith, placed.laid)) (omega (arith, words_room, placed.laid)))) w.faces;
      }
    where
      after : (c f : ℕ) → at.sides ≤ c → f ≤ length words → part c f words' ≡ part c f words
      after c f low high = outside_after 0 at.tree at.sides c f words words' low high put.words_kept

  reals_with : Reals (part_of s) at reals → Reals (part_of s) at reals'
  reals_with r =
      record {
        planes = subst (KeptPlanes (part_of s) at.polygons) (sym (same 0 at.areas (omega (arith, placed.laid)))) r.planes;
        areas = subst (KeptAreas (part_of s) at.polygons) (sym (same at.areas at.totals (omega (arith, placed.laid)))) r.areas;
        totals = subst (FaceAreas (part_of s)) (sym (same at.totals at.volumes (omega (arith, placed.laid)))) r.totals;
        volumes = λ on. subst (Volumes (part_of s)) (sym (same at.volumes at.boxes (omega arith))) (r.volumes on);
      }
    where
      same : (c f : ℕ) → f ≤ at.boxes → part c f reals' ≡ part c f reals
      same c f low = outside_part nan at.boxes at.falling c f reals reals' low (omega (arith, low, reals_room, placed.laid)) put.reals_kept

  pub standing_put : Words (part_of s) at words → Reals (part_of s) at reals → Standing s at words' reals'
  standing_put w r =
      record {
        placed = placed;
        words_room = omega (arith, words_room, put.words_kept.long);
        reals_room = omega (arith, reals_room, put.reals_kept.long);
        the_words = words_with w;
        the_reals = reals_with r;
        tree = put.tree;
      }
