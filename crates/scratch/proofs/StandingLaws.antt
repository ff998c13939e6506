-- The body stands in the scratch, and still does after changes past its regions; what a stage above reads of it.
use mathlib.Core.Path.{◌≡◌, refl, sym, ◌∙◌, subst}
use mathlib.Core.List.{List}
use Prim.Native.Nat.{ℕ, ◌≤◌, ◌<◌}
use native.Mathlib.Omega.{arith}
use lib.Ieee.{Float, nan}
use Rattle.list_laws.specs.Region.{part, Outside}
use Rattle.list_laws.proofs.Outside.{part_kept, outside_part}
use Rattle.file_part.specs.Part.{part_of}
use Rattle.file_part.proofs.PartLaws.{part_vertices, part_polygons}
use Rattle.solid_volumes.specs.solid_segments.specs.Sides.{SharedSegments}
use Rattle.solid_volumes.specs.solid_bodies.proofs.BodyLaws.{labels_as}
use Rattle.solid_volumes.specs.Volume.{Volumes}
use Rattle.solid_boxes.specs.Tree.{PartTree}
use Rattle.solid_faces.specs.Kept.{Faces, Chain, KeptPlanes, KeptAreas, FaceAreas}
use Rattle.scratch.specs.declared.regions.Regions.{Regions}
use Rattle.scratch.specs.Regions.{scanned, Laid}
use Rattle.scratch.specs.Standing.{Placed, Words, Reals, Standing}
use Rattle.scratch.specs.Work.{BodyKept}

-- the counts of the part
pub placed_polygons : (s : List ℕ) (at : Regions) → Placed s at → at.polygons ≡ (part_of s).polygons
placed_polygons s at h = h.polygons ∙ sym (part_polygons s)

pub placed_vertices : (s : List ℕ) (at : Regions) → Placed s at → at.vertices ≡ (part_of s).vertices
placed_vertices s at h = h.vertices ∙ sym (part_vertices s)

-- ---- which changes of the words keep the body
module _ (at : Regions) (laid : Laid at) where
  pub body_same : (l : List ℕ) → BodyKept at l l
  body_same l = record { front = λ i h. refl; chain = λ i h k. refl; faces = λ i h k. refl; long = refl }

  pub body_then : (l m n : List ℕ) → BodyKept at l m → BodyKept at m n → BodyKept at l n
  body_then l m n a b =
      record {
        front = λ i h. b.front i h ∙ a.front i h;
        chain = λ i h k. b.chain i h k ∙ a.chain i h k;
        faces = λ i h k. b.faces i h k ∙ a.faces i h k;
        long = b.long ∙ a.long;
      }

  -- those past it
  pub body_past : (e : ℕ) (l m : List ℕ) → Outside 0 at.readings e l m → BodyKept at l m
  body_past e l m h =
      record {
        front = λ i k. h.below i (omega (arith, k, laid));
        chain = λ i k j. h.below i (omega (arith, j, laid));
        faces = λ i k j. h.below i j;
        long = h.long;
      }

  -- those of the sides in order
  pub body_sorted : (a e : ℕ) (l m : List ℕ) → at.items ≤ a → e ≤ at.chain → Outside 0 a e l m → BodyKept at l m
  body_sorted a e l m low high h =
      record {
        front = λ i k. h.below i (omega (arith, k, low));
        chain = λ i k j. h.above i (omega (arith, k, high));
        faces = λ i k j. h.above i (omega (arith, k, high, laid));
        long = h.long;
      }

-- ---- the body still stands after them
module _ (s : List ℕ) (at : Regions) (b : ℕ) (words words' : List ℕ) (reals reals' : List Float) (h : Standing s at words reals)
    (w : BodyKept at words words') (r : Outside nan at.falling b reals reals') where
  words_still : Words (part_of s) at words'
  words_still =
      let laid = h.placed.laid in
      record {
        labels = λ on. labels_as (part_of s) words words' (h.the_words.labels on) (λ q l. w.front q (omega (arith, l, laid, placed_polygons s at h.placed)))
            (omega (arith, h.words_room, laid, placed_polygons s at h.placed, w.long));
        sides = λ on. subst (SharedSegments (part_of s))
            (sym (part_kept 0 words words' at.sides at.items w.long (omega (arith, h.words_room, laid)) (λ i k l. w.front i l))) (h.the_words.sides on);
        chain = subst (Chain (part_of s))
            (sym (part_kept 0 words words' at.chain at.faces w.long (omega (arith, h.words_room, laid)) w.chain)) h.the_words.chain;
        faces = subst (Faces (part_of s))
            (sym (part_kept 0 words words' at.faces at.readings w.long (omega (arith, h.words_room, laid)) w.faces)) h.the_words.faces;
      }

  -- the reals that are kept
  same : (c f : ℕ) → f ≤ at.falling → part c f reals' ≡ part c f reals
  same c f low = outside_part nan at.falling b c f reals reals' low (omega (arith, low, h.reals_room, h.placed.laid)) r

  reals_still : Reals (part_of s) at reals'
  reals_still =
      let laid = h.placed.laid in
      record {
        planes = subst (KeptPlanes (part_of s) at.polygons) (sym (same 0 at.areas (omega (arith, laid)))) h.the_reals.planes;
        areas = subst (KeptAreas (part_of s) at.polygons) (sym (same at.areas at.totals (omega (arith, laid)))) h.the_reals.areas;
        totals = subst (FaceAreas (part_of s)) (sym (same at.totals at.volumes (omega (arith, laid)))) h.the_reals.totals;
        volumes = λ on. subst (Volumes (part_of s)) (sym (same at.volumes at.boxes (omega (arith, laid)))) (h.the_reals.volumes on);
      }

  tree_still : scanned < at.polygons → PartTree (part_of s) (part at.boxes at.falling reals') (part at.tree at.sides words')
  tree_still many =
      let laid = h.placed.laid in
      subst (λ (x : List Float). PartTree (part_of s) x (part at.tree at.sides words')) (sym (same at.boxes at.falling (omega arith)))
      (subst (PartTree (part_of s) (part at.boxes at.falling reals))
      (sym (part_kept 0 words words' at.tree at.sides w.long (omega (arith, h.words_room, laid)) (λ i k l. w.front i (omega (arith, l, laid)))))
      (h.tree many))

  pub standing_still : Standing s at words' reals'
  standing_still =
      record {
        placed = h.placed;
        words_room = omega (arith, h.words_room, w.long);
        reals_room = omega (arith, h.reals_room, r.long);
        the_words = words_still;
        the_reals = reals_still;
        tree = tree_still;
      }

-- changes past the body's regions
pub standing_kept : (s : List ℕ) (at : Regions) (a b : ℕ) (words words' : List ℕ) (reals reals' : List Float) → Standing s at words reals
    → Outside 0 at.readings a words words' → Outside nan at.falling b reals reals' → Standing s at words' reals'
standing_kept s at a b words words' reals reals' h w r =
    standing_still s at b words words' reals reals' h (body_past at h.placed.laid a words words' w) r
