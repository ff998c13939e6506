-- The answers about a side, return by return, and what is known of an edge.
use mathlib.Core.Path.{◌≡◌, sym, ap, ◌∙◌}
use mathlib.Core.Bool.{Bool, true, false, not, ◌&&◌, ◌||◌, cond}
use mathlib.Core.List.{List}
use Rattle.std.proofs.Common.{Some, None}
use Prim.Native.Nat.{ℕ, ◌+◌, ◌-◌, ◌≤◌, ◌<◌}
use native.Mathlib.Omega.{arith}
use lib.Dec.{eqb, ltb, leb}
use borrow.Author.Tests.{not-true, eq-eqb, ne_eqb, ltb-true, leb-true, lt-ltb, le-ltb, le-leb, lt-leb}
use Rattle.num_float.proofs.Tests.{contrary, and_true, and_left, and_right, and_false_left, and_false_right}
use Rattle.file_part.specs.Layout.{vertex_count_of}
use Rattle.file_part.specs.Part.{Part, part_of}
use Rattle.file_ok.specs.Work.{Readable}
use Rattle.file_part.proofs.PartLaws.{part_vertices}
use Rattle.solid_segments.specs.Sides.{same_side}
use Rattle.solid_segments.specs.Work.{SharedBy}
use Rattle.solid_keys.proofs.MeaningLaws.{pair_shared, shared_pair}
use Rattle.solid_segments.proofs.SharedLaws.{part_sides_alike}
use Rattle.solid_faces.specs.Faces.{faces_of}
use Rattle.solid_edges.specs.declared.edge.Edge.{Edge}
use Rattle.solid_edges.specs.Edges.{pair_in, is_two, face_of_side, face_beyond, is_edge_of, is_edge_of_word, other_face}
use Rattle.solid_edges.specs.Work.{EdgeIs, leads_to}
use Rattle.solid_edges.proofs.ScanLaws.{face_below}

-- ---- `edge_at`
no_edge : (t : Part) (s : ℕ) → is_two t.vertices s (pair_in t s) ≡ false → EdgeIs t s None
unfolding EdgeIs is_edge_of
no_edge t s h = and_false_left (is_two t.vertices s (pair_in t s)) (not (eqb (face_of_side t s) (face_beyond t s))) h

-- one side has the key, or side s is not the first
pub edge_low : (t : Part) (s q : ℕ) → q ≡ pair_in t s → q ≤ s + 1 → EdgeIs t s None
unfolding is_two
edge_low t s q e l =
    no_edge t s (and_false_left (ltb (s + 1) (pair_in t s)) (leb (pair_in t s) t.vertices) (le-ltb (s + 1) (pair_in t s) (omega (arith, e, l))))

-- more than two sides have it
pub edge_many : (file : List ℕ) (v s q : ℕ) → v ≡ vertex_count_of file → q ≡ pair_in (part_of file) s → v < q → EdgeIs (part_of file) s None
unfolding is_two
edge_many file v s q a e l =
    let t = part_of file in
    no_edge t s
    (and_false_right (ltb (s + 1) (pair_in t s)) (leb (pair_in t s) t.vertices) (lt-leb (pair_in t s) t.vertices (omega (arith, a, e, l, part_vertices file))))

-- two sides, of one face or of two
module _ (file : List ℕ) (v s q near beyond : ℕ) (a : v ≡ vertex_count_of file) (e : q ≡ pair_in (part_of file) s) (low : s + 1 < q) (high : q ≤ v)
    (n : near ≡ face_of_side (part_of file) s) (b : beyond ≡ face_of_side (part_of file) (q - 1)) where
  two : is_two (part_of file).vertices s (pair_in (part_of file) s) ≡ true
  unfolding is_two
  two =
      let t = part_of file in
      and_true (ltb (s + 1) (pair_in t s)) (leb (pair_in t s) t.vertices) (lt-ltb (s + 1) (pair_in t s) (omega (arith, e, low)))
      (le-leb (pair_in t s) t.vertices (omega (arith, a, e, high, part_vertices file)))

  far : beyond ≡ face_beyond (part_of file) s
  unfolding face_beyond
  far = b ∙ ap (λ (k : ℕ). face_of_side (part_of file) (k - 1)) e

  pub edge_inside : near ≡ beyond → EdgeIs (part_of file) s None
  unfolding EdgeIs is_edge_of
  edge_inside h = rw (two, eq-eqb _ _ (sym n ∙ h ∙ far))

  pub edge_two : (near ≡ beyond → ⊥) → EdgeIs (part_of file) s (Some (record { near = near; beyond = beyond }))
  unfolding EdgeIs is_edge_of
  edge_two h = (rw (two, ne_eqb _ _ (λ z. h (n ∙ z ∙ sym far))), n, far)

-- ---- the faces of an edge
module _ (file : List ℕ) (readable : Readable file) (s : ℕ) (low : s < vertex_count_of file) where
  abbrev t : Part
  t = part_of file

  pub beyond_below : is_edge_of t s ≡ true → face_beyond t s < faces_of t
  unfolding is_edge_of is_two face_beyond
  beyond_below h =
      let two = and_left (ltb (s + 1) (pair_in t s) && leb (pair_in t s) t.vertices) (not (eqb (face_of_side t s) (face_of_side t (pair_in t s - 1)))) h in
      let above = ltb-true (s + 1) (pair_in t s) (and_left (ltb (s + 1) (pair_in t s)) (leb (pair_in t s) t.vertices) two) in
      let within = leb-true (pair_in t s) t.vertices (and_right (ltb (s + 1) (pair_in t s)) (leb (pair_in t s) t.vertices) two) in
      face_below file readable (pair_in t s - 1) (omega (arith, above, within, part_vertices file))

  pub near_few : (e : Edge) → EdgeIs t s (Some e) → e.near < faces_of t
  unfolding EdgeIs
  near_few e h = omega (arith, h.1, face_below file readable s low)

  pub beyond_few : (e : Edge) → EdgeIs t s (Some e) → e.beyond < faces_of t
  unfolding EdgeIs
  beyond_few e h = omega (arith, h.2, beyond_below h.0)

  pub other_below : (f : ℕ) → is_edge_of_word t f s ≡ true → other_face t f s < faces_of t
  unfolding is_edge_of_word other_face
  other_below f h =
      go (eqb (face_of_side t s) f) (face_below file readable s low) (beyond_below (and_left (is_edge_of t s) (eqb (face_of_side t s) f || eqb (face_beyond t s) f) h))
    where
      go : (b : Bool) → face_of_side t s < faces_of t → face_beyond t s < faces_of t → cond b (face_beyond t s) (face_of_side t s) < faces_of t
      go true near beyond = beyond
      go false near beyond = near

-- ---- `leads_to`
pub leads_none : (t : Part) (f s : ℕ) → EdgeIs t s None → None ≡ leads_to t f s
unfolding EdgeIs leads_to is_edge_of_word
leads_none t f s h = rw h

module _ (t : Part) (f s : ℕ) (e : Edge) (h : EdgeIs t s (Some e)) where
  pub leads_beyond : e.near ≡ f → Some e.beyond ≡ leads_to t f s
  unfolding EdgeIs leads_to is_edge_of_word other_face
  leads_beyond q = rw (h.0, eq-eqb (face_of_side t s) f (sym h.1 ∙ q), h.2)

  pub leads_near : (e.near ≡ f → ⊥) → e.beyond ≡ f → Some e.near ≡ leads_to t f s
  unfolding EdgeIs leads_to is_edge_of_word other_face
  leads_near d q = rw (h.0, ne_eqb (face_of_side t s) f (λ z. d (h.1 ∙ z)), eq-eqb (face_beyond t s) f (sym h.2 ∙ q), h.1)

  pub leads_past : (e.near ≡ f → ⊥) → (e.beyond ≡ f → ⊥) → None ≡ leads_to t f s
  unfolding EdgeIs leads_to is_edge_of_word
  leads_past d q = rw (h.0, ne_eqb (face_of_side t s) f (λ z. d (h.1 ∙ z)), ne_eqb (face_beyond t s) f (λ z. q (h.2 ∙ z)))

-- ---- what an edge is: a shared segment of sides s and u, of which the faces differ
pub record BetweenFaces (t : Part) (s u : ℕ) : Type 0 where
  pub shared : SharedBy t s u
  pub different : face_of_side t s ≡ face_of_side t u → ⊥

pub edge_between : (t : Part) (s : ℕ) → is_edge_of t s ≡ true → BetweenFaces t s (pair_in t s - 1)
unfolding is_edge_of is_two face_beyond pair_in
edge_between t s h =
    let q = pair_in t s in
    let apart = eqb (face_of_side t s) (face_of_side t (q - 1)) in
    let two = and_left (ltb (s + 1) q && leb q t.vertices) (not apart) h in
    let above = ltb-true (s + 1) q (and_left (ltb (s + 1) q) (leb q t.vertices) two) in
    let within = leb-true q t.vertices (and_right (ltb (s + 1) q) (leb q t.vertices) two) in
    record {
      shared = pair_shared (same_side t) (part_sides_alike t) t.vertices s (q - 1) (omega (arith, above)) (omega (arith, above, within)) (omega (arith, above));
      different = λ e. contrary (eq-eqb _ _ e) (not-true apart (and_right (ltb (s + 1) q && leb q t.vertices) (not apart) h));
    }

pub between_edge : (t : Part) (s u : ℕ) → BetweenFaces t s u → (is_edge_of t s ≡ true) × (face_beyond t s ≡ face_of_side t u)
unfolding is_edge_of is_two face_beyond pair_in
between_edge t s u h =
    let e : pair_in t s ≡ u + 1 = shared_pair (same_side t) (part_sides_alike t) t.vertices s u h.shared in
    let back : u + 1 - 1 ≡ u = omega arith in (
      rw (
        e,
        back,
        lt-ltb (s + 1) (u + 1) (omega (arith, h.shared.order)),
        le-leb (u + 1) t.vertices (omega (arith, h.shared.below)),
        ne_eqb (face_of_side t s) (face_of_side t u) h.different,
      ),
      rw (e, back),
    )
