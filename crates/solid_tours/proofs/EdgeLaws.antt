-- What the lists of edges hold, in the words of crate solid_edges: the edges of a face, the first between two faces, and the least distances.
use mathlib.Core.Path.{◌≡◌, refl, sym, ap, ◌∙◌, subst}
use mathlib.Core.Bool.{Bool, true, false, cond}
use mathlib.Core.Logic.{◌⊎◌, inl, inr}
use mathlib.Core.List.Memᴰ
use mathlib.Core.List.{List, [], ◌∷◌, Memᴰ}
use Prim.Native.Nat.{ℕ, zero, suc, ◌<◌, ◌≤◌}
use native.Mathlib.Omega.{arith}
use lib.Dec.{eqb}
use lib.ListN.{length, get_or}
use lib.Ieee.{Float, inf, lt, le}
use borrow.Author.Tests.{eq-eqb, eqb-true}
use Rattle.num_float.specs.Sign.{plus_zero, NonNeg}
use Rattle.num_float.proofs.Tests.{refuted, and_true, and_left, and_right}
use Rattle.num_float.proofs.Order.{le_numbers, not_lt_le}
use Rattle.num_root.specs.Root.{root}
use Rattle.num_norm.proofs.RootOrder.{root_mono}
use Rattle.math.specs.declared.Vec3.{Vec3}
use Rattle.list_laws.proofs.Count.{lowest_is}
use Rattle.list_groups.specs.Groups.{passing}
use Rattle.list_groups.proofs.Strict.{Strict, strict_append, place_mem}
use Rattle.list_groups.proofs.Flat.{joined_mem, mem_joined}
use Rattle.file_part.specs.Part.{Part, part_of}
use Rattle.file_part.proofs.PartLaws.{part_vertices}
use Rattle.file_ok.specs.Work.{Readable}
use Rattle.solid_faces.specs.Faces.{faces_of}
use Rattle.solid_edges.specs.Edges.{is_edge_of_word, other_face, is_between}
use Rattle.solid_edges.specs.Neighbours.{first_between}
use Rattle.solid_edges.specs.Distance.{edge_distance, between_distance}
use Rattle.solid_edges.proofs.EdgeLaws.{other_below}
use Rattle.solid_ranks.specs.Ranks.{rank_of, face_of_rank}
use Rattle.solid_ranks.proofs.RankLaws.{rank_below, face_of_rank_lem}
use Rattle.solid_tours.specs.Tours.{edges_between, edges_of}
use Rattle.solid_tours.specs.Work.{least_square, least_distance}
use Rattle.solid_tours.proofs.Passing.{passing_zero, passing_step, mem_passing, passing_mem}
use Rattle.solid_tours.proofs.PlaceLaws.{edges_joined}
use Rattle.solid_tours.proofs.LeastLaws.{least_number, least_beyond, least_distance_lem}

-- ---- the edges between two faces
pub between_edge : (t : Part) (f g : ℕ) {s : ℕ} → Memᴰ s (edges_between t f g) → (s < t.vertices) × (is_between t f g s ≡ true)
unfolding edges_between
between_edge t f g m = mem_passing (is_between t f g) t.vertices m

pub edge_between : (t : Part) (f g s : ℕ) → s < t.vertices → is_between t f g s ≡ true → Memᴰ s (edges_between t f g)
unfolding edges_between
edge_between t f g s l e = passing_mem (is_between t f g) t.vertices s l e

-- an edge between them is one of the first
pub between_of : (t : Part) (f g s : ℕ) → is_between t f g s ≡ true → is_edge_of_word t f s ≡ true
unfolding is_between
between_of t f g s e = and_left (is_edge_of_word t f s) (eqb (other_face t f s) g) e

-- that leads to the second
pub between_leads : (t : Part) (f g s : ℕ) → is_between t f g s ≡ true → other_face t f s ≡ g
unfolding is_between
between_leads t f g s e = eqb-true (other_face t f s) g (and_right (is_edge_of_word t f s) (eqb (other_face t f s) g) e)

pub leads_between : (t : Part) (f s : ℕ) → is_edge_of_word t f s ≡ true → is_between t f (other_face t f s) s ≡ true
unfolding is_between
leads_between t f s e = and_true (is_edge_of_word t f s) (eqb (other_face t f s) (other_face t f s)) e (eq-eqb (other_face t f s) (other_face t f s) refl)

-- ---- the edges of a face
pub of_edge : (t : Part) (f : ℕ) {s : ℕ} → Memᴰ s (edges_of t f) → (s < t.vertices) × (is_edge_of_word t f s ≡ true)
of_edge t f {s} m =
    let w = mem_joined (λ r. edges_between t f (face_of_rank t r)) (faces_of t) (subst (Memᴰ s) (edges_joined t f) m) in
    let e = between_edge t f (face_of_rank t w.0) w.2 in
    (e.0, between_of t f (face_of_rank t w.0) s e.1)

module _ (file : List ℕ) (readable : Readable file) (f : ℕ) where
  abbrev t : Part
  t = part_of file

  pub edge_of : (s : ℕ) → s < t.vertices → is_edge_of_word t f s ≡ true → Memᴰ s (edges_of t f)
  edge_of s l e =
      let g = other_face t f s in
      let there : g < faces_of t = other_below file readable s (omega (arith, l, part_vertices file)) f e in
      let here : is_between t f (face_of_rank t (rank_of t g)) s ≡ true
      = ap (λ (k : ℕ). is_between t f k s) (face_of_rank_lem t g there) ∙ leads_between t f s e in
      subst (Memᴰ s) (sym (edges_joined t f))
      (joined_mem (λ r. edges_between t f (face_of_rank t r)) (faces_of t) (rank_of t g) (rank_below t g there) (edge_between t f (face_of_rank t (rank_of t g)) s l here))

  -- ---- the least distances
  pub edge_least : (p : Vec3) → least_distance t p (edges_of t f) ≡ edge_distance t f p
  unfolding edge_distance
  edge_least p = least_distance_lem t p (is_edge_of_word t f) t.vertices (edges_of t f) (λ s m. of_edge t f m) edge_of

pub between_least : (t : Part) (f g : ℕ) (p : Vec3) → least_distance t p (edges_between t f g) ≡ between_distance t f g p
unfolding between_distance
between_least t f g p =
    least_distance_lem t p (is_between t f g) t.vertices (edges_between t f g) (λ s m. between_edge t f g m) (λ s l e. edge_between t f g s l e)

-- where no square between two faces is below x, their distance is not below its root
pub between_beyond : (t : Part) (f g : ℕ) (p : Vec3) (x : Float) → NonNeg x → lt (least_square t p x (edges_between t f g)) x ≡ false → le (root x) (between_distance t f g p) ≡ true
unfolding least_distance
between_beyond t f g p x pos none =
    let l = edges_between t f g in
    let n = (le_numbers plus_zero x pos).1 in
    subst (λ (z : Float). le (root x) z ≡ true) (between_least t f g p)
    (root_mono x (least_square t p (inf false) l) pos (not_lt_le (least_square t p (inf false) l) x (least_number t p l) n (least_beyond t p x l n none)))

-- ---- the first between two faces
-- the lowest that passes stands first
strict_first : (l : List ℕ) (z : ℕ) → Strict (λ x y. x < y) l → Memᴰ z l → get_or l 0 0 ≤ z
strict_first [] z strict m = absurd (Memᴰ.not-nil m)
strict_first (x ∷ l) z strict m = go (Memᴰ.cases_cons m)
  where
    go : (z ≡ x) ⊎ Memᴰ z l → x ≤ z
    go (inl e) = omega (arith, e)
    go (inr k) = let h = strict.0 z k in omega (arith, h)

passing_strict : (test : ℕ → Bool) (n : ℕ) → Strict (λ x y. x < y) (passing test n)
passing_strict test zero = subst (Strict (λ x y. x < y)) (sym (passing_zero test)) tt
passing_strict test (suc n) =
    subst (Strict (λ x y. x < y)) (sym (passing_step test n))
    (strict_append (λ x y. x < y) (passing test n) (cond (test n) (n ∷ []) []) (passing_strict test n) (one (test n)) (λ x y a b. below x y a (test n) b))
  where
    one : (b : Bool) → Strict (λ x y. x < y) (cond b (n ∷ []) [])
    one true = (λ y m. absurd (Memᴰ.not-nil m), tt)
    one false = tt

    below : (x y : ℕ) → Memᴰ x (passing test n) → (b : Bool) → Memᴰ y (cond b (n ∷ []) []) → x < y
    below x y a true m = let w = mem_passing test n a in omega (arith, w.0, Memᴰ.eq_of_singleton m)
    below x y a false m = absurd (Memᴰ.not-nil m)

-- where there is one, the first of the edges between two faces is `first_between`, which is the number of sides where there is none
pub first_edge : (t : Part) (f g : ℕ) → 0 < length (edges_between t f g) → get_or (edges_between t f g) 0 0 ≡ first_between t f g
unfolding edges_between first_between
first_edge t f g h =
    let test = is_between t f g in
    let w = mem_passing test t.vertices (place_mem (passing test t.vertices) 0 h) in
    sym (lowest_is t.vertices test (get_or (passing test t.vertices) 0 0) (omega (arith, w.0)) (λ l. w.1)
    (λ i l. refuted (test i) (λ e.
    let m = passing_mem test t.vertices i (omega (arith, l, w.0)) e in
    let high = strict_first (passing test t.vertices) i (passing_strict test t.vertices) m in
    omega (arith, high, l))))
