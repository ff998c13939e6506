-- What the next neighbour is, with nothing computed: `next_neighbour` is g + 1 where face g is the neighbour past `after` of the lowest id,
-- and 0 where no neighbour is past it.
use mathlib.Core.Path.{◌≡◌, refl, sym, ap, ◌∙◌, subst}
use mathlib.Core.Bool.{Bool, true, false, ◌&&◌, ◌||◌, cond}
use mathlib.Core.List.{List}
use mathlib.Core.Logic.{◌⊎◌, inl, inr}
use Prim.Native.Nat.{ℕ, zero, suc, ◌+◌, ◌-◌, ◌<◌, ◌≤◌}
use native.Mathlib.Numerals.{add-one}
use native.Mathlib.Omega.{arith}
use lib.Dec.{eqb}
use borrow.Author.Tests.{eq-eqb, ne_eqb}
use Rattle.num_float.proofs.Tests.{refuted, contrary, and_left, and_right, lt_or_ge}
use Rattle.file_part.specs.Part.{Part, part_of}
use Rattle.file_ok.specs.Work.{Readable}
use Rattle.file_part.proofs.PartLaws.{part_vertices}
use Rattle.solid_faces.specs.Faces.{faces_of}
use Rattle.solid_edges.specs.Edges.{is_edge_of_word, other_face}
use Rattle.solid_ids.specs.Ids.{face_before}
use Rattle.solid_edges.specs.Neighbours.{is_past, is_wanted, is_better, neighbour_to, next_neighbour, NextNeighbour}
use Rattle.solid_ids.proofs.IdLaws.{face_irreflexive, face_transitive, face_total}
use Rattle.solid_edges.proofs.EdgeLaws.{other_below}

-- no face yet, or face g
better_zero : (t : Part) (o : ℕ) → is_better t 0 o ≡ true
unfolding is_better
better_zero t o = rw (eq-eqb 0 0 refl)

better_suc : (t : Part) (g o : ℕ) → is_better t (suc g) o ≡ face_before t o g
unfolding is_better
better_suc t g o =
    let same : suc g - 1 ≡ g = omega arith in
    rw (ne_eqb (suc g) 0 (λ e. omega (arith, e)), same)

module _ (t : Part) (f after : ℕ) where
  abbrev wanted : ℕ → Bool
  wanted s = is_wanted t f after s

  abbrev other : ℕ → ℕ
  other s = other_face t f s

  -- ---- over the sides below n
  -- face g is the one of the lowest id that a wanted edge leads to
  record Lowest (n g : ℕ) : Type 0 where
    edge : ℕ
    below : edge < n
    is_wanted_lem : wanted edge ≡ true
    leads : other edge ≡ g
    least : (s : ℕ) → s < n → wanted s ≡ true → face_before t (other s) g ≡ false

  -- what k says of them
  record Best (n k : ℕ) : Type 0 where
    none : k ≡ 0 → (s : ℕ) → s < n → wanted s ≡ false
    some : (g : ℕ) → k ≡ suc g → Lowest n g

  -- what holds of the sides below n and of side n holds of those below n + 1
  each : (n : ℕ) (P : ℕ → Type 0) → ((s : ℕ) → s < n → P s) → P n → (s : ℕ) → s < suc n → P s
  each n P before last s l = go (lt_or_ge s n)
    where
      go : (s < n) ⊎ (n ≤ s) → P s
      go (inl low) = before s low
      go (inr high) = let here : n ≡ s = omega (arith, l, high) in subst P here last

  -- side n changes nothing
  lowest_keep : (n g : ℕ) → Lowest n g → (wanted n ≡ true → face_before t (other n) g ≡ false) → Lowest (suc n) g
  lowest_keep n g h last =
      record {
        edge = h.edge;
        below = omega (arith, h.below);
        is_wanted_lem = h.is_wanted_lem;
        leads = h.leads;
        least = each n (λ s. wanted s ≡ true → face_before t (other s) g ≡ false) h.least last;
      }

  -- side n leads to the lowest
  lowest_new : (n : ℕ) → wanted n ≡ true → ((s : ℕ) → s < n → wanted s ≡ true → face_before t (other s) (other n) ≡ false) → Lowest (suc n) (other n)
  lowest_new n w before =
      record {
        edge = n;
        below = omega arith;
        is_wanted_lem = w;
        leads = refl;
        least = each n (λ s. wanted s ≡ true → face_before t (other s) (other n) ≡ false) before (λ h. face_irreflexive t (other n));
      }

  best_of : (n g : ℕ) → Lowest n g → Best n (suc g)
  best_of n g h =
      record {
        none = λ e. absurd (omega (arith, e));
        some = λ k e. let same : g ≡ k = omega (arith, e) in subst (Lowest n) same h;
      }

  best_step : (n k : ℕ) (w : Bool) → wanted n ≡ w → Best n k → Best (suc n) (cond (w && is_better t k (other n)) (suc (other n)) k)
  best_step n k false e h =
      record {
        none = λ z. each n (λ s. wanted s ≡ false) (h.none z) e;
        some = λ g q. lowest_keep n g (h.some g q) (λ w. absurd (contrary w e));
      }
  best_step n zero true e h =
      subst (λ (b : Bool). Best (suc n) (cond b (suc (other n)) 0)) (sym (better_zero t (other n)))
      (best_of (suc n) (other n) (lowest_new n e (λ s l w. absurd (contrary w (h.none refl s l)))))
  best_step n (suc g) true e h =
      subst (λ (b : Bool). Best (suc n) (cond b (suc (other n)) (suc g))) (sym (better_suc t g (other n))) (go (face_before t (other n) g) refl)
    where
      low : Lowest n g
      low = h.some g refl

      go : (b : Bool) → face_before t (other n) g ≡ b → Best (suc n) (cond b (suc (other n)) (suc g))
      go true q =
          best_of (suc n) (other n)
          (lowest_new n e (λ s l w. refuted (face_before t (other s) (other n)) (λ x. contrary (face_transitive t (other s) (other n) g x q) (low.least s l w))))
      go false q = best_of (suc n) g (lowest_keep n g low (λ w. q))

  best : (n : ℕ) → Best n (neighbour_to t f after n)
  unfolding neighbour_to
  best zero = record { none = λ e s l. absurd (omega (arith, l)); some = λ g e. absurd (omega (arith, e)) }
  best (suc n) = best_step n (neighbour_to t f after n) (is_wanted t f after n) refl (best n)

  -- ---- over all sides
  pub next_is : (g : ℕ) → next_neighbour t f after ≡ g + 1 → NextNeighbour t f after g
  unfolding next_neighbour
  next_is g e =
      let h = (best t.vertices).some g (e ∙ add-one g) in
      record { edge = h.edge; below = h.below; wanted = h.is_wanted_lem; leads = h.leads; least = h.least }

  -- where it is 0 no side is wanted
  pub next_none : next_neighbour t f after ≡ 0 → (s : ℕ) → s < t.vertices → is_wanted t f after s ≡ false
  unfolding next_neighbour
  next_none e = (best t.vertices).none e

  -- and where no side is wanted it is 0
  pub none_next : ((s : ℕ) → s < t.vertices → is_wanted t f after s ≡ false) → next_neighbour t f after ≡ 0
  none_next h = go (next_neighbour t f after) refl
    where
      go : (k : ℕ) → next_neighbour t f after ≡ k → k ≡ 0
      go zero e = refl
      go (suc g) e = let n = next_is g (e ∙ sym (add-one g)) in absurd (contrary n.wanted (h n.edge n.below))

  -- the face is one that f has an edge with
  pub next_edge : (g : ℕ) (h : NextNeighbour t f after g) → is_edge_of_word t f h.edge ≡ true
  unfolding is_wanted
  next_edge g h = and_left (is_edge_of_word t f h.edge) (is_past t after (other_face t f h.edge)) h.wanted

-- it comes strictly after the one before
pub next_after : (t : Part) (f a g : ℕ) → NextNeighbour t f (a + 1) g → face_before t a g ≡ true
unfolding is_wanted is_past
next_after t f a g h =
    let past = and_right (is_edge_of_word t f h.edge) (eqb (a + 1) 0 || face_before t (a + 1 - 1) (other_face t f h.edge)) h.wanted in
    let back : a + 1 - 1 ≡ a = omega arith in
    let some : eqb (a + 1) 0 ≡ false = ne_eqb (a + 1) 0 (λ e. omega (arith, e)) in
    sym (rw (some, back, h.leads)) ∙ past

-- ---- of an accepted file: two faces of which neither is before the other are one
module _ (file : List ℕ) (readable : Readable file) (f after : ℕ) where
  abbrev part : Part
  part = part_of file

  wanted_below : (s : ℕ) → s < part.vertices → is_wanted part f after s ≡ true → other_face part f s < faces_of part
  unfolding is_wanted
  wanted_below s l w =
      other_below file readable s (omega (arith, l, part_vertices file)) f (and_left (is_edge_of_word part f s) (is_past part after (other_face part f s)) w)

  pub next_below : (g : ℕ) → NextNeighbour part f after g → g < faces_of part
  next_below g h = omega (arith, h.leads, wanted_below h.edge h.below h.wanted)

  -- no neighbour past `after` is passed over: each is face g, or comes after it
  pub next_first : (g s : ℕ) → NextNeighbour part f after g → s < part.vertices → is_wanted part f after s ≡ true →
      (other_face part f s ≡ g) ⊎ (face_before part g (other_face part f s) ≡ true)
  next_first g s h l w = go (face_before part g (other_face part f s)) refl
    where
      go : (b : Bool) → face_before part g (other_face part f s) ≡ b → (other_face part f s ≡ g) ⊎ (b ≡ true)
      go true e = inr refl
      go false e = inl (face_total part (other_face part f s) g (wanted_below s l w) (next_below g h) (h.least s l w) e)

  -- one face at most is the next
  pub next_unique : (g k : ℕ) → NextNeighbour part f after g → NextNeighbour part f after k → g ≡ k
  next_unique g k x y =
      face_total part g k (next_below g x) (next_below k y)
      (ap (λ (i : ℕ). face_before part i k) (sym x.leads) ∙ y.least x.edge x.below x.wanted)
      (ap (λ (i : ℕ). face_before part i g) (sym y.leads) ∙ x.least y.edge y.below y.wanted)

  pub is_next : (g : ℕ) → NextNeighbour part f after g → next_neighbour part f after ≡ g + 1
  is_next g h = go (next_neighbour part f after) refl
    where
      go : (k : ℕ) → next_neighbour part f after ≡ k → k ≡ g + 1
      go zero e = absurd (contrary h.wanted (next_none part f after e h.edge h.below))
      go (suc k) e =
          let same : k ≡ g = next_unique k g (next_is part f after k (e ∙ sym (add-one k))) h in
          ap suc same ∙ sym (add-one g)
