-- What a store does to a forest of parents.
use Prim.Native.Nat.{ℕ, ◌≤◌, ◌<◌, ◌+◌}
use native.Mathlib.Omega.{arith}
use native.Mathlib.Decide.{ℕ_discrete}
use native.Mathlib.Nat.{eq-or-lt_of_le}
use borrow.Author.Count.{below_more}
use mathlib.Core.Path.{◌≡◌, refl, sym, ap, subst, ◌∙◌}
use mathlib.Core.Logic.{◌⊎◌, inl, inr}
use mathlib.Core.List.{List}
use lib.ListN.{length, get_or, set, length-set}
use lib.Seq.{get_or-set_same, get_or-set_other}
use Rattle.solid_bodies.specs.Body.{Chain, here}
use Rattle.solid_bodies.specs.Work.Forest.{Falls, Carries, Up, Tie, Walked, Rooted, Linked}
use Rattle.solid_bodies.proofs.ChainLaws.{one, then, turned, bind}

below_of : {a b : ℕ} → a ≤ b → (a ≡ b → ⊥) → a < b
below_of {a} {b} l ne = go (eq-or-lt_of_le l)
  where
    go : (a ≡ b) ⊎ (a < b) → a < b
    go (inl e) = absurd (ne e)
    go (inr h) = h

-- what holds at the store and, of every other element, at the old value, holds of each element after the store
pub after : (C : ℕ → ℕ → Type 0) (p : List ℕ) (x y i : ℕ) → i < length p → C x y → ((i ≡ x → ⊥) → C i (get_or p i 0)) → C i (get_or (set p x y) i 0)
after C p x y i h here-c other = go (ℕ_discrete i x)
  where
    go : Dec (i ≡ x) → C i (get_or (set p x y) i 0)
    go (yes e) =
        subst (λ (k : ℕ). C k (get_or (set p x y) k 0)) (sym e)
        (subst (C x) (sym (get_or-set_same p x y 0 (subst (λ (k : ℕ). k < length p) e h))) here-c)
    go (no n) = subst (C i) (sym (get_or-set_other p x i y 0 n)) (other n)

pub up_turned : (p : List ℕ) (i j : ℕ) → Up p i j → Up p j i
up_turned p i j (inl x) = inr x
up_turned p i j (inr x) = inl x

tie_turned : (p : List ℕ) (i j a b : ℕ) → Tie p i j a b → Tie p i j b a
tie_turned p i j a b (inl x) = inl (up_turned p a b x)
tie_turned p i j a b (inr (inl x)) = inr (inr (x.1, x.0))
tie_turned p i j a b (inr (inr x)) = inr (inl (x.1, x.0))

-- where S joins each with its parent, it joins all that the forest joins
pub ups : {S : ℕ → ℕ → Type 0} (p : List ℕ) → ((a b : ℕ) → S a b → S b a) → ((i : ℕ) → i < length p → Chain S i (get_or p i 0)) → Carries (Up p) S
ups {S} p s f i j (inl x) = subst (Chain S i) x.1 (f i x.0)
ups {S} p s f i j (inr x) = turned s (subst (Chain S j) x.1 (f j x.0))

to_parent : (p : List ℕ) (i : ℕ) → i < length p → Chain (Up p) i (get_or p i 0)
to_parent p i h = one (inl (h, refl))

falls_set : (p : List ℕ) (x y : ℕ) → Falls p → y ≤ x → Falls (set p x y)
falls_set p x y f l i h = after (λ (a b : ℕ). b ≤ a) p x y i g l (λ n. f i g)
  where
    g : i < length p
    g = subst (λ (k : ℕ). i < k) (length-set p x y) h

-- an element that was not stored to keeps its parent
stays : (p : List ℕ) (x y i : ℕ) → i < length p → (i ≡ x → ⊥) → Chain (Up (set p x y)) i (get_or p i 0)
stays p x y i h n =
    subst (Chain (Up (set p x y)) i) (get_or-set_other p x i y 0 n) (to_parent (set p x y) i (subst (λ (k : ℕ). i < k) (sym (length-set p x y)) h))

-- the store itself is an edge
edge : (p : List ℕ) (x y : ℕ) → x < length p → Chain (Up (set p x y)) x y
edge p x y h =
    subst (Chain (Up (set p x y)) x) (get_or-set_same p x y 0 h) (to_parent (set p x y) x (subst (λ (k : ℕ). x < k) (sym (length-set p x y)) h))

-- a store after which x is still joined with its old parent loses nothing
keeps : (p : List ℕ) (x y : ℕ) → Chain (Up (set p x y)) x (get_or p x 0) → Carries (Up p) (Up (set p x y))
keeps p x y c = ups p (up_turned (set p x y)) each
  where
    each : (i : ℕ) → i < length p → Chain (Up (set p x y)) i (get_or p i 0)
    each i h = go (ℕ_discrete i x)
      where
        go : Dec (i ≡ x) → Chain (Up (set p x y)) i (get_or p i 0)
        go (yes e) = subst (λ (k : ℕ). Chain (Up (set p x y)) k (get_or p k 0)) (sym e) c
        go (no n) = stays p x y i h n

-- a store that ties what S joins adds nothing to S
adds : {S : ℕ → ℕ → Type 0} (p : List ℕ) (x y : ℕ) → ((a b : ℕ) → S a b → S b a) → Carries (Up p) S → Chain S x y → Carries (Up (set p x y)) S
adds {S} p x y s w c = ups (set p x y) s each
  where
    each : (i : ℕ) → i < length (set p x y) → Chain S i (get_or (set p x y) i 0)
    each i h =
        let g : i < length p = subst (λ (k : ℕ). i < k) (length-set p x y) h in
        after (Chain S) p x y i g c (λ n. bind w (to_parent p i g))

-- ---- the walk to the root
pub walk_start : (p : List ℕ) (i : ℕ) → Falls p → Walked p p i i
walk_start p i f = record { long = refl; falls = f; low = omega arith; tops = λ k e. e; tied = here; all = λ a b u. one u; only = λ a b u. one u }

module _ (p q : List ℕ) (i at : ℕ) (w : Walked p q i at) (h : at < length q) (ne : get_or q at 0 ≡ at → ⊥) where
  abbrev up : ℕ
  up = get_or q at 0

  abbrev over : ℕ
  over = get_or q up 0

  abbrev q' : List ℕ
  q' = set q at over

  up_in : up < length q
  up_in = let l : up ≤ at = w.falls at h in omega arith

  -- in the new forest, at and its old parent meet in the parent's parent
  meet : Chain (Up q') at up
  meet = then (edge q at over h) (turned (up_turned q') (stays q at over up up_in ne))

  all' : Carries (Up q) (Up q')
  all' = keeps q at over meet

  walk_more : Walked p q' i over
  walk_more =
      let l : up ≤ at = w.falls at h in
      let m : over ≤ up = w.falls up up_in in
      record {
        long = length-set q at over ∙ w.long;
        falls = falls_set q at over w.falls (omega arith);
        low = let k = w.low in omega arith;
        tops = λ k e. get_or-set_other q at k over 0 (λ k≡at. ne (subst (λ (n : ℕ). get_or q n 0 ≡ n) k≡at (w.tops k e))) ∙ w.tops k e;
        tied = then (bind all' w.tied) (edge q at over h);
        all = λ a b u. bind all' (w.all a b u);
        only = adds q at over (up_turned p) w.only (bind w.only (then (to_parent q at h) (to_parent q up up_in)));
      }

-- one step, in the names of the code
module _ (p q : List ℕ) (i at up : ℕ) (w : Walked p q i at) (h : at < length q) (u : up ≡ get_or q at 0) (ne : up ≡ at → ⊥) where
  pub up_below : up < at
  up_below = below_of (subst (λ (k : ℕ). k ≤ at) (sym u) (w.falls at h)) ne

  pub over_low : (at' : ℕ) → at' ≡ get_or q up 0 → at' ≤ up
  over_low at' v = let a = up_below in subst (λ (k : ℕ). k ≤ up) (sym v) (w.falls up (omega arith))

  pub walk_step : (at' : ℕ) → at' ≡ get_or q up 0 → Walked p (set q at (get_or q up 0)) i at'
  walk_step at' v =
      subst (λ (k : ℕ). Walked p (set q at (get_or q up 0)) i k) (sym v)
      (subst (λ (k : ℕ). Walked p (set q at (get_or q k 0)) i (get_or q k 0)) (sym u) (walk_more p q i at w h (λ e. ne (u ∙ e))))

-- ---- two roots joined
-- hi gets the parent lo, in a forest that joins what p joins
hang : (p q : List ℕ) (i j hi lo : ℕ) → length q ≡ length p → Falls q → Carries (Up p) (Up q) → Carries (Up q) (Up p)
    → hi < length q → lo ≤ hi → get_or q hi 0 ≡ hi → Chain (Up q) i hi → Chain (Up q) j lo → Linked p (set q hi lo) i j
hang p q i j hi lo long f all only h l top ci cj =
    let f' : Carries (Up q) (Up (set q hi lo)) = keeps q hi lo (subst (Chain (Up (set q hi lo)) hi) (sym top) here) in
    let tie : Carries (Up q) (Tie p i j) = λ a b u. bind (λ a b x. one (inl x)) (only a b u) in
    record {
      long = length-set q hi lo ∙ long;
      falls = falls_set q hi lo f l;
      tied = then (bind f' ci) (then (edge q hi lo h) (turned (up_turned (set q hi lo)) (bind f' cj)));
      all = λ a b u. bind f' (all a b u);
      only = adds q hi lo (tie_turned p i j) tie (then (turned (tie_turned p i j) (bind tie ci)) (then (one (inr (inl (refl, refl)))) (bind tie cj)));
    }

linked_turned : (p q : List ℕ) (i j : ℕ) → Linked p q j i → Linked p q i j
linked_turned p q i j r = record {
  long = r.long;
  falls = r.falls;
  tied = turned (up_turned q) r.tied;
  all = r.all;
  only = λ a b u. bind swap (r.only a b u);
}
  where
    swap : Carries (Tie p j i) (Tie p i j)
    swap a b (inl x) = one (inl x)
    swap a b (inr (inl x)) = one (inr (inr x))
    swap a b (inr (inr x)) = one (inr (inl x))

module _ (p q₁ q : List ℕ) (i j a b : ℕ) (ra : Rooted p q₁ i a) (rb : Rooted q₁ q j b) (hi : i < length p) (hj : j < length p) where
  long : length q ≡ length p
  long = rb.way.long ∙ ra.way.long

  all : Carries (Up p) (Up q)
  all x y u = bind rb.way.all (ra.way.all x y u)

  only : Carries (Up q) (Up p)
  only x y u = bind ra.way.only (rb.way.only x y u)

  a_in : a < length q
  a_in = let l = ra.way.low in let e = long in omega arith

  b_in : b < length q
  b_in = let l = rb.way.low in let e = long in omega arith

  -- the first root is the lower
  pub link_up : a < b → Linked p (set q b a) i j
  link_up l =
      linked_turned p (set q b a) i j
      (hang p q j i b a long rb.way.falls all only b_in (omega arith) rb.top rb.way.tied (bind rb.way.all ra.way.tied))

  pub link_down : b ≤ a → Linked p (set q a b) i j
  link_down l = hang p q i j a b long rb.way.falls all only a_in l (rb.way.tops a ra.top) (bind rb.way.all ra.way.tied) rb.way.tied

-- ---- from parents to labels
-- the first n are labels, and the rest parents still
pub record Partly (p q : List ℕ) (n : ℕ) : Type 0 where
  pub long : length q ≡ length p
  pub low : (i : ℕ) → i < n → get_or q i 0 ≤ i
  pub like : (i : ℕ) → i < n → get_or q i 0 ≡ get_or q (get_or p i 0) 0
  pub tied : (i : ℕ) → i < n → Chain (Up p) i (get_or q i 0)
  pub rest : (i : ℕ) → n ≤ i → get_or q i 0 ≡ get_or p i 0

module _ (p q : List ℕ) (n : ℕ) (f : Falls p) (r : Partly p q n) (h : n < length p) where
  abbrev new : ℕ
  new = get_or q (get_or q n 0) 0

  abbrev q'' : List ℕ
  q'' = set q n new

  at_n : get_or q n 0 ≡ get_or p n 0
  at_n = r.rest n (omega arith)

  n_in : n < length q
  n_in = let e = r.long in omega arith

  same_at : get_or q'' n 0 ≡ new
  same_at = get_or-set_same q n new 0 n_in

  -- the label at n, and that it is its parent's
  new_is : Dec (get_or p n 0 ≡ n) → (get_or q'' n 0 ≤ n) × (get_or q'' n 0 ≡ get_or q'' (get_or p n 0) 0) × Chain (Up p) n (get_or q'' n 0)
  new_is (yes e) =
      let v : get_or q'' n 0 ≡ n = same_at ∙ ap (λ (k : ℕ). get_or q k 0) (at_n ∙ e) ∙ at_n ∙ e in
      (omega arith, ap (λ (k : ℕ). get_or q'' k 0) (sym e), subst (Chain (Up p) n) (sym v) here)
  new_is (no ne) =
      let l : get_or p n 0 ≤ n = f n h in
      let lt : get_or p n 0 < n = below_of l ne in
      let v : get_or q'' n 0 ≡ get_or q (get_or p n 0) 0 = same_at ∙ ap (λ (k : ℕ). get_or q k 0) at_n in
      let m : get_or q (get_or p n 0) 0 ≤ get_or p n 0 = r.low (get_or p n 0) lt in
      let tied = then (to_parent p n h) (subst (Chain (Up p) (get_or p n 0)) (sym v) (r.tied (get_or p n 0) lt)) in
      (omega arith, v ∙ sym (get_or-set_other q n (get_or p n 0) new 0 ne), tied)

  facts : (get_or q'' n 0 ≤ n) × (get_or q'' n 0 ≡ get_or q'' (get_or p n 0) 0) × Chain (Up p) n (get_or q'' n 0)
  facts = new_is (ℕ_discrete (get_or p n 0) n)

  below : (i : ℕ) → i < n → get_or q'' i 0 ≡ get_or q i 0
  below i l = get_or-set_other q n i new 0 (λ e. omega arith)

  like_below : (i : ℕ) → i < n → get_or q'' i 0 ≡ get_or q'' (get_or p i 0) 0
  like_below i l = below i l ∙ r.like i l ∙ sym (below (get_or p i 0) (let m : get_or p i 0 ≤ i = f i (omega arith) in omega arith))

  pub flat_more : Partly p q'' (n + 1)
  flat_more = record {
    long = length-set q n new ∙ r.long;
    low = below_more (λ (i : ℕ). get_or q'' i 0 ≤ i) n (λ i l. let e = below i l in let m = r.low i l in omega arith) facts.0;
    like = below_more (λ (i : ℕ). get_or q'' i 0 ≡ get_or q'' (get_or p i 0) 0) n like_below facts.1;
    tied = below_more (λ (i : ℕ). Chain (Up p) i (get_or q'' i 0)) n (λ i l. subst (Chain (Up p) i) (sym (below i l)) (r.tied i l)) facts.2;
    rest = λ i l. get_or-set_other q n i new 0 (λ e. omega arith) ∙ r.rest i (omega arith);
  }
