-- The forest as the corners are scanned, and the labels that it ends in.
use Prim.Native.Nat.{ℕ, ◌≤◌, ◌<◌, ◌+◌}
use native.Mathlib.Omega.{arith}
use native.Mathlib.Decide.{dec_lt}
use borrow.Author.Count.{below_more}
use mathlib.Core.Path.{◌≡◌, refl, sym, ap, subst, subst₂, ◌∙◌}
use mathlib.Core.Logic.{inl, inr}
use mathlib.Core.List.{List}
use lib.ListN.{length, get_or, get_or-eq_default}
use Rattle.solid_bodies.specs.Body.{Chain, here, Lowest}
use Rattle.solid_bodies.specs.Work.Forest.{Falls, Carries, Up, Tie, Linked, Apart, Flat}
use Rattle.solid_bodies.specs.Work.{Corners, Meet, Made}
use Rattle.solid_bodies.proofs.ChainLaws.{one, then, turned, bind, constant}
use Rattle.solid_bodies.proofs.ForestLaws.{ups, up_turned}

pub meet_turned : (m : Corners) (i j : ℕ) → Meet m i j → Meet m j i
meet_turned m i j t = record { a = t.b; b = t.a; a_in = t.b_in; b_in = t.a_in; a_own = t.b_own; b_own = t.a_own; same = sym t.same }

-- ---- labels
-- no label is above its polygon, past the last one too
low : (l : List ℕ) → Falls l → (k : ℕ) → get_or l k 0 ≤ k
low l f k = go (dec_lt k (length l))
  where
    go : Dec (k < length l) → get_or l k 0 ≤ k
    go (yes h) = f k h
    go (no h) = subst (λ (n : ℕ). n ≤ k) (sym (get_or-eq_default l 0 (omega arith))) (omega arith)

-- labels that never rise, are joined with their polygon, and agree where two corners have one key, are the lowest
module _ (m : Corners) (l : List ℕ) (f : Falls l) (sound : (i : ℕ) → i < length l → Chain (Meet m) i (get_or l i 0))
    (whole : (a b : ℕ) → a < b → b < m.count → m.key a ≡ m.key b → get_or l (m.owner a) 0 ≡ get_or l (m.owner b) 0) where
  agree : (a b : ℕ) → a < m.count → b < m.count → m.key a ≡ m.key b → get_or l (m.owner a) 0 ≡ get_or l (m.owner b) 0
  agree a b ha hb e = go (dec_lt a b) (dec_lt b a)
    where
      go : Dec (a < b) → Dec (b < a) → get_or l (m.owner a) 0 ≡ get_or l (m.owner b) 0
      go (yes h) d = whole a b h hb e
      go (no h) (yes g) = sym (whole b a g ha (sym e))
      go (no h) (no g) = let q : a ≡ b = omega arith in ap (λ (v : ℕ). get_or l (m.owner v) 0) q

  meet_agree : (i j : ℕ) → Meet m i j → get_or l i 0 ≡ get_or l j 0
  meet_agree i j t =
      ap (λ (v : ℕ). get_or l v 0) (sym t.a_own) ∙ agree t.a t.b t.a_in t.b_in t.same ∙ ap (λ (v : ℕ). get_or l v 0) t.b_own

  certified : (i : ℕ) → i < length l → Lowest (Meet m) i (get_or l i 0)
  certified i h = record {
    joined = sound i h;
    least = λ k c. subst (λ (n : ℕ). n ≤ k) (sym (constant (λ (v : ℕ). get_or l v 0) meet_agree c)) (low l f k);
  }

-- ---- the scan over the corners
pub made_none : (m : Corners) (p : List ℕ) → Apart p → Made m p 0
made_none m p a = record {
  falls = λ i h. let e = a i h in omega arith;
  sound = ups p (meet_turned m) (λ i h. subst (Chain (Meet m) i) (sym (a i h)) here);
  whole = λ x y l h. absurd (omega arith);
}

-- v has no corner of its key before it
pub made_new : (m : Corners) (p : List ℕ) (v : ℕ) → Made m p v → ((w : ℕ) → w < v → m.key w ≡ m.key v → ⊥) → Made m p (v + 1)
made_new m p v d none = record { falls = d.falls; sound = d.sound; whole = λ a b l h. pairs a b h l }
  where
    pairs : (a b : ℕ) → b < v + 1 → a < b → m.key a ≡ m.key b → Chain (Up p) (m.owner a) (m.owner b)
    pairs a =
        below_more (λ (b : ℕ). a < b → m.key a ≡ m.key b → Chain (Up p) (m.owner a) (m.owner b)) v
        (λ b h l k. d.whole a b l h k) (λ l k. absurd (none a l k))

-- u before v has v's key, and q joins their owners
module _ (m : Corners) (p q : List ℕ) (u v : ℕ) (d : Made m p v) (uv : u < v) (vk : v < m.count) (e : m.key u ≡ m.key v)
    (k : Linked p q (m.owner u) (m.owner v)) where
  meet : Meet m (m.owner u) (m.owner v)
  meet = record { a = u; b = v; a_in = omega arith; b_in = vk; a_own = refl; b_own = refl; same = e }

  tie_sound : Carries (Tie p (m.owner u) (m.owner v)) (Meet m)
  tie_sound i j (inl x) = d.sound i j x
  tie_sound i j (inr (inl x)) = one (subst₂ (Meet m) (sym x.0) (sym x.1) meet)
  tie_sound i j (inr (inr x)) = one (subst₂ (Meet m) (sym x.0) (sym x.1) (meet_turned m _ _ meet))

  old : (a b : ℕ) → a < b → b < v → m.key a ≡ m.key b → Chain (Up q) (m.owner a) (m.owner b)
  old a b l h x = bind k.all (d.whole a b l h x)

  new_pair : (a : ℕ) → a < v → m.key a ≡ m.key v → Chain (Up q) (m.owner a) (m.owner v)
  new_pair a l x = go (dec_lt a u) (dec_lt u a)
    where
      go : Dec (a < u) → Dec (u < a) → Chain (Up q) (m.owner a) (m.owner v)
      go (yes h) d = then (old a u h uv (x ∙ sym e)) k.tied
      go (no h) (yes g) = then (turned (up_turned q) (old u a g l (e ∙ sym x))) k.tied
      go (no h) (no g) = let z : u ≡ a = omega arith in subst (λ (n : ℕ). Chain (Up q) (m.owner n) (m.owner v)) z k.tied

  pairs : (a b : ℕ) → b < v + 1 → a < b → m.key a ≡ m.key b → Chain (Up q) (m.owner a) (m.owner b)
  pairs a =
      below_more (λ (b : ℕ). a < b → m.key a ≡ m.key b → Chain (Up q) (m.owner a) (m.owner b)) v
      (λ b h l x. old a b l h x) (new_pair a)

  pub made_tied : Made m q (v + 1)
  made_tied = record {
    falls = k.falls;
    sound = λ i j x. bind tie_sound (k.only i j x);
    whole = λ a b l h. pairs a b h l;
  }

-- all corners scanned, and parents made labels
pub made_all : (m : Corners) (p q : List ℕ) (v : ℕ) → Made m p v → m.count ≤ v → Flat p q → (i : ℕ) → i < length q → Lowest (Meet m) i (get_or q i 0)
made_all m p q v d l f =
    certified m q f.low (λ i h. bind d.sound (f.tied i (let e = f.long in omega arith)))
    (λ a b ab h k. constant (λ (n : ℕ). get_or q n 0) like (d.whole a b ab (omega arith) k))
  where
    like : (i j : ℕ) → Up p i j → get_or q i 0 ≡ get_or q j 0
    like i j (inl x) = f.like i x.0 ∙ ap (λ (n : ℕ). get_or q n 0) x.1
    like i j (inr x) = sym (f.like j x.0 ∙ ap (λ (n : ℕ). get_or q n 0) x.1)
