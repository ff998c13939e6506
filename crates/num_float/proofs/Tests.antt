-- A test as a fact, and back: code's tests are known as `b ≡ true` and `b ≡ false`, and lib.Ieee writes T b and T (not b).
use mathlib.Core.Path.{◌≡◌, refl, sym, subst}
use mathlib.Core.Bool.{Bool, true, false, not, ◌&&◌, ◌||◌, cond}
use mathlib.Core.Logic.{◌⊎◌, inl, inr}
use Prim.Native.Nat.{ℕ, ◌≤◌, ◌<◌}
use lib.Dec.{T, ltb, ltb→lt, nltb→le}

-- from `b ≡ true` to T b; lib.Ieee.Bits.is-true goes back
pub holds : {b : Bool} → b ≡ true → T b
holds e = subst T (sym e) tt

-- from `b ≡ false` to T (not b); lib.Ieee.Bits.is-false goes back
pub fails : {b : Bool} → b ≡ false → T (not b)
fails e = subst (λ (b : Bool). T (not b)) (sym e) tt

-- a test that cannot hold fails
pub refuted : (b : Bool) → (b ≡ true → ⊥) → b ≡ false
refuted true f = absurd {A = true ≡ false} (f refl)
refuted false f = refl

-- nothing is true and false
pub contrary : {b : Bool} → b ≡ true → b ≡ false → ⊥
contrary p q = subst T q (holds p)

-- two tests of which each follows from the other are equal
pub same_test : (a b : Bool) → (a ≡ true → b ≡ true) → (b ≡ true → a ≡ true) → a ≡ b
same_test true b f g = sym (f refl)
same_test false true f g = g refl
same_test false false f g = refl

-- ---- two tests together
pub and_true : (a b : Bool) → a ≡ true → b ≡ true → (a && b) ≡ true
and_true true b h k = k
and_true false b h k = h

pub and_left : (a b : Bool) → (a && b) ≡ true → a ≡ true
and_left true b h = refl
and_left false b h = h

pub and_right : (a b : Bool) → (a && b) ≡ true → b ≡ true
and_right true b h = h
and_right false b h = absurd (contrary h refl)

pub and_false_left : (a b : Bool) → a ≡ false → (a && b) ≡ false
and_false_left true b h = absurd (contrary refl h)
and_false_left false b h = refl

pub and_false_right : (a b : Bool) → b ≡ false → (a && b) ≡ false
and_false_right true b h = h
and_false_right false b h = refl

pub or_false_left : (a b : Bool) → (a || b) ≡ false → a ≡ false
or_false_left true b h = h
or_false_left false b h = refl

pub or_false_right : (a b : Bool) → (a || b) ≡ false → b ≡ false
or_false_right true b h = absurd (contrary refl h)
or_false_right false b h = h

-- what both choices have, the chosen one has
pub cond_has : {A : Type 0} (P : A → Type 0) (b : Bool) {x y : A} → P x → P y → P (cond b x y)
cond_has P true p q = p
cond_has P false p q = q

-- two numbers, one way or the other
pub lt_or_ge : (a b : ℕ) → (a < b) ⊎ (b ≤ a)
lt_or_ge a b = go (ltb a b) (ltb→lt a b) (nltb→le a b)
  where
    go : (t : Bool) → (T t → a < b) → (T (not t) → b ≤ a) → (a < b) ⊎ (b ≤ a)
    go true f g = inl (f tt)
    go false f g = inr (g tt)
