-- What a body is and what `body_of` computes are the same, and what the bodies' numbers say.
use Prim.Native.Nat.{ℕ, zero, suc, ◌+◌, ◌-◌, ◌≤◌, ◌<◌}
use native.Mathlib.Omega.{arith}
use mathlib.Core.Path.{◌≡◌, refl, sym, subst, ◌∙◌}
use mathlib.Core.Bool.{Bool, true, false, ◌&&◌, ◌||◌}
use mathlib.Core.Logic.{◌⊎◌, inl, inr}
use mathlib.Core.List.{List}
use lib.Dec.{eqb}
use lib.ListN.{length, get_or}
use borrow.Author.Tests.{ltb-true, lt-ltb, eqb-true, eq-eqb}
use Rattle.num_float.proofs.Tests.{contrary, and_true, and_left, and_right, lt_or_ge}
use Rattle.list_laws.specs.Below.{lowest_below}
use Rattle.list_laws.proofs.Count.{lowest_passes, lowest_below_lem}
use Rattle.file_part.specs.Part.{Part}
use Rattle.solid_segments.specs.Key.{body_scale, same_key_of}
use Rattle.solid_segments.proofs.KeyLaws.{key_flip}
use Rattle.solid_bodies.specs.Body.{Chain, here, step, Lowest, Touch, some_below, touches, chained, body_of, Labels}
use Rattle.solid_bodies.specs.Work.{Joined}
use Rattle.solid_bodies.proofs.ChainLaws.{one, then, turned, lowest_only}

-- ---- a number below n that passes
some_at : (n : ℕ) (test : ℕ → Bool) (i : ℕ) → i < n → test i ≡ true → some_below n test ≡ true
unfolding some_below
some_at n test i l h = lt-ltb (lowest_below n test) n (omega (arith, lowest_below_lem n test i h))

record Found (n : ℕ) (test : ℕ → Bool) : Type 0 where
  number : ℕ
  below : number < n
  passes : test number ≡ true

found : (n : ℕ) (test : ℕ → Bool) → some_below n test ≡ true → Found n test
unfolding some_below
found n test h = let l = ltb-true (lowest_below n test) n h in record { number = lowest_below n test; below = l; passes = lowest_passes n test l }

-- ---- polygons that touch
pub touch_turned : (t : Part) (i j : ℕ) → Touch t i j → Touch t j i
touch_turned t i j m =
    record { a = m.b; b = m.a; a_of = m.b_of; b_of = m.a_of; same = key_flip body_scale (t.vertex m.a) (t.vertex m.b) m.same }

pub joined_turned : (t : Part) (i j : ℕ) → Joined t i j → Joined t j i
joined_turned t i j c = turned (touch_turned t) c

-- corner number k of polygon p
abbrev corner_at : Part → ℕ → ℕ → ℕ
corner_at t p k = (t.polygon p).first + k

pub touches_touch : (t : Part) (i j : ℕ) → i < t.polygons → j < t.polygons → touches t i j ≡ true → Touch t i j
unfolding touches
touches_touch t i j hi hj h =
    let a = found _ _ h in
    let b = found _ _ a.passes in
    record {
      a = corner_at t i a.number;
      b = corner_at t j b.number;
      a_of = record { known = hi; from = omega arith; to = omega (arith, a.below) };
      b_of = record { known = hj; from = omega arith; to = omega (arith, b.below) };
      same = b.passes;
    }

pub touch_touches : (t : Part) (i j : ℕ) → Touch t i j → touches t i j ≡ true
unfolding touches
touch_touches t i j m =
    let a : ℕ = m.a - (t.polygon i).first in
    let b : ℕ = m.b - (t.polygon j).first in
    let a_is : m.a ≡ corner_at t i a = omega (arith, m.a_of.from) in
    let b_is : m.b ≡ corner_at t j b = omega (arith, m.b_of.from) in
    let same : same_key_of body_scale (t.vertex (corner_at t i a)) (t.vertex (corner_at t j b)) ≡ true = rw (← a_is, ← b_is) m.same in
    some_at _ _ a (omega (arith, m.a_of.from, m.a_of.to)) (some_at _ _ b (omega (arith, m.b_of.from, m.b_of.to)) same)

-- ---- chains by trying everything
or_cases : (a b : Bool) → (a || b) ≡ true → (a ≡ true) ⊎ (b ≡ true)
or_cases true b h = inl refl
or_cases false b h = inr h

or_left : (a b : Bool) → a ≡ true → (a || b) ≡ true
or_left true b h = refl
or_left false b h = absurd (contrary h refl)

or_right : (a b : Bool) → b ≡ true → (a || b) ≡ true
or_right true b h = refl
or_right false b h = h

module _ (test : ℕ → ℕ → Bool) where
  abbrev Through : ℕ → ℕ → ℕ → Type 0
  Through n i j = (chained test n i j ≡ true) ⊎ ((chained test n i n ≡ true) × (chained test n n j ≡ true))

  through : (n i j : ℕ) → chained test (suc n) i j ≡ true → Through n i j
  unfolding chained
  through n i j h = go (or_cases (chained test n i j) (chained test n i n && chained test n n j) h)
    where
      go : (chained test n i j ≡ true) ⊎ ((chained test n i n && chained test n n j) ≡ true) → Through n i j
      go (inl k) = inl k
      go (inr k) = inr (and_left (chained test n i n) (chained test n n j) k, and_right (chained test n i n) (chained test n n j) k)

  past : (n i j : ℕ) → chained test n i j ≡ true → chained test (suc n) i j ≡ true
  unfolding chained
  past n i j h = or_left (chained test n i j) (chained test n i n && chained test n n j) h

  over : (n i j : ℕ) → chained test n i n ≡ true → chained test n n j ≡ true → chained test (suc n) i j ≡ true
  unfolding chained
  over n i j h k = or_right (chained test n i j) (chained test n i n && chained test n n j) (and_true (chained test n i n) (chained test n n j) h k)

  pub chained_here : (n i : ℕ) → chained test n i i ≡ true
  unfolding chained
  chained_here zero i = or_left (eqb i i) (test i i) (eq-eqb i i refl)
  chained_here (suc n) i = past n i i (chained_here n i)

  pub chained_one : (n i j : ℕ) → test i j ≡ true → chained test n i j ≡ true
  unfolding chained
  chained_one zero i j h = or_right (eqb i j) (test i j) h
  chained_one (suc n) i j h = past n i j (chained_one n i j h)

  -- two chains that meet in a number below n are one
  pub chained_then : (n i k j : ℕ) → k < n → chained test n i k ≡ true → chained test n k j ≡ true → chained test n i j ≡ true
  chained_then zero i k j l p q = absurd (omega (arith, l))
  chained_then (suc n) i k j l p q = go (λ a b. chained_then n a k b) (lt_or_ge k n) (through n i k p) (through n k j q)
    where
      to_last : Through n i n → chained test n i n ≡ true
      to_last (inl x) = x
      to_last (inr x) = x.0

      from_last : Through n n j → chained test n n j ≡ true
      from_last (inl x) = x
      from_last (inr x) = x.1

      go : ((a b : ℕ) → k < n → chained test n a k ≡ true → chained test n k b ≡ true → chained test n a b ≡ true) → (k < n) ⊎ (n ≤ k) →
          Through n i k → Through n k j → chained test (suc n) i j ≡ true
      go both (inl m) (inl x) (inl y) = past n i j (both i j m x y)
      go both (inl m) (inl x) (inr y) = over n i j (both i n m x y.0) y.1
      go both (inl m) (inr x) (inl y) = over n i j x.0 (both n j m x.1 y)
      go both (inl m) (inr x) (inr y) = over n i j x.0 y.1
      go both (inr m) x y =
          let last : k ≡ n = omega (arith, l, m) in
          over n i j (to_last (subst (Through n i) last x)) (from_last (subst (λ (e : ℕ). Through n e j) last y))

-- what is computed is a chain, where the test is sound below P
module _ (R : ℕ → ℕ → Type 0) (test : ℕ → ℕ → Bool) (most : ℕ) (sound : (i j : ℕ) → i < most → j < most → test i j ≡ true → R i j) where
  pub chained_chain : (n i j : ℕ) → n ≤ most → i < most → j < most → chained test n i j ≡ true → Chain R i j
  unfolding chained
  chained_chain zero i j l hi hj h = go (or_cases (eqb i j) (test i j) h)
    where
      go : (eqb i j ≡ true) ⊎ (test i j ≡ true) → Chain R i j
      go (inl e) = subst (Chain R i) (eqb-true i j e) here
      go (inr k) = one (sound i j hi hj k)
  chained_chain (suc n) i j l hi hj h = go (λ a b. chained_chain n a b (omega (arith, l))) (through test n i j h)
    where
      go : ((a b : ℕ) → a < most → b < most → chained test n a b ≡ true → Chain R a b) → Through test n i j → Chain R i j
      go before (inl k) = before i j hi hj k
      go before (inr k) = then (before i n hi (omega (arith, l)) k.0) (before n j (omega (arith, l)) hj k.1)

-- a chain is found, where the test finds each step and the steps stay below P
module _ (R : ℕ → ℕ → Type 0) (test : ℕ → ℕ → Bool) (most : ℕ) (whole : (i j : ℕ) → R i j → test i j ≡ true) (known : (i j : ℕ) → R i j → j < most) where
  pub chain_chained : {i j : ℕ} → Chain R i j → chained test most i j ≡ true
  chain_chained (here {i = i}) = chained_here test most i
  chain_chained (step {i = i} {j = j} {k = k} r c) =
      chained_then test most i j k (known i j r) (chained_one test most i j (whole i j r)) (chain_chained c)

-- ---- the number that a body goes by
module _ (t : Part) where
  same_body : (i j : ℕ) → Joined t i j → chained (touches t) t.polygons i j ≡ true
  same_body i j c = chain_chained (Touch t) (touches t) t.polygons (touch_touches t) (λ i j m. m.b_of.known) c

  -- no body goes by a number above its polygons
  pub body_low : (p : ℕ) → body_of t p ≤ p
  unfolding body_of
  body_low p = lowest_below_lem _ _ p (chained_here (touches t) t.polygons p)

  pub body_known : (p : ℕ) → p < t.polygons → body_of t p < t.polygons
  body_known p h = omega (arith, body_low p)

  -- what `body_of` computes is the lowest polygon that a chain joins with p
  pub body_lowest : (p : ℕ) → p < t.polygons → Lowest (Touch t) p (body_of t p)
  unfolding body_of
  body_lowest p h =
      let l = body_known p h in
      record {
        joined = chained_chain (Touch t) (touches t) t.polygons (touches_touch t) t.polygons p _ (omega arith) h l (lowest_passes _ _ l);
        least = λ k c. lowest_below_lem _ _ k (same_body p k c);
      }

  -- and nothing else is
  pub lowest_body : (p l : ℕ) → p < t.polygons → Lowest (Touch t) p l → l ≡ body_of t p
  lowest_body p l h low = lowest_only low (body_lowest p h)

  -- polygons that a chain joins have one number
  pub joined_same : (i j : ℕ) → i < t.polygons → j < t.polygons → Joined t i j → body_of t i ≡ body_of t j
  joined_same i j hi hj c =
      omega (
        arith,
        (body_lowest i hi).least (body_of t j) (then c (body_lowest j hj).joined),
        (body_lowest j hj).least (body_of t i) (then (joined_turned t i j c) (body_lowest i hi).joined),
      )

  -- polygons of one number are joined
  pub same_joined : (i j : ℕ) → i < t.polygons → j < t.polygons → body_of t i ≡ body_of t j → Joined t i j
  same_joined i j hi hj e =
      then (body_lowest i hi).joined (subst (λ (k : ℕ). Joined t k j) (sym e) (joined_turned t j (body_of t j) (body_lowest j hj).joined))

  -- a body goes by one of its polygons
  pub body_own : (p : ℕ) → p < t.polygons → body_of t (body_of t p) ≡ body_of t p
  body_own p h = sym (joined_same p (body_of t p) h (body_known p h) (body_lowest p h).joined)

-- ---- labels in a list
pub label_known : (t : Part) (l : List ℕ) → Labels t l → (p : ℕ) → p < t.polygons → get_or l p 0 < t.polygons
label_known t l r p h = omega (arith, r.each p h, body_known t p h)

-- a list that agrees below P has the labels too
pub labels_as : (t : Part) (l l' : List ℕ) → Labels t l → ((p : ℕ) → p < t.polygons → get_or l' p 0 ≡ get_or l p 0) → t.polygons ≤ length l' → Labels t l'
labels_as t l l' r e long = record { each = λ p h. e p h ∙ r.each p h; long = long }
