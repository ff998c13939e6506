-- The order of floats that are no NaN is that of their positions on a line of natural numbers, which omega reads.
use Prim.Native.Nat.{ℕ, ◌+◌, ◌-◌, ◌*◌, ◌<◌, ◌≤◌}
use mathlib.Core.Path.{◌≡◌, refl, sym, ap, ◌∙◌}
use mathlib.Core.Logic.{⊎_elim}
use mathlib.Core.Bool.{Bool, true, false, ◌&&◌, ◌||◌}
use native.Mathlib.Nat.{mul_assoc, mul_comm, mul_left_comm, mul_right_comm, mul-pos, mul-lt-mul_of_pos_right, add-mul, zero-mul, lt_of_mul-lt-mul_right, eq_of_mul-eq-mul_right, eq-or-lt_of_le}
use native.Mathlib.Omega.{arith}
use lib.Dec.{ltb, eqb, leb}
use borrow.Author.Tests.{lt-ltb, le-ltb, ltb-true, ltb-false, eq-eqb, ne_eqb, eqb-true, le-leb, leb-true, leb-false}
use lib.Ieee.{Float, nan, inf, fin, up, down, below, level, lt, eq, le, is_nan}
use lib.Ieee.Fits.{down_pos}
use lib.Ieee.Positive.{num, den, den_pos}
use Rattle.num_float.specs.Work.{place, position}
use Rattle.num_float.proofs.Tests.{same_test}

ltb_iff : (a b c d : ℕ) → (a < b → c < d) → (c < d → a < b) → ltb a b ≡ ltb c d
ltb_iff a b c d f g = same_test (ltb a b) (ltb c d) (λ h. lt-ltb c d (f (ltb-true a b h))) (λ h. lt-ltb a b (g (ltb-true c d h)))

eqb_iff : (a b c d : ℕ) → (a ≡ b → c ≡ d) → (c ≡ d → a ≡ b) → eqb a b ≡ eqb c d
eqb_iff a b c d f g = same_test (eqb a b) (eqb c d) (λ h. eq-eqb c d (f (eqb-true a b h))) (λ h. eq-eqb a b (g (eqb-true c d h)))

-- ---- ±a against ±b, and their places
below_place : (k : ℕ) (s t : Bool) (a b : ℕ) → a ≤ k → b ≤ k → below s a t b ≡ ltb (place k s a + 1) (place k t b + 1)
below_place k false false a b ha hb = ltb_iff a b (k + a + 1) (k + b + 1) (λ h. omega arith) (λ h. omega arith)
below_place k false true a b ha hb = sym (le-ltb (k + a + 1) (k - b + 1) (omega arith))
below_place k true false a b ha hb = ltb_iff 0 (a + b) (k - a + 1) (k + b + 1) (λ h. omega arith) (λ h. omega arith)
below_place k true true a b ha hb = ltb_iff b a (k - a + 1) (k - b + 1) (λ h. omega arith) (λ h. omega arith)

and_true : (b : Bool) → b && true ≡ b
and_true true = refl
and_true false = refl

and_both : (a b : Bool) → a && b ≡ true → (a ≡ true) × (b ≡ true)
and_both true b h = (refl, h)
and_both false b h = (h, cc)

both_zero : (a b : ℕ) → eqb a b && eqb a 0 ≡ eqb (a + b) 0
both_zero a b =
    same_test (eqb a b && eqb a 0) (eqb (a + b) 0)
    (λ h. let p = and_both (eqb a b) (eqb a 0) h in eq-eqb (a + b) 0 (omega (arith, eqb-true a b p.0, eqb-true a 0 p.1)))
    (λ h. let z = eqb-true (a + b) 0 h in rw (eq-eqb a b (omega (arith, z)), eq-eqb a 0 (omega (arith, z))))

level_place : (k : ℕ) (s t : Bool) (a b : ℕ) → a ≤ k → b ≤ k → level s a t b ≡ eqb (place k s a + 1) (place k t b + 1)
level_place k false false a b ha hb = and_true (eqb a b) ∙ eqb_iff a b (k + a + 1) (k + b + 1) (λ h. omega arith) (λ h. omega arith)
level_place k false true a b ha hb = both_zero a b ∙ eqb_iff (a + b) 0 (k + a + 1) (k - b + 1) (λ h. omega arith) (λ h. omega arith)
level_place k true false a b ha hb = both_zero a b ∙ eqb_iff (a + b) 0 (k - a + 1) (k + b + 1) (λ h. omega arith) (λ h. omega arith)
level_place k true true a b ha hb = and_true (eqb a b) ∙ eqb_iff a b (k - a + 1) (k - b + 1) (λ h. omega arith) (λ h. omega arith)

-- ---- scaling both numbers changes no test
module _ (k : ℕ) (K : 0 < k) where
  below_scale : (s t : Bool) (a b : ℕ) → below s a t b ≡ below s (a * k) t (b * k)
  below_scale false false a b = ltb_iff a b (a * k) (b * k) (λ h. mul-lt-mul_of_pos_right h K) (λ h. lt_of_mul-lt-mul_right k h)
  below_scale false true a b = refl
  below_scale true false a b =
      rw (← add-mul) (ltb_iff 0 (a + b) 0 ((a + b) * k) (λ h. mul-pos h K) (λ h. lt_of_mul-lt-mul_right k (rw zero-mul h)))
  below_scale true true a b = ltb_iff b a (b * k) (a * k) (λ h. mul-lt-mul_of_pos_right h K) (λ h. lt_of_mul-lt-mul_right k h)

  eqb_scale : (a b : ℕ) → eqb a b ≡ eqb (a * k) (b * k)
  eqb_scale a b = eqb_iff a b (a * k) (b * k) (λ h. ap (λ (x : ℕ). x * k) h) (λ h. eq_of_mul-eq-mul_right k K a b h)

  level_scale : (s t : Bool) (a b : ℕ) → level s a t b ≡ level s (a * k) t (b * k)
  level_scale s t a b = rw (← eqb_scale, rw zero-mul at (sym (eqb_scale a 0)))

-- ---- the order of x and y is that of the numbers i and j
pub record Agree (x y : Float) (i j : ℕ) : Type 0 where
  pub less : lt x y ≡ ltb i j
  pub more : lt y x ≡ ltb j i
  pub equal : eq x y ≡ eqb i j

-- x is u units of 1 / l in size, and at most k units
pub record Counted (l k : ℕ) (x : Float) (u : ℕ) : Type 0 where
  pub is : num x * l ≡ u * den x
  pub most : u ≤ k

-- ±x / c against ±y / d, which are ±u and ±v units of 1 / l
module _ (l k x y c d u v : ℕ) (L : 0 < l) (C : 0 < c) (D : 0 < d) (ex : x * l ≡ u * c) (ey : y * l ≡ v * d) (hu : u ≤ k) (hv : v ≤ k) (s t : Bool) where
  scaled_x : x * d * l ≡ u * (c * d)
  scaled_x = mul_right_comm x d l ∙ ap (λ (z : ℕ). z * d) ex ∙ mul_assoc u c d

  scaled_y : y * c * l ≡ v * (c * d)
  scaled_y = mul_right_comm y c l ∙ ap (λ (z : ℕ). z * c) ey ∙ mul_assoc v d c ∙ ap (λ (z : ℕ). v * z) (mul_comm d c)

  fin_less : below s (x * d) t (y * c) ≡ ltb (place k s u + 1) (place k t v + 1)
  fin_less =
      below_scale l L s t (x * d) (y * c)
      ∙ rw (scaled_x, scaled_y) (sym (below_scale (c * d) (mul-pos C D) s t u v))
      ∙ below_place k s t u v hu hv

  fin_equal : level s (x * d) t (y * c) ≡ eqb (place k s u + 1) (place k t v + 1)
  fin_equal =
      level_scale l L s t (x * d) (y * c)
      ∙ rw (scaled_x, scaled_y) (sym (level_scale (c * d) (mul-pos C D) s t u v))
      ∙ level_place k s t u v hu hv

place_le : (k : ℕ) (s : Bool) (u : ℕ) → u ≤ k → place k s u ≤ k + k
place_le k false u h = omega arith
place_le k true u h = omega arith

one_way : (l k : ℕ) (x y : Float) (u v : ℕ) → 0 < l → Counted l k x u → Counted l k y v → is_nan x ≡ false → is_nan y ≡ false
    → (lt x y ≡ ltb (position k x u) (position k y v)) × (eq x y ≡ eqb (position k x u) (position k y v))
unfolding lt eq is_nan
one_way l k nan y u v L X Y nx ny = (cc, cc)
one_way l k (inf s) nan u v L X Y nx ny = (cc, cc)
one_way l k (fin s m e) nan u v L X Y nx ny = (cc, cc)
one_way l k (inf true) (inf true) u v L X Y nx ny = (refl, refl)
one_way l k (inf true) (inf false) u v L X Y nx ny = (sym (lt-ltb 0 (k + k + 2) (omega arith)), sym (ne_eqb 0 (k + k + 2) (λ h. omega arith)))
one_way l k (inf false) (inf true) u v L X Y nx ny = (sym (le-ltb (k + k + 2) 0 (omega arith)), sym (ne_eqb (k + k + 2) 0 (λ h. omega arith)))
one_way l k (inf false) (inf false) u v L X Y nx ny = (sym (le-ltb (k + k + 2) (k + k + 2) (omega arith)), sym (eq-eqb (k + k + 2) (k + k + 2) refl))
one_way l k (inf true) (fin t n d) u v L X Y nx ny =
    let j = place k t v in
    (sym (lt-ltb 0 (j + 1) (omega arith)), sym (ne_eqb 0 (j + 1) (λ h. omega arith)))
one_way l k (inf false) (fin t n d) u v L X Y nx ny =
    let j = place k t v in
    let b : j ≤ k + k = place_le k t v Y.most in
    (sym (le-ltb (k + k + 2) (j + 1) (omega arith)), sym (ne_eqb (k + k + 2) (j + 1) (λ h. omega arith)))
one_way l k (fin s m e) (inf true) u v L X Y nx ny =
    let i = place k s u in
    (sym (le-ltb (i + 1) 0 (omega arith)), sym (ne_eqb (i + 1) 0 (λ h. omega arith)))
one_way l k (fin s m e) (inf false) u v L X Y nx ny =
    let i = place k s u in
    let b : i ≤ k + k = place_le k s u X.most in
    (sym (lt-ltb (i + 1) (k + k + 2) (omega arith)), sym (ne_eqb (i + 1) (k + k + 2) (λ h. omega arith)))
one_way l k (fin s m e) (fin t n d) u v L X Y nx ny = (
  fin_less l k (m * up e) (n * up d) (down e) (down d) u v L (down_pos e) (down_pos d) X.is Y.is X.most Y.most s t,
  fin_equal l k (m * up e) (n * up d) (down e) (down d) u v L (down_pos e) (down_pos d) X.is Y.is X.most Y.most s t,
)

-- two floats that are no NaN, counted in the same units, are ordered as their positions
pub agree : (l k : ℕ) (x y : Float) (u v : ℕ) → 0 < l → Counted l k x u → Counted l k y v → is_nan x ≡ false → is_nan y ≡ false → Agree x y (position k x u) (position k y v)
agree l k x y u v L X Y nx ny =
    let p = one_way l k x y u v L X Y nx ny in
    record { less = p.0; more = (one_way l k y x v u L Y X ny nx).0; equal = p.1 }

-- two floats in units of 1 / (den x * den y)
pub agree_two : (x y : Float) → is_nan x ≡ false → is_nan y ≡ false
    → Agree x y (position (num x * den y + num y * den x) x (num x * den y)) (position (num x * den y + num y * den x) y (num y * den x))
agree_two x y nx ny =
    let u = num x * den y in
    let v = num y * den x in
    agree (den x * den y) (u + v) x y u v (mul-pos (den_pos x) (den_pos y))
    (record { is = simp (mul_assoc, mul_comm, mul_left_comm); most = omega arith })
    (record { is = simp (mul_assoc, mul_comm, mul_left_comm); most = omega arith }) nx ny

-- ---- from a test of floats to the numbers' order, and back; a law's name says what it takes and what it gives, `n` that the test fails
module _ {x y : Float} {i j : ℕ} (a : Agree x y i j) where
  pub lt→< : lt x y ≡ true → i < j
  lt→< h = ltb-true i j (sym a.less ∙ h)

  pub <→lt : i < j → lt x y ≡ true
  <→lt h = a.less ∙ lt-ltb i j h

  pub nlt→≥ : lt x y ≡ false → j ≤ i
  nlt→≥ h = ltb-false i j (sym a.less ∙ h)

  pub ≥→nlt : j ≤ i → lt x y ≡ false
  ≥→nlt h = a.less ∙ le-ltb i j h

  pub gt→> : lt y x ≡ true → j < i
  gt→> h = ltb-true j i (sym a.more ∙ h)

  pub >→gt : j < i → lt y x ≡ true
  >→gt h = a.more ∙ lt-ltb j i h

  pub ngt→≤ : lt y x ≡ false → i ≤ j
  ngt→≤ h = ltb-false j i (sym a.more ∙ h)

  pub ≤→ngt : i ≤ j → lt y x ≡ false
  ≤→ngt h = a.more ∙ le-ltb j i h

  pub eq→≡ : eq x y ≡ true → i ≡ j
  eq→≡ h = eqb-true i j (sym a.equal ∙ h)

  pub ≡→eq : i ≡ j → eq x y ≡ true
  ≡→eq h = a.equal ∙ eq-eqb i j h

  or_le : (p q : Bool) → p || q ≡ true → (p ≡ true → i ≤ j) → (q ≡ true → i ≤ j) → i ≤ j
  or_le true q h f g = f refl
  or_le false q h f g = g h

  or_true : (p : Bool) → p || true ≡ true
  or_true true = refl
  or_true false = refl

  le_is : le x y ≡ leb i j
  unfolding le
  le_is =
      rw (a.less, a.equal)
      (same_test (ltb i j || eqb i j) (leb i j)
      (λ h. le-leb i j (or_le (ltb i j) (eqb i j) h (λ p. omega (arith, ltb-true i j p)) (λ p. omega (arith, eqb-true i j p))))
      (λ h. ⊎_elim (λ e. rw (eq-eqb i j e) (or_true (ltb i j))) (λ l. rw (lt-ltb i j l)) (eq-or-lt_of_le (leb-true i j h))))

  pub le→≤ : le x y ≡ true → i ≤ j
  le→≤ h = leb-true i j (sym le_is ∙ h)

  pub ≤→le : i ≤ j → le x y ≡ true
  ≤→le h = le_is ∙ le-leb i j h

  pub nle→> : le x y ≡ false → j < i
  nle→> h = leb-false i j (sym le_is ∙ h)

-- ---- three floats that are no NaN are ordered as three numbers
pub record Three (x y z : Float) : Type 0 where
  pub i : ℕ
  pub j : ℕ
  pub k : ℕ
  pub xy : Agree x y i j
  pub yz : Agree y z j k
  pub xz : Agree x z i k

-- any three floats have three such numbers
pub three : (x y z : Float) → is_nan x ≡ false → is_nan y ≡ false → is_nan z ≡ false → Three x y z
three x y z nx ny nz =
    let u = num x * (den y * den z) in
    let v = num y * (den x * den z) in
    let w = num z * (den x * den y) in
    let k = u + v + w in
    let l = den x * (den y * den z) in
    let L : 0 < l = mul-pos (den_pos x) (mul-pos (den_pos y) (den_pos z)) in
    let X : Counted l k x u = record { is = simp (mul_assoc, mul_comm, mul_left_comm); most = omega arith } in
    let Y : Counted l k y v = record { is = simp (mul_assoc, mul_comm, mul_left_comm); most = omega arith } in
    let Z : Counted l k z w = record { is = simp (mul_assoc, mul_comm, mul_left_comm); most = omega arith } in
    record {
      i = position k x u;
      j = position k y v;
      k = position k z w;
      xy = agree l k x y u v L X Y nx ny;
      yz = agree l k y z v w L Y Z ny nz;
      xz = agree l k x z u w L X Z nx nz;
    }
