-- Multiplying keeps the order, or turns it round where the factor is negative, wherever no NaN arises; and what a product is where its neighbour is a NaN.
use mathlib.Core.Path.{◌≡◌, refl, sym, ap, ◌∙◌}
use mathlib.Core.Bool.{Bool, true, false, not, cond}
use Prim.Native.Nat.{ℕ, zero, suc, ◌+◌, ◌*◌, ◌≤◌, ◌<◌}
use native.Mathlib.Nat.{mul-pos, mul-le-mul_right}
use native.Mathlib.Omega.{arith}
use borrow.Author.Tests.{eqb-false, ne_eqb, ltb-true}
use lib.Dec.{eqb}
use lib.IntN.{ℤ, pos}
use lib.Ieee.{Float, nan, inf, fin, binary64, up, down, unlike, round, mul, lt, eq, le, is_nan}
use lib.Ieee.Fits.{down_pos, up_pos}
use Rattle.num_float.specs.Units.{minus_sign}
use Rattle.num_float.proofs.Order.{le_numbers, le_refl_number}
use Rattle.num_order.specs.Work.{over, under, AtMost, sided, NonZero, infinite, number}
use Rattle.num_order.proofs.Signed.{clash, round_le, le_at_most}
use Rattle.num_order.proofs.Sums.{least, most, round_number}

opened : (b : Bool) (z : Float) → is_nan (cond b nan z) ≡ false → b ≡ false
unfolding is_nan
opened true z h = h
opened false z h = refl

-- ---- multiplying with a number
product : (s1 s2 t : Bool) (a1 a2 b c1 c2 d : ℕ) → 0 < c1 → 0 < c2 → 0 < d → AtMost s1 a1 c1 s2 a2 c2
    → sided t (round binary64 (unlike s1 t) (a1 * b) (c1 * d)) (round binary64 (unlike s2 t) (a2 * b) (c2 * d)) ≡ true
unfolding sided
product s1 s2 false a1 a2 b c1 c2 d C1 C2 D h =
    round_le (unlike s1 false) (unlike s2 false) (a1 * b) (c1 * d) (a2 * b) (c2 * d) (mul-pos C1 D) (mul-pos C2 D)
    (go s1 s2 (mul-le-mul_right (b * d) h))
  where
    go : (s1 s2 : Bool) → (over s1 a1 * c2 + under s2 a2 * c1) * (b * d) ≤ (over s2 a2 * c1 + under s1 a1 * c2) * (b * d) →
        AtMost (unlike s1 false) (a1 * b) (c1 * d) (unlike s2 false) (a2 * b) (c2 * d)
    go false false h = omega arith
    go false true h = omega arith
    go true false h = omega arith
    go true true h = omega arith
product s1 s2 true a1 a2 b c1 c2 d C1 C2 D h =
    round_le (unlike s2 true) (unlike s1 true) (a2 * b) (c2 * d) (a1 * b) (c1 * d) (mul-pos C2 D) (mul-pos C1 D)
    (go s1 s2 (mul-le-mul_right (b * d) h))
  where
    go : (s1 s2 : Bool) → (over s1 a1 * c2 + under s2 a2 * c1) * (b * d) ≤ (over s2 a2 * c1 + under s1 a1 * c2) * (b * d) →
        AtMost (unlike s2 true) (a2 * b) (c2 * d) (unlike s1 true) (a1 * b) (c1 * d)
    go false false h = omega arith
    go false true h = omega arith
    go true false h = omega arith
    go true true h = omega arith

not_zero : (m : ℕ) → eqb m 0 ≡ false → 0 < m
not_zero m h = let f = eqb-false m 0 h in omega (arith, f)

-- a number before zero is not above it
wrong : {A : Type 0} (m n : ℕ) (e d : ℤ) → 0 < m → le (fin false m e) (fin true n d) ≡ true → A
wrong {A} m n e d M h =
    let a = le_at_most false true m n e d h in
    let p : 0 < m * up e * down d = mul-pos (mul-pos M (up_pos e)) (down_pos d) in
    absurd {A = A} (omega arith)

inf_sided : (s t u : Bool) → le (inf s) (inf t) ≡ true → sided u (inf (unlike s u)) (inf (unlike t u)) ≡ true
unfolding le lt eq sided
inf_sided true true true h = refl
inf_sided true true false h = refl
inf_sided true false true h = refl
inf_sided true false false h = refl
inf_sided false true u h = cc
inf_sided false false true h = refl
inf_sided false false false h = refl

least_sided : (s u : Bool) (z : Float) → le (inf s) (fin true 0 (pos 0)) ≡ true → is_nan z ≡ false → sided u (inf (unlike s u)) z ≡ true
unfolding le lt eq sided
least_sided true true z h n = most z n
least_sided true false z h n = least z n
least_sided false u z h n = cc

most_sided : (s u : Bool) (z : Float) → le (fin true 0 (pos 0)) (inf s) ≡ true → is_nan z ≡ false → sided u z (inf (unlike s u)) ≡ true
unfolding le lt eq sided
most_sided false true z h n = least z n
most_sided false false z h n = most z n
most_sided true u z h n = cc

pub mul_le : (x y i : Float) → is_nan (mul binary64 x i) ≡ false → is_nan (mul binary64 y i) ≡ false → le x y ≡ true →
    sided (minus_sign i) (mul binary64 x i) (mul binary64 y i) ≡ true
unfolding mul is_nan
mul_le nan y i p q h = cc
mul_le (inf s) nan i p q h = cc
mul_le (fin s m e) nan i p q h = cc
mul_le (inf s) (inf t) nan p q h = cc
mul_le (inf s) (inf t) (inf u) p q h = inf_sided s t u h
mul_le (inf s) (inf t) (fin u k g) p q h = rw (opened (eqb k 0) _ p) (inf_sided s t u h)
mul_le (inf s) (fin t n d) nan p q h = cc
mul_le (inf s) (fin t n d) (inf u) p q h = rw (opened (eqb n 0) _ q) (least_sided s u (inf (unlike t u)) (unfold le lt eq in h) refl)
mul_le (inf s) (fin t n d) (fin u k g) p q h =
    rw (opened (eqb k 0) _ p) (least_sided s u (round binary64 (unlike t u) (n * up d * (k * up g)) (down d * down g)) (unfold le lt eq in h) q)
mul_le (fin s m e) (inf t) nan p q h = cc
mul_le (fin s m e) (inf t) (inf u) p q h = rw (opened (eqb m 0) _ p) (most_sided t u (inf (unlike s u)) (unfold le lt eq in h) refl)
mul_le (fin s m e) (inf t) (fin u k g) p q h =
    rw (opened (eqb k 0) _ q) (most_sided t u (round binary64 (unlike s u) (m * up e * (k * up g)) (down e * down g)) (unfold le lt eq in h) p)
mul_le (fin s m e) (fin t n d) nan p q h = cc
mul_le (fin s m e) (fin t n d) (inf u) p q h = rw (opened (eqb m 0) _ p, opened (eqb n 0) _ q) (inf_sided s t u (go s t h))
  where
    go : (s t : Bool) → le (fin s m e) (fin t n d) ≡ true → le (inf s) (inf t) ≡ true
    go true t h = least (inf t) refl
    go false false h = le_refl_number (inf false) refl
    go false true h = wrong m n e d (not_zero m (opened (eqb m 0) _ p)) h
mul_le (fin s m e) (fin t n d) (fin u k g) p q h =
    product s t u (m * up e) (n * up d) (k * up g) (down e) (down d) (down g) (down_pos e) (down_pos d) (down_pos g) (le_at_most s t m n e d h)

pub mul_number : (x i : Float) → is_nan (mul binary64 x i) ≡ false → is_nan x ≡ false
unfolding mul is_nan
mul_number nan i h = h
mul_number (inf s) i h = refl
mul_number (fin s m e) i h = refl

-- ---- one product alone, where its neighbour's is a NaN, zero times an infinity: it is an infinity
zero_before : (x : Float) (s t : Bool) (d : ℤ) → le x (fin s 0 d) ≡ true → is_nan (mul binary64 x (inf t)) ≡ false →
    mul binary64 x (inf t) ≡ inf (unlike true t)
unfolding mul is_nan
zero_before nan s t d h n = cc
zero_before (inf true) s t d h n = refl
zero_before (inf false) s t d h n = clash _ h (unfold le lt eq in refl)
zero_before (fin true m e) s t d h n = rw (opened (eqb m 0) _ n)
zero_before (fin false m e) s t d h n = above s (not_zero m (opened (eqb m 0) _ n)) h
  where
    above : {A : Type 0} (s : Bool) → 0 < m → le (fin false m e) (fin s 0 d) ≡ true → A
    above {A} s M h =
        let p : 0 < m * up e * down d = mul-pos (mul-pos M (up_pos e)) (down_pos d) in
        absurd {A = A} (no s (le_at_most false s m 0 e d h) p)
      where
        no : (s : Bool) → AtMost false (m * up e) (down e) s (0 * up d) (down d) → 0 < m * up e * down d → ⊥
        no true a p = omega arith
        no false a p = omega arith

zero_after : (x : Float) (s t : Bool) (d : ℤ) → le (fin s 0 d) x ≡ true → is_nan (mul binary64 x (inf t)) ≡ false →
    mul binary64 x (inf t) ≡ inf (unlike false t)
unfolding mul is_nan
zero_after nan s t d h n = clash true refl (le_numbers (fin s 0 d) nan h).1
zero_after (inf false) s t d h n = refl
zero_after (inf true) s t d h n = clash _ h (unfold le lt eq in refl)
zero_after (fin false m e) s t d h n = rw (opened (eqb m 0) _ n)
zero_after (fin true m e) s t d h n = under_it s (not_zero m (opened (eqb m 0) _ n)) h
  where
    under_it : {A : Type 0} (s : Bool) → 0 < m → le (fin s 0 d) (fin true m e) ≡ true → A
    under_it {A} s M h =
        let p : 0 < m * up e * down d = mul-pos (mul-pos M (up_pos e)) (down_pos d) in
        absurd {A = A} (no s (le_at_most s true 0 m d e h) p)
      where
        no : (s : Bool) → AtMost s (0 * up d) (down d) true (m * up e) (down e) → 0 < m * up e * down d → ⊥
        no true a p = omega arith
        no false a p = omega arith

finite_factor : (z : Float) (u : Bool) (k : ℕ) (g : ℤ) → 0 < k → is_nan z ≡ false → is_nan (mul binary64 z (fin u k g)) ≡ false
unfolding mul is_nan
finite_factor nan u k g K n = n
finite_factor (inf s) u k g K n = rw (ne_eqb k 0 (λ h. omega arith))
finite_factor (fin s m e) u k g K n = round_number (unlike s u) (m * up e * (k * up g)) (down e * down g) (mul-pos (down_pos e) (down_pos g))

unlike_true : (u : Bool) → unlike true u ≡ not u
unlike_true true = refl
unlike_true false = refl

unlike_false : (u : Bool) → unlike false u ≡ u
unlike_false true = refl
unlike_false false = refl

-- z * i is a NaN where x ≤ z, and x * i is none
pub edge_before : (x z i : Float) → NonZero i → le x z ≡ true → is_nan (mul binary64 x i) ≡ false → is_nan (mul binary64 z i) ≡ true →
    mul binary64 x i ≡ inf (not (minus_sign i))
unfolding mul is_nan
edge_before x z i (number u k g K) p a n = clash _ n (finite_factor z u k g K (le_numbers x z p).1)
edge_before x nan i (infinite u) p a n = clash true refl (le_numbers x nan p).1
edge_before x (inf s) i (infinite u) p a n = clash true refl (sym n)
edge_before x (fin s (suc m) e) i (infinite u) p a n = clash true refl (sym (rw (ne_eqb (suc m) 0 (λ h. omega arith)) at n))
edge_before x (fin s zero e) i (infinite u) p a n = zero_before x s u e p a ∙ ap (λ (v : Bool). inf v) (unlike_true u)

pub edge_after : (x z i : Float) → NonZero i → le z x ≡ true → is_nan (mul binary64 x i) ≡ false → is_nan (mul binary64 z i) ≡ true →
    mul binary64 x i ≡ inf (minus_sign i)
unfolding mul is_nan
edge_after x z i (number u k g K) p a n = clash _ n (finite_factor z u k g K (le_numbers z x p).0)
edge_after x nan i (infinite u) p a n = clash true refl (le_numbers nan x p).0
edge_after x (inf s) i (infinite u) p a n = clash true refl (sym n)
edge_after x (fin s (suc m) e) i (infinite u) p a n = clash true refl (sym (rw (ne_eqb (suc m) 0 (λ h. omega arith)) at n))
edge_after x (fin s zero e) i (infinite u) p a n = zero_after x s u e p a ∙ ap (λ (v : Bool). inf v) (unlike_false u)

-- which numbers those are
pub nonzero_up : (i : Float) → lt (fin false 0 (pos 0)) i ≡ true → NonZero i × (minus_sign i ≡ false)
unfolding lt
nonzero_up nan h = clash true refl (sym h)
nonzero_up (inf true) h = clash true refl (sym h)
nonzero_up (inf false) h = (infinite false, refl)
nonzero_up (fin true k g) h = clash true refl (sym h)
nonzero_up (fin false zero g) h = absurd (omega (arith, ltb-true (0 * up (pos 0) * down g) (0 * up g * down (pos 0)) h))
nonzero_up (fin false (suc k) g) h = (number false (suc k) g (omega arith), refl)

pub nonzero_down : (i : Float) → lt i (fin false 0 (pos 0)) ≡ true → NonZero i × (minus_sign i ≡ true)
unfolding lt
nonzero_down nan h = clash true refl (sym h)
nonzero_down (inf true) h = (infinite true, refl)
nonzero_down (inf false) h = clash true refl (sym h)
nonzero_down (fin false k g) h = absurd (omega (arith, ltb-true (k * up g * down (pos 0)) (0 * up (pos 0) * down g) h))
nonzero_down (fin true zero g) h = absurd (omega (arith, ltb-true 0 (0 * up g * down (pos 0) + 0 * up (pos 0) * down g) h))
nonzero_down (fin true (suc k) g) h = (number true (suc k) g (omega arith), refl)
