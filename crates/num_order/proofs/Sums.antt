-- Adding keeps the order: x + o and x - o grow with x, infinities included, wherever no NaN arises.
use mathlib.Core.Path.{◌≡◌, refl, sym, ap, ◌∙◌}
use mathlib.Core.Bool.{Bool, true, false, beq, cond}
use Prim.Native.Nat.{ℕ, ◌+◌, ◌*◌, ◌≤◌, ◌<◌}
use native.Mathlib.Nat.{mul_comm, mul-pos, mul-le-mul_right, zero-mul}
use native.Mathlib.Omega.{arith}
use borrow.Author.Tests.{lt-ltb, le-ltb}
use lib.IntN.{ℤ, pos}
use lib.Ieee.{Float, nan, inf, fin, binary64, up, down, round, sum, add, sub, lt, eq, le, neg, is_nan}
use lib.Ieee.Fits.{down_pos}
use Rattle.num_float.proofs.Order.{le_numbers, le_refl_number}
use Rattle.num_order.specs.Work.{over, under, AtMost}
use Rattle.num_order.proofs.Signed.{by_lt, clash, round_le, sum_is, le_at_most}

-- ---- adding a number
-- x1 = P1 / c1 and x2 = P2 / c2 with their parts over and under zero, and y = q / d
grown : (S1 S2 : Bool) (A1 A2 p1 n1 p2 n2 q r c1 c2 d : ℕ)
    → over S1 A1 + (n1 * d + r * c1) ≡ under S1 A1 + (p1 * d + q * c1)
    → over S2 A2 + (n2 * d + r * c2) ≡ under S2 A2 + (p2 * d + q * c2)
    → p1 * c2 + n2 * c1 ≤ p2 * c1 + n1 * c2
    → AtMost S1 A1 (c1 * d) S2 A2 (c2 * d)
grown S1 S2 A1 A2 p1 n1 p2 n2 q r c1 c2 d e1 e2 h =
    go (over S1 A1) (under S1 A1) (over S2 A2) (under S2 A2) (ap (λ (k : ℕ). k * (c2 * d)) e1) (ap (λ (k : ℕ). k * (c1 * d)) e2) (mul-le-mul_right (d * d) h)
  where
    go : (o1 u1 o2 u2 : ℕ)
        → (o1 + (n1 * d + r * c1)) * (c2 * d) ≡ (u1 + (p1 * d + q * c1)) * (c2 * d)
        → (o2 + (n2 * d + r * c2)) * (c1 * d) ≡ (u2 + (p2 * d + q * c2)) * (c1 * d)
        → (p1 * c2 + n2 * c1) * (d * d) ≤ (p2 * c1 + n1 * c2) * (d * d)
        → o1 * (c2 * d) + u2 * (c1 * d) ≤ o2 * (c1 * d) + u1 * (c2 * d)
    go o1 u1 o2 u2 x y z = omega arith

over_mul : (s : Bool) (a d : ℕ) → over s (a * d) ≡ over s a * d
over_mul false a d = refl
over_mul true a d = sym (zero-mul d)

under_mul : (s : Bool) (a d : ℕ) → under s (a * d) ≡ under s a * d
under_mul false a d = sym (zero-mul d)
under_mul true a d = refl

sum_le : (s1 s2 t : Bool) (a1 a2 b c1 c2 d : ℕ) → 0 < c1 → 0 < c2 → 0 < d → AtMost s1 a1 c1 s2 a2 c2
    → le (sum binary64 s1 (a1 * d) t (b * c1) (c1 * d)) (sum binary64 s2 (a2 * d) t (b * c2) (c2 * d)) ≡ true
sum_le s1 s2 t a1 a2 b c1 c2 d C1 C2 D h =
    let x = sum_is s1 t (a1 * d) (b * c1) (c1 * d) in
    let y = sum_is s2 t (a2 * d) (b * c2) (c2 * d) in
    rw (x.is, y.is)
    (round_le x.sign y.sign x.size (c1 * d) y.size (c2 * d) (mul-pos C1 D) (mul-pos C2 D)
    (grown x.sign y.sign x.size y.size (over s1 a1) (under s1 a1) (over s2 a2) (under s2 a2) (over t b) (under t b) c1 c2 d
    (rw (over_mul, under_mul, over_mul, under_mul) at x.value)
    (rw (over_mul, under_mul, over_mul, under_mul) at y.value)
    h))

fin_le : (s1 s2 : Bool) (m1 m2 : ℕ) (e1 e2 : ℤ) (y : Float) → is_nan y ≡ false → le (fin s1 m1 e1) (fin s2 m2 e2) ≡ true
    → le (add binary64 (fin s1 m1 e1) y) (add binary64 (fin s2 m2 e2) y) ≡ true
unfolding add is_nan
fin_le s1 s2 m1 m2 e1 e2 nan n h = cc
fin_le s1 s2 m1 m2 e1 e2 (inf t) n h = le_refl_number (inf t) refl
fin_le s1 s2 m1 m2 e1 e2 (fin t k d) n h =
    sum_le s1 s2 t (m1 * up e1) (m2 * up e2) (k * up d) (down e1) (down e2) (down d) (down_pos e1) (down_pos e2) (down_pos d) (le_at_most s1 s2 m1 m2 e1 e2 h)

neg_number : (o : Float) → is_nan o ≡ false → is_nan (neg o) ≡ false
unfolding is_nan neg
neg_number nan h = h
neg_number (inf s) h = refl
neg_number (fin s m e) h = refl

pub least : (z : Float) → is_nan z ≡ false → le (inf true) z ≡ true
unfolding le lt eq is_nan
least nan h = sym h
least (inf true) h = refl
least (inf false) h = refl
least (fin s m e) h = refl

pub most : (z : Float) → is_nan z ≡ false → le z (inf false) ≡ true
unfolding le lt eq is_nan
most nan h = sym h
most (inf true) h = refl
most (inf false) h = refl
most (fin s m e) h = refl

shut : (b : Bool) (z : Float) → is_nan (cond b z nan) ≡ false → b ≡ true
unfolding is_nan
shut true z h = refl
shut false z h = sym h

pub round_number : (s : Bool) (a c : ℕ) → 0 < c → is_nan (round binary64 s a c) ≡ false
round_number s a c C = (le_numbers (round binary64 s a c) (round binary64 s a c) (round_le s s a c a c C C (self s))).0
  where
    self : (s : Bool) → AtMost s a c s a c
    self false = omega arith
    self true = omega arith

sum_number : (s t : Bool) (a b c : ℕ) → 0 < c → is_nan (sum binary64 s a t b c) ≡ false
sum_number s t a b c C = let x = sum_is s t a b c in rw x.is (round_number x.sign x.size c C)

inf_first : (s : Bool) (z : Float) → le (inf s) (fin true 0 (pos 0)) ≡ true → is_nan z ≡ false → le (inf s) z ≡ true
unfolding le lt eq
inf_first true z h n = least z n
inf_first false z h n = cc

inf_last : (s : Bool) (z : Float) → le (fin true 0 (pos 0)) (inf s) ≡ true → is_nan z ≡ false → le z (inf s) ≡ true
unfolding le lt eq
inf_last false z h n = most z n
inf_last true z h n = cc

pub add_le : (x y o : Float) → is_nan (add binary64 x o) ≡ false → is_nan (add binary64 y o) ≡ false → le x y ≡ true →
    le (add binary64 x o) (add binary64 y o) ≡ true
unfolding add is_nan
add_le nan y o p q h = cc
add_le (inf s) nan o p q h = cc
add_le (fin s m e) nan o p q h = cc
add_le (inf s) (inf t) nan p q h = cc
add_le (inf s) (inf t) (inf u) p q h = rw (shut (beq s u) _ p, shut (beq t u) _ q) h
add_le (inf s) (inf t) (fin u k g) p q h = h
add_le (inf s) (fin t n d) nan p q h = cc
add_le (inf s) (fin t n d) (inf u) p q h = rw (shut (beq s u) _ p) (inf_first s (inf u) (unfold le lt eq in h) refl)
add_le (inf s) (fin t n d) (fin u k g) p q h =
    inf_first s (sum binary64 t (n * up d * down g) u (k * up g * down d) (down d * down g)) (unfold le lt eq in h) q
add_le (fin s m e) (inf t) nan p q h = cc
add_le (fin s m e) (inf t) (inf u) p q h = rw (shut (beq t u) _ q) (inf_last t (inf u) (unfold le lt eq in h) refl)
add_le (fin s m e) (inf t) (fin u k g) p q h =
    inf_last t (sum binary64 s (m * up e * down g) u (k * up g * down e) (down e * down g)) (unfold le lt eq in h) p
add_le (fin s m e) (fin t n d) nan p q h = cc
add_le (fin s m e) (fin t n d) (inf u) p q h = le_refl_number (inf u) refl
add_le (fin s m e) (fin t n d) (fin u k g) p q h = fin_le s t m n e d (fin u k g) refl h

pub sub_le : (x y o : Float) → is_nan (sub binary64 x o) ≡ false → is_nan (sub binary64 y o) ≡ false → le x y ≡ true →
    le (sub binary64 x o) (sub binary64 y o) ≡ true
unfolding sub
sub_le x y o p q h = add_le x y (neg o) p q h

-- ---- the order of the operands
sum_mixed : (a b c : ℕ) → sum binary64 false a true b c ≡ sum binary64 true b false a c
unfolding sum
sum_mixed a b c =
    by_lt a b (λ l. rw (lt-ltb a b l, le-ltb b a (omega arith)))
    (λ l. by_lt b a (λ k. rw (le-ltb a b l, lt-ltb b a k)) (λ k. let e : a ≡ b = omega arith in rw (e, le-ltb b b (omega arith))))

sum_comm : (s t : Bool) (a b c : ℕ) → sum binary64 s a t b c ≡ sum binary64 t b s a c
sum_comm false false a b c = unfold sum in rw (native.Mathlib.Nat.add_comm a b)
sum_comm true true a b c = unfold sum in rw (native.Mathlib.Nat.add_comm a b)
sum_comm false true a b c = sum_mixed a b c
sum_comm true false a b c = sym (sum_mixed b a c)

pub add_comm : (x y : Float) → add binary64 x y ≡ add binary64 y x
unfolding add
add_comm nan nan = refl
add_comm nan (inf t) = refl
add_comm nan (fin t n d) = refl
add_comm (inf s) nan = refl
add_comm (inf true) (inf true) = refl
add_comm (inf true) (inf false) = refl
add_comm (inf false) (inf true) = refl
add_comm (inf false) (inf false) = refl
add_comm (inf s) (fin t n d) = refl
add_comm (fin s m e) nan = refl
add_comm (fin s m e) (inf t) = refl
add_comm (fin s m e) (fin t n d) =
    sum_comm s t (m * up e * down d) (n * up d * down e) (down e * down d) ∙ ap
    (λ (k : ℕ). sum binary64 t (n * up d * down e) s (m * up e * down d) k) (mul_comm (down e) (down d))

-- a number added gives no NaN
pub add_number : (x : Float) (t : Bool) (k : ℕ) (g : ℤ) → is_nan x ≡ false → is_nan (add binary64 x (fin t k g)) ≡ false
unfolding add is_nan
add_number nan t k g h = h
add_number (inf s) t k g h = refl
add_number (fin s m e) t k g h = sum_number s t (m * up e * down g) (k * up g * down e) (down e * down g) (mul-pos (down_pos e) (down_pos g))

-- ---- what a difference that is a number says
neg_back : (o : Float) → is_nan (neg o) ≡ false → is_nan o ≡ false
unfolding is_nan neg
neg_back nan h = h
neg_back (inf s) h = refl
neg_back (fin s m e) h = refl

add_right : (x o : Float) → is_nan (add binary64 x o) ≡ false → is_nan o ≡ false
unfolding is_nan add
add_right nan o h = clash true refl h
add_right (inf s) nan h = h
add_right (fin s m e) nan h = h
add_right (inf s) (inf t) h = refl
add_right (inf s) (fin t n d) h = refl
add_right (fin s m e) (inf t) h = refl
add_right (fin s m e) (fin t n d) h = refl

pub sub_right : (x o : Float) → is_nan (sub binary64 x o) ≡ false → is_nan o ≡ false
unfolding sub
sub_right x o h = neg_back o (add_right x (neg o) h)

pub sub_number : (s : Bool) (m : ℕ) (e : ℤ) (o : Float) → is_nan o ≡ false → is_nan (sub binary64 (fin s m e) o) ≡ false
unfolding sub
sub_number s m e o h = rw (add_comm (fin s m e) (neg o)) (add_number (neg o) s m e (neg_number o h))
