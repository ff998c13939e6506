-- The error of one operation on f64: at most 2 ^ -53 of the exact result, and half a unit of 2 ^ -1074.
use mathlib.Core.Path.{◌≡◌, sym, ap, ◌∙◌, subst}
use mathlib.Core.Bool.{Bool, true, false, not, cond}
use Prim.Native.Nat.{ℕ, ◌+◌, ◌-◌, ◌*◌, ◌^◌, ◌≤◌, ◌<◌}
use native.Mathlib.Nat.{le_trans, le_of_eq, le_of_lt, lt_of_lt_of_le, lt_irrefl, zero-mul, add-mul, mul-sub, mul_assoc, mul_comm, mul_right_comm, mul-mul-mul_comm, mul-le-mul_right, le_of_mul-le-mul_right, mul-pos}
use native.Mathlib.Omega.{arith}
use lib.Dec.{T, ltb, eqb, ltb→lt, nltb→le, eqb→eq}
use lib.Pow.{pow_pos}
use lib.Ieee.{Float, nan, inf, fin, binary64, up, down, unlike, fits, round, sum, add, mul, div}
use lib.Ieee.Fits.{down_pos}
use lib.Ieee.Scale.{finite}
use lib.Ieee.Positive.{num, den}
use Rattle.num_float.specs.Units.{units, minus_sign}
use Rattle.num_float.specs.Work.{above, below, gap, Close}
use Rattle.num_float.proofs.Rounding.{grid_error}
use Rattle.num_float.proofs.Units.{units_are, left_units, right_units, round_sign, round_units}

-- ---- scaled numbers
sub_mul : (x y z : ℕ) → (x - y) * z ≡ x * z - y * z
sub_mul x y z = mul_comm (x - y) z ∙ mul-sub z x y ∙ ap (λ (k : ℕ). k - z * y) (mul_comm z x) ∙ ap (λ (k : ℕ). x * z - k) (mul_comm z y)

gap_mul : (a b c : ℕ) → gap (a * c) (b * c) ≡ gap a b * c
gap_mul a b c = sym (add-mul (a - b) (b - a) c ∙ ap (λ (z : ℕ). z + (b - a) * c) (sub_mul a b c) ∙ ap (λ (z : ℕ). a * c - b * c + z) (sub_mul b a c))

-- a bound on the gap of p * c and q * c is one on that of p and q
cancel : (p q m c : ℕ) → 0 < c → gap (p * c) (q * c) * 2 ^ 53 ≤ q * c + m * c → gap p q * 2 ^ 53 ≤ q + m
cancel p q m c C h =
    le_of_mul-le-mul_right
    (le_trans (le_of_eq (mul_right_comm (gap p q) (2 ^ 53) c ∙ ap (λ (z : ℕ). z * 2 ^ 53) (sym (gap_mul p q c)))) (le_trans h (le_of_eq (sym (add-mul q m c))))) C

-- the same, where i, j and k times l are p, q and m times c
rescale : (i j k l p q m c : ℕ) → 0 < c → i * l ≡ p * c → j * l ≡ q * c → k * l ≡ m * c → gap i j * 2 ^ 53 ≤ j + k → gap p q * 2 ^ 53 ≤ q + m
rescale i j k l p q m c C ep eq em h =
    cancel p q m c C
    (subst (λ (z : ℕ). gap (p * c) (q * c) * 2 ^ 53 ≤ q * c + z) em
    (subst (λ (z : ℕ). gap z (q * c) * 2 ^ 53 ≤ q * c + k * l) ep
    (subst (λ (z : ℕ). gap (i * l) z * 2 ^ 53 ≤ z + k * l) eq
    (le_trans (le_of_eq (ap (λ (z : ℕ). z * 2 ^ 53) (gap_mul i j l) ∙ mul_right_comm (gap i j) l (2 ^ 53))) (le_trans (mul-le-mul_right l h) (le_of_eq (add-mul j k l)))))))

-- ---- a fraction a / b, rounded
pub round_error : (s : Bool) (a b : ℕ) → 0 < b → T (finite (round binary64 s a b)) → gap (units (round binary64 s a b) * b) (a * 2 ^ 1074) * 2 ^ 53 ≤ a * 2 ^ 1074 + 2 ^ 52 * b
round_error s a b B F = subst (λ (g : ℕ). gap (g * b) (a * 2 ^ 1074) * 2 ^ 53 ≤ a * 2 ^ 1074 + 2 ^ 52 * b) (sym (round_units s a b F)) (grid_error a b B)

-- a fraction that is n units
pub round_whole_error : (s : Bool) (a b n : ℕ) → 0 < b → T (finite (round binary64 s a b)) → a * 2 ^ 1074 ≡ n * b → gap (units (round binary64 s a b)) n * 2 ^ 53 ≤ n + 2 ^ 52
round_whole_error s a b n B F e =
    cancel (units (round binary64 s a b)) n (2 ^ 52) b B
    (subst (λ (z : ℕ). gap (units (round binary64 s a b) * b) z * 2 ^ 53 ≤ z + 2 ^ 52 * b) e (round_error s a b B F))

-- ---- the product: x * y is off by at most 2 ^ -53 of it, and half a unit
pub mul_error : (x y : Float) → T (fits binary64 x) → T (fits binary64 y) → T (finite x) → T (finite y) → T (finite (mul binary64 x y))
    → gap (units (mul binary64 x y) * 2 ^ 1074) (units x * units y) * 2 ^ 53 ≤ units x * units y + 2 ^ 52 * 2 ^ 1074
unfolding mul
mul_error nan y f g p q h = absurd p
mul_error (inf s) y f g p q h = absurd p
mul_error (fin s m e) nan f g p q h = absurd q
mul_error (fin s m e) (inf t) f g p q h = absurd q
mul_error (fin s m e) (fin t n d) f g p q h =
    let x = fin s m e in
    let y = fin t n d in
    let l = 2 ^ 1074 in
    let c = den x * den y in
    let C : 0 < c = mul-pos (down_pos e) (down_pos d) in
    let a = num x * num y in
    let r = units (round binary64 (unlike s t) a c) in
    let v : a * l * l ≡ units x * units y * c =
    mul_assoc a l l
    ∙ mul-mul-mul_comm (num x) (num y) l l
    ∙ ap (λ (z : ℕ). z * (num y * l)) (units_are x f)
    ∙ ap (λ (z : ℕ). units x * den x * z) (units_are y g)
    ∙ mul-mul-mul_comm (units x) (den x) (units y) (den y) in
    rescale (r * c) (a * l) (2 ^ 52 * c) l (r * l) (units x * units y) (2 ^ 52 * l) c C (mul_right_comm r c l) v (mul_right_comm (2 ^ 52) c l) (round_error (unlike s t) a c C h)

-- ---- the quotient: x / y times y is off from x by at most 2 ^ -53 of it, and half a unit of y
pub div_error : (x y : Float) → T (fits binary64 x) → T (fits binary64 y) → T (finite x) → T (finite y) → 0 < num y → T (finite (div binary64 x y))
    → gap (units (div binary64 x y) * units y) (units x * 2 ^ 1074) * 2 ^ 53 ≤ units x * 2 ^ 1074 + 2 ^ 52 * units y
unfolding div
div_error nan y f g p q z h = absurd p
div_error (inf s) y f g p q z h = absurd p
div_error (fin s m e) nan f g p q z h = absurd q
div_error (fin s m e) (inf t) f g p q z h = absurd q
div_error (fin s m e) (fin t n d) f g p q z h = go (eqb n 0) (eqb→eq n 0) h
  where
    go : (w : Bool) → (T w → n ≡ 0) → T (finite (cond w (cond (eqb m 0) nan (inf (unlike s t))) (round binary64 (unlike s t) (m * up e * down d) (n * up d * down e))))
        → gap (units (cond w (cond (eqb m 0) nan (inf (unlike s t))) (round binary64 (unlike s t) (m * up e * down d) (n * up d * down e))) * units (fin t n d)) (units (fin s m e) * 2 ^ 1074) * 2 ^ 53
        ≤ units (fin s m e) * 2 ^ 1074 + 2 ^ 52 * units (fin t n d)
    go true k h = absurd (lt_irrefl 0 (lt_of_lt_of_le z (le_of_eq (ap (λ (i : ℕ). i * up d) (k tt) ∙ zero-mul (up d)))))
    go false k h =
        let x = fin s m e in
        let y = fin t n d in
        let l = 2 ^ 1074 in
        let a = num x * den y in
        let b = num y * den x in
        let c = den x * den y in
        let r = units (round binary64 (unlike s t) a b) in
        let scaled : (i : ℕ) → i * b * l ≡ i * units y * c = λ (i : ℕ). mul_assoc i b l ∙ ap (λ (j : ℕ). i * j) (right_units x y f g) ∙ sym (mul_assoc i (units y) c) in
        rescale (r * b) (a * l) (2 ^ 52 * b) l (r * units y) (units x * l) (2 ^ 52 * units y) c (mul-pos (down_pos e) (down_pos d))
        (scaled r) (ap (λ (i : ℕ). i * l) (left_units x y f g) ∙ mul_right_comm (units x) c l) (scaled (2 ^ 52)) (round_error (unlike s t) a b (mul-pos z (down_pos e)) h)

-- ---- the sum, with signs
-- the difference p - m is ±k
abbrev Signed : Bool → ℕ → ℕ → ℕ → Type 0
Signed false k p m = p ≡ m + k
Signed true k p m = m ≡ p + k

settle : (r : Float) (t : Bool) (k p m E : ℕ) → minus_sign r ≡ t → gap (units r) k ≤ E → Signed t k p m → Close (above r) (below r) p m E
settle r true k p m E e g s = subst (λ (b : Bool). Close (cond b 0 (units r)) (cond b (units r) 0) p m E) (sym e) (go (units r) k p m E g s)
  where
    go : (u k p m E : ℕ) → gap u k ≤ E → m ≡ p + k → Close 0 u p m E
    go u k p m E g s = (omega arith, omega arith)
settle r false k p m E e g s = subst (λ (b : Bool). Close (cond b 0 (units r)) (cond b (units r) 0) p m E) (sym e) (go (units r) k p m E g s)
  where
    go : (u k p m E : ℕ) → gap u k ≤ E → p ≡ m + k → Close u 0 p m E
    go u k p m E g s = (omega arith, omega arith)

-- ±a / c, which is ±k units, rounded; E is at least the error of a result of up to B units
rounded : (t : Bool) (a c k p m B E : ℕ) → 0 < c → T (finite (round binary64 t a c)) → a * 2 ^ 1074 ≡ k * c → k ≤ B → B + 2 ^ 52 ≤ E * 2 ^ 53 → Signed t k p m
    → Close (above (round binary64 t a c)) (below (round binary64 t a c)) p m E
rounded t a c k p m B E C F e h l s =
    settle (round binary64 t a c) t k p m E (round_sign t a c F)
    (le_of_mul-le-mul_right (le_trans (round_whole_error t a c k C F e) (le_trans (more k B (2 ^ 52) h) l)) (pow_pos 53)) s
  where
    more : (k B z : ℕ) → k ≤ B → k + z ≤ B + z
    more k B z h = omega arith

-- ±a / c and ±b / c are ±u and ±w units, and their sum at most B units in size
module _ (a b c u w B E : ℕ) (C : 0 < c) (va : a * 2 ^ 1074 ≡ u * c) (vb : b * 2 ^ 1074 ≡ w * c) (small : B + 2 ^ 52 ≤ E * 2 ^ 53) where
  both : (a + b) * 2 ^ 1074 ≡ (u + w) * c
  both = add-mul a b (2 ^ 1074) ∙ ap (λ (k : ℕ). k + b * 2 ^ 1074) va ∙ ap (λ (k : ℕ). u * c + k) vb ∙ sym (add-mul u w c)

  b_less_a : (b - a) * 2 ^ 1074 ≡ (w - u) * c
  b_less_a = sub_mul b a (2 ^ 1074) ∙ ap (λ (k : ℕ). k - a * 2 ^ 1074) vb ∙ ap (λ (k : ℕ). w * c - k) va ∙ sym (sub_mul w u c)

  a_less_b : (a - b) * 2 ^ 1074 ≡ (u - w) * c
  a_less_b = sub_mul a b (2 ^ 1074) ∙ ap (λ (k : ℕ). k - b * 2 ^ 1074) va ∙ ap (λ (k : ℕ). u * c - k) vb ∙ sym (sub_mul u w c)

  up_order : a ≤ b → u ≤ w
  up_order h = le_of_mul-le-mul_right (le_trans (le_of_eq (sym va)) (le_trans (mul-le-mul_right (2 ^ 1074) h) (le_of_eq vb))) C

  down_order : b ≤ a → w ≤ u
  down_order h = le_of_mul-le-mul_right (le_trans (le_of_eq (sym vb)) (le_trans (mul-le-mul_right (2 ^ 1074) h) (le_of_eq va))) C

  sum_error_lem : (s t : Bool) → T (finite (sum binary64 s a t b c)) → cond s 0 u + cond t 0 w ≤ cond s u 0 + cond t w 0 + B → cond s u 0 + cond t w 0 ≤ cond s 0 u + cond t 0 w + B
      → Close (above (sum binary64 s a t b c)) (below (sum binary64 s a t b c)) (cond s 0 u + cond t 0 w) (cond s u 0 + cond t w 0) E
  unfolding sum
  sum_error_lem false false F h k = rounded false (a + b) c (u + w) (u + w) (0 + 0) B E C F both (omega (arith, h)) small (omega arith)
  sum_error_lem true true F h k = rounded true (a + b) c (u + w) (0 + 0) (u + w) B E C F both (omega (arith, k)) small (omega arith)
  sum_error_lem false true F h k = go (ltb a b) (ltb→lt a b) (nltb→le a b) F
    where
      go : (v : Bool) → (T v → a < b) → (T (not v) → b ≤ a) → T (finite (cond v (round binary64 true (b - a) c) (round binary64 false (a - b) c)))
          → Close (above (cond v (round binary64 true (b - a) c) (round binary64 false (a - b) c))) (below (cond v (round binary64 true (b - a) c) (round binary64 false (a - b) c))) (u + 0) (0 + w) E
      go true y n F = let o = up_order (le_of_lt (y tt)) in rounded true (b - a) c (w - u) (u + 0) (0 + w) B E C F b_less_a (omega arith) small (omega arith)
      go false y n F = let o = down_order (n tt) in rounded false (a - b) c (u - w) (u + 0) (0 + w) B E C F a_less_b (omega arith) small (omega arith)
  sum_error_lem true false F h k = go (ltb a b) (ltb b a) (ltb→lt a b) (nltb→le a b) (ltb→lt b a) (nltb→le b a) F
    where
      go : (v z : Bool) → (T v → a < b) → (T (not v) → b ≤ a) → (T z → b < a) → (T (not z) → a ≤ b) → T (finite (cond v (round binary64 false (b - a) c) (round binary64 z (a - b) c)))
          → Close (above (cond v (round binary64 false (b - a) c) (round binary64 z (a - b) c))) (below (cond v (round binary64 false (b - a) c) (round binary64 z (a - b) c))) (0 + w) (u + 0) E
      go true z y n y' n' F = let o = up_order (le_of_lt (y tt)) in rounded false (b - a) c (w - u) (0 + w) (u + 0) B E C F b_less_a (omega arith) small (omega arith)
      go false true y n y' n' F = let o = down_order (n tt) in rounded true (a - b) c (u - w) (0 + w) (u + 0) B E C F a_less_b (omega arith) small (omega arith)
      go false false y n y' n' F = let o = up_order (n' tt) in let o' = down_order (n tt) in rounded false (a - b) c (u - w) (0 + w) (u + 0) B E C F a_less_b (omega arith) small (omega arith)

-- x + y, where the exact sum is at most B units in size, is off by at most E units, for any E of at least (B + 2 ^ 52) / 2 ^ 53
pub add_error : (x y : Float) (B E : ℕ) → T (fits binary64 x) → T (fits binary64 y) → T (finite x) → T (finite y) → T (finite (add binary64 x y))
    → above x + above y ≤ below x + below y + B → below x + below y ≤ above x + above y + B → B + 2 ^ 52 ≤ E * 2 ^ 53
    → Close (above (add binary64 x y)) (below (add binary64 x y)) (above x + above y) (below x + below y) E
unfolding add
add_error nan y B E f g p q h i j k = absurd p
add_error (inf s) y B E f g p q h i j k = absurd p
add_error (fin s m e) nan B E f g p q h i j k = absurd q
add_error (fin s m e) (inf t) B E f g p q h i j k = absurd q
add_error (fin s m e) (fin t n d) B E f g p q h i j k =
    let x = fin s m e in
    let y = fin t n d in
    sum_error_lem (num x * den y) (num y * den x) (den x * den y) (units x) (units y) B E (mul-pos (down_pos e) (down_pos d)) (left_units x y f g) (right_units x y f g) k s t h i j
