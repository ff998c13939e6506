-- A number is at most the root of what is no smaller than its rounded square: up to a factor of 2 always, and with none for a root of at least 2 ^ -484.
use mathlib.Core.Path.{◌≡◌, refl, sym, ap, ◌∙◌, subst}
use mathlib.Core.Logic.{inl, inr}
use mathlib.Core.Bool.{false}
use Prim.Native.Nat.{ℕ, zero, suc, ◌+◌, ◌-◌, ◌*◌, ◌^◌, ◌≤◌, ◌<◌}
use native.Mathlib.Nat.{le_trans, le_of_eq, le_of_lt, lt_of_lt_of_le, lt_of_le_of_lt, lt_of_mul-lt-mul_right, mul-le-mul, mul-le-mul_right, mul-lt-mul_of_pos_right, le_of_mul-le-mul_right, eq_of_mul-eq-mul_right, mul_comm, mul_right_comm, mul_assoc, mul-mul-mul_comm, one-mul, mul-pos, suc-mul, le_antisymm, not-le_of_lt}
use native.Mathlib.Omega.{arith}
use lib.IntN.{pos, negsuc}
use lib.Dec.{T, lit<, lit≤}
use lib.Pow.{pow_pos, pow-add, pow_mono, pow-lt}
use lib.Ieee.{Float, nan, inf, fin, binary64, unlike, size, fits, round, mul}
use lib.Ieee.Digits.{size-lt, size_reaches}
use lib.Ieee.Fits.{down_pos, round-fits}
use lib.Ieee.Exact.{HasValue, round_exact}
use lib.Ieee.Scale.{finite}
use lib.Ieee.Positive.{num, den, den_pos}
use Rattle.num_root.specs.Root.{root}
use Rattle.num_root.specs.Nearest.{Holds}
use Rattle.num_root.proofs.Signs.{root_fits}
use Rattle.num_float.specs.Units.{units, minus_sign}
use Rattle.num_float.specs.Work.{gap}
use Rattle.num_float.proofs.Tests.{lt_or_ge}
use Rattle.num_float.proofs.Rounding.{value_cross, finite_lt}
use Rattle.num_float.proofs.Units.{units_are, units_multiple}
use Rattle.num_float.proofs.Error.{mul_error}
use Rattle.num_norm.proofs.RootUnits.{nearest}
use Rattle.num_norm.proofs.Squares.{Term}

-- ---- whole numbers: X, Q, S and R are a number, its rounded square, the operand of the root and the root in units, and l units are 1
-- R is nearest the root of S, and so where R < X the middle of the two lies above the root; X is then at most 2 R
at_most_twice : (X R S Q l : ℕ) → gap (Q * l) (X * X) * 2 ^ 53 ≤ X * X + 2 ^ 52 * l → Q ≤ S → 0 < S → (R < X → S * l * 4 < (R + X) * (R + X)) → X ≤ 2 * R
at_most_twice X R S Q l off grow p near = elim (lt_or_ge (2 * R) X) [
  | inl h ↦ absurd (
      let n = near (omega arith) in
      let a : (R + X) * 2 * ((R + X) * 2) ≤ X * 3 * (X * 3) = mul-le-mul (omega arith) (omega arith) in
      let b : Q * l ≤ S * l = mul-le-mul_right l grow in
      let c : 1 * l ≤ S * l = mul-le-mul_right l p in
      no (X * X) (Q * l) (S * l) ((R + X) * (R + X)) l off b (omega arith) n (omega arith))
  | inr g ↦ g
]
  where
    no : (c q s r l : ℕ) → gap q c * 2 ^ 53 ≤ c + 2 ^ 52 * l → q ≤ s → l ≤ s → s * 4 < r → r * 4 ≤ c * 9 → ⊥
    no c q s r l off a b n k = omega arith

-- X = w * u for a w of 53 digits that is no power of two: R is no f64 below X, of which the nearest is X - u
middle_below : (X R S Q l u w : ℕ) → X ≡ w * u → 2 ^ 52 < w → w < 2 ^ 53 → 2 * l ≤ u * u → gap (Q * l) (X * X) * 2 ^ 53 ≤ X * X + 2 ^ 52 * l → Q ≤ S → R + u ≤ X → S * l * 4 < (R + X) * (R + X) → ⊥
middle_below X R S Q l u w e lo hi sq off grow h near =
    let M = 2 * X - u in
    let f : M + u ≡ 2 * X = omega arith in
    let g : R + X ≤ M = omega arith in
    let r : (R + X) * (R + X) ≤ M * M = mul-le-mul g g in
    let b : Q * l ≤ S * l = mul-le-mul_right l grow in
    let wx : w * (u * X) ≡ X * X = sym (mul_assoc w u X) ∙ ap (λ (k : ℕ). k * X) (sym e) in
    let wu : w * (u * u) ≡ u * X = sym (mul_assoc w u u) ∙ ap (λ (k : ℕ). k * u) (sym e) ∙ mul_comm X u in
    let i : suc w * (u * X) ≤ 2 ^ 53 * (u * X) = mul-le-mul_right (u * X) hi in
    let j : suc (2 ^ 52) * (u * u) ≤ w * (u * u) = mul-le-mul_right (u * u) lo in
    let m : M * M + 4 * (u * X) ≡ 4 * (X * X) + u * u = squares M u X f in
    no (X * X) (Q * l) (S * l) (u * X) (u * u) (M * M) ((R + X) * (R + X)) l off b near r m (le_trans (le_of_eq (next w (u * X) (X * X) wx)) i) (le_trans j (le_of_eq wu)) sq
  where
    next : (w a c : ℕ) → w * a ≡ c → c + a ≡ suc w * a
    next w a c e = ap (λ (k : ℕ). k + a) (sym e) ∙ sym (suc-mul w a)

    squares : (M u X : ℕ) → M + u ≡ 2 * X → M * M + 4 * (u * X) ≡ 4 * (X * X) + u * u
    squares M u X f =
        let a : (M + u) * (M + u) ≡ 2 * X * (2 * X) = ap (λ (k : ℕ). k * k) f in
        let b : (M + u) * u ≡ 2 * X * u = ap (λ (k : ℕ). k * u) f in
        omega arith

    -- in steps, each small enough for omega
    no : (c q s a b m r l : ℕ) → gap q c * 2 ^ 53 ≤ c + 2 ^ 52 * l → q ≤ s → s * 4 < r → r ≤ m → m + 4 * a ≡ 4 * c + b → c + a ≤ 2 ^ 53 * a → suc (2 ^ 52) * b ≤ a → 2 * l ≤ b → ⊥
    no c q s a b m r l off h near k e i j sq = last a b l (third a b c l (second a b c q l (first c q l off) (below q s r m a b c h near k e)) i) j sq
      where
        first : (c q l : ℕ) → gap q c * 2 ^ 53 ≤ c + 2 ^ 52 * l → c * 2 ^ 53 ≤ q * 2 ^ 53 + c + 2 ^ 52 * l
        first c q l h = omega arith

        below : (q s r m a b c : ℕ) → q ≤ s → s * 4 < r → r ≤ m → m + 4 * a ≡ 4 * c + b → q * 4 + a * 4 < c * 4 + b
        below q s r m a b c h near k e = omega arith

        second : (a b c q l : ℕ) → c * 2 ^ 53 ≤ q * 2 ^ 53 + c + 2 ^ 52 * l → q * 4 + a * 4 < c * 4 + b → a * 2 ^ 55 < c * 4 + 2 ^ 54 * l + 2 ^ 53 * b
        second a b c q l h k = omega arith

        third : (a b c l : ℕ) → a * 2 ^ 55 < c * 4 + 2 ^ 54 * l + 2 ^ 53 * b → c + a ≤ 2 ^ 53 * a → a * 4 < 2 ^ 54 * l + 2 ^ 53 * b
        third a b c l h k = omega arith

        last : (a b l : ℕ) → a * 4 < 2 ^ 54 * l + 2 ^ 53 * b → suc (2 ^ 52) * b ≤ a → 2 * l ≤ b → ⊥
        last a b l h j k = omega arith

-- X whose square is exact, as a power of two
exact_below : (X R S Q l : ℕ) → Q * l ≡ X * X → Q ≤ S → R < X → S * l * 4 < (R + X) * (R + X) → ⊥
exact_below X R S Q l e grow h near =
    let a : (R + X) * (R + X) ≤ 2 * X * (2 * X) = mul-le-mul (omega arith) (omega arith) in
    let b : Q * l ≤ S * l = mul-le-mul_right l grow in
    omega arith

-- ---- the leading 53 digits of X
record Lead (X : ℕ) : Type 0 where
  pub k : ℕ
  pub low : 2 ^ (52 + k) ≤ X
  pub high : X < 2 ^ (53 + k)
  pub large : 538 ≤ k

lead : (X : ℕ) → 2 ^ 590 ≤ X → Lead X
lead X h =
    let z = size X in
    let a : 590 < z = more z (λ (g : z ≤ 590). not-le_of_lt (lt_of_lt_of_le (size-lt X) (pow_mono g)) h) in
    record {
      k = z - 53;
      low = size_reaches X (52 + (z - 53)) (omega arith);
      high = lt_of_lt_of_le (size-lt X) (le_of_eq (ap (λ (i : ℕ). 2 ^ i) (back z a)));
      large = omega arith;
    }
  where
    more : (z : ℕ) → (z ≤ 590 → ⊥) → 590 < z
    more z h = omega arith

    back : (z : ℕ) → 590 < z → z ≡ 53 + (z - 53)
    back z h = omega arith

-- an f64 r below X = w * 2 ^ k, w of 53 digits and no power of two, is below it by 2 ^ k units
step_down : (r : Float) (X k w : ℕ) → T (fits binary64 r) → X ≡ w * 2 ^ k → 2 ^ 52 < w → units r < X → units r + 2 ^ k ≤ X
step_down r X k w f e lo h = elim (lt_or_ge (units r) (2 ^ (52 + k))) [
  | inl l ↦ small (le_trans (le_of_lt l) (le_of_eq (pow-add 2 52 k)))
  | inr g ↦ grid (units_multiple r k f g)
]
  where
    small : units r ≤ 2 ^ 52 * 2 ^ k → units r + 2 ^ k ≤ X
    small l = go (units r) (2 ^ k) X (w * 2 ^ k) l (mul-le-mul_right (2 ^ k) lo) e
      where
        go : (R u X p : ℕ) → R ≤ 2 ^ 52 * u → suc (2 ^ 52) * u ≤ p → X ≡ p → R + u ≤ X
        go R u X p a b e = omega arith

    grid : ((v : ℕ) × (units r ≡ v * 2 ^ k)) → units r + 2 ^ k ≤ X
    grid m =
        let l : m.0 < w = lt_of_mul-lt-mul_right (2 ^ k) (subst (λ (i : ℕ). m.0 * 2 ^ k < i) e (subst (λ (i : ℕ). i < X) m.1 h)) in
        go (units r) (m.0 * 2 ^ k) (2 ^ k) X (w * 2 ^ k) m.1 (le_trans (le_of_eq (sym (suc-mul m.0 (2 ^ k)))) (mul-le-mul_right (2 ^ k) l)) e
      where
        go : (R v u X p : ℕ) → R ≡ v → v + u ≤ p → X ≡ p → R + u ≤ X
        go R v u X p a b e = omega arith

-- ---- the square of a power of two is exact, unless it overflows or is too small
cancel_exact : (ur l dr D N nr XX : ℕ) → 0 < dr → 0 < D → nr * l ≡ ur * dr → nr * D ≡ N * dr → N * l * l ≡ XX * D → ur * l ≡ XX
cancel_exact ur l dr D N nr XX P Q a b c =
    eq_of_mul-eq-mul_right (dr * D) (mul-pos P Q) (ur * l) XX
    (mul-mul-mul_comm ur l dr D
    ∙ ap (λ (k : ℕ). k * (l * D)) (sym a)
    ∙ ap (λ (k : ℕ). nr * l * k) (mul_comm l D)
    ∙ mul-mul-mul_comm nr l D l
    ∙ ap (λ (k : ℕ). k * (l * l)) b
    ∙ mul_right_comm N dr (l * l)
    ∙ ap (λ (k : ℕ). k * dr) (sym (mul_assoc N l l) ∙ c)
    ∙ mul_assoc XX D dr
    ∙ ap (λ (k : ℕ). XX * k) (mul_comm D dr))

-- 2 ^ i * 2 ^ i units of 2 ^ -2148 that are N / D, below 2 ^ 1024
exponent_le : (i N D : ℕ) → N * 2 ^ 1074 * 2 ^ 1074 ≡ 2 ^ i * 2 ^ i * D → N < 2 ^ 1024 * D → i ≤ 1585
exponent_le i N D e h =
    let l = 2 ^ 1074 in
    let p : N * l * l < 2 ^ 1024 * D * l * l = mul-lt-mul_of_pos_right (mul-lt-mul_of_pos_right h (pow_pos 1074)) (pow_pos 1074) in
    let q : 2 ^ 1024 * D * l * l ≡ 2 ^ 3172 * D =
    ap (λ (k : ℕ). k * l) (mul_right_comm (2 ^ 1024) D l)
    ∙ mul_right_comm (2 ^ 1024 * l) D l
    ∙ ap (λ (k : ℕ). k * D) (ap (λ (k : ℕ). k * l) (sym (pow-add 2 1024 1074)) ∙ sym (pow-add 2 2098 1074)) in
    let r : 2 ^ (i + i) < 2 ^ 3172 = lt_of_mul-lt-mul_right D (lt_of_le_of_lt (le_of_eq (ap (λ (k : ℕ). k * D) (pow-add 2 i i) ∙ sym e)) (lt_of_lt_of_le p (le_of_eq q))) in
    few i (λ (k : 3172 ≤ i + i). not-le_of_lt r (pow_mono k))
  where
    few : (i : ℕ) → (3172 ≤ i + i → ⊥) → i ≤ 1585
    few i h = omega arith

square_exact : (x : Float) (i : ℕ) → T (fits binary64 x) → T (finite x) → T (finite (mul binary64 x x)) → units x ≡ 2 ^ i → 537 ≤ i → units (mul binary64 x x) * 2 ^ 1074 ≡ units x * units x
unfolding mul
square_exact nan i f n q e a = absurd n
square_exact (inf s) i f n q e a = absurd n
square_exact (fin s m d) i f n q e a =
    let x = fin s m d in
    let l = 2 ^ 1074 in
    let N = num x * num x in
    let D = den x * den x in
    let j = i + i - 1074 in
    let r = round binary64 (unlike s s) N D in
    let P : 0 < D = mul-pos (down_pos d) (down_pos d) in
    let v : N * l * l ≡ units x * units x * D =
    mul_assoc N l l ∙ mul-mul-mul_comm (num x) (num x) l l ∙ ap (λ (z : ℕ). z * (num x * l)) (units_are x f) ∙ ap (λ (z : ℕ). units x * den x * z) (units_are x f) ∙ mul-mul-mul_comm (units x) (den x) (units x) (den x) in
    let two : units x * units x ≡ 2 ^ i * 2 ^ i = ap (λ (z : ℕ). z * z) e in
    let b : i ≤ 1585 = exponent_le i N D (v ∙ ap (λ (z : ℕ). z * D) two) (finite_lt (unlike s s) N D P q) in
    let sq : units x * units x ≡ 1 * 2 ^ j * l = two ∙ sym (pow-add 2 i i) ∙ ap (λ (z : ℕ). 2 ^ z) (twofold i a) ∙ pow-add 2 j 1074 ∙ ap (λ (z : ℕ). z * l) (sym (one-mul (2 ^ j))) in
    let w : N * l ≡ 1 * 2 ^ j * D = eq_of_mul-eq-mul_right l (pow_pos 1074) (N * l) (1 * 2 ^ j * D) (v ∙ ap (λ (z : ℕ). z * D) sq ∙ mul_right_comm (1 * 2 ^ j) l D) in
    let h : HasValue r (unlike s s) N D = round_exact binary64 (unlike s s) N D 1 j P (lit< tt) (lt_of_le_of_lt (le_of_eq (one-mul (2 ^ j))) (pow-lt (below_top i b))) w in
    cancel_exact (units r) l (den r) D N (num r) (units x * units x) (den_pos r) P (units_are r (round-fits binary64 (unlike s s) N D)) (value_cross r (unlike s s) N D h) v
  where
    twofold : (i : ℕ) → 537 ≤ i → i + i ≡ i + i - 1074 + 1074
    twofold i h = omega arith

    below_top : (i : ℕ) → i ≤ 1585 → suc (i + i - 1074) ≤ 2098
    below_top i h = omega arith

-- ---- x without its sign
unsigned : Float → Float
unsigned nan = nan
unsigned (inf s) = inf false
unsigned (fin s m e) = fin false m e

unsigned_holds : (x : Float) → T (fits binary64 x) → T (finite x) → Holds (unsigned x)
unfolding unsigned fits
unsigned_holds nan f n = absurd n
unsigned_holds (inf s) f n = absurd n
unsigned_holds (fin s zero e) f n = record { held = f; number = tt; plus = refl }
unsigned_holds (fin s (suc m) e) f n = record { held = f; number = tt; plus = refl }

unsigned_units : (x : Float) → units (unsigned x) ≡ units x
unfolding unsigned
unsigned_units nan = refl
unsigned_units (inf s) = refl
unsigned_units (fin s m (pos k)) = refl
unsigned_units (fin s m (negsuc k)) = refl

-- ---- the rounded square of x is at most s, which is above zero
module _ (x s : Float) (fx : T (fits binary64 x)) (t : Term x s) (fs : T (fits binary64 s)) (ns : T (finite s)) (sign : minus_sign s ≡ false) (above : 0 < units s) where
  near : units (root s) < units x → units s * 2 ^ 1074 * 4 < (units (root s) + units x) * (units (root s) + units x)
  near h =
      let y = unsigned x in
      let u : units y ≡ units x = unsigned_units x in
      rw u at ((nearest s fs ns sign above).above y (unsigned_holds x fx t.is_finite) (rw u h))

  off : gap (units (mul binary64 x x) * 2 ^ 1074) (units x * units x) * 2 ^ 53 ≤ units x * units x + 2 ^ 52 * 2 ^ 1074
  off = mul_error x x fx fx t.is_finite t.is_finite t.square_finite

  -- x is at most twice the root of s in size
  pub le_twice_root : units x ≤ 2 * units (root s)
  le_twice_root = at_most_twice (units x) (units (root s)) (units s) (units (mul binary64 x x)) (2 ^ 1074) off t.at_most above near

  not_below : 2 ^ 590 ≤ units x → units (root s) < units x → ⊥
  not_below h below =
      let L = lead (units x) h in
      let k = L.k in
      let m = units_multiple x k fx L.low in
      let hi : m.0 < 2 ^ 53 = lt_of_mul-lt-mul_right (2 ^ k) (lt_of_le_of_lt (le_of_eq (sym m.1)) (lt_of_lt_of_le L.high (le_of_eq (pow-add 2 53 k)))) in
      let lo : 2 ^ 52 ≤ m.0 = le_of_mul-le-mul_right (le_trans (le_of_eq (sym (pow-add 2 52 k))) (le_trans L.low (le_of_eq m.1))) (pow_pos k) in
      let sq : 2 * 2 ^ 1074 ≤ 2 ^ k * 2 ^ k = le_trans (lit≤ {m = 2 * 2 ^ 1074} {n = 2 ^ 1075} tt) (le_trans (pow_mono (twice k L.large)) (le_of_eq (pow-add 2 k k))) in
      elim (lt_or_ge (2 ^ 52) m.0) [
        | inl l ↦ middle_below (units x) (units (root s)) (units s) (units (mul binary64 x x)) (2 ^ 1074) (2 ^ k) m.0 m.1 l hi sq off t.at_most (step_down (root s) (units x) k m.0 (root_fits s fs) m.1 l below) (near below)
        | inr g ↦
            let e : units x ≡ 2 ^ (52 + k) = m.1 ∙ ap (λ (i : ℕ). i * 2 ^ k) (le_antisymm g lo) ∙ sym (pow-add 2 52 k) in
            exact_below (units x) (units (root s)) (units s) (units (mul binary64 x x)) (2 ^ 1074)
            (square_exact x (52 + k) fx t.is_finite t.square_finite e (enough k L.large)) t.at_most below (near below)
      ]
    where
      twice : (k : ℕ) → 538 ≤ k → 1075 ≤ k + k
      twice k h = omega arith

      enough : (k : ℕ) → 538 ≤ k → 537 ≤ 52 + k
      enough k h = omega arith

  -- where the root is at least 2 ^ -484, x is at most the root of s in size
  pub le_root : 2 ^ 590 ≤ units (root s) → units x ≤ units (root s)
  le_root h = elim (lt_or_ge (units (root s)) (units x)) [
    | inl l ↦ absurd (not_below (le_trans h (le_of_lt l)) l)
    | inr g ↦ g
  ]
