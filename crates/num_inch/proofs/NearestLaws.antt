-- The nearest whole number in words: one number is such, and `closest` is.
use mathlib.Core.Path.{◌≡◌, sym, subst}
use mathlib.Core.Bool.{not}
use Prim.Native.Nat.{ℕ, suc, ◌+◌, ◌*◌, ◌/◌, ◌%◌, ◌≤◌, ◌<◌, compare, Ordering}
use native.Mathlib.Nat.{mod-lt, div-add-mod', le_of_mul-le-mul_right, lt_of_not-le, le_antisymm}
use native.Mathlib.Decide.{dec_le}
use native.Mathlib.Omega.{arith}
use lib.Dec.{T, is_le, compare_is_eq, eqb, leb→le, nleb→lt, eqb→eq, eqb_refl}
use lib.Ieee.{nearest}
use lib.Ieee.Nearest.{closest}
use Rattle.num_inch.specs.Nearest.{NearestEven}

-- ---- one number is the nearest
module _ (a b : ℕ) (B : 0 < b) where
  -- of two, the greater would be the next, a half from both, and so both even
  not_less : (n m : ℕ) → NearestEven a b n → NearestEven a b m → n < m → ⊥
  not_less n m p q h =
      let close : m * b ≤ (n + 1) * b = omega (arith, p.not_below, q.not_above) in
      let next : m ≤ n + 1 = le_of_mul-le-mul_right close B in
      let is : m ≡ n + 1 = omega arith in
      let product : m * b ≡ n * b + b = subst (λ (k : ℕ). k * b ≡ n * b + b) (sym is) (omega arith) in
      let even-n : n % 2 ≡ 0 = p.half_above (omega (arith, p.not_below, q.not_above)) in
      let even-m : m % 2 ≡ 0 = q.half_below (omega (arith, p.not_below, q.not_above)) in
      omega arith

  pub nearest_unique : (n m : ℕ) → NearestEven a b n → NearestEven a b m → n ≡ m
  nearest_unique n m p q = go (dec_le n m) (dec_le m n)
    where
      go : Dec (n ≤ m) → Dec (m ≤ n) → n ≡ m
      go (yes h) (yes k) = le_antisymm h k
      go (no h) k = absurd (not_less m n q p (lt_of_not-le h))
      go (yes h) (no k) = absurd (not_less n m p q (lt_of_not-le k))

-- ---- a is w b + r: the nearest number by how twice r compares with b
module _ (a b w r : ℕ) (split : w * b + r ≡ a) (B : 0 < b) where
  lower : r * 2 < b → NearestEven a b w
  lower h = record { not_below = omega arith; not_above = omega arith; half_above = λ e. omega arith; half_below = λ e. omega arith }

  upper : b < r * 2 → r < b → NearestEven a b (suc w)
  upper h l = record { not_below = omega arith; not_above = omega arith; half_above = λ e. omega arith; half_below = λ e. omega arith }

  half_even : r * 2 ≡ b → w % 2 ≡ 0 → NearestEven a b w
  half_even h even = record { not_below = omega arith; not_above = omega arith; half_above = λ e. even; half_below = λ e. even }

  half_odd : r * 2 ≡ b → w % 2 ≡ 1 → NearestEven a b (w + 1)
  half_odd h odd = record { not_below = omega arith; not_above = omega arith; half_above = λ e. omega arith; half_below = λ e. omega arith }

  half : r * 2 ≡ b → NearestEven a b (w + w % 2)
  half h = go (dec_le (w % 2) 0)
    where
      go : Dec (w % 2 ≤ 0) → NearestEven a b (w + w % 2)
      go (yes e) =
          let even : w % 2 ≡ 0 = omega arith in
          let same : w ≡ w + w % 2 = omega arith in
          subst (NearestEven a b) same (half_even h even)
      go (no e) =
          let odd : w % 2 ≡ 1 = omega arith in
          subst (λ (k : ℕ). NearestEven a b (w + k)) (sym odd) (half_odd h odd)

-- ---- `closest` is that number
pub closest_nearest : (a b : ℕ) → 0 < b → NearestEven a b (closest a b)
closest_nearest a b B =
    go (compare (a % b * 2) b) (leb→le (a % b * 2) b) (nleb→lt (a % b * 2) b) (eqb→eq (a % b * 2) b) (λ (e : a % b * 2 ≡ b). subst (λ (k : ℕ). T (eqb (a % b * 2) k)) e (eqb_refl (a % b * 2)))
  where
    go : (o : Ordering) → (T (is_le o) → a % b * 2 ≤ b) → (T (not (is_le o)) → b < a % b * 2) → (T (compare_is_eq o) → a % b * 2 ≡ b) → (a % b * 2 ≡ b → T (compare_is_eq o))
        → NearestEven a b (nearest (a / b) o)
    go Ordering.lt h k e n = lower a b (a / b) (a % b) (div-add-mod' a b) B (strict (a % b * 2) (h tt) n)
      where
        strict : (c : ℕ) → c ≤ b → (c ≡ b → ⊥) → c < b
        strict c h n = omega arith
    go Ordering.eq h k e n = half a b (a / b) (a % b) (div-add-mod' a b) B (e tt)
    go Ordering.gt h k e n = upper a b (a / b) (a % b) (div-add-mod' a b) B (k tt) (mod-lt a B)

pub is_closest : (a b n : ℕ) → 0 < b → NearestEven a b n → n ≡ closest a b
is_closest a b n B h = nearest_unique a b B n (closest a b) h (closest_nearest a b B)
