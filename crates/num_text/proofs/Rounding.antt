-- `closest`, the nearest whole number to a fraction, and how shifts find it where the divisor is a power of 2.
use mathlib.Core.Path.{◌≡◌, refl, sym, ap, ◌∙◌, subst}
use Prim.Native.Nat.{ℕ, suc, ◌+◌, ◌-◌, ◌*◌, ◌/◌, ◌%◌, ◌^◌, ◌≤◌, ◌<◌, compare, Ordering}
use native.Mathlib.Nat.{le_trans, le_of_eq, lt_of_not-le, not-le_of_lt, add-zero, add-mul, one-mul, mod-eq_of_lt, mod-lt, mod-one, div-one, div-add-mod', div-eq_of_lt, div-eq_of_lt-le, pow-suc}
use native.Mathlib.Decide.{dec_le}
use native.Mathlib.Numerals.{add-one}
use native.Mathlib.Omega.{arith}
use lib.Dec.{T, is_le, compare_is_eq, leb, eqb, le→leb, leb→le, eqb→eq, eqb_refl, lit<}
use lib.Pow.{pow_pos, pow_mono, pow-lt}
use lib.Ieee.{nearest}
use lib.Ieee.Nearest.{closest}

-- ---- `compare`, from the order
compare_lt : (a b : ℕ) → a < b → compare a b ≡ Ordering.lt
compare_lt a b h = go (compare a b) (le→leb a b (omega arith)) (λ (t : T (eqb a b)). differ (eqb→eq a b t))
  where
    differ : a ≡ b → ⊥
    differ e = omega arith

    go : (o : Ordering) → T (is_le o) → (T (compare_is_eq o) → ⊥) → o ≡ Ordering.lt
    go Ordering.lt h k = refl
    go Ordering.eq h k = absurd (k tt)
    go Ordering.gt h k = absurd h

compare_eq : (a b : ℕ) → a ≡ b → compare a b ≡ Ordering.eq
compare_eq a b e = go (compare a b) (subst (λ (x : ℕ). T (eqb a x)) e (eqb_refl a))
  where
    go : (o : Ordering) → T (compare_is_eq o) → o ≡ Ordering.eq
    go Ordering.lt h = absurd h
    go Ordering.eq h = refl
    go Ordering.gt h = absurd h

compare_gt : (a b : ℕ) → b < a → compare a b ≡ Ordering.gt
compare_gt a b h = go (compare a b) (λ (t : T (leb a b)). not-le_of_lt h (leb→le a b t))
  where
    go : (o : Ordering) → (T (is_le o) → ⊥) → o ≡ Ordering.gt
    go Ordering.lt k = absurd (k tt)
    go Ordering.eq k = absurd (k tt)
    go Ordering.gt k = refl

-- ---- `closest`, by how twice the remainder compares with the divisor
closest_down : (a b : ℕ) → a % b * 2 < b → closest a b ≡ a / b
closest_down a b h = ap (nearest (a / b)) (compare_lt (a % b * 2) b h)

closest_half : (a b : ℕ) → a % b * 2 ≡ b → closest a b ≡ a / b + a / b % 2
closest_half a b h = ap (nearest (a / b)) (compare_eq (a % b * 2) b h)

closest_up : (a b : ℕ) → b < a % b * 2 → closest a b ≡ a / b + 1
closest_up a b h = ap (nearest (a / b)) (compare_gt (a % b * 2) b h) ∙ sym (add-one (a / b))

-- a fraction below a half
pub closest_zero : (a b : ℕ) → a * 2 < b → closest a b ≡ 0
closest_zero a b h =
    let l : a < b = omega arith in
    closest_down a b (subst (λ (r : ℕ). r * 2 < b) (sym (mod-eq_of_lt l)) h) ∙ div-eq_of_lt l

-- a whole number
pub closest_whole : (a : ℕ) → closest a 1 ≡ a
closest_whole a = closest_down a 1 (subst (λ (r : ℕ). r * 2 < 1) (sym (mod-one a)) (lit< tt)) ∙ div-one a

-- ---- `closest` without a branch
next_multiple : (q d m : ℕ) → q * d ≡ m → (q + 1) * d ≡ m + d
next_multiple q d m e = add-mul q 1 d ∙ ap (λ (k : ℕ). k + 1 * d) e ∙ ap (λ (k : ℕ). m + k) (one-mul d)

-- the quotient of a number between two multiples of d, m and the next
between : (q d m n : ℕ) → q * d ≡ m → m ≤ n → n < m + d → n / d ≡ q
between q d m n e a b = div-eq_of_lt-le d (le_trans (le_of_eq e) a) (subst (λ (k : ℕ). n < k) (sym (next_multiple q d m e)) b)

-- Where the divisor is 2 * half: half less one is added, and one more where the quotient is odd, so that an exact half carries to the even number.
module _ (v half d : ℕ) (twice : half * 2 ≡ d) (positive : 0 < half) where
  abbrev sum : ℕ
  sum = v + (half - 1) + v / d % 2

  -- the sum stays below the next multiple of d, or reaches it
  stays : (m : ℕ) → v / d * d ≡ m → m ≤ sum → sum < m + d → sum / d ≡ v / d
  stays m e a b = between (v / d) d m sum e a b

  carries : (m : ℕ) → v / d * d ≡ m → m + d ≤ sum → sum < m + d + d → sum / d ≡ v / d + 1
  carries m e a b = between (v / d + 1) d (m + d) sum (next_multiple (v / d) d m e) a b

  pub add_half : sum / d ≡ closest v d
  add_half = go (v / d * d) (v % d) refl refl (div-add-mod' v d) (mod-lt v (omega arith)) (dec_le d (v % d * 2)) (dec_le (v % d * 2) d) (dec_le (v / d % 2) 0)
    where
      go : (m r : ℕ) → v / d * d ≡ m → v % d ≡ r → m + r ≡ v → r < d → Dec (d ≤ r * 2) → Dec (r * 2 ≤ d) → Dec (v / d % 2 ≤ 0) → sum / d ≡ closest v d
      go m r e f split rest (no a) b c =
          let h : r * 2 < d = lt_of_not-le a in
          stays m e (omega arith) (omega arith) ∙ sym (closest_down v d (subst (λ (k : ℕ). k * 2 < d) (sym f) h))
      go m r e f split rest (yes a) (no b) c =
          let h : d < r * 2 = lt_of_not-le b in
          carries m e (omega arith) (omega arith) ∙ sym (closest_up v d (subst (λ (k : ℕ). d < k * 2) (sym f) h))
      go m r e f split rest (yes a) (yes b) (yes c) =
          let h : r * 2 ≡ d = omega arith in
          let even : v / d % 2 ≡ 0 = omega arith in
          stays m e (omega arith) (omega arith) ∙ sym (closest_half v d (subst (λ (k : ℕ). k * 2 ≡ d) (sym f) h) ∙ ap (λ (k : ℕ). v / d + k) even ∙ add-zero (v / d))
      go m r e f split rest (yes a) (yes b) (no c) =
          let h : r * 2 ≡ d = omega arith in
          let odd : v / d % 2 ≡ 1 = omega arith in
          carries m e (omega arith) (omega arith) ∙ sym (closest_half v d (subst (λ (k : ℕ). k * 2 ≡ d) (sym f) h) ∙ ap (λ (k : ℕ). v / d + k) odd)

-- ---- v / 2 ^ s by shifts of 64 bits
module _ (v s : ℕ) (small : v < 2 ^ 63) (positive : 0 < s) (few : s < 64) where
  abbrev half : ℕ
  half = 1 * 2 ^ (s - 1) % 2 ^ 64

  half_is : half ≡ 2 ^ (s - 1)
  half_is =
      let less : s - 1 < 64 = omega arith in
      ap (λ (k : ℕ). k % 2 ^ 64) (one-mul (2 ^ (s - 1))) ∙ mod-eq_of_lt (pow-lt less)

  twice_half : half * 2 ≡ 2 ^ s
  twice_half =
      let more : suc (s - 1) ≡ s = omega arith in
      ap (λ (k : ℕ). k * 2) half_is ∙ sym (pow-suc 2 (s - 1)) ∙ ap (λ (k : ℕ). 2 ^ k) more

  pub half_pos : 0 < half
  half_pos = subst (λ (k : ℕ). 0 < k) (sym half_is) (pow_pos (s - 1))

  -- s is at most 63
  pub half_le : half ≤ 2 ^ 62
  half_le =
      let exponent : s - 1 ≤ 62 = omega arith in
      le_trans (le_of_eq half_is) (pow_mono exponent)

  pub nearest_shift : (v + (half - 1) + v / 2 ^ s % 2) / 2 ^ s ≡ closest v (2 ^ s)
  nearest_shift = add_half v half (2 ^ s) twice_half half_pos
