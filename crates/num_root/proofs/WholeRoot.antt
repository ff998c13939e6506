-- `whole_root` is the whole square root, and how twice the root, cut, rounds. Whole numbers only.
use Rattle.std.proofs.Common.{◌≡◌, ℕ, zero, suc, ◌+◌, ◌-◌, ◌*◌, ◌/◌, ◌%◌, ◌^◌, ◌<◌, ◌≤◌, Bool, true, false, cond, not, T, eqb, leb, sym, refl, ap, ◌∙◌, subst, inl, inr, le_trans, lt_of_lt_of_le, mul-le-mul_right, mod-lt, mul-le-mul, le_antisymm, mul-pos, div-add-mod', arith, eqb→eq, leb→le}
use Prim.Native.Nat.{compare, Ordering}
use native.Mathlib.Nat.{pow-succ'}
use lib.Dec.{nleb→lt, eqb_refl, is_le, compare_is_eq}
use lib.Arith.{lt_of_le-ne}
use lib.Ieee.{size, nearest}
use lib.Ieee.Digits.{size-lt}
use lib.Ieee.Nearest.{closest}
use Rattle.num_root.specs.Work.{Near}
use Rattle.num_root.specs.Root.{next_digit, whole_root, twice_root}
use Rattle.num_float.proofs.Tests.{lt_or_ge}

-- s is the whole root of n
pub record IsRoot (n s : ℕ) : Type 0 where
  pub below : s * s ≤ n
  pub above : n < suc s * suc s

next_digit_is : (n s : ℕ) → IsRoot (n / 4) s → IsRoot n (next_digit n (s * 2))
unfolding next_digit
next_digit_is n s h = go (leb (suc (s * 2) * suc (s * 2)) n) (leb→le (suc (s * 2) * suc (s * 2)) n) (nleb→lt (suc (s * 2) * suc (s * 2)) n)
  where
    go : (b : Bool) → (T b → suc (s * 2) * suc (s * 2) ≤ n) → (T (not b) → n < suc (s * 2) * suc (s * 2)) → IsRoot n (cond b (suc (s * 2)) (s * 2))
    go true u v = let w = u tt in omega arith
    go false u v = let w = v tt in omega arith

root_is : (k n : ℕ) → n < 4 ^ k → IsRoot n (whole_root k n)
unfolding whole_root
root_is zero n h = omega arith
root_is (suc k) n h = next_digit_is n (whole_root k (n / 4)) (root_is k (n / 4) (let e = pow-succ' 4 k in omega arith))

two_four : (k : ℕ) → 2 ^ k ≤ 4 ^ k
two_four zero = omega arith
two_four (suc k) = let h = two_four k in let a = pow-succ' 2 k in let b = pow-succ' 4 k in omega arith

pub whole_root_lem : (n : ℕ) → IsRoot n (whole_root (size n) n)
whole_root_lem n = root_is (size n) n (lt_of_lt_of_le (size-lt n) (two_four (size n)))

-- ---- squares keep the order
pub square_lt : (a b : ℕ) → a * a < b * b → a < b
square_lt a b h = elim (lt_or_ge a b) [
  | inl l ↦ l
  | inr g ↦ absurd (let q : b * b ≤ a * a = mul-le-mul g g in omega arith)
]

-- ---- what `compare` says
abbrev Cmp : Ordering → ℕ → ℕ → Type 0
Cmp Ordering.lt a b = a < b
Cmp Ordering.eq a b = a ≡ b
Cmp Ordering.gt a b = b < a

cmp : (a b : ℕ) → Cmp (compare a b) a b
cmp a b = go (compare a b) (leb→le a b) (nleb→lt a b) (eqb→eq a b) (λ (e : a ≡ b). subst (λ (x : ℕ). T (eqb a x)) e (eqb_refl a))
  where
    go : (o : Ordering) → (T (is_le o) → a ≤ b) → (T (not (is_le o)) → b < a) → (T (compare_is_eq o) → a ≡ b) → (a ≡ b → T (compare_is_eq o)) → Cmp o a b
    go Ordering.lt h k e n = lt_of_le-ne (h tt) n
    go Ordering.eq h k e n = e tt
    go Ordering.gt h k e n = k tt

-- ---- h / 2u rounds to r where it lies less than a half from r
same_from : (w r u h : ℕ) → w * u * 2 ≤ h + u → h ≤ w * u * 2 + u → r * u * 2 < h + u → h < r * u * 2 + u → w ≡ r
same_from w r u h a b c d = elim (lt_or_ge w r) [
  | inl l ↦ absurd (let q : suc w * u ≤ r * u = mul-le-mul_right u l in omega arith)
  | inr g ↦ elim (lt_or_ge r w) [
    | inl l ↦ absurd (let q : suc r * u ≤ w * u = mul-le-mul_right u l in omega arith)
    | inr f ↦ le_antisymm f g
  ]
]

rounds : (w t r u h : ℕ) (o : Ordering) → w * (2 * u) + t ≡ h → t < 2 * u → Cmp o (t * 2) (2 * u) → r * u * 2 < h + u → h < r * u * 2 + u → nearest w o ≡ r
rounds w t r u h Ordering.lt e l k c d = same_from w r u h (omega arith) (omega arith) c d
rounds w t r u h Ordering.eq e l k c d =
    let x : w ≡ r = same_from w r u h (omega arith) (omega arith) c d in
    let y : suc w ≡ r = same_from (suc w) r u h (omega arith) (omega arith) c d in
    absurd (omega arith)
rounds w t r u h Ordering.gt e l k c d = same_from (suc w) r u h (omega arith) (omega arith) c d

pub closest_is : (h u r : ℕ) → 0 < u → r * u * 2 < h + u → h < r * u * 2 + u → closest h (2 * u) ≡ r
closest_is h u r p c d =
    rounds (h / (2 * u)) (h % (2 * u)) r u h (compare (h % (2 * u) * 2) (2 * u)) (div-add-mod' h (2 * u)) (mod-lt h (omega arith)) (cmp (h % (2 * u) * 2) (2 * u)) c d

-- ---- twice the root of a = n * u * u, cut to a whole number, with the odd one between: nearer to 2 * r * u than u, for the r nearest n's root
near_pos : (n r : ℕ) → Near n r → 0 < r
near_pos n zero h = absurd (omega (arith, h.below, h.above))
near_pos n (suc r) h = omega arith

module _ (n u r a : ℕ) (A : a ≡ n * (u * u)) (U : 0 < u) (N : Near n r) where
  pub x_below : (x : ℕ) → x + u ≡ r * u * 2 → x * x < a * 4
  x_below x e =
      let b : suc (r * r) * (u * u) ≤ (n + r) * (u * u) = mul-le-mul_right (u * u) N.below in
      let z : 0 < u * u = mul-pos U U in
      omega (arith, ap (λ (z : ℕ). z * z) e, ap (λ (z : ℕ). z * u) e)

  pub y_above : a * 4 < (r * u * 2 + u) * (r * u * 2 + u)
  y_above =
      let b : n * (u * u) ≤ (r * r + r) * (u * u) = mul-le-mul_right (u * u) N.above in
      let z : 0 < u * u = mul-pos U U in
      omega arith

module _ (n u v r a s : ℕ) (A : a ≡ n * (u * u)) (W : u ≡ v * 2) (U : 0 < u) (N : Near n r) (S : IsRoot a s) where
  -- (2r - 1)u is an even number x, and so is (2r + 1)u
  even_x : (x : ℕ) → x + u ≡ r * u * 2 → (w : ℕ) × (x ≡ w * 2)
  even_x x e = (r * u - v, omega arith)

  x_under : (x : ℕ) → x + u ≡ r * u * 2 → x ≤ s * 2
  x_under x e =
      let l : x < s * 2 + 2 = square_lt x (s * 2 + 2) (let b = x_below n u r a A U N x e in let c = S.above in omega arith) in
      let w = even_x x e in
      omega arith

  y_over : s * 2 + 2 ≤ r * u * 2 + u
  y_over =
      let l : s * 2 < r * u * 2 + u = square_lt (s * 2) (r * u * 2 + u) (let b = y_above n u r a A U N in let c = S.below in omega arith) in
      omega arith

  pub half_below : (b : Bool) → (T b → s * s ≡ a) → r * u * 2 < s * 2 + cond b 0 1 + u
  half_below b k =
      let R = near_pos n r N in
      let l : u ≤ r * u = le_trans (omega arith) (mul-le-mul_right u R) in
      let x = r * u * 2 - u in
      let e : x + u ≡ r * u * 2 = omega arith in
      go b k x e
    where
      go : (b : Bool) → (T b → s * s ≡ a) → (x : ℕ) → x + u ≡ r * u * 2 → r * u * 2 < s * 2 + cond b 0 1 + u
      go true k x e = let q = k tt in let l : x < s * 2 = square_lt x (s * 2) (let b = x_below n u r a A U N x e in omega arith) in omega arith
      go false k x e = let l = x_under x e in omega arith

  pub half_above : (b : Bool) → s * 2 + cond b 0 1 < r * u * 2 + u
  half_above true = let l = y_over in omega arith
  half_above false = let l = y_over in omega arith

-- so it rounds to r
twice_root_is : (a : ℕ) → twice_root a ≡ whole_root (size a) a * 2 + cond (eqb (whole_root (size a) a * whole_root (size a) a) a) 0 1
unfolding twice_root
twice_root_is a = refl

pub twice_root_round : (n u v r : ℕ) → u ≡ v * 2 → 0 < u → Near n r → closest (twice_root (n * (u * u))) (2 * u) ≡ r
twice_root_round n u v r W U N =
    let a = n * (u * u) in
    let s = whole_root (size a) a in
    let b = eqb (s * s) a in
    rw (twice_root_is a)
    (closest_is (s * 2 + cond b 0 1) u r U (half_below n u v r a s refl W U N (whole_root_lem a) b (eqb→eq (s * s) a)) (half_above n u v r a s refl W U N (whole_root_lem a) b))

-- its half, cut, is the whole root
cut_half : (s : ℕ) (b : Bool) → (s * 2 + cond b 0 1) / 2 ≡ s
cut_half s true = omega arith
cut_half s false = omega arith

pub twice_root_half : (a : ℕ) → IsRoot a (twice_root a / 2)
twice_root_half a =
    let s = whole_root (size a) a in
    subst (λ (x : ℕ). IsRoot a x) (sym (ap (λ (x : ℕ). x / 2) (twice_root_is a) ∙ cut_half s (eqb (s * s) a))) (whole_root_lem a)
