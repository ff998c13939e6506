-- The laws of whole numbers behind `excess`, `bisect` and `certify`.
use Rattle.std.proofs.Common.{◌≡◌, ℕ, zero, suc, ◌+◌, ◌-◌, ◌*◌, ◌/◌, ◌%◌, ◌^◌, ◌<◌, ◌≤◌, Bool, true, false, not, T, ltb, sym, ap, ◌∙◌, inl, inr, le_of_eq, le_of_lt, mod-eq_of_lt, mul-le-mul, le_antisymm, eq-or-lt_of_le, arith, lit≤, ltb→lt, nltb→le}
use mir.Val.{bool_byte}
use lib.Bits.{bit_and, and_mask}
use Rattle.num_float.proofs.Tests.{lt_or_ge}
use Rattle.num_root.specs.Work.{Near, OutOfRange, Excess}

-- a product of two numbers below 2 ^ 27
pub under54 : (a b : ℕ) → a < 2 ^ 27 → b < 2 ^ 27 → a * b ≤ (2 ^ 27 - 1) * (2 ^ 27 - 1)
under54 a b ha hb = mul-le-mul {n₂ = 2 ^ 27 - 1} {m₂ = 2 ^ 27 - 1} (omega arith) (omega arith)

-- c cut into 27 digits and the rest
pub record Cut (c h l : ℕ) : Type 0 where
  pub whole : c ≡ h * 2 ^ 27 + l
  pub high : h < 2 ^ 27
  pub low : l < 2 ^ 27

pub cut : (c : ℕ) → c < 2 ^ 54 → Cut c (c / 2 ^ 27) (bit_and c 134217727)
cut c h = omega (arith, and_mask c 27)

pub square : (c h l : ℕ) → c ≡ h * 2 ^ 27 + l → c * c ≡ h * h * 2 ^ 54 + h * l * 2 ^ 28 + l * l
square c h l e = ap (λ (x : ℕ). x * x) e ∙ omega arith

-- ---- `excess`: a difference d = a - b of u64 is exact, or it wrapped
unwrapped : (d b a : ℕ) → (d + b) % 2 ^ 64 ≡ a → d + b < 2 ^ 64 → d + b ≡ a
unwrapped d b a w h = sym (mod-eq_of_lt h) ∙ w

wrapped : (d b a : ℕ) → (d + b) % 2 ^ 64 ≡ a → d < 2 ^ 64 → a < 2 ^ 63 → 2 ^ 63 ≤ d → a < b
wrapped d b a w D A h = omega arith

-- what an answer out of range says, for a difference whose size decides
out : (n c d r : ℕ) → OutOfRange d r → (d < 2 ^ 63 → c * c + 2 ^ 62 ≤ n) → (2 ^ 63 ≤ d → n < c * c) → Excess n c r
out n c d r o f g = elim (lt_or_ge d (2 ^ 63)) [
  | inl s ↦ let e = o.large s in let q = f s in omega arith
  | inr s ↦ let e = o.wrapped s in let q = g s in omega arith
]

-- its three differences, each out of range or handed to the next
module _ (m c h l d : ℕ) (k : Cut c h l) (M : m < 2 ^ 54) (D : d < 2 ^ 64) (w : (d + h * h * 4) % 2 ^ 64 ≡ m) where
  hh : h * h ≤ (2 ^ 27 - 1) * (2 ^ 27 - 1)
  hh = under54 h h k.high k.high

  hl : h * l ≤ (2 ^ 27 - 1) * (2 ^ 27 - 1)
  hl = under54 h l k.high k.low

  ll : l * l ≤ (2 ^ 27 - 1) * (2 ^ 27 - 1)
  ll = under54 l l k.low k.low

  cc : c * c ≡ h * h * 2 ^ 54 + h * l * 2 ^ 28 + l * l
  cc = square c h l k.whole

  first : d < 2 ^ 63 → d + h * h * 4 ≡ m
  first s = unwrapped d (h * h * 4) m w (omega (arith, hh))

  pub first_out : (r : ℕ) → 2 ^ 31 ≤ d → OutOfRange d r → Excess (m * 2 ^ 52) c r
  first_out r g o =
      out (m * 2 ^ 52) c d r o (λ s. let e = first s in omega (arith, cc, hl, ll))
      (λ s. let e = wrapped d (h * h * 4) m w D (omega arith) s in omega (arith, cc))

  module _ (t : ℕ) (G : d < 2 ^ 31) (E : t < 2 ^ 64) (v : (t + h * l) % 2 ^ 64 ≡ d * 2 ^ 24) where
    second : t < 2 ^ 63 → t + h * l ≡ d * 2 ^ 24
    second s = unwrapped t (h * l) (d * 2 ^ 24) v (omega (arith, hl))

    pub second_out : (r : ℕ) → 2 ^ 35 ≤ t → OutOfRange t r → Excess (m * 2 ^ 52) c r
    second_out r g o =
        let f = first (omega arith) in
        out (m * 2 ^ 52) c t r o (λ s. let e = second s in omega (arith, cc, ll))
        (λ s. let e = wrapped t (h * l) (d * 2 ^ 24) v E (omega arith) s in omega (arith, cc))

    pub third : (e : ℕ) → t < 2 ^ 35 → e < 2 ^ 64 → (e + l * l) % 2 ^ 64 ≡ t * 2 ^ 28 → Excess (m * 2 ^ 52) c e
    third e s b x =
        let f = first (omega arith) in
        let g = second (omega arith) in
        let exact : e ≤ 2 ^ 63 → e + l * l ≡ t * 2 ^ 28 = λ u. unwrapped e (l * l) (t * 2 ^ 28) x (omega (arith, ll)) in
        record {
          exact = λ u. let q = exact (le_of_lt u) in omega (arith, cc);
          far = λ u. absurd (let q = exact (le_of_eq u) in omega arith);
          negative = λ u. let q = wrapped e (l * l) (t * 2 ^ 28) x b (omega arith) (le_of_lt u) in omega (arith, cc);
        }

-- ---- the nearest whole number, from n = c * c + rest
pub near_0 : (n c : ℕ) → 0 < c → c * c ≤ n → n ≤ c * c + c → Near n c
near_0 n c p a b = omega arith

pub near_1 : (n c : ℕ) → c * c + c < n → n ≤ c * c + 3 * c + 2 → Near n (c + 1)
near_1 n c a b = omega arith

pub near_2 : (n c : ℕ) → c * c + 3 * c + 2 < n → n ≤ c * c + 5 * c + 6 → Near n (c + 2)
near_2 n c a b = omega arith

-- ---- `bisect`
pub at_most : (n c e : ℕ) → Excess n c e → e ≤ 2 ^ 63 → c * c ≤ n
at_most n c e x h = elim (lt_or_ge e (2 ^ 63)) [
  | inl l ↦ let q = x.exact l in omega arith
  | inr g ↦ let q = x.far (le_antisymm h g) in omega arith
]

square_below : (n lo hi : ℕ) → n < hi * hi → hi ≤ lo + 1 → n < lo * lo + 2 * lo + 1
square_below n lo hi a b = let s : hi * hi ≤ (lo + 1) * (lo + 1) = mul-le-mul b b in omega arith

-- at the end the excess of lo is known
rest_of : (n lo hi e : ℕ) → Excess n lo e → lo * lo ≤ n → n < hi * hi → hi ≤ lo + 1 → lo < 2 ^ 53 → lo * lo + e ≡ n
rest_of n lo hi e x a b h l =
    let s = square_below n lo hi b h in
    elim (lt_or_ge e (2 ^ 63)) [
      | inl u ↦ x.exact u
      | inr g ↦ elim (eq-or-lt_of_le g) [
        | inl z ↦ absurd (let q = x.far (sym z) in omega arith)
        | inr p ↦ absurd (let q = x.negative p in omega arith)
      ]
    ]

pub ends_up : (n lo hi e : ℕ) → Excess n lo e → lo * lo ≤ n → n < hi * hi → hi ≤ lo + 1 → lo < 2 ^ 53 → lo < e → Near n (lo + 1)
ends_up n lo hi e x a b h l g = let s = square_below n lo hi b h in let r = rest_of n lo hi e x a b h l in near_1 n lo (omega arith) (omega arith)

pub ends_down : (n lo hi e : ℕ) → Excess n lo e → lo * lo ≤ n → n < hi * hi → hi ≤ lo + 1 → lo < 2 ^ 53 → 0 < lo → e ≤ lo → Near n lo
ends_down n lo hi e x a b h l p g = let r = rest_of n lo hi e x a b h l in near_0 n lo p a (omega arith)

-- ---- `certify`
pub bit_le : (b : Bool) → bool_byte b ≤ 1
bit_le true = lit≤ tt
bit_le false = lit≤ tt

-- c is not 0, since its excess is small and n is not
above_none : (n c e : ℕ) → 2 ^ 104 ≤ n → c * c + e ≡ n → e ≤ 5 * c + 6 → 0 < c
above_none n zero e l r h = absurd (omega arith)
above_none n (suc c) e l r h = omega arith

-- the two tests, taken apart
pub certified : (n c e : ℕ) → Excess n c e → 2 ^ 104 ≤ n → c < 2 ^ 53 → e ≤ 5 * c + 6
    → Near n (c + bool_byte (ltb c e) + bool_byte (ltb (3 * c + 2) e))
certified n c e x b l h =
    let r : c * c + e ≡ n = x.exact (omega arith) in
    go (ltb c e) (ltb (3 * c + 2) e) (ltb→lt c e) (nltb→le c e) (ltb→lt (3 * c + 2) e) (nltb→le (3 * c + 2) e) r (above_none n c e b r h)
  where
    go : (u v : Bool) → (T u → c < e) → (T (not u) → e ≤ c) → (T v → 3 * c + 2 < e) → (T (not v) → e ≤ 3 * c + 2) → c * c + e ≡ n → 0 < c
        → Near n (c + bool_byte u + bool_byte v)
    go true true a b f g r p = let w = f tt in omega arith
    go true false a b f g r p = let w = a tt in let y = g tt in omega arith
    go false true a b f g r p = absurd (let w = b tt in let y = f tt in omega arith)
    go false false a b f g r p = let w = b tt in omega arith
