-- From whole numbers to floats: the root of a positive float is r * 2 ^ k units, and what its pattern is.
use Rattle.std.proofs.Common.{◌≡◌, ℕ, zero, suc, ◌+◌, ◌-◌, ◌*◌, ◌/◌, ◌^◌, ◌<◌, ◌≤◌, true, false, T, sym, refl, ap, ◌∙◌, subst, inl, inr, le_trans, le_of_eq, lt_of_lt_of_le, le_of_suc-le-suc, lt_irrefl, mul-le-mul_right, zero-lt-suc, mul-le-mul, le_antisymm, mul-lt-mul_of_pos_right, mul-pos, zero-mul, not-le_of_lt, mul-div_cancel, arith, pow_pos, pow_mono, pow-add, shl_lt}
use native.Mathlib.Nat.{mul-div-mul_right, pow-succ'}
use lib.Ieee.{Float, nan, inf, fin, binary64, up, down, size, round, to_bits, hid}
use lib.Ieee.Digits.{size-lt, size-le}
use lib.Ieee.Fits.{down_pos}
use lib.Ieee.Exact.{HasValue}
use lib.Ieee.Nearest.{closest, closest_same}
use lib.Ieee.Order.{drop, kept}
use lib.Ieee.Scale.{grid, overflow, round_val}
use Rattle.num_root.specs.Work.{Near}
use Rattle.num_root.specs.Root.{twice_root, root_of, root}
use Rattle.num_float.proofs.Tests.{lt_or_ge}
use Rattle.num_root.proofs.WholeRoot.{IsRoot, square_lt, twice_root_round, twice_root_half}

-- the unit, 2 ^ 1074 of which are 1
abbrev pub one : ℕ
one = 2 ^ 1074

-- ---- the root of a positive value of n units
pub root_of_value : (x : Float) (n : ℕ) → 0 < n → HasValue x false n one → root x ≡ round binary64 false (twice_root (n * one)) (2 ^ 1075)
unfolding root root_of
root_of_value nan n p h = absurd h
root_of_value (inf s) n p h = absurd h
root_of_value (fin s zero e) n p h = absurd (lt_irrefl 0 (subst (λ (x : ℕ). 0 < x) (sym h.1 ∙ ap (λ (y : ℕ). y * one) (zero-mul (up e)) ∙ zero-mul one) (mul-pos p (down_pos e))))
root_of_value (fin true (suc m) e) n p h = absurd (subst T h.0 tt)
root_of_value (fin false (suc m) e) n p h =
    ap (λ (x : ℕ). round binary64 false (twice_root (x * one)) (2 ^ 1075)) (ap (λ (y : ℕ). y / down e) h.1 ∙ mul-div_cancel n (down_pos e))

-- ---- how many digits
pub size_is : (x j : ℕ) → 2 ^ j ≤ x → x < 2 ^ suc j → size x ≡ suc j
size_is x j a b = le_antisymm (size-le x (suc j) b) (elim (lt_or_ge j (size x)) [
  | inl l ↦ l
  | inr g ↦ absurd (not-le_of_lt (lt_of_lt_of_le (size-lt x) (pow_mono g)) a)
])

-- ---- the rounding, in units
half_of : (h p q : ℕ) → 0 < p → q ≡ 2 * p → h * p / q ≡ h / 2
half_of h p q P e = ap (λ (x : ℕ). h * p / x) e ∙ mul-div-mul_right h 2 P

cross : (h p q u : ℕ) → q ≡ 2 * p → h * p * (2 * u) ≡ h * (q * u)
cross h p q u e = ap (λ (x : ℕ). h * p * (2 * u)) e ∙ (omega (arith, ap (λ (x : ℕ). h * (x * u)) e))

less : (z k : ℕ) → z ≡ suc (52 + k) → z - 53 ≡ k
less z k e = omega arith

grid_is : (h p q k r : ℕ) → 0 < p → q ≡ 2 * p → size (h / 2) ≡ suc (52 + k) → closest h (2 * 2 ^ k) ≡ r → kept 53 (h * p) q * 2 ^ drop 53 (h * p) q ≡ r * 2 ^ k
grid_is h p q k r P e z c =
    let d : drop 53 (h * p) q ≡ k = less (size (h * p / q)) k (ap size (half_of h p q P e) ∙ z) in
    let Q : 0 < q = omega arith in
    ap (λ (x : ℕ). closest (h * p) (q * 2 ^ x) * 2 ^ x) d
    ∙ ap (λ (x : ℕ). x * 2 ^ k) (closest_same (h * p) (q * 2 ^ k) h (2 * 2 ^ k) (mul-pos Q (pow_pos k)) (mul-pos (zero-lt-suc 1) (pow_pos k)) (cross h p q (2 ^ k) e) ∙ c)

-- ---- the whole root of n * u * u for an n of 105 or 106 digits
root_low : (n u s : ℕ) → 2 ^ 104 ≤ n → IsRoot (n * (u * u)) s → 2 ^ 52 * u ≤ s
root_low n u s a S =
    let b : 2 ^ 104 * (u * u) ≤ n * (u * u) = mul-le-mul_right (u * u) a in
    let l : 2 ^ 52 * u < suc s = square_lt (2 ^ 52 * u) (suc s) (let c = S.above in omega arith) in
    omega arith

root_high : (n u s : ℕ) → 0 < u → n < 2 ^ 106 → IsRoot (n * (u * u)) s → s < 2 ^ 53 * u
root_high n u s U a S =
    let b : n * (u * u) < 2 ^ 106 * (u * u) = mul-lt-mul_of_pos_right a (mul-pos U U) in
    square_lt s (2 ^ 53 * u) (let c = S.below in omega arith)

next : (k : ℕ) → 53 + k ≡ suc (52 + k)
next k = omega arith

root_size : (n k s : ℕ) → 2 ^ 104 ≤ n → n < 2 ^ 106 → IsRoot (n * (2 ^ k * 2 ^ k)) s → size s ≡ suc (52 + k)
root_size n k s a b S =
    size_is s (52 + k) (le_trans (le_of_eq (pow-add 2 52 k)) (root_low n (2 ^ k) s a S))
    (lt_of_lt_of_le (root_high n (2 ^ k) s (pow_pos k) b S) (le_of_eq (sym (pow-add 2 53 k) ∙ ap (λ (x : ℕ). 2 ^ x) (next k))))

-- ---- r has 53 digits
pub near_low : (n r : ℕ) → 2 ^ 104 ≤ n → Near n r → 2 ^ 52 ≤ r
near_low n r a N = elim (lt_or_ge r (2 ^ 52)) [
  | inl l ↦ absurd (let q : r * suc r ≤ (2 ^ 52 - 1) * 2 ^ 52 = mul-le-mul (pred_le r l) l in let b = N.above in omega arith)
  | inr g ↦ g
]
  where
    pred_le : (r : ℕ) → r < 2 ^ 52 → r ≤ 2 ^ 52 - 1
    pred_le r l = omega arith

-- with a bound for a variable, since omega takes no number of more than 38 digits
no_more : (n p b : ℕ) → b ≤ p * suc p → n ≤ b → suc p * suc p < n + suc p → ⊥
no_more n p b h a l = omega arith

pub near_high : (n r : ℕ) → n ≤ (2 ^ 53 - 1) * 2 ^ 53 → Near n r → r < 2 ^ 53
near_high n zero a N = omega arith
near_high n (suc p) a N = elim (lt_or_ge (suc p) (2 ^ 53)) [
  | inl l ↦ l
  | inr g ↦ absurd (no_more n p ((2 ^ 53 - 1) * 2 ^ 53) (mul-le-mul (le_of_suc-le-suc g) g) a N.below)
]

-- ---- the value of the root
evens : (k : ℕ) → 0 < k → (v : ℕ) × (2 ^ k ≡ v * 2)
evens zero p = absurd (lt_irrefl 0 p)
evens (suc k) p = (2 ^ k, omega (arith, pow-succ' 2 k))

pub rounded : (n k r : ℕ) → 2 ^ 104 ≤ n → n ≤ (2 ^ 53 - 1) * 2 ^ 53 → 0 < k → k ≤ 2000 → Near n r
    → HasValue (round binary64 false (twice_root (n * (2 ^ k * 2 ^ k))) (2 ^ 1075)) false (r * 2 ^ k) one
rounded n k r a b p q N =
    let h = twice_root (n * (2 ^ k * 2 ^ k)) in
    let v = evens k p in
    let c : closest h (2 * 2 ^ k) ≡ r = twice_root_round n (2 ^ k) v.0 r v.1 (pow_pos k) N in
    let z : size (h / 2) ≡ suc (52 + k) = root_size n k (h / 2) a (omega arith) (twice_root_half (n * (2 ^ k * 2 ^ k))) in
    let g : grid binary64 h (2 ^ 1075) ≡ r * 2 ^ k = grid_is h one (2 ^ 1075) k r (pow_pos 1074) refl z c in
    let o : r * 2 ^ k < overflow binary64 = lt_of_lt_of_le (shl_lt 53 k (near_high n r b N)) (pow_mono (reach k q)) in
    subst (λ (x : ℕ). HasValue (round binary64 false h (2 ^ 1075)) false x one) g
    (round_val binary64 h (2 ^ 1075) (subst (λ (x : ℕ). x < overflow binary64) (sym g) o))
  where
    reach : (k : ℕ) → k ≤ 2000 → 53 + k ≤ 2098
    reach k q = omega arith

-- ---- its pattern
pub pattern_of_value : (x : Float) (r k : ℕ) → 2 ^ 52 ≤ r → r < 2 ^ 53 → HasValue x false (r * 2 ^ k) one → to_bits binary64 x ≡ k * 2 ^ 52 + r
unfolding to_bits
pattern_of_value nan r k a b h = absurd h
pattern_of_value (inf s) r k a b h = absurd h
pattern_of_value (fin true m e) r k a b h = absurd (subst T h.0 tt)
pattern_of_value (fin false m e) r k a b h =
    let n : m * up e * one / down e ≡ r * 2 ^ k = ap (λ (y : ℕ). y / down e) h.1 ∙ mul-div_cancel (r * 2 ^ k) (down_pos e) in
    let z : size (r * 2 ^ k) - 53 ≡ k = less (size (r * 2 ^ k)) k (size_is (r * 2 ^ k) (52 + k)
    (le_trans (le_of_eq (pow-add 2 52 k)) (mul-le-mul_right (2 ^ k) a))
    (lt_of_lt_of_le (shl_lt 53 k b) (le_of_eq (ap (λ (x : ℕ). 2 ^ x) (next k))))) in
    ap (λ (y : ℕ). 0 + (size y - 53) * hid binary64 + y / 2 ^ (size y - 53)) n
    ∙ ap (λ (j : ℕ). 0 + j * hid binary64 + r * 2 ^ k / 2 ^ j) z
    ∙ ap (λ (j : ℕ). 0 + k * hid binary64 + j) (mul-div_cancel r (pow_pos k))
    ∙ omega arith
