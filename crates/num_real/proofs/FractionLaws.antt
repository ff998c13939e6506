-- Laws of `round_half_up` and `ceil_div`: a fraction to a whole number, by halves and up. Nothing here is about floats.
use mathlib.Core.Path.{◌≡◌, sym, ap, ◌∙◌}
use Prim.Native.Nat.{ℕ, suc, ◌+◌, ◌-◌, ◌*◌, ◌/◌, ◌≤◌, ◌<◌}
use native.Mathlib.Nat.{le_refl, le_trans, le_of_eq, le_antisymm, le_of_suc-le-suc, suc-mul, lt-div-mul-add, mul_comm, mul_assoc, mul_right_comm, one-mul, add-mul, mul-pos, mul-le-mul_right, le_of_mul-le-mul_right, mul-div-mul_right, le-div_iff_mul-le, div-lt_iff_lt-mul}
use native.Mathlib.Omega.{arith}
use lib.Dec.{lit<}
use lib.Ieee.Nearest.{div_mono}
use Rattle.num_real.specs.Rounding.{round_half_up, ceil_div}

-- ---- to the nearest, an exact half up

-- a whole number stays
pub round_whole : (n d : ℕ) → 0 < d → round_half_up (n * d) d ≡ n
unfolding round_half_up
round_whole n d D = ap (λ (k : ℕ). k / (2 * d)) sum ∙ mul-div-mul_right (2 * n + 1) 2 D ∙ omega arith
  where
    sum : 2 * (n * d) + d ≡ (2 * n + 1) * d
    sum =
        ap (λ (k : ℕ). k + d) (sym (mul_assoc 2 n d)) ∙ ap (λ (k : ℕ). 2 * n * d + k) (sym (one-mul d)) ∙ sym (add-mul (2 * n) 1 d)

-- n / d is a / (2 * h): rounding by a shift adds half of the divisor
pub round_by_half : (n d a h : ℕ) → 0 < d → 0 < h → n * (2 * h) ≡ a * d → round_half_up n d ≡ (a + h) / (2 * h)
unfolding round_half_up
round_by_half n d a h D H e =
    sym (mul-div-mul_right (2 * n + d) (2 * d) H)
    ∙ ap (λ (k : ℕ). k / (2 * d * h)) above
    ∙ ap (λ (k : ℕ). (a + h) * d / k) (mul_right_comm 2 d h)
    ∙ mul-div-mul_right (a + h) (2 * h) D
  where
    above : (2 * n + d) * h ≡ (a + h) * d
    above =
        add-mul (2 * n) d h
        ∙ ap (λ (k : ℕ). k + d * h) (ap (λ (k : ℕ). k * h) (mul_comm 2 n) ∙ mul_assoc n 2 h ∙ e)
        ∙ ap (λ (k : ℕ). a * d + k) (mul_comm d h)
        ∙ sym (add-mul a h d)

round_mono : (n m d : ℕ) → 0 < d → n ≤ m → round_half_up n d ≤ round_half_up m d
unfolding round_half_up
round_mono n m d D h = div_mono (2 * n + d) (2 * d) (2 * m + d) (2 * d) (mul-pos (lit< tt) D) (mul-pos (lit< tt) D) (mul-le-mul_right (2 * d) (grow n m d h))
  where
    grow : (n m d : ℕ) → n ≤ m → 2 * n + d ≤ 2 * m + d
    grow n m d h = omega arith

-- what is at most, or at least, a whole number is so when rounded
pub round_at_most : (n d b : ℕ) → 0 < d → n ≤ b * d → round_half_up n d ≤ b
round_at_most n d b D h = le_trans (round_mono n (b * d) d D h) (le_of_eq (round_whole b d D))

pub round_at_least : (n d b : ℕ) → 0 < d → b * d ≤ n → b ≤ round_half_up n d
round_at_least n d b D h = le_trans (le_of_eq (sym (round_whole b d D))) (round_mono (b * d) n d D h)

-- the result r is the nearest: r - 1/2 ≤ n / d < r + 1/2
pub round_nearest : (n d : ℕ) → 0 < d → (round_half_up n d * (2 * d) ≤ 2 * n + d) × (2 * n + d < suc (round_half_up n d) * (2 * d))
unfolding round_half_up
round_nearest n d D =
    let P : 0 < 2 * d = mul-pos (lit< tt) D in
    let r = (2 * n + d) / (2 * d) in
    ((le-div_iff_mul-le P).0 (le_refl r), (div-lt_iff_lt-mul P).0 (le_refl (suc r)))

-- ---- up: the least whole number that is not below n / d
pub ceil_at_most : (n d b : ℕ) → 0 < d → n ≤ b * d → ceil_div n d ≤ b
unfolding ceil_div
ceil_at_most n d b D h =
    let e : suc b * d ≡ b * d + d = suc-mul b d in
    le_of_suc-le-suc ((div-lt_iff_lt-mul D).1 (omega arith))

pub ceil_not_below : (n d : ℕ) → 0 < d → n ≤ ceil_div n d * d
unfolding ceil_div
ceil_not_below n d D =
    let q = (n + d - 1) / d in
    let l : n + d - 1 < q * d + d = lt-div-mul-add D in
    omega arith

-- equal fractions
pub ceil_same : (n d a h : ℕ) → 0 < d → 0 < h → n * h ≡ a * d → ceil_div n d ≡ ceil_div a h
ceil_same n d a h D H e = le_antisymm (half n d a h D H e) (half a h n d H D (sym e))
  where
    half : (n d a h : ℕ) → 0 < d → 0 < h → n * h ≡ a * d → ceil_div n d ≤ ceil_div a h
    half n d a h D H e =
        let k = ceil_div a h in
        ceil_at_most n d k D
        (le_of_mul-le-mul_right
        (le_trans (le_of_eq e) (le_trans (mul-le-mul_right d (ceil_not_below a h H)) (le_of_eq (mul_right_comm k h d))))
        H)

pub ceil_whole : (n d : ℕ) → 0 < d → ceil_div (n * d) d ≡ n
ceil_whole n d D = le_antisymm (ceil_at_most (n * d) d n D (le_refl (n * d))) (le_of_mul-le-mul_right (ceil_not_below (n * d) d D) D)

-- n / d is a / h: rounding up by a shift adds one less than the divisor
pub ceil_by_less : (n d a h : ℕ) → 0 < d → 0 < h → n * h ≡ a * d → ceil_div n d ≡ (a + (h - 1)) / h
unfolding ceil_div
ceil_by_less n d a h D H e =
    let s : a + h - 1 ≡ a + (h - 1) = omega arith in
    ceil_same n d a h D H e ∙ ap (λ (k : ℕ). k / h) s
