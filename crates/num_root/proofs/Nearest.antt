-- `root` is the f64 nearest the exact root, and the only one: the law from `root` to `SquareRoot`, and the law back.
use Rattle.std.proofs.Common.{◌≡◌, ℕ, zero, suc, ◌+◌, ◌-◌, ◌*◌, ◌/◌, ◌^◌, ◌<◌, ◌≤◌, true, false, T, sym, refl, ap, ◌∙◌, subst, inl, inr, le_trans, le_of_eq, lt_of_lt_of_le, lt_of_le_of_lt, le_of_lt, mul-le-mul_right, mul-le-mul, le_antisymm, lt_of_mul-lt-mul_right, arith, pow_pos, pow-add}
use lib.Ieee.{Float, nan, inf, fin, binary64, size, fits, round}
use lib.Ieee.Exact.{HasValue}
use lib.Bits.{bit_and}
use Rattle.num_root.proofs.Signs.{root_fits}
use Rattle.num_root.specs.Work.{Near}
use Rattle.num_root.specs.Root.{twice_root, root, whole_root}
use Rattle.num_root.specs.Nearest.{Holds, Nearest, SquareRoot}
use Rattle.num_float.specs.Units.{units}
use Rattle.num_float.proofs.Units.{units_multiple, units_unique}
use Rattle.num_float.proofs.Tests.{lt_or_ge}
use Rattle.num_root.proofs.WholeRoot.{IsRoot, whole_root_lem, x_below, y_above}
use Rattle.num_root.proofs.Rounded.{one, near_low, rounded, root_of_value}
use Rattle.num_root.proofs.Units.{digits53, units_value, value_holds, value_units, above_zero, some_units}
use Rattle.num_root.proofs.Exponent.{scaled, power, parity, low_n, high_n}

pub square_mono : (a b : ℕ) → a < b → a * a < b * b
square_mono a b h = let q : suc a * suc a ≤ b * b = mul-le-mul h h in omega arith

-- ---- whole numbers: the middle of r * u and y
module _ (n u r a : ℕ) (A : a ≡ n * (u * u)) (U : 0 < u) (N : Near n r) where
  middle_above : (w : ℕ) → r * u < w * u → a * 4 < (r * u + w * u) * (r * u + w * u)
  middle_above w h =
      let l : r < w = lt_of_mul-lt-mul_right u h in
      let m : suc r * u ≤ w * u = mul-le-mul_right u l in
      let s : r * u * 2 + u ≤ r * u + w * u = omega arith in
      lt_of_lt_of_le (y_above n u r a A U N) (mul-le-mul s s)

  under : (y : ℕ) → y + u ≤ r * u → (r * u + y) * (r * u + y) < a * 4
  under y h =
      let x = r * u * 2 - u in
      let e : x + u ≡ r * u * 2 = omega arith in
      let s : r * u + y ≤ x = omega arith in
      lt_of_le_of_lt (mul-le-mul s s) (x_below n u r a A U N x e)

  middle_below : (w : ℕ) → w * u < r * u → (r * u + w * u) * (r * u + w * u) < a * 4
  middle_below w h =
      let l : w < r = lt_of_mul-lt-mul_right u h in
      let m : suc w * u ≤ r * u = mul-le-mul_right u l in
      under (w * u) (omega arith)

  -- a y on the finer grid below 2 ^ 52 * u
  finer : (y : ℕ) → 2 ^ 104 ≤ n → 2 ^ 52 ≤ r → y < 2 ^ 52 * u → (r * u + y) * (r * u + y) < a * 4
  finer y low R h = elim (lt_or_ge (2 ^ 52) r) [
    | inl l ↦ let m : suc (2 ^ 52) * u ≤ r * u = mul-le-mul_right u l in under y (omega arith)
    | inr g ↦ at_power g
  ]
    where
      at_power : r ≤ 2 ^ 52 → (r * u + y) * (r * u + y) < a * 4
      at_power g =
          let m : r * u ≤ 2 ^ 52 * u = mul-le-mul_right u g in
          let s : r * u + y < 2 ^ 53 * u = omega arith in
          let q : 2 ^ 104 * (u * u) ≤ n * (u * u) = mul-le-mul_right (u * u) low in
          let t = square_mono (r * u + y) (2 ^ 53 * u) s in
          omega arith

-- ---- the nearest whole number is there
near_exists : (n : ℕ) → 0 < n → (r : ℕ) × Near n r
near_exists n p =
    let s = whole_root (size n) n in
    let w = whole_root_lem n in
    elim (lt_or_ge (s * s + s) n) [
      | inl l ↦ (suc s, up_one n s w l)
      | inr g ↦ (s, stay n s p w g)
    ]
  where
    up_one : (n s : ℕ) → IsRoot n s → s * s + s < n → Near n (suc s)
    up_one n s w l = let a = w.above in omega arith

    stay : (n s : ℕ) → 0 < n → IsRoot n s → n ≤ s * s + s → Near n s
    stay n zero p w g = absurd (omega arith)
    stay n (suc s) p w g = let b = w.below in omega arith

-- ---- a root of r * 2 ^ k units is nearest
module _ (x : Float) (k r N : ℕ) (A : units x * one ≡ N * (2 ^ k * 2 ^ k)) (E : Near N r) (lo : 2 ^ 104 ≤ N) (R : 2 ^ 52 ≤ r)
    (v : units (root x) ≡ r * 2 ^ k) (H : Holds (root x)) where
  least : 2 ^ (52 + k) ≤ r * 2 ^ k
  least = le_trans (le_of_eq (pow-add 2 52 k)) (mul-le-mul_right (2 ^ k) R)

  beside : (y : Float) → T (fits binary64 y) → r * 2 ^ k < units y → units x * one * 4 < (r * 2 ^ k + units y) * (r * 2 ^ k + units y)
  beside y f l =
      let m = units_multiple y k f (le_trans least (le_of_lt l)) in
      subst (λ (j : ℕ). units x * one * 4 < (r * 2 ^ k + j) * (r * 2 ^ k + j)) (sym m.1)
      (middle_above N (2 ^ k) r (units x * one) A (pow_pos k) E m.0 (subst (λ (j : ℕ). r * 2 ^ k < j) m.1 l))

  beneath : (y : Float) → T (fits binary64 y) → units y < r * 2 ^ k → (r * 2 ^ k + units y) * (r * 2 ^ k + units y) < units x * one * 4
  beneath y f l = elim (lt_or_ge (units y) (2 ^ 52 * 2 ^ k)) [
    | inl h ↦ finer N (2 ^ k) r (units x * one) A (pow_pos k) E (units y) lo R h
    | inr g ↦ on_grid (units_multiple y k f (le_trans (le_of_eq (pow-add 2 52 k)) g))
  ]
    where
      on_grid : ((w : ℕ) × (units y ≡ w * 2 ^ k)) → (r * 2 ^ k + units y) * (r * 2 ^ k + units y) < units x * one * 4
      on_grid m =
          subst (λ (j : ℕ). (r * 2 ^ k + j) * (r * 2 ^ k + j) < units x * one * 4) (sym m.1)
          (middle_below N (2 ^ k) r (units x * one) A (pow_pos k) E m.0 (subst (λ (j : ℕ). j < r * 2 ^ k) m.1 l))

  conclude : Nearest x (root x)
  conclude = record {
    is = H;
    above = λ y Y l.
        subst (λ (i : ℕ). units x * one * 4 < (i + units y) * (i + units y)) (sym v)
        (beside y Y.held (subst (λ (i : ℕ). i < units y) v l));
    below = λ y Y l.
        subst (λ (i : ℕ). (i + units y) * (i + units y) < units x * one * 4) (sym v)
        (beneath y Y.held (subst (λ (i : ℕ). units y < i) v l));
  }

-- ---- the theorem
pub root_nearest : (x : Float) → Holds x → 0 < units x → Nearest x (root x)
root_nearest x h p =
    let n = units x in
    let c = digits53 x h p in
    let o = bit_and c.e 1 in
    let k = (c.e - 52) / 2 in
    let u = 2 ^ k in
    let s = scaled c.q o c.low c.high (omega (arith, parity c.e)) in
    let N = c.q * 2 ^ o * 2 ^ 52 in
    let lo : 2 ^ 104 ≤ N = low_n (c.q * 2 ^ o) s.least in
    let hi : N ≤ (2 ^ 53 - 1) * 2 ^ 53 = high_n (c.q * 2 ^ o) s.most in
    let A : n * one ≡ N * (u * u) = c.is ∙ power c.q c.e (low_e c.e c.least) in
    let w = near_exists N (lt_of_lt_of_le (pow_pos 104) lo) in
    let v : HasValue (root x) false (w.0 * u) one =
    subst (λ (y : Float). HasValue y false (w.0 * u) one) (sym (root_of_value x n p (units_value x h) ∙ ap (λ (y : ℕ). round binary64 false (twice_root y) (2 ^ 1075)) A))
    (rounded N k w.0 lo hi (low_k c.e c.least) (high_k c.e c.most) w.1) in
    conclude x k w.0 N A w.1 lo (near_low N w.0 lo w.1) (value_units (root x) (w.0 * u) (root_fits x h.held) v)
    (value_holds (root x) (w.0 * u) (root_fits x h.held) v)
  where
    low_e : (e : ℕ) → 1000 ≤ e → 52 ≤ e
    low_e e l = omega arith

    low_k : (e : ℕ) → 1000 ≤ e → 0 < (e - 52) / 2
    low_k e l = omega arith

    high_k : (e : ℕ) → e ≤ 3200 → (e - 52) / 2 ≤ 2000
    high_k e l = omega arith

-- ---- and no other is
apart : (i j a : ℕ) → a < (i + j) * (i + j) → (j + i) * (j + i) < a → ⊥
apart i j a h k = omega arith

pub nearest_unique : (x r q : Float) → Nearest x r → Nearest x q → r ≡ q
nearest_unique x r q f g = elim (lt_or_ge (units r) (units q)) [
  | inl l ↦ absurd (apart (units r) (units q) (units x * 2 ^ 1074 * 4) (f.above q g.is l) (g.below r f.is l))
  | inr h ↦ elim (lt_or_ge (units q) (units r)) [
    | inl l ↦ absurd (apart (units q) (units r) (units x * 2 ^ 1074 * 4) (g.above r f.is l) (f.below q g.is l))
    | inr k ↦ units_unique r q f.is.held g.is.held f.is.number g.is.number (f.is.plus ∙ sym g.is.plus) (le_antisymm k h)
  ]
]

-- ---- the laws each way
pub square_root : (x : Float) → T (fits binary64 x) → SquareRoot x (root x)
unfolding SquareRoot root
square_root nan h = refl
square_root (inf s) h = refl
square_root (fin s zero e) h = refl
square_root (fin true (suc m) e) h = refl
square_root (fin false (suc m) e) h = root_nearest (fin false (suc m) e) (above_zero m e h) (some_units m e h)

pub only_root : (x r : Float) → T (fits binary64 x) → SquareRoot x r → r ≡ root x
unfolding SquareRoot root
only_root nan r h s = s
only_root (inf t) r h s = s
only_root (fin t zero e) r h s = s
only_root (fin true (suc m) e) r h s = s
only_root (fin false (suc m) e) r h s =
    nearest_unique (fin false (suc m) e) r (root (fin false (suc m) e)) s (root_nearest (fin false (suc m) e) (above_zero m e h) (some_units m e h))
