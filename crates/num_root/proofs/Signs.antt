-- The root of a float by its sign, for `sqrt`.
use Rattle.std.proofs.Common.{◌≡◌, ℕ, zero, suc, ◌+◌, ◌*◌, ◌/◌, ◌^◌, ◌<◌, Bool, true, false, cond, not, ◌&&◌, T, eqb, ltb, ℤ, sym, refl, ap, ◌∙◌, subst, lt_irrefl, zero-lt-suc, mul-pos, zero-mul, eqb→eq, lt→ltb, T_not}
use lib.Ieee.{Float, nan, inf, fin, binary64, low, emax, prec, up, down, is_nan, nan_bits, lt, eq, level, div, fits, odd, units, round, of_bits, to_bits}
use lib.Ieee.Bits.{nan_bits_is, of_bits-to_bits}
use lib.Ieee.Fits.{up_pos, nan-fits, inf-fits, round_is, round-fits, and_l}
use Rattle.num_root.specs.Root.{twice_root, root_of, root}

-- ---- no rounding gives a NaN
odd_no_nan : (d : ℕ) (s : Bool) (q k l : ℕ) → T (not (is_nan (odd d s q k l)))
unfolding odd is_nan
odd_no_nan d s zero k l = tt
odd_no_nan d s (suc q) k l = tt

units_no_nan : (s : Bool) (q k : ℕ) → T (not (is_nan (units binary64 s q k)))
unfolding units
units_no_nan s q k = go (ltb (q * 2 ^ k) (2 ^ (low binary64 + suc (emax binary64))))
  where
    go : (b : Bool) → T (not (is_nan (cond b (odd (suc (prec binary64)) s q k (low binary64)) (inf s))))
    go true = odd_no_nan (suc (prec binary64)) s q k (low binary64)
    go false = unfold is_nan in tt

round_no_nan : (s : Bool) (a c : ℕ) → T (not (is_nan (round binary64 s a c)))
round_no_nan s a c = subst (λ (x : Float). T (not (is_nan x))) (sym (round_is binary64 s a c)) (units_no_nan s _ _)

-- ---- above zero: a root that is no NaN
pub above_no_nan : (x : Float) → T (lt (of_bits binary64 0) x) → T (not (is_nan x))
unfolding lt is_nan of_bits
above_no_nan nan h = absurd h
above_no_nan (inf s) h = tt
above_no_nan (fin s m e) h = tt

pub root_above : (x : Float) → T (lt (of_bits binary64 0) x) → T (not (is_nan (root x)))
unfolding lt is_nan of_bits root root_of
root_above nan h = absurd h
root_above (inf true) h = absurd h
root_above (inf false) h = tt
root_above (fin s zero e) h = tt
root_above (fin true (suc m) e) h = absurd h
root_above (fin false (suc m) e) h = round_no_nan false (twice_root (suc m * up e * 2 ^ 1074 / down e * 2 ^ 1074)) (2 ^ 1075)

pub root_fits : (x : Float) → T (fits binary64 x) → T (fits binary64 (root x))
unfolding root root_of
root_fits nan h = nan-fits binary64
root_fits (inf true) h = nan-fits binary64
root_fits (inf false) h = inf-fits binary64 false
root_fits (fin s zero e) h = h
root_fits (fin true (suc m) e) h = nan-fits binary64
root_fits (fin false (suc m) e) h = round-fits binary64 false (twice_root (suc m * up e * 2 ^ 1074 / down e * 2 ^ 1074)) (2 ^ 1075)

pub pattern_no_nan : (x : Float) → T (fits binary64 x) → T (not (is_nan x)) → T (not (nan_bits binary64 (to_bits binary64 x)))
pattern_no_nan x f h = subst (λ (b : Bool). T (not b)) (sym (nan_bits_is binary64 (to_bits binary64 x) ∙ ap (λ (y : Float). is_nan y) (of_bits-to_bits binary64 x f))) h

-- ---- zero
no_level : (a b : ℕ) (t : Bool) → 0 < a → b ≡ 0 → T (eqb a b && t) → ⊥
no_level a b t p z h = lt_irrefl 0 (subst (λ (x : ℕ). 0 < x) (eqb→eq a b (and_l (eqb a b) t h) ∙ z) p)

at_level : (s : Bool) (a b : ℕ) → a ≡ 0 → b ≡ 0 → T (level s a false b)
at_level s a b p q = subst (λ (x : ℕ). T (level s x false b)) (sym p) (subst (λ (x : ℕ). T (level s 0 false x)) (sym q) (go s))
  where
    go : (s : Bool) → T (level s 0 false 0)
    go true = tt
    go false = tt

positive : (m : ℕ) (e : ℤ) → 0 < suc m * up e * 1
positive m e = mul-pos (mul-pos (zero-lt-suc m) (up_pos e)) (zero-lt-suc 0)

pub root_zero : (x : Float) → T (eq x (of_bits binary64 0)) → x ≡ root x
unfolding eq of_bits root
root_zero nan h = absurd h
root_zero (inf s) h = absurd h
root_zero (fin s zero e) h = refl
root_zero (fin s (suc m) e) h = absurd (no_level (suc m * up e * 1) (0 * down e) _ (positive m e) (zero-mul (down e)) h)

-- ---- neither
pub root_none : (x : Float) → T (not (lt (of_bits binary64 0) x)) → T (not (eq x (of_bits binary64 0))) → div binary64 (of_bits binary64 0) (of_bits binary64 0) ≡ root x
unfolding lt eq of_bits root div
root_none nan h k = refl
root_none (inf true) h k = refl
root_none (inf false) h k = absurd h
root_none (fin s zero e) h k =
    absurd (T_not (level s (0 * up e * 1) false (0 * down e)) k (at_level s (0 * up e * 1) (0 * down e) (ap (λ (x : ℕ). x * 1) (zero-mul (up e))) (zero-mul (down e))))
root_none (fin true (suc m) e) h k = refl
root_none (fin false (suc m) e) h k =
    absurd (T_not (ltb (0 * down e) (suc m * up e * 1)) h (lt→ltb (0 * down e) (suc m * up e * 1) (subst (λ (x : ℕ). x < suc m * up e * 1) (sym (zero-mul (down e))) (positive m e))))
