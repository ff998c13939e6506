-- Laws of `round_i64_of` and `ceil_usize_of`: the cases that their functions tell apart, and bounds on their results.
use mathlib.Core.Path.{◌≡◌, refl, sym, ap, ◌∙◌, subst}
use mathlib.Core.Bool.{Bool, true, false, true≢false, cond}
use Prim.Native.Nat.{ℕ, zero, suc, zero-le, suc-le-suc, ◌-◌, ◌*◌, ◌^◌, ◌≤◌, ◌<◌, min}
use native.Mathlib.Nat.{le_trans, le_of_eq, le_of_lt, le-suc, lt_of_le_of_lt, mul-one, zero-mul, le_of_mul-le-mul_right, min-eq_left, min-eq_right, min-le_left}
use native.Mathlib.Omega.{arith}
use lib.Dec.{T, lit<, lit≤}
use lib.Pow.{le_ones}
use lib.IntN.{ℤ, pos, negsuc, neg_ℤ, nat_abs, ◌-ℤ◌}
use lib.Ieee.{Float, nan, inf, fin, up, down, lt, le}
use lib.Ieee.Fits.{down_pos}
use lib.Ieee.Exact.{HasValue}
use lib.Ieee.Scale.{finite}
use lib.Ieee.Positive.{num, den}
use mir.Syntax.{w64}
use mir.Val.{SFits, to_z}
use mir.Facts.{to_z_pos}
use borrow.Author.Tests.{lt-ltb, ltb-true, ltb-false}
use Rattle.num_real.specs.Rounding.{round_half_up, ceil_div, saturate_i64, round_i64_of, ceil_usize_of}
use Rattle.num_real.specs.Select.{abs_of}
use Rattle.num_real.proofs.CompareLaws.{zero_float, power, negative_sign, minus_zero, below_power, from_power}
use Rattle.num_real.proofs.FractionLaws.{round_whole, round_at_most, round_at_least, ceil_whole, ceil_at_most, ceil_not_below}

-- ---- the range of i64

-- the number with a sign and a size, and the end of the range on the side of a sign
abbrev pub signed : Bool → ℕ → ℤ
signed true n = neg_ℤ (pos n)
signed false n = pos n

abbrev pub range_end : Bool → ℤ
range_end true = negsuc (2 ^ 63 - 1)
range_end false = pos (2 ^ 63 - 1)

pub saturate_large : (s : Bool) (n : ℕ) → 2 ^ 63 ≤ n → saturate_i64 s n ≡ range_end s
unfolding saturate_i64
saturate_large true n h = ap (signed true) (min-eq_right h)
saturate_large false n h = ap (signed false) (min-eq_right (le_trans (lit≤ tt) h))

pub saturate_small : (s : Bool) (n : ℕ) → n < 2 ^ 63 → saturate_i64 s n ≡ signed s n
unfolding saturate_i64
saturate_small true n h = ap (signed true) (min-eq_left (le_of_lt h))
saturate_small false n h = ap (signed false) (min-eq_left (le_ones 63 h))

pub saturate_size : (s : Bool) (n : ℕ) → nat_abs (saturate_i64 s n) ≤ n
unfolding saturate_i64
saturate_size true n = le_trans (le_of_eq (neg_size (min n (2 ^ 63)))) (min-le_left n (2 ^ 63))
  where
    neg_size : (n : ℕ) → nat_abs (neg_ℤ (pos n)) ≡ n
    neg_size zero = refl
    neg_size (suc n) = refl
saturate_size false n = min-le_left n (2 ^ 63 - 1)

-- ---- the sign may come from a test against zero, since minus zero has no size
module _ (s : Bool) (m : ℕ) (e : ℤ) where
  abbrev rounded : ℕ
  rounded = round_half_up (m * up e) (down e)

  no_size : m * up e ≡ 0 → rounded ≡ 0
  no_size z = ap (λ (n : ℕ). round_half_up n (down e)) (z ∙ sym (zero-mul (down e))) ∙ round_whole 0 (down e) (down_pos e)

  round_by_test : (b : Bool) → lt (fin s m e) zero_float ≡ b → round_i64_of (fin s m e) ≡ saturate_i64 b rounded
  unfolding round_i64_of saturate_i64
  round_by_test true h = ap (λ (t : Bool). saturate_i64 t rounded) (negative_sign s m e h)
  round_by_test false h = by_sign s h
    where
      by_sign : (s : Bool) → lt (fin s m e) zero_float ≡ false → saturate_i64 s rounded ≡ saturate_i64 false rounded
      by_sign false h = refl
      by_sign true h =
          let z : rounded ≡ 0 = no_size (minus_zero m e h) in
          ap (saturate_i64 true) z ∙ sym (ap (saturate_i64 false) z)

-- ---- the branches of `round_i64`, where a is the size of x and b tells whether x is below zero
round_saturated_at : (x : Float) (b : Bool) → lt x zero_float ≡ b → le (power 63) (abs_of x) ≡ true → range_end b ≡ round_i64_of x
unfolding abs_of le lt round_i64_of saturate_i64
round_saturated_at nan b t h = absurd (true≢false (sym h))
round_saturated_at (inf true) b t h = ap range_end (sym t)
round_saturated_at (inf false) b t h = ap range_end (sym t)
round_saturated_at (fin s m e) b t h =
    sym (round_by_test s m e b t ∙ saturate_large b (round_half_up (m * up e) (down e)) (round_at_least (m * up e) (down e) (2 ^ 63) (down_pos e) (from_power 63 false m e h).1))

round_in_range_at : (x : Float) (b : Bool) (n : ℕ) → lt x zero_float ≡ b → le (power 63) (abs_of x) ≡ false → n ≡ round_half_up (num (abs_of x)) (den (abs_of x)) → n < 2 ^ 63 → signed b n ≡ round_i64_of x
unfolding abs_of le lt round_i64_of round_half_up
round_in_range_at nan b n t h e l = subst (λ (b : Bool). signed b n ≡ pos 0) t (ap pos e)
round_in_range_at (inf s) b n t h e l = absurd (true≢false h)
round_in_range_at (fin s m e') b n t h e l = sym (round_by_test s m e' b t ∙ ap (saturate_i64 b) (sym e) ∙ saturate_small b n l)

size_in_range_at : (x : Float) → le (power 63) (abs_of x) ≡ false → num (abs_of x) < 2 ^ 63 * den (abs_of x)
unfolding abs_of le
size_in_range_at nan h = lit< tt
size_in_range_at (inf s) h = absurd (true≢false h)
size_in_range_at (fin s m e) h = below_power 63 m e h

module _ (x a : Float) (is : a ≡ abs_of x) where
  pub size_in_range : le (power 63) a ≡ false → num a < 2 ^ 63 * den a
  size_in_range = subst (λ (y : Float). le (power 63) y ≡ false → num y < 2 ^ 63 * den y) (sym is) (size_in_range_at x)

  pub round_saturated : (b : Bool) → lt x zero_float ≡ b → le (power 63) a ≡ true → range_end b ≡ round_i64_of x
  round_saturated b t h = round_saturated_at x b t (rw is at h)

  pub round_in_range : (b : Bool) (n : ℕ) → lt x zero_float ≡ b → le (power 63) a ≡ false → n ≡ round_half_up (num a) (den a) → n < 2 ^ 63 → signed b n ≡ round_i64_of x
  round_in_range b n t h e l = round_in_range_at x b n t (rw is at h) (rw is at e) l

-- the code's 0 - n, for n of an i64
module _ (n : ℕ) (small : n < 2 ^ 63) where
  pub negated : pos 0 -ℤ to_z w64 n ≡ neg_ℤ (pos n)
  negated = ap (λ (z : ℤ). pos 0 -ℤ z) (to_z_pos w64 small) ∙ go n
    where
      go : (n : ℕ) → pos 0 -ℤ pos n ≡ neg_ℤ (pos n)
      go zero = refl
      go (suc n) = rw (lt-ltb 0 (suc n) (suc-le-suc zero-le)) (ap negsuc (omega arith))

  pub negated_fits : SFits w64 (pos 0 -ℤ to_z w64 n)
  negated_fits = subst (SFits w64) (sym negated) (go n small)
    where
      go : (n : ℕ) → n < 2 ^ 63 → SFits w64 (neg_ℤ (pos n))
      go zero l = record { sfits = l }
      go (suc n) l = record { sfits = le_trans (le-suc (suc n)) l }

-- ---- the branches of `ceil_usize`
pub ceil_saturated : (x : Float) → le (power 64) x ≡ true → 2 ^ 64 - 1 ≡ ceil_usize_of x
unfolding le ceil_usize_of
ceil_saturated nan h = absurd (true≢false (sym h))
ceil_saturated (inf true) h = absurd (true≢false (sym h))
ceil_saturated (inf false) h = refl
ceil_saturated (fin s m e) h =
    let p = from_power 64 s m e h in
    let c = ceil_div (m * up e) (down e) in
    let l : 2 ^ 64 ≤ c = le_of_mul-le-mul_right (le_trans p.1 (ceil_not_below (m * up e) (down e) (down_pos e))) (down_pos e) in
    sym (ap (λ (t : Bool). cond t 0 (min c (2 ^ 64 - 1))) p.0 ∙ min-eq_right (le_trans (lit≤ tt) l))

-- above zero and below 2 ^ 64
pub ceil_in_range : (x : Float) → le (power 64) x ≡ false → lt zero_float x ≡ true → (0 < num x) × (num x < 2 ^ 64 * den x)
unfolding le lt
ceil_in_range nan h p = absurd (true≢false (sym p))
ceil_in_range (inf true) h p = absurd (true≢false (sym p))
ceil_in_range (inf false) h p = absurd (true≢false h)
ceil_in_range (fin true m e) h p = absurd (true≢false (sym p))
ceil_in_range (fin false m e) h p = (omega (arith, ltb-true (0 * 1 * down e) (m * up e * 1) p), below_power 64 m e h)

pub ceil_of_size : (x : Float) (n : ℕ) → le (power 64) x ≡ false → lt zero_float x ≡ true → n ≡ ceil_div (num x) (den x) → n < 2 ^ 64 → n ≡ ceil_usize_of x
unfolding le lt ceil_usize_of
ceil_of_size nan n h p e l = absurd (true≢false (sym p))
ceil_of_size (inf true) n h p e l = absurd (true≢false (sym p))
ceil_of_size (inf false) n h p e l = absurd (true≢false h)
ceil_of_size (fin true m g) n h p e l = absurd (true≢false (sym p))
ceil_of_size (fin false m g) n h p e l = sym (ap (λ (k : ℕ). min k (2 ^ 64 - 1)) (sym e) ∙ min-eq_left (le_ones 64 l))

pub ceil_not_positive : (x : Float) → lt zero_float x ≡ false → 0 ≡ ceil_usize_of x
unfolding lt ceil_usize_of
ceil_not_positive nan h = refl
ceil_not_positive (inf true) h = refl
ceil_not_positive (inf false) h = absurd (true≢false h)
ceil_not_positive (fin true m e) h = refl
ceil_not_positive (fin false m e) h =
    let z : m * up e ≡ 0 = omega (arith, ltb-false (0 * 1 * down e) (m * up e * 1) h, zero-mul (down e)) in
    sym (ap (λ (n : ℕ). min (ceil_div n (down e)) (2 ^ 64 - 1)) (z ∙ sym (zero-mul (down e))) ∙ ap (λ (n : ℕ). min n (2 ^ 64 - 1)) (ceil_whole 0 (down e) (down_pos e)))

-- ---- bounds, and whole numbers

-- a float within ±b rounds to a number within ±b
pub round_within : (x : Float) (b : ℕ) → T (finite x) → num x ≤ b * den x → nat_abs (round_i64_of x) ≤ b
unfolding round_i64_of
round_within nan b f h = absurd f
round_within (inf s) b f h = absurd f
round_within (fin s m e) b f h = le_trans (saturate_size s (round_half_up (m * up e) (down e))) (round_at_most (m * up e) (down e) b (down_pos e) h)

-- a float within ±b, for a b of an i64, by its rounded size and a test of its sign
pub round_by_size : (x : Float) (b : ℕ) → T (finite x) → num x ≤ b * den x → b < 2 ^ 63
    → round_i64_of x ≡ signed (lt x zero_float) (round_half_up (num x) (den x))
round_by_size nan b f h l = absurd f
round_by_size (inf s) b f h l = absurd f
round_by_size (fin s m e) b f h l =
    round_by_test s m e (lt (fin s m e) zero_float) refl
    ∙ saturate_small (lt (fin s m e) zero_float) (round_half_up (m * up e) (down e)) (lt_of_le_of_lt (round_at_most (m * up e) (down e) b (down_pos e) h) l)

pub round_of_integer : (x : Float) (s : Bool) (n : ℕ) → HasValue x s n 1 → round_i64_of x ≡ saturate_i64 s n
unfolding round_i64_of
round_of_integer nan s n v = absurd v
round_of_integer (inf t) s n v = absurd v
round_of_integer (fin t m e) s n v =
    ap (λ (b : Bool). saturate_i64 b (round_half_up (m * up e) (down e))) v.0
    ∙ ap (saturate_i64 s) (ap (λ (k : ℕ). round_half_up k (down e)) (sym (mul-one (m * up e)) ∙ v.1) ∙ round_whole n (down e) (down_pos e))

-- a float of at most b has a ceiling of at most b
pub ceil_within : (x : Float) (b : ℕ) → T (finite x) → num x ≤ b * den x → ceil_usize_of x ≤ b
unfolding ceil_usize_of
ceil_within nan b f h = absurd f
ceil_within (inf s) b f h = absurd f
ceil_within (fin true m e) b f h = zero-le
ceil_within (fin false m e) b f h = le_trans (min-le_left (ceil_div (m * up e) (down e)) (2 ^ 64 - 1)) (ceil_at_most (m * up e) (down e) b (down_pos e) h)

pub ceil_of_integer : (x : Float) (n : ℕ) → HasValue x false n 1 → ceil_usize_of x ≡ min n (2 ^ 64 - 1)
unfolding ceil_usize_of
ceil_of_integer nan n v = absurd v
ceil_of_integer (inf t) n v = absurd v
ceil_of_integer (fin t m e) n v =
    ap (λ (b : Bool). cond b 0 (min (ceil_div (m * up e) (down e)) (2 ^ 64 - 1))) v.0
    ∙ ap (λ (k : ℕ). min k (2 ^ 64 - 1)) (ap (λ (k : ℕ). ceil_div k (down e)) (sym (mul-one (m * up e)) ∙ v.1) ∙ ceil_whole n (down e) (down_pos e))
