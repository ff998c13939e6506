-- The laws behind `positive`: the exponent is cut into its parity and its half.
use Rattle.std.proofs.Common.{◌≡◌, ℕ, zero, suc, ◌+◌, ◌-◌, ◌*◌, ◌/◌, ◌%◌, ◌^◌, ◌<◌, ◌≤◌, false, sym, ap, ◌∙◌, mul_assoc, arith, pow-add, shl_exact}
use lib.Bits.{bit_and, and_mask}
use lib.Ieee.{binary64, round, to_bits}
use Rattle.num_root.specs.Work.{Near}
use Rattle.num_root.specs.Root.{twice_root}
use Rattle.num_root.proofs.Rounded.{near_low, near_high, rounded, pattern_of_value}

pub parity : (e : ℕ) → bit_and e 1 ≡ e % 2
parity e = and_mask e 1

-- ---- q * 2 ^ o, for a q of 53 digits
pub record Scaled (q m : ℕ) : Type 0 where
  pub least : 2 ^ 52 ≤ m
  pub most : m ≤ 2 ^ 54 - 2

pub scaled : (q o : ℕ) → 2 ^ 52 ≤ q → q < 2 ^ 53 → o < 2 → Scaled q (q * 2 ^ o)
scaled q zero a b c = omega arith
scaled q (suc zero) a b c = omega arith
scaled q (suc (suc o)) a b c = absurd (omega arith)

room : (o : ℕ) → o < 2 → 53 + o ≤ 64
room o h = omega arith

pub shifted : (q o : ℕ) → q < 2 ^ 53 → o < 2 → (q * 2 ^ o) % 2 ^ 64 ≡ q * 2 ^ o
shifted q o b c = shl_exact 53 o 64 b (room o c)

-- ---- the power
split_power : (o k : ℕ) → 2 ^ (o + 52 + (k + k)) ≡ 2 ^ o * 2 ^ 52 * (2 ^ k * 2 ^ k)
split_power o k =
    pow-add 2 (o + 52) (k + k) ∙ ap (λ (x : ℕ). x * 2 ^ (k + k)) (pow-add 2 o 52) ∙ ap (λ (x : ℕ). 2 ^ o * 2 ^ 52 * x) (pow-add 2 k k)

exponent : (e : ℕ) → 52 ≤ e → e ≡ bit_and e 1 + 52 + ((e - 52) / 2 + (e - 52) / 2)
exponent e h = omega (arith, parity e)

group : (q a b c : ℕ) → q * (a * b * c) ≡ q * a * b * c
group q a b c = simp mul_assoc

pub power : (q e : ℕ) → 52 ≤ e → q * 2 ^ e ≡ q * 2 ^ bit_and e 1 * 2 ^ 52 * (2 ^ ((e - 52) / 2) * 2 ^ ((e - 52) / 2))
power q e h =
    let o = bit_and e 1 in
    let k = (e - 52) / 2 in
    ap (λ (x : ℕ). q * 2 ^ x) (exponent e h) ∙ ap (λ (x : ℕ). q * x) (split_power o k) ∙ group q (2 ^ o) (2 ^ 52) (2 ^ k * 2 ^ k)

-- ---- the pattern
pub low_n : (m : ℕ) → 2 ^ 52 ≤ m → 2 ^ 104 ≤ m * 2 ^ 52
low_n m h = omega arith

pub high_n : (m : ℕ) → m ≤ 2 ^ 54 - 2 → m * 2 ^ 52 ≤ (2 ^ 53 - 1) * 2 ^ 53
high_n m h = omega arith

pub small : (q e r : ℕ) → 2 ^ 52 ≤ q → q < 2 ^ 53 → Near (q * 2 ^ bit_and e 1 * 2 ^ 52) r → r < 2 ^ 53
small q e r a b N = near_high (q * 2 ^ bit_and e 1 * 2 ^ 52) r (high_n (q * 2 ^ bit_and e 1) (scaled q (bit_and e 1) a b (omega (arith, parity e))).most) N

pub pattern : (q e r : ℕ) → 2 ^ 52 ≤ q → q < 2 ^ 53 → 1000 ≤ e → e ≤ 3200 → Near (q * 2 ^ bit_and e 1 * 2 ^ 52) r
    → r + ((e - 52) / 2 * 2 ^ 52) % 2 ^ 64 ≡ to_bits binary64 (round binary64 false (twice_root (q * 2 ^ e)) (2 ^ 1075))
pattern q e r a b l h N =
    let s = scaled q (bit_and e 1) a b (omega (arith, parity e)) in
    let n = q * 2 ^ bit_and e 1 * 2 ^ 52 in
    let k = (e - 52) / 2 in
    let lo : 2 ^ 104 ≤ n = low_n (q * 2 ^ bit_and e 1) s.least in
    let hi : n ≤ (2 ^ 53 - 1) * 2 ^ 53 = high_n (q * 2 ^ bit_and e 1) s.most in
    over k r (omega arith)
    ∙ sym (pattern_of_value (round binary64 false (twice_root (n * (2 ^ k * 2 ^ k))) (2 ^ 1075)) r k (near_low n r lo N) (near_high n r hi N) (rounded n k r lo hi (omega arith) (omega arith) N))
    ∙ ap (λ (x : ℕ). to_bits binary64 (round binary64 false (twice_root x) (2 ^ 1075))) (sym (power q e (omega arith)))
  where
    over : (k r : ℕ) → k ≤ 2000 → r + (k * 2 ^ 52) % 2 ^ 64 ≡ k * 2 ^ 52 + r
    over k r h = omega arith
