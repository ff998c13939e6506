-- Which patterns and which floats are no NaN's.
use Rattle.std.proofs.Common.{ℕ, ◌%◌, ◌≤◌, Bool, not, T, sym, subst, le_trans}
use native.Mathlib.Nat.{mod-le}
use lib.Arith.{le→nltb}
use lib.Ieee.{Float, nan, inf, fin, binary64, is_nan, nan_bits, lt, top}
use lib.Ieee.Bits.{nan_bits_above}

pub no_nan_bits : (n : ℕ) → n ≤ 0x7FF0000000000000 → T (not (nan_bits binary64 n))
no_nan_bits n h = subst (λ (b : Bool). T (not b)) (sym (nan_bits_above binary64 n)) (le→nltb 0x7FF0000000000000 (n % top binary64) (le_trans (mod-le n (top binary64)) h))

pub less_no_nan : (x y : Float) → T (lt x y) → T (not (is_nan x))
unfolding lt is_nan
less_no_nan nan y h = absurd h
less_no_nan (inf s) y h = tt
less_no_nan (fin s m e) y h = tt
