-- Laws of keys: their range, the keys as the columns hold them, and vertices of one key.
use mathlib.Core.Path.{◌≡◌, refl, sym, ap, ◌∙◌, subst}
use mathlib.Core.Bool.{true, ◌&&◌}
use Prim.Native.Nat.{ℕ, suc, ◌+◌, ◌-◌, ◌*◌, ◌^◌, ◌≤◌, ◌<◌}
use native.Mathlib.Nat.{le_of_lt, lt_of_le_of_lt, lt_of_lt_of_le, le_trans}
use native.Mathlib.Omega.{arith}
use lib.Dec.{T, eqb, lit<, lit≤}
use lib.IntN.{ℤ, pos, negsuc, nat_abs, ◌+ℤ◌}
use lib.Signed.{non_neg}
use lib.Ieee.{Float, binary64, mul, of_bits}
use mir.Syntax.{w32, w64}
use mir.Val.{Fits, SFits, to_z, of_z}
use mir.Facts.{to_z_pos, to_z-of_z}
use borrow.Author.Tests.{eq-eqb, ne_eqb, eqb-true, le-ltb}
use Rattle.num_float.specs.Within.{Within}
use Rattle.num_float.proofs.Tests.{contrary, same_test, and_left, and_right}
use Rattle.num_float.proofs.Within.{mul_within, held_small}
use Rattle.num_real.specs.Rounding.{round_i64_of}
use Rattle.num_real.proofs.RoundingLaws.{round_within}
use Rattle.math.specs.declared.Vec3.{Vec3}
use Rattle.solid_segments.specs.Key.{segment_scale, body_scale, key_part, same_int, same_key_of}
use Rattle.solid_segments.specs.Work.{from_zero_of}

-- ---- equal whole numbers
pub int_same : (a b : ℤ) → same_int a b ≡ true → a ≡ b
unfolding same_int
int_same (pos m) (pos n) h = ap pos (eqb-true m n h)
int_same (pos m) (negsuc n) h = absurd (contrary h refl)
int_same (negsuc m) (pos n) h = absurd (contrary h refl)
int_same (negsuc m) (negsuc n) h = ap negsuc (eqb-true m n h)

pub int_self : (a : ℤ) → same_int a a ≡ true
unfolding same_int
int_self (pos n) = eq-eqb n n refl
int_self (negsuc n) = eq-eqb n n refl

-- ---- vertices of one key
-- the keys of the three coordinates
pub record KeyParts (scale : Float) (a b : Vec3) : Type 0 where
  pub x_part : key_part scale a.x ≡ key_part scale b.x
  pub y_part : key_part scale a.y ≡ key_part scale b.y
  pub z_part : key_part scale a.z ≡ key_part scale b.z

module _ (scale : Float) where
  pub key_parts : (a b : Vec3) → same_key_of scale a b ≡ true → KeyParts scale a b
  unfolding same_key_of
  key_parts a b h =
      let p = same_int (key_part scale a.x) (key_part scale b.x) in
      let q = same_int (key_part scale a.y) (key_part scale b.y) in
      let r = same_int (key_part scale a.z) (key_part scale b.z) in
      let pq = and_left (p && q) r h in
      record {
        x_part = int_same _ _ (and_left p q pq);
        y_part = int_same _ _ (and_right p q pq);
        z_part = int_same _ _ (and_right (p && q) r h);
      }

  pub key_whole : (a b : Vec3) → KeyParts scale a b → same_key_of scale a b ≡ true
  unfolding same_key_of
  key_whole a b p = rw (p.x_part, p.y_part, p.z_part, int_self (key_part scale b.x), int_self (key_part scale b.y), int_self (key_part scale b.z))

  pub key_self : (a : Vec3) → same_key_of scale a a ≡ true
  key_self a = key_whole a a (record { x_part = refl; y_part = refl; z_part = refl })

  pub key_flip : (a b : Vec3) → same_key_of scale a b ≡ true → same_key_of scale b a ≡ true
  key_flip a b h =
      let p = key_parts a b h in
      key_whole b a (record { x_part = sym p.x_part; y_part = sym p.y_part; z_part = sym p.z_part })

  pub key_join : (a b c : Vec3) → same_key_of scale a b ≡ true → same_key_of scale b c ≡ true → same_key_of scale a c ≡ true
  key_join a b c h g =
      let p = key_parts a b h in
      let q = key_parts b c g in
      key_whole a c (record { x_part = p.x_part ∙ q.x_part; y_part = p.y_part ∙ q.y_part; z_part = p.z_part ∙ q.z_part })

-- ---- the range of a key
pub key_within : (scale x : Float) (a b most : ℕ) → Within x a → Within scale b → a * b ≤ most → most < 2 ^ 53 → nat_abs (key_part scale x) ≤ most
unfolding key_part
key_within scale x a b most w v h l =
    let q = mul_within x scale a b most w v h (held_small most l) in
    round_within (mul binary64 x scale) most q.is_finite q.size

segment_scale_within : Within segment_scale 10000
unfolding of_bits
segment_scale_within = record { is_finite = tt; size = lit≤ tt }

body_scale_within : Within body_scale 100000
unfolding of_bits
body_scale_within = record { is_finite = tt; size = lit≤ tt }

-- a coordinate of an accepted part
pub segment_key_lem : (x : Float) → Within x 10000 → nat_abs (key_part segment_scale x) ≤ 100000000
segment_key_lem x w = key_within segment_scale x 10000 10000 100000000 w segment_scale_within (lit≤ tt) (lit< tt)

pub body_key : (x : Float) → Within x 10000 → nat_abs (key_part body_scale x) ≤ 1000000000
body_key x w = key_within body_scale x 10000 100000 1000000000 w body_scale_within (lit≤ tt) (lit< tt)

-- ---- counted from zero
-- no two whole numbers in range fall together
pub from_zero_same : (b : ℕ) (m n : ℤ) → nat_abs m ≤ b → nat_abs n ≤ b → eqb (from_zero_of b m) (from_zero_of b n) ≡ same_int m n
unfolding from_zero_of same_int
from_zero_same b (pos m) (pos n) h g =
    same_test (eqb (b + m) (b + n)) (eqb m n)
    (λ e. eq-eqb m n (omega (arith, eqb-true (b + m) (b + n) e)))
    (λ e. eq-eqb (b + m) (b + n) (omega (arith, eqb-true m n e)))
from_zero_same b (pos m) (negsuc n) h g = ne_eqb (b + m) (b - suc n) (λ e. omega arith)
from_zero_same b (negsuc m) (pos n) h g = ne_eqb (b - suc m) (b + n) (λ e. omega arith)
from_zero_same b (negsuc m) (negsuc n) h g =
    same_test (eqb (b - suc m) (b - suc n)) (eqb m n)
    (λ e. eq-eqb m n (omega (arith, eqb-true (b - suc m) (b - suc n) e)))
    (λ e. eq-eqb (b - suc m) (b - suc n) (omega (arith, eqb-true m n e)))

pub from_zero_le : (b : ℕ) (z : ℤ) → nat_abs z ≤ b → from_zero_of b z ≤ 2 * b
unfolding from_zero_of
from_zero_le b (pos n) h = omega arith
from_zero_le b (negsuc n) h = omega arith

-- as the code computes it: an i64, the sum with b, and the cast to u32
module _ (z : ℤ) (b : ℕ) (near : nat_abs z ≤ b) (small : b < 2147483648) where
  sum : z +ℤ pos b ≡ pos (from_zero_of b z)
  unfolding from_zero_of
  sum = go z near
    where
      go : (z : ℤ) → nat_abs z ≤ b → z +ℤ pos b ≡ pos (from_zero_of b z)
      go (pos n) h = ap pos (omega arith)
      go (negsuc n) h = rw (le-ltb b (suc n) h)

  whole_fits : SFits w64 z
  whole_fits = go z near
    where
      go : (z : ℤ) → nat_abs z ≤ b → SFits w64 z
      go (pos n) h = record { sfits = lt_of_le_of_lt h (lt_of_lt_of_le small (lit≤ tt)) }
      go (negsuc n) h = record { sfits = lt_of_lt_of_le h (le_trans (le_of_lt small) (lit≤ tt)) }

  code_sum : to_z w64 (of_z w64 z) +ℤ pos b ≡ pos (from_zero_of b z)
  code_sum = ap (λ (k : ℤ). k +ℤ pos b) (to_z-of_z whole_fits) ∙ sum

  cell_small : from_zero_of b z < 4294967296
  cell_small = omega (arith, from_zero_le b z near)

  pub sum_fits : SFits w64 (to_z w64 (of_z w64 z) +ℤ pos b)
  sum_fits = subst (SFits w64) (sym code_sum) (record { sfits = lt_of_lt_of_le cell_small (lit≤ tt) })

  code_whole : to_z w64 (of_z w64 (to_z w64 (of_z w64 z) +ℤ pos b)) ≡ pos (from_zero_of b z)
  code_whole = ap (λ (k : ℤ). to_z w64 (of_z w64 k)) code_sum ∙ to_z_pos w64 (lt_of_lt_of_le cell_small (lit≤ tt))

  pub cast_fits : T (non_neg (to_z w64 (of_z w64 (to_z w64 (of_z w64 z) +ℤ pos b)))) × Fits w32 (nat_abs (to_z w64 (of_z w64 (to_z w64 (of_z w64 z) +ℤ pos b))))
  cast_fits = subst (λ (k : ℤ). T (non_neg k) × Fits w32 (nat_abs k)) (sym code_whole) (tt, record { fits = cell_small })

  pub cast_is : nat_abs (to_z w64 (of_z w64 (to_z w64 (of_z w64 z) +ℤ pos b))) ≡ from_zero_of b z
  cast_is = ap nat_abs code_whole

-- the rounded number of the code
pub rounded_small : (scale x : Float) (z : ℤ) (most : ℕ) → nat_abs (key_part scale x) ≤ most → z ≡ round_i64_of (mul binary64 x scale) → nat_abs z ≤ most
unfolding key_part
rounded_small scale x z most h e = subst (λ (k : ℤ). nat_abs k ≤ most) (sym e) h
