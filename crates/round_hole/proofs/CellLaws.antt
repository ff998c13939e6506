-- Directions in cells: the code's steps of `pack` and `unpack`, and a packed direction unpacked.
use mathlib.Core.Path.{◌≡◌, sym, ap, ◌∙◌, subst}
use mathlib.Core.Bool.{Bool, true, false, cond}
use Prim.Native.Nat.{ℕ, suc, ◌+◌, ◌-◌, ◌*◌, ◌/◌, ◌%◌, ◌^◌, ◌≤◌, ◌<◌}
use native.Mathlib.Nat.{le_of_lt, lt_of_le_of_lt, lt_of_lt_of_le, mod-lt}
use native.Mathlib.Omega.{arith}
use lib.Dec.{T, ltb, ltb→lt, lit<, lit≤}
use lib.IntN.{ℤ, pos, negsuc, nat_abs, sub_ℕ, ◌+ℤ◌, ◌-ℤ◌}
use lib.Signed.{non_neg}
use lib.Ieee.{Float, binary64, is_nan, of_bits, to_bits}
use lib.Ieee.Bits.{to_bits-of_bits, nan_bits_is, nan_bits_above}
use mir.Syntax.{w64}
use mir.Val.{Fits, SFits, to_z, of_z}
use mir.Facts.{to_z_pos, to_z-of_z}
use borrow.Author.Tests.{lt-ltb, le-ltb}
use Rattle.num_float.proofs.Tests.{fails}
use Rattle.round_hole.specs.declared.direction.Direction.{Direction}
use Rattle.round_hole.specs.Work.{Packable, Near, from_lowest, pack_of, unpack_of}
use Rattle.round_hole.proofs.WholeLaws.{in_range_lem, read_back}

-- ---- a number from -2^20 to 2^20, counted from -2^20 on
pub from_lowest_le : (z : ℤ) → nat_abs z ≤ 1048576 → from_lowest z ≤ 2097152
unfolding from_lowest
from_lowest_le (pos n) h = omega arith
from_lowest_le (negsuc n) h = omega arith

module _ (z : ℤ) (near : nat_abs z ≤ 1048576) where
  moved : z +ℤ pos 1048576 ≡ pos (from_lowest z)
  unfolding from_lowest
  moved = go z near
    where
      go : (z : ℤ) → nat_abs z ≤ 1048576 → z +ℤ pos 1048576 ≡ pos (from_lowest z)
      go (pos n) h = ap pos (omega arith)
      go (negsuc n) h = rw (le-ltb 1048576 (suc n) h)

  -- as the code computes it: an i64, the sum, and the cast to u64
  code_moved : to_z w64 (of_z w64 z) +ℤ pos 1048576 ≡ pos (from_lowest z)
  code_moved = ap (λ (k : ℤ). k +ℤ pos 1048576) (read_back z 1048576 near (lit< tt)) ∙ moved

  below : from_lowest z < 9223372036854775808
  below = lt_of_le_of_lt (from_lowest_le z near) (lit< tt)

  pub moved_fits : SFits w64 (to_z w64 (of_z w64 z) +ℤ pos 1048576)
  moved_fits = subst (SFits w64) (sym code_moved) (record { sfits = below })

  code_whole : to_z w64 (of_z w64 (to_z w64 (of_z w64 z) +ℤ pos 1048576)) ≡ pos (from_lowest z)
  code_whole = to_z-of_z moved_fits ∙ code_moved

  pub moved_cast : T (non_neg (to_z w64 (of_z w64 (to_z w64 (of_z w64 z) +ℤ pos 1048576))))
      × Fits w64 (nat_abs (to_z w64 (of_z w64 (to_z w64 (of_z w64 z) +ℤ pos 1048576))))
  moved_cast = subst (λ (k : ℤ). T (non_neg k) × Fits w64 (nat_abs k)) (sym code_whole) (tt, record { fits = lt_of_le_of_lt (from_lowest_le z near) (lit< tt) })

  pub moved_is : nat_abs (to_z w64 (of_z w64 (to_z w64 (of_z w64 z) +ℤ pos 1048576))) ≡ from_lowest z
  moved_is = ap nat_abs code_whole

  -- and back
  pub moved_back : pos (from_lowest z) -ℤ pos 1048576 ≡ z
  unfolding from_lowest
  moved_back = go z near
    where
      go : (z : ℤ) → nat_abs z ≤ 1048576 → pos (from_lowest z) -ℤ pos 1048576 ≡ z
      go (pos n) h = rw (le-ltb (1048576 + n) 1048576 (omega arith)) (ap pos (omega arith))
      go (negsuc n) h = rw (lt-ltb (1048576 - suc n) 1048576 (omega arith)) (ap negsuc (omega arith))

-- ---- two halves of the bits
module _ (n : ℕ) (few : n ≤ 9007199256838144) where
  number : is_nan (of_bits binary64 n) ≡ false
  number = sym (nan_bits_is binary64 n) ∙ nan_bits_above binary64 n ∙ le-ltb (2047 * 2 ^ 52) (n % 2 ^ 63) (omega arith)

  -- no such bits are those of a NaN
  small_bits : to_bits binary64 (of_bits binary64 n) ≡ n
  small_bits = to_bits-of_bits binary64 n (omega arith) (fails number)

pub halves_bits : (high low : ℕ) → high ≤ 2097152 → low ≤ 2097152 → to_bits binary64 (of_bits binary64 (high * 4294967296 + low)) ≡ high * 4294967296 + low
halves_bits high low h l = small_bits (high * 4294967296 + low) (omega arith)

pub upper_half : (high low : ℕ) → high ≤ 2097152 → low ≤ 2097152 → (high * 4294967296 + low) / 4294967296 % 4194304 ≡ high
upper_half high low h l = omega arith

pub lower_half : (high low : ℕ) → low ≤ 2097152 → (high * 4294967296 + low) % 4194304 ≡ low
lower_half high low l = omega arith

same : (a b x y : ℤ) → a ≡ x → b ≡ y → ◌≡◌ {A = Direction} (record { u = a; v = b }) (record { u = x; v = y })
same a b x y p q = rw (p, q)

-- a packed direction is the one that was packed
pub unpack_pack : (d : Direction) → Packable d → unpack_of (pack_of d) ≡ d
unfolding pack_of unpack_of
unpack_pack d p =
    let high = from_lowest d.u in
    let low = from_lowest d.v in
    let h : high ≤ 2097152 = from_lowest_le d.u p.u_within in
    let l : low ≤ 2097152 = from_lowest_le d.v p.v_within in
    let bits = halves_bits high low h l in
    let first : pos (to_bits binary64 (of_bits binary64 (high * 4294967296 + low)) / 4294967296 % 4194304) -ℤ pos 1048576 ≡ d.u =
    ap (λ (n : ℕ). pos (n / 4294967296 % 4194304) -ℤ pos 1048576) bits
    ∙ ap (λ (n : ℕ). pos n -ℤ pos 1048576) (upper_half high low h l)
    ∙ moved_back d.u p.u_within in
    let second : pos (to_bits binary64 (of_bits binary64 (high * 4294967296 + low)) % 4194304) -ℤ pos 1048576 ≡ d.v =
    ap (λ (n : ℕ). pos (n % 4194304) -ℤ pos 1048576) bits
    ∙ ap (λ (n : ℕ). pos n -ℤ pos 1048576) (lower_half high low l)
    ∙ moved_back d.v p.v_within in
    same _ _ _ _ first second

-- ---- `pack`
module _ (d : Direction) (p : Packable d) where
  abbrev high : ℕ
  high = nat_abs (to_z w64 (of_z w64 (to_z w64 (of_z w64 d.u) +ℤ pos 1048576)))

  abbrev low : ℕ
  low = nat_abs (to_z w64 (of_z w64 (to_z w64 (of_z w64 d.v) +ℤ pos 1048576)))

  high_le : high ≤ 2097152
  high_le = subst (λ (n : ℕ). n ≤ 2097152) (sym (moved_is d.u p.u_within)) (from_lowest_le d.u p.u_within)

  low_le : low ≤ 2097152
  low_le = subst (λ (n : ℕ). n ≤ 2097152) (sym (moved_is d.v p.v_within)) (from_lowest_le d.v p.v_within)

  pub high_fits : Fits w64 (high * 4294967296)
  high_fits = record { fits = go high high_le }
    where
      go : (n : ℕ) → n ≤ 2097152 → n * 4294967296 < 2 ^ 64
      go n h = omega arith

  pub bits_fit : Fits w64 (high * 4294967296 + low)
  bits_fit = record { fits = go high low high_le low_le }
    where
      go : (m n : ℕ) → m ≤ 2097152 → n ≤ 2097152 → m * 4294967296 + n < 2 ^ 64
      go m n h l = omega arith

  pub packed : (r : Float) → r ≡ of_bits binary64 (high * 4294967296 + low) → r ≡ pack_of d
  unfolding pack_of
  packed r is =
      is ∙ ap (λ (n : ℕ). of_bits binary64 (n * 4294967296 + low)) (moved_is d.u p.u_within)
      ∙ ap (λ (n : ℕ). of_bits binary64 (from_lowest d.u * 4294967296 + n)) (moved_is d.v p.v_within)

-- ---- `unpack`
difference_below : (m n b : ℕ) → m < b → n < b → nat_abs (sub_ℕ m n) < b
difference_below m n b h k = go (ltb m n) (ltb→lt m n)
  where
    go : (t : Bool) → (T t → m < n) → nat_abs (cond t (negsuc (n - suc m)) (pos (m - n))) < b
    go true l = omega (arith, l tt)
    go false l = omega arith

-- one half, as the code computes it
module _ (n : ℕ) (few : n < 4194304) where
  pub half_fits : SFits w64 (pos n)
  half_fits = record { sfits = lt_of_lt_of_le few (lit≤ tt) }

  half_below : nat_abs (pos n -ℤ pos 1048576) < 4194304
  half_below = difference_below n 1048576 4194304 few (lit< tt)

  half_is : to_z w64 n -ℤ pos 1048576 ≡ pos n -ℤ pos 1048576
  half_is = ap (λ (z : ℤ). z -ℤ pos 1048576) (to_z_pos w64 half_fits.sfits)

  pub half_moved_fits : SFits w64 (to_z w64 n -ℤ pos 1048576)
  half_moved_fits = subst (SFits w64) (sym half_is) (in_range_lem (pos n -ℤ pos 1048576) 4194304 (le_of_lt half_below) (lit< tt))

  half_back : to_z w64 (of_z w64 (to_z w64 n -ℤ pos 1048576)) ≡ pos n -ℤ pos 1048576
  half_back = to_z-of_z half_moved_fits ∙ half_is

-- any cell's direction is near
pub unpack_near : (x : Float) → Near (unpack_of x)
unfolding unpack_of
unpack_near x = record {
  u_below = half_below (to_bits binary64 x / 4294967296 % 4194304) (mod-lt (to_bits binary64 x / 4294967296) (lit< tt));
  v_below = half_below (to_bits binary64 x % 4194304) (mod-lt (to_bits binary64 x) (lit< tt));
}

module _ (x : Float) (bits : ℕ) (is : bits ≡ to_bits binary64 x) where
  pub upper_below : bits / 4294967296 % 4194304 < 4194304
  upper_below = mod-lt (bits / 4294967296) (lit< tt)

  pub lower_below : bits % 4194304 < 4194304
  lower_below = mod-lt bits (lit< tt)

  abbrev unpacked : Direction
  unpacked = record {
    u = to_z w64 (of_z w64 (to_z w64 (bits / 4294967296 % 4194304) -ℤ pos 1048576));
    v = to_z w64 (of_z w64 (to_z w64 (bits % 4194304) -ℤ pos 1048576));
  }

  unpacked_is : unpacked ≡ unpack_of x
  unfolding unpack_of
  unpacked_is =
      same _ _ _ _
      (half_back (bits / 4294967296 % 4194304) upper_below ∙ ap (λ (n : ℕ). pos (n / 4294967296 % 4194304) -ℤ pos 1048576) is)
      (half_back (bits % 4194304) lower_below ∙ ap (λ (n : ℕ). pos (n % 4194304) -ℤ pos 1048576) is)

  pub unpacked_near : (unpacked ≡ unpack_of x) × Near unpacked
  unpacked_near = (unpacked_is, subst Near (sym unpacked_is) (unpack_near x))
