-- `num_real::rounding::round_size` meets its contract, by the laws of `ShiftLaws`.
use mathlib.Core.Path.{refl}
use native.Mathlib.Nat.{lt_of_le_of_lt}
use lib.Dec.{lit<, lit≤}
use lib.Pow.{shr_le}
use Rattle.num_real.proofs.ShiftLaws.{shift_fits, shifted_lt, round_of_whole, round_of_small, half_sum_lt, round_of_fraction}
use Rattle.num_real.proofs.rounding.round_size.Goals as goal

pub overflow_shl-result : goal.overflow_shl-result
overflow_shl-result c = shift_fits _ _ _ c.decompose-digits.ensures 63 (lit≤ tt) c.requires c.if-shift-ge1074.true

pub returns-then-shift-ge1074 : goal.returns-then-shift-ge1074
returns-then-shift-ge1074 c = (
  round_of_whole _ _ _ c.decompose-digits.ensures 63 (lit≤ tt) c.requires c.if-shift-ge1074.true,
  shifted_lt _ _ _ c.decompose-digits.ensures 63 (lit≤ tt) c.requires c.if-shift-ge1074.true,
)

pub returns-then-down-ge54 : goal.returns-then-down-ge54
returns-then-down-ge54 c = (
  round_of_small _ _ _ c.decompose-digits.ensures _ refl c.if-shift-ge1074.false c.if-down-ge54.true,
  lit< tt,
)

pub returns : goal.returns
returns c = (
  round_of_fraction _ _ _ c.decompose-digits.ensures _ refl c.if-shift-ge1074.false c.if-down-ge54.false,
  lt_of_le_of_lt (shr_le _ _) (half_sum_lt _ _ _ c.decompose-digits.ensures _ refl c.if-shift-ge1074.false c.if-down-ge54.false),
)
