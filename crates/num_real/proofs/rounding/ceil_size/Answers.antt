-- `num_real::rounding::ceil_size` meets its contract, by the laws of `ShiftLaws`.
use mathlib.Core.Path.{refl}
use lib.Dec.{lit≤}
use Rattle.num_real.proofs.ShiftLaws.{shift_fits, ceil_of_whole, ceil_of_small, ceil_of_fraction}
use Rattle.num_real.proofs.rounding.ceil_size.Goals as goal

pub overflow_shl-result : goal.overflow_shl-result
overflow_shl-result c = shift_fits _ _ _ c.decompose-digits.ensures 64 (lit≤ tt) c.requires.fact_2 c.if-shift-ge1074.true

pub returns-then-shift-ge1074 : goal.returns-then-shift-ge1074
returns-then-shift-ge1074 c = ceil_of_whole _ _ _ c.decompose-digits.ensures 64 (lit≤ tt) c.requires.fact_2 c.if-shift-ge1074.true

pub returns-then-down-ge53 : goal.returns-then-down-ge53
returns-then-down-ge53 c =
    ceil_of_small _ _ _ c.decompose-digits.ensures _ refl c.if-shift-ge1074.false c.requires.fact_1 c.if-down-ge53.true

pub returns : goal.returns
returns c =
    ceil_of_fraction _ _ _ c.decompose-digits.ensures _ refl c.if-shift-ge1074.false c.if-down-ge53.false
