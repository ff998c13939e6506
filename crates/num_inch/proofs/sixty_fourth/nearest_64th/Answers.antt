-- `num_inch::sixty_fourth::nearest_64th` meets its contract, by the laws of `ScaleLaws`.
use native.Mathlib.Nat.{lt_of_lt_of_le}
use native.Mathlib.Omega.{arith}
use lib.Dec.{lit≤}
use Rattle.num_inch.proofs.ScaleLaws.{shift_lt, whole_lt, whole_64ths, product_lt, fraction_64ths, tiny_64ths}
use Rattle.num_inch.proofs.sixty_fourth.nearest_64th.Goals as goal

pub overflow_shl-digits : goal.overflow_shl-digits
overflow_shl-digits c = shift_lt c.args.x _ _ c.decompose-digits.ensures c.requires c.if-shift-ge1074.true

pub of_whole-requires : goal.of_whole-requires
of_whole-requires c = whole_lt c.args.x _ _ c.decompose-digits.ensures c.requires c.if-shift-ge1074.true

pub returns-then-shift-ge1074 : goal.returns-then-shift-ge1074
returns-then-shift-ge1074 c =
    whole_64ths c.args.x _ _ c.decompose-digits.ensures c.requires c.if-shift-ge1074.true _ c.of_whole.ensures

pub returns-then-s-ge56 : goal.returns-then-s-ge56
returns-then-s-ge56 c =
    tiny_64ths c.args.x _ _ c.decompose-digits.ensures c.if-shift-ge1074.false c.if-s-ge56.true

pub overflow_mul-digits : goal.overflow_mul-digits
overflow_mul-digits c =
    record { fits = lt_of_lt_of_le (product_lt c.args.x _ _ c.decompose-digits.ensures) (lit≤ tt) }

pub of_fraction-requires : goal.of_fraction-requires
of_fraction-requires c =
    record {
      small = product_lt c.args.x _ _ c.decompose-digits.ensures;
      positive = omega (arith, c.if-shift-ge1074.false);
      few = omega (arith, c.if-s-ge56.false);
    }

pub returns : goal.returns
returns c =
    fraction_64ths c.args.x _ _ c.decompose-digits.ensures c.if-shift-ge1074.false _ c.of_fraction.ensures
