-- `num_inch::sixty_fourth::of_fraction` meets its contract, by the laws of `QuotientLaws`.
use native.Mathlib.Omega.{arith}
use Rattle.num_text.proofs.Rounding.{half_pos, half_le}
use Rattle.num_inch.proofs.QuotientLaws.{fraction_quotient}
use Rattle.num_inch.proofs.sixty_fourth.of_fraction.Goals as goal

pub overflow_sub-result : goal.overflow_sub-result
overflow_sub-result c = omega (arith, half_pos c.args.v c.args.s c.requires.small c.requires.positive c.requires.few)

-- v / 127 is below 2 ^ 57, and half at most 2 ^ 62
pub overflow_add-result : goal.overflow_add-result
overflow_add-result c = omega (arith, half_le c.args.v c.args.s c.requires.small c.requires.positive c.requires.few)

pub overflow_add-result-2 : goal.overflow_add-result-2
overflow_add-result-2 c = omega (arith, half_le c.args.v c.args.s c.requires.small c.requires.positive c.requires.few)

pub returns : goal.returns
returns c = fraction_quotient c.args.v c.args.s c.requires.small c.requires.positive c.requires.few
