-- `num_real::rounding::round_i64` meets its contract, by the laws of `RoundingLaws`.
use mathlib.Core.Path.{◌∙◌}
use mathlib.Core.Bool.{true, false}
use lib.Ieee.{of_bits}
use mir.Syntax.{w64}
use mir.Facts.{to_z_pos, to_z-of_z}
use Rattle.num_real.proofs.RoundingLaws.{size_in_range, round_saturated, round_in_range, negated, negated_fits}
use Rattle.num_real.proofs.rounding.round_i64.Goals as goal

pub returns-then-x : goal.returns-then-x
unfolding of_bits
returns-then-x c = round_saturated _ _ c.abs-size.ensures true c.if-x.true c.if-size.true

pub returns-then-size : goal.returns-then-size
unfolding of_bits
returns-then-size c = round_saturated _ _ c.abs-size.ensures false c.if-x.false c.if-size.true

pub round_size-whole-requires : goal.round_size-whole-requires
unfolding of_bits
round_size-whole-requires c = size_in_range _ _ c.abs-size.ensures c.if-size.false

pub returns-then-x-2 : goal.returns-then-x-2
unfolding of_bits
returns-then-x-2 c =
    let n = c.round_size-whole in
    to_z-of_z (negated_fits _ n.ensures.1)
    ∙ negated _ n.ensures.1
    ∙ round_in_range _ _ c.abs-size.ensures true n.result c.if-x-2.true c.if-size.false n.ensures.0 n.ensures.1

pub returns : goal.returns
unfolding of_bits
returns c =
    let n = c.round_size-whole in
    to_z_pos w64 n.ensures.1
    ∙ round_in_range _ _ c.abs-size.ensures false n.result c.if-x-2.false c.if-size.false n.ensures.0 n.ensures.1
