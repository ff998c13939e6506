-- `num_root::sqrt_bits` meets its contract: each way out is a law of `Fields.antt`.
use Rattle.std.proofs.Common.{sym, ap, ◌∙◌, rules}
use lib.Ieee.{Float, binary64, to_bits}
use Rattle.num_root.proofs.Fields.{no_root, of_inf, of_minus_zero, of_zero, of_nan}
use Rattle.num_root.proofs.sqrt_bits.Goals as goal

pub returns-then-b-eq0 : goal.returns-then-b-eq0
returns-then-b-eq0 c = of_zero _ c.if-b-eq0.true

pub returns-then-b-lt9218868437227405312 : goal.returns-then-b-lt9218868437227405312
returns-then-b-lt9218868437227405312 c = c.positive.ensures ∙ ap (λ (x : Float). to_bits binary64 x) (sym c.parts_of-s.ensures.root_is)

pub returns-then-b-eq9218868437227405312 : goal.returns-then-b-eq9218868437227405312
returns-then-b-eq9218868437227405312 c = of_inf _ c.if-b-eq9218868437227405312.true

pub returns-then-b-eq9223372036854775808 : goal.returns-then-b-eq9223372036854775808
returns-then-b-eq9223372036854775808 c = of_minus_zero _ c.if-b-eq9223372036854775808.true

pub returns : goal.returns
returns c =
    of_nan _ (no_root c.args.b c.ranges.b.fits c.if-b-lt9218868437227405312.false c.if-b-eq9218868437227405312.false c.if-b-eq9223372036854775808.false)
