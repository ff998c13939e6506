-- `num_real::bits::decompose` meets its contract, by the laws of `BitsLaws`.
use mathlib.Core.Path.{sym, subst}
use lib.Dec.{T}
use lib.Ieee.{binary64, of_bits, nan_bits, neg, fits}
use lib.Ieee.Scale.{finite}
use borrow.Author.Rules.{rules}
use Rattle.num_real.proofs.BitsLaws.{between→finite, not_below→no_size, not_above→no_size, no_size→decomposed, subnormal, normal}
use Rattle.num_real.proofs.bits.decompose.Goals as goal

pub float_from_bits-infinity : goal.float_from_bits-infinity
unfolding nan_bits
float_from_bits-infinity c = search rules

pub returns-then-field-eq0 : goal.returns-then-field-eq0
unfolding of_bits neg
returns-then-field-eq0 c =
    let held : T (fits binary64 c.args.x) = subst T (sym c.well_formed.0.1) tt in
    let is_finite : T (finite c.args.x) = between→finite c.args.x c.if-x-infinity.true c.if-infinity-x.true in
    subnormal c.args.x held is_finite c.if-field-eq0.true

pub returns-then-infinity-x : goal.returns-then-infinity-x
unfolding of_bits neg
returns-then-infinity-x c =
    let held : T (fits binary64 c.args.x) = subst T (sym c.well_formed.0.1) tt in
    let is_finite : T (finite c.args.x) = between→finite c.args.x c.if-x-infinity.true c.if-infinity-x.true in
    normal c.args.x held is_finite c.if-field-eq0.false

pub returns-else-infinity-x : goal.returns-else-infinity-x
unfolding of_bits neg
returns-else-infinity-x c = no_size→decomposed c.args.x (not_above→no_size c.args.x c.if-infinity-x.false)

pub returns-else-x-infinity : goal.returns-else-x-infinity
unfolding of_bits
returns-else-x-infinity c = no_size→decomposed c.args.x (not_below→no_size c.args.x c.if-x-infinity.false)
