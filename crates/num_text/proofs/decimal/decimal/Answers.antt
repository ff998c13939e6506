-- `num_text::decimal::decimal` meets its contract, by the laws of `DecimalLaws`.
use mathlib.Core.Path.{sym, subst}
use mathlib.Core.Bool.{true, false}
use Prim.Native.Nat.{ℕ, ◌<◌, ◌^◌}
use native.Mathlib.Omega.{arith}
use lib.Dec.{T}
use lib.Ieee.{le, lt}
use Rattle.num_text.specs.Decimal.{zero, limit}
use Rattle.num_text.proofs.DecimalLaws.{from_zero, to_limit, below_limit, whole_lt, refuse_negative, refuse_large, refuse_places, refuse_short, accept}
use Rattle.num_text.proofs.decimal.decimal.Goals as goal

pub returns-then-out-lt24 : goal.returns-then-out-lt24
returns-then-out-lt24 c =
    refuse_short c.args.x c.args.places c.args.out.now c.if-out-lt24.true

pub returns-then-places-gt3 : goal.returns-then-places-gt3
returns-then-places-gt3 c =
    refuse_places c.args.x c.args.places c.args.out.now c.if-places-gt3.true

pub rounded-whole-requires : goal.rounded-whole-requires
rounded-whole-requires c =
    let not_negative : T (le zero c.args.x) = subst T (sym (from_zero c.args.x true c.if-x.true)) tt in
    let not-large : T (lt c.args.x limit) = subst T (sym (to_limit c.args.x true c.if-x-2.true)) tt in
    record {
      fact_1 = below_limit c.args.x not_negative not-large;
      fact_2 = omega arith;
    }

pub put_pointed-requires : goal.put_pointed-requires
put_pointed-requires c =
    let not_negative : T (le zero c.args.x) = subst T (sym (from_zero c.args.x true c.if-x.true)) tt in
    let not-large : T (lt c.args.x limit) = subst T (sym (to_limit c.args.x true c.if-x-2.true)) tt in
    let small = whole_lt c.args.x c.args.places (below_limit c.args.x not_negative not-large) in
    record {
      fact_1 = subst (λ (k : ℕ). k < 10 ^ 19) (sym c.rounded-whole.ensures.quotient_is) small;
      fact_2 = omega arith;
      fact_3 = omega arith;
    }

pub returns-then-x-2 : goal.returns-then-x-2
returns-then-x-2 c =
    let not_negative : T (le zero c.args.x) = subst T (sym (from_zero c.args.x true c.if-x.true)) tt in
    let not-large : T (lt c.args.x limit) = subst T (sym (to_limit c.args.x true c.if-x-2.true)) tt in
    accept c.args.x c.args.places c.args.out.now not_negative not-large (omega arith) (omega arith) c.rounded-whole.ensures c.put_pointed.ensures

pub returns-else-x-2 : goal.returns-else-x-2
returns-else-x-2 c =
    refuse_large c.args.x c.args.places c.args.out.now (to_limit c.args.x false c.if-x-2.false)

pub returns-else-x : goal.returns-else-x
returns-else-x c =
    refuse_negative c.args.x c.args.places c.args.out.now (from_zero c.args.x false c.if-x.false)
