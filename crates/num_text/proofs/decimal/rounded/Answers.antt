-- `num_text::decimal::rounded` meets its contract, by the laws of `Scaling`.
use mathlib.Core.Path.{sym, subst}
use Prim.Native.Nat.{ℕ, ◌*◌, ◌<◌, ◌^◌}
use native.Mathlib.Omega.{arith}
use Rattle.num_text.proofs.Scaling.{power_pos, shift_small, divided_whole, product_lt, divided_tiny, divided_fraction}
use Rattle.num_text.proofs.decimal.rounded.Goals as goal

pub overflow_shl-result : goal.overflow_shl-result
overflow_shl-result c =
    shift_small c.args.x c.args.places _ _ c.decompose-digits.ensures c.requires.fact_2 c.requires.fact_1 c.if-shift-ge1074.true

pub returns-then-shift-ge1074 : goal.returns-then-shift-ge1074
returns-then-shift-ge1074 c =
    divided_whole c.args.x c.args.places _ _ c.decompose-digits.ensures c.requires.fact_2 c.requires.fact_1 c.if-shift-ge1074.true

pub returns-then-s-ge64 : goal.returns-then-s-ge64
returns-then-s-ge64 c =
    divided_tiny c.args.x c.args.places _ _ c.decompose-digits.ensures c.requires.fact_2 c.requires.fact_1 c.if-shift-ge1074.false c.if-s-ge64.true

pub nearest_shift-n-requires : goal.nearest_shift-n-requires
nearest_shift-n-requires c =
    let product : c.decompose-digits.result.digits * c.pow-ten.result < 2 ^ 63 = subst (λ (t : ℕ). c.decompose-digits.result.digits * t < 2 ^ 63) (sym c.pow-ten.ensures)
    (product_lt c.args.x c.args.places _ _ c.decompose-digits.ensures c.requires.fact_2 c.requires.fact_1) in
    record {
      fact_1 = product;
      fact_2 = omega (arith, c.if-shift-ge1074.false);
      fact_3 = c.if-s-ge64.false;
    }

pub nonzero_div-result : goal.nonzero_div-result
nonzero_div-result c =
    let positive : 0 < c.pow-ten.result = subst (λ (t : ℕ). 0 < t) (sym c.pow-ten.ensures) (power_pos c.args.places) in positive

pub nonzero_rem-result : goal.nonzero_rem-result
nonzero_rem-result c =
    let positive : 0 < c.pow-ten.result = subst (λ (t : ℕ). 0 < t) (sym c.pow-ten.ensures) (power_pos c.args.places) in positive

pub returns : goal.returns
returns c =
    divided_fraction c.args.x c.args.places _ _ c.decompose-digits.ensures c.requires.fact_2 c.requires.fact_1 c.if-shift-ge1074.false
    c.nearest_shift-n.result c.pow-ten.result c.pow-ten.ensures c.nearest_shift-n.ensures
