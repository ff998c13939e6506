-- `round_hole::hole::dot` meets its contract.
use mathlib.Core.Path.{sym, subst}
use Prim.Native.Nat.{◌≤◌}
use lib.IntN.{ℤ, nat_abs}
use Rattle.round_hole.specs.Direction.{dot_of}
use Rattle.round_hole.proofs.WholeLaws.{product_fits, sum_fits, sum_back, sum_size}
use Rattle.round_hole.proofs.hole.dot.Goals as goal

pub overflow_mul-result : goal.overflow_mul-result
overflow_mul-result c =
    product_fits c.args.a.u c.args.b.u c.requires.fact_1.u_below c.requires.fact_2.u_below

pub overflow_mul-result-2 : goal.overflow_mul-result-2
overflow_mul-result-2 c =
    product_fits c.args.a.v c.args.b.v c.requires.fact_1.v_below c.requires.fact_2.v_below

pub overflow_add-result : goal.overflow_add-result
overflow_add-result c =
    sum_fits c.args.a.u c.args.b.u c.args.a.v c.args.b.v
    c.requires.fact_1.u_below c.requires.fact_2.u_below c.requires.fact_1.v_below c.requires.fact_2.v_below

pub returns : goal.returns
unfolding dot_of
returns c =
    let is =
    sum_back c.args.a.u c.args.b.u c.args.a.v c.args.b.v
    c.requires.fact_1.u_below c.requires.fact_2.u_below c.requires.fact_1.v_below c.requires.fact_2.v_below in
    let few =
    sum_size c.args.a.u c.args.b.u c.args.a.v c.args.b.v
    c.requires.fact_1.u_below c.requires.fact_2.u_below c.requires.fact_1.v_below c.requires.fact_2.v_below in
    record {
      fact_1 = is;
      fact_2 = subst (λ (z : ℤ). nat_abs z ≤ 35184372088832) (sym is) few;
    }
