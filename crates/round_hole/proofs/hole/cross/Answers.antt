-- `round_hole::hole::cross` meets its contract.
use mathlib.Core.Path.{sym, subst}
use Prim.Native.Nat.{◌≤◌}
use lib.IntN.{ℤ, nat_abs}
use Rattle.round_hole.specs.Direction.{cross_of}
use Rattle.round_hole.proofs.WholeLaws.{product_fits, difference_fits, difference_back, difference_size}
use Rattle.round_hole.proofs.hole.cross.Goals as goal

pub overflow_mul-result : goal.overflow_mul-result
overflow_mul-result c =
    product_fits c.args.a.u c.args.b.v c.requires.fact_1.u_below c.requires.fact_2.v_below

pub overflow_mul-result-2 : goal.overflow_mul-result-2
overflow_mul-result-2 c =
    product_fits c.args.a.v c.args.b.u c.requires.fact_1.v_below c.requires.fact_2.u_below

pub overflow_sub-result : goal.overflow_sub-result
overflow_sub-result c =
    difference_fits c.args.a.u c.args.b.v c.args.a.v c.args.b.u
    c.requires.fact_1.u_below c.requires.fact_2.v_below c.requires.fact_1.v_below c.requires.fact_2.u_below

pub returns : goal.returns
unfolding cross_of
returns c =
    let is =
    difference_back c.args.a.u c.args.b.v c.args.a.v c.args.b.u
    c.requires.fact_1.u_below c.requires.fact_2.v_below c.requires.fact_1.v_below c.requires.fact_2.u_below in
    let few =
    difference_size c.args.a.u c.args.b.v c.args.a.v c.args.b.u
    c.requires.fact_1.u_below c.requires.fact_2.v_below c.requires.fact_1.v_below c.requires.fact_2.u_below in
    record {
      fact_1 = is;
      fact_2 = subst (λ (z : ℤ). nat_abs z ≤ 35184372088832) (sym is) few;
    }
