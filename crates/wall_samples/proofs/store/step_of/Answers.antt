-- `wall_samples::store::step_of` meets its contract.
use native.Mathlib.Omega.{arith}
use native.Mathlib.Nat.{div-le_self}
use Rattle.wall_starts.specs.Starts.{step_of}
use Rattle.wall_samples.proofs.store.step_of.Goals as goal

pub returns : goal.returns
unfolding step_of
returns c =
    record {
      fact_1 = omega (arith, c.max.ensures);
      fact_2 = omega (arith, c.max.ensures);
      fact_3 = omega (arith, c.max.ensures, div-le_self c.args.n c.args.want);
    }
