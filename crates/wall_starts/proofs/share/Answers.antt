-- `wall_starts::share` meets its contract.
use native.Mathlib.Omega.{arith}
use Rattle.wall_starts.specs.Starts.{share}
use Rattle.wall_starts.proofs.share.Goals as goal

pub returns : goal.returns
unfolding share
returns c =
    record {
      fact_1 = omega (arith, c.max.ensures, c.ceil_usize.ensures);
      fact_2 = omega (arith, c.max.ensures);
    }
