-- `rule_machining::rounds::put_hole` meets its contract: one rule after the other.
use Rattle.rule_machining.proofs.RoundLaws.{hole_faults}
use native.Mathlib.Omega.{arith}
use Rattle.rule_machining.proofs.rounds.put_hole.Goals as goal

pub put_deep_hole-requires : goal.put_deep_hole-requires
put_deep_hole-requires c =
    record {
      fact_1 = omega (arith, c.put_small_hole-next.ensures.few);
      fact_2 = c.requires.fact_2;
    }

pub returns : goal.returns
returns c = hole_faults c.put_small_hole-next.ensures c.put_deep_hole.ensures
