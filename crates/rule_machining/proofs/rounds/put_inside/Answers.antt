-- `rule_machining::rounds::put_inside` meets its contract: one rule after the other.
use Rattle.rule_machining.proofs.RoundLaws.{inside_faults}
use native.Mathlib.Omega.{arith}
use Rattle.rule_machining.proofs.rounds.put_inside.Goals as goal

pub put_deep_corner-requires : goal.put_deep_corner-requires
put_deep_corner-requires c =
    record {
      fact_1 = omega (arith, c.put_tight_radius-next.ensures.few);
      fact_2 = c.requires.fact_2;
    }

pub returns : goal.returns
returns c = inside_faults c.put_tight_radius-next.ensures c.put_deep_corner.ensures
