-- `solid_polygon::polygon::next` meets its contract.
use native.Mathlib.Omega.{arith}
use Rattle.solid_polygon.proofs.CornerLaws.{after_last, after_next}
use Rattle.solid_polygon.proofs.polygon.next.Goals as goal

pub returns-then-k-n : goal.returns-then-k-n
returns-then-k-n c =
    record {
      fact_1 = after_last _ _ c.if-k-n.true;
      fact_2 = omega (arith, c.requires);
    }

pub returns : goal.returns
returns c =
    record {
      fact_1 = after_next _ _ c.if-k-n.false;
      fact_2 = omega (arith, c.requires, c.if-k-n.false);
    }
