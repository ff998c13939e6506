-- `rule_holes::nearest::is_no_nearer` meets its contract: none of its squares is below one whose root is far enough.
use mathlib.Core.Path.{sym, subst}
use Rattle.rule_holes.specs.Work.{NoNearer}
use Rattle.rule_holes.proofs.NearestLaws.{no_nearer}
use Rattle.rule_holes.proofs.nearest.is_no_nearer.Goals as goal

pub between_square-least-requires : goal.between_square-least-requires
between_square-least-requires c =
    record {
      fact_1 = c.requires.fact_1;
      fact_2 = c.requires.fact_2;
      fact_3 = c.requires.fact_3;
    }

pub sqrt-requires : goal.sqrt-requires
sqrt-requires c = tt

pub returns : goal.returns
returns c = λ h. subst (NoNearer _ _ _) (sym c.in-Some.is) (no_nearer _ _ _ _ _ _ _ c.between_square-least.ensures c.sqrt.ensures h)
