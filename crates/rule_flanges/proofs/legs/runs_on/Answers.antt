-- `rule_flanges::legs::runs_on` meets its contract: the tests of dfm.rs, one after the other.
use mathlib.Core.Path.{sym, ◌∙◌, ap}
use Rattle.rule_flanges.proofs.LegLaws.{not_true, not_false, runs_not_flat, runs_not_bend, runs_by}
use mathlib.Core.Bool.{not}
use Rattle.rule_flanges.proofs.legs.runs_on.Goals as goal

pub is_flat-requires : goal.is_flat-requires
is_flat-requires c =
    record {
      fact_1 = c.requires.fact_1.ordered.standing;
      fact_2 = c.requires.fact_2;
    }

pub returns-then-not-is_flat : goal.returns-then-not-is_flat
returns-then-not-is_flat c = runs_not_flat _ _ _ _ (sym c.is_flat.ensures ∙ not_true _ (ap not c.if-not-is_flat.true))

pub is_bend_face-requires : goal.is_bend_face-requires
is_bend_face-requires c =
    record {
      fact_1 = c.requires.fact_1;
      fact_2 = c.requires.fact_2;
    }

pub returns-then-is_bend_face : goal.returns-then-is_bend_face
returns-then-is_bend_face c = runs_not_bend _ _ _ _ (sym c.is_flat.ensures ∙ not_false _ (ap not c.if-not-is_flat.false)) (sym c.is_bend_face.ensures ∙ c.if-is_bend_face.true)

pub face_normal-normal-requires : goal.face_normal-normal-requires
face_normal-normal-requires c =
    record {
      fact_1 = c.requires.fact_1.ordered.standing;
      fact_2 = c.requires.fact_2;
    }

pub returns : goal.returns
returns c = runs_by _ _ _ _ (sym c.is_flat.ensures ∙ not_false _ (ap not c.if-not-is_flat.false)) (sym c.is_bend_face.ensures ∙ c.if-is_bend_face.false) _ _ _ c.face_normal-normal.ensures c.dot.ensures c.abs.ensures
