-- `sheet_bends::bend_radius` meets its contract: the largest radius of the faces that are passed.
use mathlib.Core.Path.{sym, ◌∙◌}
use Rattle.sheet_bends.proofs.BendLaws.{bend_faces, no_bend, some_bend}
use Rattle.sheet_bends.proofs.RadiusLaws.{radius_none, radius_skip, radius_put, radius_all}
use native.Mathlib.Omega.{arith}
use Rattle.sheet_bends.proofs.bend_radius.Goals as goal

pub loop-f-init : goal.loop-f-init
loop-f-init c = radius_none _ _

pub loop-f-preserved-in_default : goal.loop-f-preserved-in_default
loop-f-preserved-in_default c = c.loop-f.invariant ∙ sym (radius_skip _ _ _ (no_bend _ _ _ (sym c.in_default.is ∙ c.bend_at.ensures)))

pub round_at-inner-requires-clause-f_bound_2 : goal.round_at-inner-requires-clause-f_bound_2
round_at-inner-requires-clause-f_bound_2 c = (bend_faces _ _ _ (some_bend _ _ _ _ c.in-Some.ensures).0).0

pub loop-f-preserved : goal.loop-f-preserved
loop-f-preserved c = radius_put _ _ _ _ _ _ (some_bend _ _ _ _ c.in-Some.ensures).0 c.round_at-inner.ensures c.max-radius.ensures c.loop-f.invariant

pub returns : goal.returns
returns c = radius_all _ _ _ _ _ c.requires.counted.faces (omega arith) c.loop-f-test.false c.loop-f.invariant
