-- `file_ok::rules::surface_is_good` meets its contract.
use Rattle.file_ok.proofs.GoodLaws.{good_flat, good_cylinder, good_revolved, good_none}
use Rattle.file_ok.proofs.rules.surface_is_good.Goals as goal

pub returns-in-0 : goal.returns-in-0
returns-in-0 c = good_flat _ _ _ _ c.in-0.is c.zero_words.ensures

pub returns-in-1 : goal.returns-in-1
returns-in-1 c = good_cylinder _ _ _ _ _ c.in-1.is c.axis_is_good.ensures c.radius_is_good.ensures

pub returns-in-2 : goal.returns-in-2
returns-in-2 c = good_revolved _ _ _ _ _ c.in-2.is c.axis_is_good-in-2.ensures c.zero_words-in-2.ensures

pub returns-in_default : goal.returns-in_default
returns-in_default c = good_none _ _ _ c.in_default.in_default-own.rest.0.0.1 c.in_default.in_default-own.rest.0.1 c.in_default.in_default-own.rest.1
