-- `rule_holes::holes::Limits::need` meets its contract.
use mathlib.Core.Path.{refl}
use Rattle.rule_holes.proofs.ChoiceLaws.{chosen_first, chosen_second}
use Rattle.rule_holes.proofs.holes.Limits.need.Goals as goal

pub returns-then-near_bend : goal.returns-then-near_bend
returns-then-near_bend c = chosen_first _ _ refl c.if-near_bend.true

pub returns : goal.returns
returns c = chosen_second _ _ refl c.if-near_bend.false
