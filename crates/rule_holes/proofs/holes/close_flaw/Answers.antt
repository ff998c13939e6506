-- `rule_holes::holes::close_flaw` meets its contract.
use mathlib.Core.Path.{refl}
use Rattle.fault_row.specs.declared.flaw.Flaw.TheVariants.{HoleNearBend, HoleNearEdge}
use Rattle.rule_holes.specs.Holes.{too_close}
use Rattle.rule_holes.proofs.ChoiceLaws.{chosen_first, chosen_second}
use Rattle.rule_holes.proofs.holes.close_flaw.Goals as goal

pub returns-then-near_bend : goal.returns-then-near_bend
unfolding too_close
returns-then-near_bend c = chosen_first (HoleNearBend _ _ _ _) (HoleNearEdge _ _ _ _) refl c.if-near_bend.true

pub returns : goal.returns
unfolding too_close
returns c = chosen_second (HoleNearBend _ _ _ _) (HoleNearEdge _ _ _ _) refl c.if-near_bend.false
