-- `rule_holes::holes::limits_of` meets its contract.
use Rattle.rule_holes.proofs.LimitLaws.{limits_are}
use Rattle.rule_holes.proofs.holes.limits_of.Goals as goal

pub bend_radius-radius-requires : goal.bend_radius-radius-requires
bend_radius-radius-requires c = c.requires

pub min_hole-requires : goal.min_hole-requires
min_hole-requires c = c.requires.ordered.standing.placed.checked

pub returns : goal.returns
returns c = limits_are _ _ _ _ c.min_hole.ensures c.bend_radius-radius.ensures
