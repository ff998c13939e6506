-- `rule_holes::holes::min_hole` meets its contract.
use Rattle.rule_holes.proofs.LimitLaws.{hardened, soft}
use Rattle.rule_holes.proofs.holes.min_hole.Goals as goal

pub is_named-requires : goal.is_named-requires
is_named-requires c = c.requires

pub is_named-requires-2 : goal.is_named-requires-2
is_named-requires-2 c = c.requires

pub returns-then-is_named : goal.returns-then-is_named
returns-then-is_named c = hardened _ _ _ _ c.is_named.ensures c.is_named-2.ensures c.if-is_named.true

pub returns : goal.returns
returns c = soft _ _ _ _ c.is_named.ensures c.is_named-2.ensures c.if-is_named.false
