-- `rule_flanges::legs::leg_at` meets its contract: its three cells.
use Rattle.rule_flanges.proofs.LegLaws.{leg_is}
use native.Mathlib.Omega.{arith}
use Rattle.rule_flanges.proofs.legs.leg_at.Goals as goal

pub overflow_mul-i : goal.overflow_mul-i
overflow_mul-i c = omega (arith, c.requires, c.ranges)

pub returns : goal.returns
returns c = leg_is _ _ _ _ _ c.cell.ensures c.cell-2.ensures c.cell-3.ensures
