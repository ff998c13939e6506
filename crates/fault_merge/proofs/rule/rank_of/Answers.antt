-- `fault_merge::rule::rank_of` meets its contract: both ranks in one number.
use Rattle.std.proofs.Common.{arith}
use Rattle.fault_row.proofs.NameLaws.{rule_rank_lt}
use Rattle.fault_merge.proofs.TextLaws.{row_severity_lt, rank_is}
use Rattle.fault_merge.proofs.rule.rank_of.Goals as goal

pub overflow_mul-result : goal.overflow_mul-result
overflow_mul-result c = omega (arith, row_severity_lt _ _ c.row_of-row.ensures)

pub overflow_add-result : goal.overflow_add-result
overflow_add-result c = omega (arith, row_severity_lt _ _ c.row_of-row.ensures, c.rank.ensures, rule_rank_lt c.rule_of.result)

pub returns : goal.returns
returns c = λ t. rank_is t _ _ _ _ c.row_of-row.ensures (c.rule_of.ensures t) c.rank.ensures
