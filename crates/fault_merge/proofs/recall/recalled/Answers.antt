-- `fault_merge::recall::recalled` meets its contract: what is recalled is compared.
use Rattle.std.proofs.Common.{arith}
use Rattle.fault_merge.proofs.RecallLaws.{rows_as}
use Rattle.fault_merge.proofs.recall.recalled.Goals as goal

pub row_at-requires : goal.row_at-requires
row_at-requires c = record {
  fact_1 = omega (arith, c.if-j-i.true, c.requires.fact_1);
  fact_2 = omega (arith, c.if-j-i.true, c.requires.fact_2);
}

pub row_at-requires-then-j-i : goal.row_at-requires-then-j-i
row_at-requires-then-j-i c = record {
  fact_1 = c.requires.fact_1;
  fact_2 = c.requires.fact_2;
}

pub returns-then-same_row : goal.returns-then-same_row
returns-then-same_row c = (c.if-j-i.true, rows_as _ _ _ _ c.row_at.ensures c.row_at-then-j-i.ensures (c.same_row.ensures c.if-same_row.true))
