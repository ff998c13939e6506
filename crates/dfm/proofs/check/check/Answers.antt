-- `dfm::check::check` meets its contract: with cells for as many rows as are lent.
use Rattle.std.proofs.Common.{refl, arith}
use Rattle.dfm.proofs.OutcomeLaws.{rows_few, rows_many}
use Rattle.dfm.proofs.check.check.Goals as goal

pub check_with-requires : goal.check_with-requires
check_with-requires c = record { small = (omega arith, omega arith); room = rows_few 384 192 _ refl refl c.if-rows-le64.true }

pub check_with-requires-2 : goal.check_with-requires-2
check_with-requires-2 c = record { small = (omega arith, omega arith); room = rows_many 12288 6144 _ refl refl }
