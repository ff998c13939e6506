-- `dfm::check::check_with` meets its contract.
use Rattle.std.proofs.Common.{arith}
use Rattle.dfm.proofs.check.check_with.Goals as goal

pub whole_as_slice-check_in : goal.whole_as_slice-check_in
whole_as_slice-check_in g c = omega (arith, c.requires.small)

pub whole_as_slice-check_in-2 : goal.whole_as_slice-check_in-2
whole_as_slice-check_in-2 g c = omega (arith, c.requires.small)
