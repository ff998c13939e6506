-- `wall_median::put_numbers` meets its contract.
use Rattle.wall_median.specs.Work.{NumbersPut}
use Rattle.wall_median.proofs.put_numbers.Given as goal

abbrev pub invariant-loop-i : goal.invariant-loop-i
invariant-loop-i l = NumbersPut l.i l.at l.initial.words l.words
