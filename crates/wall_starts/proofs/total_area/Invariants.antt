-- `wall_starts::total_area` meets its contract.
use Rattle.wall_starts.proofs.KeptLaws.{TotalTo}
use Rattle.wall_starts.proofs.total_area.Given as goal

abbrev pub invariant-loop-f : goal.invariant-loop-f
invariant-loop-f l = TotalTo l.areas l.f l.total
