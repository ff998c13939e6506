-- `wall_starts::put_falling` meets its contract.
use Rattle.wall_starts.specs.Work.{Negated}
use Rattle.wall_starts.proofs.put_falling.Given as goal

abbrev pub invariant-loop-k : goal.invariant-loop-k
invariant-loop-k l = Negated l.initial.reals l.reals l.areas l.falling l.k
