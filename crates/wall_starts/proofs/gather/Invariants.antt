-- `wall_starts::gather` meets its contract.
use Prim.Native.Nat.{◌-◌}
use Rattle.wall_starts.proofs.KeptLaws.{GatheredTo}
use Rattle.wall_starts.proofs.gather.Given as goal

abbrev pub invariant-loop-q : goal.invariant-loop-q
invariant-loop-q l = GatheredTo l.initial.words l.words l.chain l.order l.p l.first l.q l.n

abbrev pub decreases-loop-q : goal.decreases-loop-q
decreases-loop-q l = l.p - l.q
