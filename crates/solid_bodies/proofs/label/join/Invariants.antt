-- `solid_bodies::label::join` meets its contract.
use Rattle.solid_bodies.specs.Work.{Scanned, Kept}
use Rattle.solid_bodies.proofs.label.join.Given as goal

abbrev pub invariant-loop-v : goal.invariant-loop-v
invariant-loop-v l = Scanned l.p l.n l.mem l.v × Kept l.p l.n l.initial.mem l.mem
