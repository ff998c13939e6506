-- `solid_keys::chains::find` meets its contract.
use Rattle.solid_keys.specs.Work.{side_cells, slot}
use Rattle.solid_keys.proofs.WalkLaws.{Walk}
use Rattle.solid_keys.proofs.chains.find.Given as goal

abbrev pub invariant-loop-t : goal.invariant-loop-t
invariant-loop-t l = Walk (slot l.mem l.n) (λ u. side_cells l.mem u l.s) (slot l.mem l.n l.s) l.s l.t

abbrev pub decreases-loop-t : goal.decreases-loop-t
decreases-loop-t l = l.t
