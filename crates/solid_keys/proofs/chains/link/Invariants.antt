-- `solid_keys::chains::link` meets its contract.
use Rattle.solid_keys.proofs.ChainLaws.{Linked}
use Rattle.solid_keys.proofs.chains.link.Given as goal

abbrev pub invariant-loop-s : goal.invariant-loop-s
invariant-loop-s l = Linked l.initial.mem l.mem l.n l.s
