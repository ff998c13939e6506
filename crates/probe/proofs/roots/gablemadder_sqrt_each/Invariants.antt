-- `probe::roots::gablemadder_sqrt_each` meets its contract, by the laws of `Each.antt`.
use Rattle.num_root.specs.Root.{root}
use Rattle.probe.proofs.Each.{Done}
use Rattle.probe.proofs.roots.gablemadder_sqrt_each.Given as goal

abbrev pub invariant-loop-value : goal.invariant-loop-value
invariant-loop-value l = Done root l.value-index l.initial.values l.values
