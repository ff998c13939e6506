-- `probe::roots::gablemadder_sqrt_each` meets its contract, by the laws of `Each.antt`.
use native.Mathlib.Omega.{arith}
use Rattle.num_root.specs.Root.{root}
use Rattle.probe.proofs.Each.{none, more, all}
use Rattle.probe.proofs.roots.gablemadder_sqrt_each.Goals as goal

pub loop-value-init : goal.loop-value-init
loop-value-init c = none root _

pub loop-value-preserved : goal.loop-value-preserved
loop-value-preserved c = more root _ _ _ _ (omega arith) c.sqrt.ensures c.loop-value.invariant

pub returns : goal.returns
returns c = all root _ _ _ (omega arith) c.loop-value.invariant
