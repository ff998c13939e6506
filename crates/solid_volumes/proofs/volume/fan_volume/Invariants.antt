-- `solid_volumes::volume::fan_volume` meets its contract.
use Prim.Native.Nat.{◌*◌}
use mathlib.Core.Path.{◌≡◌}
use Rattle.file_field.specs.Field.{vec_at_of}
use Rattle.solid_volumes.specs.Volume.{fan}
use Rattle.solid_volumes.proofs.volume.fan_volume.Given as goal

abbrev pub invariant-loop-k : goal.invariant-loop-k
invariant-loop-k l = l.sum ≡ fan (λ i. vec_at_of l.file (24 * i)) l.first l.start l.k
