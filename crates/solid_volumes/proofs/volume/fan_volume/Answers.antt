-- `solid_volumes::volume::fan_volume` meets its contract.
use Prim.Native.Nat.{◌*◌}
use Rattle.file_field.specs.Field.{vec_at_of}
use Rattle.solid_volumes.proofs.VolumeLaws.{fan_none, fan_more}
use Rattle.solid_volumes.proofs.volume.fan_volume.Goals as goal

pub loop-k-init : goal.loop-k-init
loop-k-init c = fan_none _ _ _

pub loop-k-preserved : goal.loop-k-preserved
loop-k-preserved c =
    fan_more (λ i. vec_at_of c.args.file.now (24 * i)) _ c.args.start c.loop-k.k c.loop-k.sum c.pyramid_volume-sum.result _ _ _ c.loop-k.invariant
    c.vertex-tip.ensures c.vertex.ensures c.vertex-in-loop-k.ensures c.pyramid_volume-sum.ensures
