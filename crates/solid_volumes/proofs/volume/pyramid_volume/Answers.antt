-- `solid_volumes::volume::pyramid_volume` meets its contract.
use Rattle.solid_volumes.specs.Volume.{pyramid}
use Rattle.solid_volumes.proofs.volume.pyramid_volume.Goals as goal

pub returns : goal.returns
unfolding pyramid
returns c = rw (c.dot.ensures, c.cross.ensures)
