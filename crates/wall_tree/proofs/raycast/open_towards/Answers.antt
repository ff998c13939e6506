-- `wall_tree::raycast::open_towards` meets its contract.
use Rattle.wall_ray.proofs.ScanLaws.{open_is}
use Rattle.wall_tree.proofs.raycast.open_towards.Goals as goal

pub is_free-requires : goal.is_free-requires
is_free-requires c = c.requires

pub returns : goal.returns
returns c = open_is _ _ _ _ _ _ c.mul.ensures c.add.ensures c.is_free.ensures
