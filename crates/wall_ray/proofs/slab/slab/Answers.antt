-- `wall_ray::slab::slab` meets its contract.
use Rattle.wall_ray.proofs.SlabLaws.{chained, endless_is}
use Rattle.wall_ray.proofs.slab.slab.Goals as goal

pub returns : goal.returns
returns c = chained _ _ _ _ _ _ _ _ _ _ _ _ _ (rw endless_is) c.meeting.ensures c.meeting-2.ensures c.narrow-sx.ensures c.meeting-3.ensures c.meeting-4.ensures c.narrow-sy.ensures c.meeting-5.ensures c.meeting-6.ensures c.narrow.ensures
