-- `wall_samples::cast::ray_of` meets its contract.
use mathlib.Core.Path.{◌∙◌}
use Rattle.wall_samples.proofs.CastLaws.{plane_room, ray_is}
use Rattle.wall_samples.proofs.cast.ray_of.Goals as goal

pub plane_at-requires : goal.plane_at-requires
plane_at-requires c =
    plane_room _ _ _ _ c.requires.fact_1 _ c.requires.fact_2

pub returns : goal.returns
returns c =
    ray_is _ _ _ _ _ _ _ c.centroid_of-c.ensures (c.plane_at.ensures ∙ c.requires.fact_1.the_reals.planes.each _ c.requires.fact_2) c.mul-inward.ensures c.mul.ensures c.add.ensures
