-- `round_all::round::origin` meets its contract.
use Rattle.math.specs.Vector.{zero_vec}
use Rattle.round_all.proofs.SurfaceLaws.{origin_cylinder, origin_other}
use borrow.Enum.Refused.{opened}
use Rattle.round_all.proofs.round.origin.Goals as goal

pub returns-in-Cylinder : goal.returns-in-Cylinder
returns-in-Cylinder c = origin_cylinder _ _ _ _ c.in-Cylinder.is

pub returns-in_default : goal.returns-in_default
unfolding zero_vec
returns-in_default c = origin_other _ (opened c.in_default.in_default-own.keys2)
