-- `round_all::round::radius` meets its contract.
use Rattle.round_all.proofs.SurfaceLaws.{radius_cylinder, radius_other}
use borrow.Enum.Refused.{opened}
use Rattle.round_all.proofs.round.radius.Goals as goal

pub returns-in-Cylinder : goal.returns-in-Cylinder
returns-in-Cylinder c = radius_cylinder _ _ _ _ c.in-Cylinder.is

pub returns-in_default : goal.returns-in_default
returns-in_default c = radius_other _ (opened c.in_default.in_default-own.keys2)
