-- `solid_flat::is_plane` meets its contract.
use Rattle.solid_flat.proofs.FlatLaws.{plane_is, other_is}
use borrow.Enum.Refused.{opened}
use Rattle.solid_flat.proofs.is_plane.Goals as goal

pub returns-in-Plane : goal.returns-in-Plane
returns-in-Plane c = plane_is _ c.in-Plane.in-Plane-own.keys1

pub returns-in_default : goal.returns-in_default
returns-in_default c = other_is _ (opened c.in_default.in_default-own.keys2)
