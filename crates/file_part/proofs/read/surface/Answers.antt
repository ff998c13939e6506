-- `file_part::read::surface` meets its contract.
use Rattle.file_part.proofs.SurfaceLaws.{surface_plane, surface_cylinder, surface_revolved, surface_other}
use Rattle.file_part.proofs.read.surface.Goals as goal

pub returns-in-0 : goal.returns-in-0
returns-in-0 c = surface_plane _ _ _ c.u32_at.ensures c.in-0.is

pub returns-in-1 : goal.returns-in-1
returns-in-1 c = surface_cylinder _ _ _ _ _ _ c.u32_at.ensures c.in-1.is c.vec_at.ensures c.vec_at-in-1.ensures c.f64_at.ensures

pub returns-in-2 : goal.returns-in-2
returns-in-2 c = surface_revolved _ _ _ _ _ c.u32_at.ensures c.in-2.is c.vec_at-in-2.ensures c.vec_at-in-2-2.ensures

pub returns-in_default : goal.returns-in_default
returns-in_default c = surface_other _ _ _ c.u32_at.ensures c.in_default.in_default-own.rest.0.0.1 c.in_default.in_default-own.rest.0.1 c.in_default.in_default-own.rest.1
