-- `rule_corners::segment::on_plane` meets its contract.
use Rattle.rule_corners.proofs.SegmentLaws.{surface_is}
use mathlib.Core.Path.{refl}
use Rattle.solid_faces.proofs.BodyLaws.{entry_room, checked_readable}
use native.Mathlib.Omega.{arith}
use Rattle.rule_corners.proofs.segment.on_plane.Goals as goal

pub entry_at-requires : goal.entry_at-requires
entry_at-requires c = let room = entry_room _ _ _ _ (checked_readable _ c.requires.fact_1) c.requires.fact_2 refl c.requires.fact_3 in (room.vertices, room.polygon)

pub surface-requires : goal.surface-requires
surface-requires c = omega (arith, (entry_room _ _ _ _ (checked_readable _ c.requires.fact_1) c.requires.fact_2 refl c.requires.fact_3).inside, c.entry_at.ensures)

pub returns : goal.returns
returns c = surface_is _ _ _ _ _ _ c.requires.fact_2 c.entry_at.ensures c.surface.ensures c.is_plane.ensures
