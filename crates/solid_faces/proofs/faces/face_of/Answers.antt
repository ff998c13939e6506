-- `solid_faces::faces::face_of` meets its contract.
use mathlib.Core.Path.{refl}
use Rattle.solid_faces.proofs.BodyLaws.{readable_long, entry_room, face_is}
use Rattle.solid_faces.proofs.faces.face_of.Goals as goal

pub vertex_count-requires : goal.vertex_count-requires
vertex_count-requires c = readable_long _ c.requires.fact_1

pub entry_at-requires : goal.entry_at-requires
entry_at-requires c = let room = entry_room _ _ _ _ c.requires.fact_1 c.vertex_count.ensures refl c.requires.fact_2 in (room.vertices, room.polygon)

pub face_id-requires : goal.face_id-requires
face_id-requires c = rw c.entry_at.ensures (entry_room _ _ _ _ c.requires.fact_1 c.vertex_count.ensures refl c.requires.fact_2).inside

pub returns : goal.returns
returns c = face_is _ _ _ _ _ c.vertex_count.ensures c.entry_at.ensures c.face_id.ensures
