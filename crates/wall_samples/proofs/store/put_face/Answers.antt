-- `wall_samples::store::put_face` meets its contract.
use mathlib.Core.Path.{refl}
use Rattle.file_part.specs.Part.{part_of}
use Rattle.solid_faces.proofs.BodyLaws.{checked_faces}
use Rattle.wall_starts.proofs.ShareLaws.{wanted_least}
use Rattle.wall_samples.proofs.FaceLaws.{order_room, order_count, order_standing, order_listed, face_put}
use native.Mathlib.Omega.{arith}
use Rattle.wall_samples.proofs.store.put_face.Goals as goal

pub overflow_add-first : goal.overflow_add-first
overflow_add-first c = omega (arith, c.requires.ready_1.standing, c.requires.face_bound_1, checked_faces _ c.requires.ready_1.standing.placed.checked)

pub offset_bounds-words-at : goal.offset_bounds-words-at
offset_bounds-words-at c = omega (arith, c.requires.ready_1.standing, c.requires.face_bound_1, checked_faces _ c.requires.ready_1.standing.placed.checked)

pub bounds-words-at : goal.bounds-words-at
bounds-words-at c = omega (arith, c.requires.ready_1.standing, c.requires.face_bound_1, checked_faces _ c.requires.ready_1.standing.placed.checked)

pub face_order-n-requires : goal.face_order-n-requires
face_order-n-requires c =
    record {
      fact_1 = order_room _ _ _ _ c.requires.ready_1;
      fact_2 = c.requires.ready_1.falling.long;
    }

pub put_picks-requires : goal.put_picks-requires
put_picks-requires c =
    record {
      fact_1 = order_standing _ _ _ _ c.requires.ready_1 _ _ _ _ c.requires.face_bound_1 refl c.face_order-n.ensures;
      fact_2 = order_listed _ _ _ _ c.requires.ready_1 _ _ _ _ c.requires.face_bound_1 refl c.face_order-n.ensures;
      fact_3 = omega (arith, order_count _ _ _ _ c.requires.ready_1 _ _ _ _ c.requires.face_bound_1 refl c.face_order-n.ensures, c.requires.face_bound_2);
      fact_4 = omega (arith, c.requires.ready_2, wanted_least (part_of c.args.file.now) c.args.turn.face);
    }

pub returns : goal.returns
returns c =
    face_put _ _ _ _ c.requires.ready_1 _ _ _ _ c.requires.face_bound_1 refl c.face_order-n.ensures _ _ _ _ _ c.requires.ready_2 (omega (arith, c.requires.face_bound_2)) c.put_picks.ensures
