-- `wall_samples::store::put_faces` meets its contract.
use Prim.Native.Nat.{◌<◌}
use Rattle.file_part.specs.Part.{part_of}
use Rattle.solid_faces.specs.Faces.{faces_of}
use Rattle.solid_faces.proofs.BodyLaws.{checked_faces}
use Rattle.wall_starts.proofs.ShareLaws.{wanted_is}
use Rattle.wall_samples.proofs.StoredLaws.{ready_still}
use Rattle.wall_samples.proofs.FaceLaws.{faces_start, face_area_lem, face_room, faces_turn, faces_done}
use native.Mathlib.Omega.{arith}
use Rattle.wall_samples.proofs.store.put_faces.Goals as goal

pub loop-f-init : goal.loop-f-init
loop-f-init c = faces_start _ _ _ _

pub overflow_add-at : goal.overflow_add-at
overflow_add-at c =
    let low : (c.loop-f.f < faces_of (part_of c.args.file.now)) × (c.loop-f.f < 1024) = (omega (arith, c.loop-f-test.true, c.requires.fact_2), omega (arith, c.loop-f-test.true, c.requires.fact_2, checked_faces _ c.requires.fact_1.standing.placed.checked)) in omega (arith, low, c.requires.fact_1.standing)

pub offset_bounds-reals-at : goal.offset_bounds-reals-at
offset_bounds-reals-at c =
    let low : (c.loop-f.f < faces_of (part_of c.args.file.now)) × (c.loop-f.f < 1024) = (omega (arith, c.loop-f-test.true, c.requires.fact_2), omega (arith, c.loop-f-test.true, c.requires.fact_2, checked_faces _ c.requires.fact_1.standing.placed.checked)) in omega (arith, low, c.requires.fact_1.standing)

pub bounds-reals-at : goal.bounds-reals-at
bounds-reals-at c =
    let low : (c.loop-f.f < faces_of (part_of c.args.file.now)) × (c.loop-f.f < 1024) = (omega (arith, c.loop-f-test.true, c.requires.fact_2), omega (arith, c.loop-f-test.true, c.requires.fact_2, checked_faces _ c.requires.fact_1.standing.placed.checked)) in omega (arith, low, c.requires.fact_1.standing, c.loop-f.invariant.reals_kept.long)

pub put_face-k-requires : goal.put_face-k-requires
put_face-k-requires c =
    let low : (c.loop-f.f < faces_of (part_of c.args.file.now)) × (c.loop-f.f < 1024) = (omega (arith, c.loop-f-test.true, c.requires.fact_2), omega (arith, c.loop-f-test.true, c.requires.fact_2, checked_faces _ c.requires.fact_1.standing.placed.checked)) in
    record {
      ready_1 = ready_still _ _ _ _ _ _ _ c.loop-f.invariant.words_kept c.loop-f.invariant.reals_kept c.requires.fact_1;
      ready_2 = wanted_is _ _ _ _ _ (face_area_lem _ _ _ _ _ _ _ _ c.requires.fact_1.standing low.0 c.loop-f.invariant) c.requires.fact_3 c.share.ensures.fact_1;
      face_bound_1 = low.0;
      face_bound_2 = face_room _ _ _ _ _ _ _ _ c.requires.fact_1.standing c.loop-f.invariant;
    }

pub loop-f-preserved : goal.loop-f-preserved
loop-f-preserved c = faces_turn _ _ _ _ _ _ _ _ _ _ _ c.loop-f.invariant c.put_face-k.ensures

pub returns : goal.returns
returns c =
    faces_done _ _ _ _ _ _ _ _ _ c.loop-f.auto.f-end c.loop-f-test.false c.loop-f.invariant
