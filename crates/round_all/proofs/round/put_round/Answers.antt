-- `round_all::round::put_round` meets its contract.
use Rattle.solid_faces.proofs.BodyLaws.{checked_faces}
use Rattle.scratch.proofs.StandingLaws.{placed_polygons}
use Rattle.scratch.proofs.WordsLaws.{first_at_lem}
use Rattle.round_all.proofs.PutLaws.{surface_is, first_entry, face_low, step_put}
use native.Mathlib.Omega.{arith}
use Rattle.round_all.proofs.round.put_round.Goals as goal

pub overflow_add-q : goal.overflow_add-q
overflow_add-q c =
    let h = c.requires.fact_1 in
    let laid = c.requires.fact_1.placed.laid in
    let low = face_low _ _ _ c.requires.fact_1.placed c.requires.fact_2 in
    omega (arith, laid, low)

pub offset_bounds-words-at : goal.offset_bounds-words-at
offset_bounds-words-at c =
    let h = c.requires.fact_1 in
    let laid = c.requires.fact_1.placed.laid in
    let low = face_low _ _ _ c.requires.fact_1.placed c.requires.fact_2 in
    omega (arith, laid, low)

pub bounds-words-at : goal.bounds-words-at
bounds-words-at c =
    let h = c.requires.fact_1 in
    let laid = c.requires.fact_1.placed.laid in
    let low = face_low _ _ _ c.requires.fact_1.placed c.requires.fact_2 in
    omega (arith, laid, low, h.words_room)

pub entry_at-requires : goal.entry_at-requires
entry_at-requires c = let e = first_entry _ _ _ _ c.requires.fact_1.placed (first_at_lem _ c.args.at _ c.args.f c.requires.fact_1.placed.laid c.requires.fact_1.the_words (placed_polygons _ _ c.requires.fact_1.placed) c.requires.fact_2 (checked_faces _ c.requires.fact_1.placed.checked)) c.requires.fact_2 in (e.vertices, e.polygon)

pub surface-surface-requires : goal.surface-surface-requires
surface-surface-requires c = let e = first_entry _ _ _ _ c.requires.fact_1.placed (first_at_lem _ c.args.at _ c.args.f c.requires.fact_1.placed.laid c.requires.fact_1.the_words (placed_polygons _ _ c.requires.fact_1.placed) c.requires.fact_2 (checked_faces _ c.requires.fact_1.placed.checked)) c.requires.fact_2 in omega (arith, e.inside, c.entry_at.ensures)

pub put_face-kind-requires : goal.put_face-kind-requires
put_face-kind-requires c =
    record {
      fact_1 = c.requires.fact_1;
      fact_2 = c.requires.fact_2;
      fact_3 = surface_is _ _ _ _ _ _ c.requires.fact_1.placed.vertices (first_at_lem _ c.args.at _ c.args.f c.requires.fact_1.placed.laid c.requires.fact_1.the_words (placed_polygons _ _ c.requires.fact_1.placed) c.requires.fact_2 (checked_faces _ c.requires.fact_1.placed.checked)) c.entry_at.ensures c.surface-surface.ensures;
    }

pub overflow_add-words : goal.overflow_add-words
overflow_add-words c =
    let h = c.requires.fact_1 in
    let laid = c.requires.fact_1.placed.laid in
    let low = face_low _ _ _ c.requires.fact_1.placed c.requires.fact_2 in
    omega (arith, laid, low)

pub offset_bounds-words-at-2 : goal.offset_bounds-words-at-2
offset_bounds-words-at-2 c =
    let h = c.requires.fact_1 in
    let laid = c.requires.fact_1.placed.laid in
    let low = face_low _ _ _ c.requires.fact_1.placed c.requires.fact_2 in
    omega (arith, laid, low)

pub bounds-words-at-2 : goal.bounds-words-at-2
bounds-words-at-2 c =
    let h = c.requires.fact_1 in
    let laid = c.requires.fact_1.placed.laid in
    let low = face_low _ _ _ c.requires.fact_1.placed c.requires.fact_2 in
    omega (arith, laid, low, h.words_room)

pub returns : goal.returns
returns c =
    let h = c.requires.fact_1 in
    let laid = c.requires.fact_1.placed.laid in
    let low = face_low _ _ _ c.requires.fact_1.placed c.requires.fact_2 in
    step_put _ c.args.at c.args.f _ _ _ _ _ c.kind_number.ensures laid h.words_room low.0 c.put_face-kind.ensures
