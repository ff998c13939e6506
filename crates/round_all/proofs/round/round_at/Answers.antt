-- `round_all::round::round_at` meets its contract.
use mathlib.Core.Path.{◌∙◌}
use Rattle.solid_faces.proofs.BodyLaws.{checked_faces}
use Rattle.scratch.proofs.StandingLaws.{placed_polygons}
use Rattle.scratch.proofs.WordsLaws.{first_at_lem}
use Rattle.round_all.proofs.PutLaws.{surface_is, first_entry, face_low, numbers_room}
use Rattle.round_all.proofs.RoundLaws.{kind_at, measure_kept, round_read}
use native.Mathlib.Omega.{arith}
use Rattle.round_all.proofs.round.round_at.Goals as goal

pub overflow_add-q : goal.overflow_add-q
overflow_add-q c =
    let h = c.requires.standing_1 in
    let laid = c.requires.standing_1.placed.laid in
    let low = face_low _ _ _ c.requires.standing_1.placed c.requires.f_bound_1 in
    omega (arith, laid, low)

pub offset_bounds-words-at : goal.offset_bounds-words-at
offset_bounds-words-at c =
    let h = c.requires.standing_1 in
    let laid = c.requires.standing_1.placed.laid in
    let low = face_low _ _ _ c.requires.standing_1.placed c.requires.f_bound_1 in
    omega (arith, laid, low)

pub bounds-words-at : goal.bounds-words-at
bounds-words-at c =
    let h = c.requires.standing_1 in
    let laid = c.requires.standing_1.placed.laid in
    let low = face_low _ _ _ c.requires.standing_1.placed c.requires.f_bound_1 in
    omega (arith, laid, low, h.words_room)

pub overflow_add-at : goal.overflow_add-at
overflow_add-at c =
    let h = c.requires.standing_1 in
    let laid = c.requires.standing_1.placed.laid in
    let low = face_low _ _ _ c.requires.standing_1.placed c.requires.f_bound_1 in
    omega (arith, laid, low)

pub offset_bounds-words-at-2 : goal.offset_bounds-words-at-2
offset_bounds-words-at-2 c =
    let h = c.requires.standing_1 in
    let laid = c.requires.standing_1.placed.laid in
    let low = face_low _ _ _ c.requires.standing_1.placed c.requires.f_bound_1 in
    omega (arith, laid, low)

pub bounds-words-at-2 : goal.bounds-words-at-2
bounds-words-at-2 c =
    let h = c.requires.standing_1 in
    let laid = c.requires.standing_1.placed.laid in
    let low = face_low _ _ _ c.requires.standing_1.placed c.requires.f_bound_1 in
    omega (arith, laid, low, h.words_room)

pub entry_at-requires : goal.entry_at-requires
entry_at-requires c = let e = first_entry _ _ _ _ c.requires.standing_1.placed (first_at_lem _ c.args.at _ c.args.f c.requires.standing_1.placed.laid c.requires.standing_1.the_words (placed_polygons _ _ c.requires.standing_1.placed) c.requires.f_bound_1 (checked_faces _ c.requires.standing_1.placed.checked)) c.requires.f_bound_1 in (e.vertices, e.polygon)

pub surface-surface-requires : goal.surface-surface-requires
surface-surface-requires c = let e = first_entry _ _ _ _ c.requires.standing_1.placed (first_at_lem _ c.args.at _ c.args.f c.requires.standing_1.placed.laid c.requires.standing_1.the_words (placed_polygons _ _ c.requires.standing_1.placed) c.requires.f_bound_1 (checked_faces _ c.requires.standing_1.placed.checked)) c.requires.f_bound_1 in omega (arith, e.inside, c.entry_at.ensures)

pub measure_at-m-requires : goal.measure_at-m-requires
measure_at-m-requires c =
    let h = c.requires.standing_1 in
    let laid = c.requires.standing_1.placed.laid in
    let low = face_low _ _ _ c.requires.standing_1.placed c.requires.f_bound_1 in
    numbers_room c.args.at c.args.f c.args.reals.now laid low.0 h.reals_room

pub returns : goal.returns
returns c =
    let h = c.requires.standing_1 in
    let laid = c.requires.standing_1.placed.laid in
    let low = face_low _ _ _ c.requires.standing_1.placed c.requires.f_bound_1 in
    round_read _ c.args.f _ _ c.surface-surface.result _ _ _ _ _ c.requires.f_bound_2 (kind_at _ c.args.at c.args.words.now c.args.reals.now c.args.f laid c.requires.standing_2 c.requires.f_bound_1 low.0)
    c.kind_of-kind.ensures c.ne.ensures c.eq.ensures
    (surface_is _ _ _ _ _ _ h.placed.vertices (first_at_lem _ c.args.at _ c.args.f c.requires.standing_1.placed.laid c.requires.standing_1.the_words (placed_polygons _ _ c.requires.standing_1.placed) c.requires.f_bound_1 (checked_faces _ c.requires.standing_1.placed.checked)) c.entry_at.ensures c.surface-surface.ensures) c.origin.ensures c.radius.ensures
    (c.measure_at-m.ensures ∙ measure_kept _ c.args.at c.args.words.now c.args.reals.now c.args.f laid c.requires.standing_2 c.requires.f_bound_1 c.requires.f_bound_2)
