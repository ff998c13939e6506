-- `sheet_bends::is_bend_face` meets its contract.
use Rattle.round_all.proofs.PutLaws.{face_low}
use Rattle.sheet_bends.proofs.StepLaws.{mark_is}
use native.Mathlib.Omega.{arith}
use Rattle.sheet_bends.proofs.is_bend_face.Goals as goal

pub overflow_add-result : goal.overflow_add-result
overflow_add-result c = let low = face_low _ _ _ c.requires.fact_1.ordered.standing.placed c.requires.fact_2 in omega (arith, low, c.requires.fact_1.ordered.standing.placed.laid, c.requires.fact_1.ordered.standing.words_room)

pub overflow_add-result-2 : goal.overflow_add-result-2
overflow_add-result-2 c = let low = face_low _ _ _ c.requires.fact_1.ordered.standing.placed c.requires.fact_2 in omega (arith, low, c.requires.fact_1.ordered.standing.placed.laid, c.requires.fact_1.ordered.standing.words_room)

pub offset_bounds-words-at : goal.offset_bounds-words-at
offset_bounds-words-at c = let low = face_low _ _ _ c.requires.fact_1.ordered.standing.placed c.requires.fact_2 in omega (arith, low, c.requires.fact_1.ordered.standing.placed.laid, c.requires.fact_1.ordered.standing.words_room)

pub bounds-words-at : goal.bounds-words-at
bounds-words-at c = let low = face_low _ _ _ c.requires.fact_1.ordered.standing.placed c.requires.fact_2 in omega (arith, low, c.requires.fact_1.ordered.standing.placed.laid, c.requires.fact_1.ordered.standing.words_room)

pub returns : goal.returns
returns c = mark_is _ _ (c.requires.fact_1.bends.marks _ c.requires.fact_2)
