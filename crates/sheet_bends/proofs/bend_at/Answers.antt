-- `sheet_bends::bend_at` meets its contract.
use mathlib.Core.Path.{◌∙◌}
use Rattle.sheet_bends.proofs.BendLaws.{bend_read}
use Rattle.round_all.proofs.PutLaws.{face_low}
use native.Mathlib.Omega.{arith}
use Rattle.sheet_bends.proofs.bend_at.Goals as goal

pub overflow_add-at : goal.overflow_add-at
overflow_add-at c = let low = face_low _ _ _ c.requires.fact_1.ordered.standing.placed c.requires.fact_2 in omega (arith, low, c.requires.fact_1.ordered.standing.placed.laid, c.requires.fact_1.ordered.standing.words_room)

pub cell-requires : goal.cell-requires
cell-requires c = let low = face_low _ _ _ c.requires.fact_1.ordered.standing.placed c.requires.fact_2 in omega (arith, low, c.requires.fact_1.ordered.standing.placed.laid, c.requires.fact_1.ordered.standing.words_room)

pub returns : goal.returns
returns c = bend_read _ _ _ _ _ (c.cell.ensures ∙ c.requires.fact_1.bends.outside _ c.requires.fact_2) c.checked_sub.ensures
