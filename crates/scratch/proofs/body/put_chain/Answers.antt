-- `scratch::body::put_chain` meets its contract.
use mathlib.Core.Path.{◌≡◌, refl, ◌∙◌}
use Prim.Native.Nat.{ℕ, ◌+◌, ◌-◌, ◌<◌}
use lib.ListN.{get_or}
use Rattle.list_laws.proofs.Outside.{outside_none, outside_then, outside_set}
use Rattle.file_part.specs.Part.{part_of}
use Rattle.solid_faces.specs.Faces.{face_number}
use Rattle.solid_faces.proofs.BodyLaws.{checked_readable, checked_number, three_vertices}
use Rattle.scratch.proofs.StandingLaws.{placed_polygons}
use Rattle.scratch.proofs.WordsLaws.{next_none, next_more, chain_none, chain_more, chain_all, number_at}
use native.Mathlib.Omega.{arith}
use Rattle.scratch.proofs.body.put_chain.Goals as goal

one_more : (k : ℕ) → 0 < k → k ≡ (k - 1) + 1
one_more k h = omega arith

pub loop-q-init : goal.loop-q-init
loop-q-init c = (outside_none 0 _ _ _, chain_none _ _ _ _ (placed_polygons _ _ c.requires.fact_1), next_none _ _ _ (placed_polygons _ _ c.requires.fact_1) refl)

pub bounds-next-f : goal.bounds-next-f
bounds-next-f c =
    let low : c.loop-q.q - 1 < c.args.at.polygons = omega (arith, c.loop-q-test.true) in
    let number : get_or c.loop-q.words (c.args.at.faces + (c.loop-q.q - 1)) 0 ≡ face_number (part_of c.args.file.now) (c.loop-q.q - 1) = c.loop-q.invariant.0.above (c.args.at.faces + (c.loop-q.q - 1)) (omega arith)
    ∙ number_at _ c.args.at _ _ c.requires.fact_1.laid c.requires.fact_3 (placed_polygons _ _ c.requires.fact_1) low in
    let small : get_or c.loop-q.words (c.args.at.faces + (c.loop-q.q - 1)) 0 < 1024 = checked_number _ _ _ _ c.requires.fact_1.checked c.requires.fact_1.polygons low number in omega (arith, small, c.loop-q.invariant.2.long)

pub bounds-next-f-in-loop-q : goal.bounds-next-f-in-loop-q
bounds-next-f-in-loop-q c =
    let low : c.loop-q.q - 1 < c.args.at.polygons = omega (arith, c.loop-q-test.true) in
    let number : get_or c.loop-q.words (c.args.at.faces + (c.loop-q.q - 1)) 0 ≡ face_number (part_of c.args.file.now) (c.loop-q.q - 1) = c.loop-q.invariant.0.above (c.args.at.faces + (c.loop-q.q - 1)) (omega arith)
    ∙ number_at _ c.args.at _ _ c.requires.fact_1.laid c.requires.fact_3 (placed_polygons _ _ c.requires.fact_1) low in
    let small : get_or c.loop-q.words (c.args.at.faces + (c.loop-q.q - 1)) 0 < 1024 = checked_number _ _ _ _ c.requires.fact_1.checked c.requires.fact_1.polygons low number in omega (arith, small, c.loop-q.invariant.2.long)

pub loop-q-preserved : goal.loop-q-preserved
loop-q-preserved c =
    let low : c.loop-q.q - 1 < c.args.at.polygons = omega (arith, c.loop-q-test.true) in
    let number : get_or c.loop-q.words (c.args.at.faces + (c.loop-q.q - 1)) 0 ≡ face_number (part_of c.args.file.now) (c.loop-q.q - 1) = c.loop-q.invariant.0.above (c.args.at.faces + (c.loop-q.q - 1)) (omega arith)
    ∙ number_at _ c.args.at _ _ c.requires.fact_1.laid c.requires.fact_3 (placed_polygons _ _ c.requires.fact_1) low in
    let small : get_or c.loop-q.words (c.args.at.faces + (c.loop-q.q - 1)) 0 < 1024 = checked_number _ _ _ _ c.requires.fact_1.checked c.requires.fact_1.polygons low number in let one = one_more c.loop-q.q c.loop-q-test.true in (outside_then 0 _ _ _ c.loop-q.words _ c.loop-q.invariant.0 (outside_set 0 _ _ _ _ _ (omega (arith, c.requires.fact_1.laid)) (omega (arith, c.requires.fact_1.laid, c.loop-q-test.true, three_vertices _ (checked_readable _ c.requires.fact_1.checked), c.requires.fact_1))), chain_more _ _ _ _ _ _ _ one (omega (arith, c.requires.fact_1.laid, c.loop-q-test.true, c.requires.fact_2, c.loop-q.invariant.0.long)) number small c.loop-q.invariant.2 c.loop-q.invariant.1, next_more _ _ _ _ _ one (omega (arith, placed_polygons _ _ c.requires.fact_1, c.loop-q-test.true)) number small c.loop-q.invariant.2)

pub returns-clause-chain : goal.returns-clause-chain
returns-clause-chain c = chain_all _ c.args.at _ _ c.requires.fact_1.laid (omega (arith, c.requires.fact_2, c.loop-q.invariant.0.long)) (placed_polygons _ _ c.requires.fact_1) (omega (arith, three_vertices _ (checked_readable _ c.requires.fact_1.checked), c.requires.fact_1.polygons, c.requires.fact_1.vertices)) c.loop-q-test.false c.loop-q.invariant.1
