-- `solid_faces::faces::find_face` meets its contract.
use Rattle.solid_faces.proofs.BodyLaws.{inside}
use Rattle.solid_faces.proofs.TableLaws.{table_early, table_found, search_start, search_on, search_falls, search_end}
use native.Mathlib.Omega.{arith}
use Rattle.solid_faces.proofs.faces.find_face.Goals as goal

pub loop-t-init : goal.loop-t-init
loop-t-init c = search_start _ _ _ _ c.requires.fact_3 _ _ c.face_of.ensures c.slot_of.ensures.0 c.slot_of.ensures.1

pub of_one_face-requires-clause-fact_2 : goal.of_one_face-requires-clause-fact_2
of_one_face-requires-clause-fact_2 c =
    table_early _ _ _ _ c.requires.fact_3 _ _ (omega (arith, c.loop-t.invariant.low, c.loop-t-test.true)) c.requires.fact_2

pub returns-then-of_one_face : goal.returns-then-of_one_face
returns-then-of_one_face c =
    table_found _ _ _ _ c.requires.fact_3 _ _ (omega (arith, c.loop-t.invariant.low, c.loop-t-test.true)) c.of_one_face.ensures c.if-of_one_face.true

pub loop-t-smaller : goal.loop-t-smaller
loop-t-smaller c =
    search_falls _ _ _ _ c.requires.fact_3 _ _ c.loop-t.invariant (omega (arith, c.loop-t-test.true))

pub loop-t-preserved : goal.loop-t-preserved
loop-t-preserved c =
    search_on _ _ _ _ c.requires.fact_3 _ _ c.loop-t.invariant (omega (arith, c.loop-t-test.true)) _ (inside _ _ c.requires.fact_2) c.of_one_face.ensures c.if-of_one_face.false

pub returns : goal.returns
returns c = search_end _ _ _ _ c.requires.fact_3 _ (inside _ _ c.requires.fact_2) c.loop-t.invariant c.loop-t-test.false
