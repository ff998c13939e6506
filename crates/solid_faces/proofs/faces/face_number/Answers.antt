-- `solid_faces::faces::face_number` meets its contract.
use Rattle.solid_faces.proofs.TableLaws.{table_early, table_found}
use Rattle.solid_faces.proofs.faces.face_number.Goals as goal

pub of_one_face-requires-clause-fact_2 : goal.of_one_face-requires-clause-fact_2
of_one_face-requires-clause-fact_2 c = table_early _ _ _ _ c.requires.fact_3 _ _ c.if-last-count.true c.requires.fact_2

pub returns-then-of_one_face : goal.returns-then-of_one_face
returns-then-of_one_face c = table_found _ _ _ _ c.requires.fact_3 _ _ c.if-last-count.true c.of_one_face.ensures c.if-of_one_face.true
