-- `solid_faces::faces::link` meets its contract.
use Rattle.file_ok.proofs.ReadableLaws.{readable_counts}
use Rattle.solid_faces.proofs.BodyLaws.{within}
use Rattle.solid_faces.proofs.TableLaws.{table_more, table_old}
use native.Mathlib.Omega.{arith}
use Rattle.solid_faces.proofs.faces.link.Goals as goal

pub overflow_cast-table-then-f-count : goal.overflow_cast-table-then-f-count
overflow_cast-table-then-f-count c = omega (arith, c.requires.readable_2, (readable_counts _ c.requires.readable_1).1)

pub returns-then-f-count : goal.returns-then-f-count
returns-then-f-count c = table_more _ _ _ _ _ _ _ c.requires.readable_3 c.requires.f_value_1 c.if-f-count.true (within _ _ c.requires.readable_2) c.requires.f_value_2 c.face_of.ensures c.slot_of-slot.ensures.0 c.slot_of-slot.ensures.1

pub returns : goal.returns
returns c = table_old _ _ _ _ _ c.requires.readable_3 c.requires.f_value_1 c.if-f-count.false
