-- `solid_faces::faces::faces` meets its contract.
use borrow.Author.Rules.{rules}
use mathlib.Core.Path.{refl}
use Prim.Native.Nat.{◌+◌, ◌<◌}
use lib.ListN.{length, length-set}
use Rattle.file_ok.proofs.ReadableLaws.{readable_counts}
use Rattle.solid_faces.proofs.BodyLaws.{readable_long, polygons_are, checked_readable, checked_number}
use Rattle.solid_faces.proofs.FirstLaws.{firsts_none, firsts_count, numbers_none, faces_turn, faces_done}
use Rattle.solid_faces.proofs.TableLaws.{table_none}
use native.Mathlib.Omega.{arith}
use Rattle.solid_faces.proofs.faces.faces.Goals as goal

pub polygon_count-polygons-requires : goal.polygon_count-polygons-requires
polygon_count-polygons-requires c = readable_long _ (checked_readable _ c.requires.fact_1)

pub loop-p-init : goal.loop-p-init
loop-p-init c = (firsts_none _ _, numbers_none _ _, table_none _ _ refl)

pub face_number-last-requires-clause-fact_1 : goal.face_number-last-requires-clause-fact_1
face_number-last-requires-clause-fact_1 c = checked_readable _ c.requires.fact_1

pub overflow_cast-mem : goal.overflow_cast-mem
overflow_cast-mem c =
    let small : c.face_number-last.result < 1024 = checked_number _ _ _ _ c.requires.fact_1 c.polygon_count-polygons.ensures c.loop-p-test.true c.face_number-last.ensures in search (rules, small)

pub note-requires-clause-fact_1 : goal.note-requires-clause-fact_1
note-requires-clause-fact_1 c =
    simp length-set (omega (arith, checked_number _ _ _ _ c.requires.fact_1 c.polygon_count-polygons.ensures c.loop-p-test.true c.face_number-last.ensures))

pub note-requires-clause-fact_2 : goal.note-requires-clause-fact_2
note-requires-clause-fact_2 c = omega (arith, (readable_counts _ (checked_readable _ c.requires.fact_1)).1)

pub link-count-requires-clause-readable_1 : goal.link-count-requires-clause-readable_1
link-count-requires-clause-readable_1 c = checked_readable _ c.requires.fact_1

pub link-count-requires-clause-f_value_2 : goal.link-count-requires-clause-f_value_2
link-count-requires-clause-f_value_2 c =
    checked_number _ _ _ _ c.requires.fact_1 c.polygon_count-polygons.ensures c.loop-p-test.true c.face_number-last.ensures

pub loop-p-preserved : goal.loop-p-preserved
loop-p-preserved c =
    let small = checked_number _ _ _ _ c.requires.fact_1 c.polygon_count-polygons.ensures c.loop-p-test.true c.face_number-last.ensures in
    let room : c.polygon_count-polygons.result + c.face_number-last.result < length c.loop-p.mem = omega (arith, small) in
    let note = c.note.ensures in
    let turn
    = faces_turn _ _ _ _ _ _ _ _ c.loop-p-test.true room c.face_number-last.ensures (record { count = note.value; list = note.mem_after }) c.loop-p.invariant.0 c.loop-p.invariant.1 in (
      firsts_count _ _ _ _ _ _ turn.firsts c.link-count.ensures.firsts,
      turn.numbers,
      c.link-count.ensures,
    )

pub returns : goal.returns
returns c =
    let done = faces_done _ _ _ _ _ (polygons_are _ _ c.polygon_count-polygons.ensures) c.loop-p.auto.p-end c.loop-p-test.false c.loop-p.invariant.0 c.loop-p.invariant.1 in
    record {
      value_1 = done.0;
      value_2 = done.1;
      mem_len_unchanged = c.loop-p.auto.mem;
    }
