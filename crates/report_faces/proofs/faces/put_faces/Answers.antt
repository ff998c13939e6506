-- `report_faces::faces::put_faces` meets its contract: its only fault's as they are, or the marked ones.
use mathlib.Core.Path.{◌≡◌, refl, sym, ap, ◌∙◌}
use mathlib.Core.Bool.{false, not, ◌&&◌}
use Prim.Native.Nat.{◌+◌, ◌*◌}
use lib.Dec.{eqb}
use lib.ListN.{get_or}
use borrow.Author.Tests.{eq-eqb, ne_eqb}
use Rattle.num_float.proofs.Tests.{and_true, and_false_left, and_false_right}
use Rattle.report_faces.specs.Named.{is_many}
use Rattle.report_faces.specs.Text.{faces_text}
use Rattle.report_faces.proofs.LineLaws.{known, cells_ok, named_fits, fits_each, line_own, line_fits, line_marked}
use native.Mathlib.Omega.{arith}
use Rattle.num_text.proofs.TextLaws.{adds_same}
use Rattle.report_faces.proofs.faces.put_faces.Goals as goal
use Rattle.report_faces.proofs.faces.put_faces.Goals.{else-lone-via-then-lone+else-not-is_many, else-lone-via-else-lone}

pub named_at-named-requires : goal.named_at-named-requires
named_at-named-requires c =
    record {
      fact_1 = omega (arith, c.requires.ready_1.kept.rows.cells_long, c.requires.i_lt_faults_1);
      fact_2 = omega (arith, c.requires.ready_1.kept.rows.numbers_long, c.requires.i_lt_faults_1);
    }

pub overflow_mul-lone : goal.overflow_mul-lone
overflow_mul-lone c = omega (arith, c.requires.ready_1.long, c.requires.i_lt_faults_1)

pub overflow_add-lone : goal.overflow_add-lone
overflow_add-lone c = omega (arith, c.requires.ready_1.long, c.requires.i_lt_faults_1)

pub offset_bounds-work-i : goal.offset_bounds-work-i
offset_bounds-work-i c = omega (arith, c.requires.ready_1.long, c.requires.i_lt_faults_1)

pub bounds-work-i : goal.bounds-work-i
bounds-work-i c = omega (arith, c.requires.ready_1.long, c.requires.i_lt_faults_1)

pub offset_bounds-words-faces : goal.offset_bounds-words-faces
offset_bounds-words-faces c = omega (arith, c.requires.ready_1.kept.placed.laid, c.requires.ready_1.kept.room)

pub slice_bounds-put_own-count : goal.slice_bounds-put_own-count
slice_bounds-put_own-count c = omega (arith, c.requires.ready_1.kept.placed.laid, c.requires.ready_1.kept.room)

pub slice_bounds-put_own-start : goal.slice_bounds-put_own-start
slice_bounds-put_own-start c = omega (arith, c.requires.ready_1.kept.placed.laid, c.requires.ready_1.kept.room)

pub slice_bounds-put_own-end : goal.slice_bounds-put_own-end
slice_bounds-put_own-end c = omega (arith, c.requires.ready_1.kept.placed.laid, c.requires.ready_1.kept.room)

pub put_own-requires : goal.put_own-requires
put_own-requires c =
    record {
      fact_1 = known c.args.file.now c.args.words.now c.args.given c.args.cells.now c.args.numbers.now c.requires.ready_1.kept;
      fact_2 = named_fits c.args.file.now c.args.words.now c.args.given c.args.cells.now c.args.numbers.now c.requires.ready_1.kept c.args.i c.requires.i_lt_faults_1 c.named_at-named.result c.named_at-named.ensures;
    }

pub returns-then-not-is_many : goal.returns-then-not-is_many
returns-then-not-is_many c =
    record {
      fact_1 = adds_same _ _ (ap faces_text (line_own c.args.file.now c.args.words.now c.args.given c.args.cells.now c.args.numbers.now c.requires.ready_1.kept c.args.work.now c.requires.ready_1 c.args.i c.requires.i_lt_faults_1 c.requires.i_lt_faults_2 c.named_at-named.result c.is_many.result c.named_at-named.ensures c.is_many.ensures (and_true _ _ (eq-eqb _ _ c.if-lone.true) (ap not c.if-not-is_many.true)))) c.put_own.ensures;
      fact_2 = c.requires.ready_2;
    }

pub mark_line-requires : goal.mark_line-requires
mark_line-requires c =
    record {
      cells_1 = cells_ok c.args.file.now c.args.words.now c.args.given c.args.cells.now c.args.numbers.now c.requires.ready_1.kept;
      cells_2 = c.requires.ready_2;
      cells_3 = fits_each c.args.file.now c.args.words.now c.args.given c.args.cells.now c.args.numbers.now c.requires.ready_1.kept;
      faults_in_bounds_1 = c.requires.ready_1.long;
      faults_in_bounds_2 = c.requires.i_lt_faults_1;
      faults_in_bounds_3 = c.requires.ready_1.kept.rows.few;
      faults_in_bounds_4 = c.requires.ready_1.links;
    }

pub offset_bounds-words-faces-2 : goal.offset_bounds-words-faces-2
offset_bounds-words-faces-2 c = omega (arith, c.requires.ready_1.kept.placed.laid, c.requires.ready_1.kept.room)

pub slice_bounds-put_marked-count : goal.slice_bounds-put_marked-count
slice_bounds-put_marked-count c = omega (arith, c.requires.ready_1.kept.placed.laid, c.requires.ready_1.kept.room)

pub slice_bounds-put_marked-start : goal.slice_bounds-put_marked-start
slice_bounds-put_marked-start c = omega (arith, c.requires.ready_1.kept.placed.laid, c.requires.ready_1.kept.room)

pub slice_bounds-put_marked-end : goal.slice_bounds-put_marked-end
slice_bounds-put_marked-end c = omega (arith, c.requires.ready_1.kept.placed.laid, c.requires.ready_1.kept.room)

pub put_marked-requires : goal.put_marked-requires
put_marked-requires c =
    record {
      fact_1 = known c.args.file.now c.args.words.now c.args.given c.args.cells.now c.args.numbers.now c.requires.ready_1.kept;
      fact_2 = line_fits c.args.file.now c.args.words.now c.args.given c.args.cells.now c.args.numbers.now c.requires.ready_1.kept c.args.work.now c.requires.ready_1 c.args.i c.requires.i_lt_faults_1 c.requires.i_lt_faults_2 c.named_at-named.result (is_many c.named_at-named.result) c.named_at-named.ensures refl c.mark_line.new.marks c.mark_line.ensures;
      fact_3 = c.requires.ready_1.kept.faces;
    }

pub returns : goal.returns
returns c =
    let several : (eqb (get_or c.args.work.now (4 * c.args.i + 3) 0) 1 && not (is_many c.named_at-named.result)) ≡ false =
    elim c.else-lone.branch [
      | else-lone-via-then-lone+else-not-is_many w ↦ and_false_right _ _ (ap not (sym w.is_many.ensures ∙ w.if-not-is_many.false))
      | else-lone-via-else-lone w ↦ and_false_left _ _ (ne_eqb _ _ w.if-lone.false)
    ] in
    record {
      fact_1 = adds_same _ _ (ap faces_text (line_marked c.args.file.now c.args.words.now c.args.given c.args.cells.now c.args.numbers.now c.requires.ready_1.kept c.args.work.now c.requires.ready_1 c.args.i c.requires.i_lt_faults_1 c.requires.i_lt_faults_2 c.named_at-named.result (is_many c.named_at-named.result) c.named_at-named.ensures refl c.mark_line.new.marks c.mark_line.ensures several)) c.put_marked.ensures;
      fact_2 = c.mark_line.auto.marks ∙ c.requires.ready_2;
    }
