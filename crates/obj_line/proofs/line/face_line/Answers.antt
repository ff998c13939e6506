-- `obj_line::line::face_line` meets its contract: what is left of the fields, after the count, the largest and the numbers so far, gives the whole.
use mathlib.Core.Path.{sym, ap, ◌∙◌}
use mathlib.Core.List.{List, map}
use Prim.Native.Nat.{ℕ, ◌+◌}
use lib.ListN.{set, length-set}
use lib.Seq.{sets}
use Rattle.obj_number.specs.Whole.{whole_field}
use Rattle.obj_line.specs.Work.{face_line, cell_of}
use Rattle.obj_line.proofs.FieldLaws.{whole_is, whole_not, none_left, field_left}
use Rattle.obj_line.proofs.FormLaws.{face_not, face_zero, face_more, face_few, face_full, face_done, face_form_lem}
use Rattle.obj_line.proofs.ReadLaws.{read_other, read_face, cells_more}
use native.Mathlib.Omega.{arith}
use Rattle.obj_line.proofs.line.face_line.Goals as goal

pub returns-then-count-eq64 : goal.returns-then-count-eq64
returns-then-count-eq64 c = read_other _ _ _ _ c.loop-at.invariant.same_length (sym (face_full _ _ _ _ _ c.if-count-eq64.true (field_left c.args.line.now _ c.loop-at-test.true)) ∙ c.loop-at.invariant.left ∙ face_form_lem _)

pub returns-in_err-n : goal.returns-in_err-n
returns-in_err-n c = rw c.from_residual.ensures (read_other _ _ _ _ c.loop-at.invariant.same_length (sym (face_not _ _ _ _ _ (field_left c.args.line.now _ c.loop-at-test.true) (whole_not _ _ (c.whole.ensures ∙ ap whole_field c.next-f.ensures.field) c.in_err-n.was)) ∙ c.loop-at.invariant.left ∙ face_form_lem _))

pub returns-then-n-eq0 : goal.returns-then-n-eq0
returns-then-n-eq0 c = read_other _ _ _ _ c.loop-at.invariant.same_length (sym (face_zero _ _ _ _ _ _ (field_left c.args.line.now _ c.loop-at-test.true) (whole_is _ _ _ (c.whole.ensures ∙ ap whole_field c.next-f.ensures.field) c.in_ok-n.was) c.if-n-eq0.true) ∙ c.loop-at.invariant.left ∙ face_form_lem _)

pub loop-at-preserved : goal.loop-at-preserved
loop-at-preserved c =
    let one = field_left c.args.line.now _ c.loop-at-test.true in
    let told = whole_is _ _ _ (c.whole.ensures ∙ ap whole_field c.next-f.ensures.field) c.in_ok-n.was in
    record {
      few = omega (arith, c.loop-at.invariant.few, c.if-count-eq64.false);
      same_length = simp length-set c.loop-at.invariant.same_length;
      left = ap (face_line _ _) c.next-f.ensures.rest ∙ face_more _ _ _ _ _ _ _ one told c.if-n-eq0.false c.max-largest.ensures ∙ c.loop-at.invariant.left;
      cells =
          ap (λ (fs : List (List ℕ)). sets (set c.loop-at.numbers (c.args.used + c.loop-at.count) c.in_ok-n.n) (c.args.used + (c.loop-at.count + 1)) (map cell_of fs)) c.next-f.ensures.rest
          ∙ cells_more _ _ _ c.loop-at.numbers c.args.used c.loop-at.count _ one told
          ∙ c.loop-at.invariant.cells;
    }

pub returns-then-count-lt3 : goal.returns-then-count-lt3
returns-then-count-lt3 c = read_other _ _ _ _ c.loop-at.invariant.same_length (sym (face_few _ c.loop-at.largest c.if-count-lt3.true) ∙ ap (face_line _ c.loop-at.largest) (sym (none_left c.args.line.now _ c.loop-at-test.false)) ∙ c.loop-at.invariant.left ∙ face_form_lem _)

pub returns : goal.returns
returns c = read_face _ _ _ _ _ c.loop-at.invariant.same_length (sym (face_done _ _ c.if-count-lt3.false c.loop-at.invariant.few) ∙ ap (face_line _ _) (sym (none_left c.args.line.now _ c.loop-at-test.false)) ∙ c.loop-at.invariant.left ∙ face_form_lem _) (sym (ap (λ (fs : List (List ℕ)). sets c.loop-at.numbers (c.args.used + c.loop-at.count) (map cell_of fs)) (none_left c.args.line.now _ c.loop-at-test.false)) ∙ c.loop-at.invariant.cells)
