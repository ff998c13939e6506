-- `obj_line::line::read_line` meets its contract: by its first byte.
use mathlib.Core.Path.{refl, sym, ◌∙◌}
use Rattle.obj_line.specs.declared.line.Line.TheVariants as Line
use Rattle.obj_line.proofs.FormLaws.{line_empty, line_comment, line_long, line_vertex, line_face, line_group, line_other}
use Rattle.obj_line.proofs.ReadLaws.{line_from, read_from, read_other, read_empty, read_byte, read_same}
use native.Mathlib.Omega.{arith}
use Rattle.obj_line.proofs.line.read_line.Goals as goal

pub returns-then-line-eq0 : goal.returns-then-line-eq0
returns-then-line-eq0 c = read_empty c.args.line.now c.args.numbers.now c.args.used _ c.if-line-eq0.true (line_empty c.args.line.now c.if-line-eq0.true)

pub returns-then-b-eq35 : goal.returns-then-b-eq35
returns-then-b-eq35 c = read_byte c.args.line.now c.args.numbers.now c.args.used 35 _ c.if-b-eq35.true (λ e. omega (arith, e)) (line_comment c.args.line.now c.if-line-eq0.false c.if-b-eq35.true)

pub returns-then-find-ne1 : goal.returns-then-find-ne1
returns-then-find-ne1 c = read_other _ c.args.numbers.now c.args.numbers.now c.args.used refl (line_long c.args.line.now c.if-line-eq0.false c.if-b-eq35.false (λ e. c.if-find-ne1.true (c.find.ensures ∙ e)))

pub returns-in-118 : goal.returns-in-118
returns-in-118 c = read_byte c.args.line.now c.args.numbers.now c.args.used 118 _ c.in-118.is (λ e. omega (arith, e)) (line_from Line.Vertex _ _ c.map_or.ensures ∙ c.vertex_line.ensures ∙ line_vertex c.args.line.now c.if-line-eq0.false c.if-b-eq35.false (sym c.find.ensures ∙ c.if-find-ne1.false) c.in-118.is)

pub returns-in-102 : goal.returns-in-102
returns-in-102 c =
    read_from Line.Face _ _ _ _ _ _ c.map_or-in-102.ensures
    (read_same _ _ _ _ _ _ (line_face c.args.line.now c.if-line-eq0.false c.if-b-eq35.false (sym c.find.ensures ∙ c.if-find-ne1.false) (λ e. omega (arith, c.in-102.is, e)) c.in-102.is) c.face_line.ensures)

pub returns-in-103 : goal.returns-in-103
returns-in-103 c =
    read_byte c.args.line.now c.args.numbers.now c.args.used 103 _ c.in-103.is (λ e. omega (arith, e))
    (line_from Line.Group _ _ c.map_or-in-103.ensures
    ∙ c.group_line.ensures
    ∙ line_group c.args.line.now c.if-line-eq0.false c.if-b-eq35.false (sym c.find.ensures ∙ c.if-find-ne1.false) (λ e. omega (arith, c.in-103.is, e)) (λ e. omega (arith, c.in-103.is, e)) c.in-103.is)

pub returns-in_default : goal.returns-in_default
returns-in_default c =
    read_other _ c.args.numbers.now c.args.numbers.now c.args.used refl
    (line_other c.args.line.now c.if-line-eq0.false c.if-b-eq35.false (sym c.find.ensures ∙ c.if-find-ne1.false) (λ e. omega (arith, e)) (λ e. omega (arith, e)) (λ e. omega (arith, e)))
