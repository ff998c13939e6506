-- `obj_line::line::read_vertex` meets its contract: by its first byte.
use mathlib.Core.Path.{sym, ◌∙◌}
use Rattle.obj_line.specs.declared.line.Line.TheVariants as Line
use Rattle.obj_line.proofs.FormLaws.{line_long, line_vertex}
use Rattle.obj_line.proofs.ReadLaws.{line_from, vertex_none, vertex_not, vertex_read, vertex_no_comment}
use Rattle.obj_line.proofs.line.read_vertex.Goals as goal

pub returns-then-line-eq0 : goal.returns-then-line-eq0
returns-then-line-eq0 c = vertex_none c.args.line.now c.if-line-eq0.true

pub returns-then-line-ne118 : goal.returns-then-line-ne118
returns-then-line-ne118 c = vertex_not c.args.line.now c.if-line-ne118.true

pub returns-then-find-ne1 : goal.returns-then-find-ne1
returns-then-find-ne1 c = vertex_read c.args.line.now _ c.if-line-ne118.false (line_long c.args.line.now c.if-line-eq0.false (vertex_no_comment c.args.line.now c.if-line-ne118.false) (λ e. c.if-find-ne1.true (c.find.ensures ∙ e)))

pub returns : goal.returns
returns c = vertex_read c.args.line.now _ c.if-line-ne118.false (line_from Line.Vertex _ _ c.map_or.ensures ∙ c.vertex_line.ensures ∙ line_vertex c.args.line.now c.if-line-eq0.false (vertex_no_comment c.args.line.now c.if-line-ne118.false) (sym c.find.ensures ∙ c.if-find-ne1.false) c.if-line-ne118.false)
