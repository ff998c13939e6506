-- `obj_text::judge::add_line` meets its contract: a case for each form.
use Rattle.obj_text.proofs.TallyLaws.{add_refused, add_vertex, add_face, add_group, add_skipped, add_other}
use native.Mathlib.Omega.{arith}
use Rattle.obj_text.proofs.judge.add_line.Goals as goal

pub returns-then-t-c : goal.returns-then-t-c
returns-then-t-c c = add_refused c.args.t c.args.line _ c.in-Face.is (omega (arith, c.if-t-c.true))

pub returns-in-Vertex : goal.returns-in-Vertex
returns-in-Vertex c = add_vertex c.args.t c.args.line _ c.in-Vertex.is

pub returns-else-t-c : goal.returns-else-t-c
returns-else-t-c c = add_face c.args.t c.args.line _ _ _ c.in-Face.is (omega (arith, c.if-t-c.false)) (omega (arith, c.min.ensures, c.saturating_add.ensures)) (omega (arith, c.min-in-Face.ensures))

pub returns-in-Group : goal.returns-in-Group
returns-in-Group c = add_group c.args.t c.args.line _ c.in-Group.is

pub returns-in-Skipped : goal.returns-in-Skipped
returns-in-Skipped c = add_skipped c.args.t c.args.line c.in-Skipped.is

pub returns-in-Other : goal.returns-in-Other
returns-in-Other c = add_other c.args.t c.args.line c.in-Other.is
