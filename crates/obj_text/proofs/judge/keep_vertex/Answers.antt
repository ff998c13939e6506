-- `obj_text::judge::keep_vertex` meets its contract: a vertex, and any other line.
use Rattle.obj_text.proofs.NoteLaws.{kept_past, kept_vertex, kept_none}
use Rattle.obj_text.proofs.judge.keep_vertex.Goals as goal

pub returns-then-n-ge16384 : goal.returns-then-n-ge16384
returns-then-n-ge16384 c = kept_past c.args.line c.args.n c.args.xs.now c.args.ys.now c.args.zs.now c.requires c.if-n-ge16384.true

pub returns-in-Vertex : goal.returns-in-Vertex
returns-in-Vertex c = kept_vertex c.args.line c.args.n c.args.xs.now c.args.ys.now c.args.zs.now _ c.in-Vertex.is

pub returns-in_default : goal.returns-in_default
returns-in_default c = kept_none c.args.line c.args.n c.args.xs.now c.args.ys.now c.args.zs.now c.in_default.not-Vertex
