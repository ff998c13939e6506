-- `obj_windows::fill::load_line` meets its contract: a vertex, and any other line.
use Rattle.obj_windows.proofs.FillLaws.{loaded_vertex, loaded_none}
use Rattle.obj_windows.proofs.fill.load_line.Goals as goal

pub returns-in_default : goal.returns-in_default
returns-in_default c = loaded_none c.args.line c.args.n c.args.xs.now c.args.ys.now c.args.zs.now c.in_default.not-Vertex

pub returns : goal.returns
returns c = loaded_vertex c.args.line c.args.n c.args.xs.now c.args.ys.now c.args.zs.now _ c.in-Vertex.is
