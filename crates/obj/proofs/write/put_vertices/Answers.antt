-- `obj::write::put_vertices` meets its contract: the vertices of the corners passed are written.
use mathlib.Core.Path.{refl, ◌∙◌}
use Rattle.obj_windows.specs.Filled.{row_at_of}
use Rattle.obj.proofs.WriteLaws.{rows_none, rows_more}
use native.Mathlib.Omega.{arith}
use Rattle.obj.proofs.write.put_vertices.Goals as goal

pub loop-c-init : goal.loop-c-init
loop-c-init c = rows_none _ _

pub loop-c-preserved : goal.loop-c-preserved
unfolding row_at_of
loop-c-preserved c = rows_more (row_at_of c.args.xs.now c.args.ys.now c.args.zs.now) c.loop-c.c c.loop-c.invariant c.put_vec.ensures
