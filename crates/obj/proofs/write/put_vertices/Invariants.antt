-- `obj::write::put_vertices` meets its contract: the vertices of the corners passed are written.
use mathlib.Core.Path.{◌≡◌}
use lib.ListN.{length}
use Rattle.num_text.specs.Text.{Adds}
use Rattle.obj_windows.specs.Filled.{row_at_of}
use Rattle.obj.specs.Work.{rows_to}
use Rattle.obj.proofs.write.put_vertices.Given as goal

abbrev pub invariant-loop-c : goal.invariant-loop-c
invariant-loop-c l = Adds l.initial.part (rows_to (row_at_of l.xs l.ys l.zs) l.c) l.part
