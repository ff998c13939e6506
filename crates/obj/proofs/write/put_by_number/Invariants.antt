-- `obj::write::put_by_number` meets its contract: the vertices of the corners passed are written.
use mathlib.Core.Path.{◌≡◌}
use lib.ListN.{length}
use Rattle.num_text.specs.Text.{Adds}
use Rattle.obj.specs.Work.{rows_to, named_row}
use Rattle.obj.proofs.write.put_by_number.Given as goal

abbrev pub invariant-loop-c : goal.invariant-loop-c
invariant-loop-c l = Adds l.initial.part (rows_to (named_row l.numbers l.xs l.ys l.zs) l.c) l.part
