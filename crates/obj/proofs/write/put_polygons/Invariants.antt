-- `obj::write::put_polygons` meets its contract: the polygons passed are written.
use mathlib.Core.Path.{◌≡◌}
use lib.ListN.{length}
use Rattle.num_text.specs.Text.{Adds}
use Rattle.obj.specs.Work.{first_at, entries_to}
use Rattle.obj.proofs.write.put_polygons.Given as goal

abbrev pub invariant-loop-p : goal.invariant-loop-p
invariant-loop-p l = record {
  first_is : l.first ≡ first_at l.counts l.p;
  written : Adds l.initial.part (entries_to l.indices l.counts l.p) l.part;
}
