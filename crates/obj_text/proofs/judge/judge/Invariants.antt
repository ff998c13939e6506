-- `obj_text::judge::judge` meets its contract: the lines that are left, tallied and noted now, give the whole.
use Rattle.std.proofs.Common.{Ok}
use mathlib.Core.Path.{◌≡◌}
use Prim.Native.Nat.{◌≤◌, ◌+◌, ◌-◌}
use lib.ListN.{length}
use Rattle.obj_text.specs.Text.{forms_of}
use Rattle.obj_text.specs.Judged.{tables}
use Rattle.obj_text.specs.Work.{tally_from, forms_from, start}
use Rattle.obj_text.proofs.NoteLaws.{Left}
use Rattle.obj_text.proofs.judge.judge.Given as goal

abbrev pub invariant-loop-at : goal.invariant-loop-at
invariant-loop-at l = record {
  inside : l.at ≤ length l.text + 1;
  few : l.t.defined ≤ l.at;
  corners_to : l.t.corners ≤ 16385;
  polygons_to : l.t.polygons ≤ 4097;
  tally : tally_from (Ok l.t) (forms_from l.text l.at) ≡ tally_from (Ok start) (forms_of l.text);
  left : Left l.text (tables l.initial.numbers l.initial.indices l.initial.counts l.initial.xs l.initial.ys l.initial.zs) (forms_from l.text l.at) l.t (tables l.numbers l.indices l.counts l.xs l.ys l.zs);
}

abbrev pub decreases-loop-at : goal.decreases-loop-at
decreases-loop-at l = length l.text + 1 - l.at
