-- `obj_line::line::face_line` meets its contract: what is left of the fields, after the count, the largest and the numbers so far, gives the whole.
use mathlib.Core.Path.{◌≡◌}
use mathlib.Core.List.{map}
use Prim.Native.Nat.{◌≤◌, ◌+◌, ◌-◌}
use lib.ListN.{length, drop}
use lib.Seq.{sets}
use Rattle.obj_line.specs.Work.{fields_after, face_line, cell_of}
use Rattle.obj_line.proofs.line.face_line.Given as goal

abbrev pub invariant-loop-at : goal.invariant-loop-at
invariant-loop-at l = record {
  few : l.count ≤ 64;
  same_length : length l.numbers ≡ length l.initial.numbers;
  left : face_line l.count l.largest (fields_after (drop l.at l.line)) ≡ face_line 0 0 (fields_after (drop 1 l.line));
  cells : sets l.numbers (l.used + l.count) (map cell_of (fields_after (drop l.at l.line))) ≡ sets l.initial.numbers l.used (map cell_of (fields_after (drop 1 l.line)));
}

abbrev pub decreases-loop-at : goal.decreases-loop-at
decreases-loop-at l = length l.line - l.at
