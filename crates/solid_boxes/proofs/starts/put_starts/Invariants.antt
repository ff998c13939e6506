-- `solid_boxes::starts::put_starts` meets its contract.
use mathlib.Core.Path.{◌≡◌}
use Prim.Native.Nat.{◌-◌, ◌*◌}
use lib.ListN.{length}
use Rattle.solid_boxes.specs.Tree.{Order, start_at, skip_at}
use Rattle.solid_boxes.proofs.StartLaws.{State}
use Rattle.solid_boxes.proofs.starts.put_starts.Given as goal

abbrev pub invariant-loop-d : goal.invariant-loop-d
invariant-loop-d l = (length l.words ≡ length l.initial.words) × (Order l.words l.n × State (start_at l.words l.n) (skip_at l.words l.n) l.n l.m l.x l.d)

abbrev pub decreases-loop-d : goal.decreases-loop-d
decreases-loop-d l = 2 * (l.n - l.x) - l.d
