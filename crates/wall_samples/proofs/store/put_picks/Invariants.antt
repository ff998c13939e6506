-- `wall_samples::store::put_picks` meets its contract.
use mathlib.Core.Path.{◌≡◌}
use Prim.Native.Nat.{◌+◌, ◌*◌, ◌-◌, ◌≤◌}
use Rattle.list_laws.specs.Region.{part}
use Rattle.file_part.specs.Part.{part_of}
use Rattle.wall_samples.specs.Samples.{picks_to}
use Rattle.wall_samples.specs.Work.{Added}
use Rattle.wall_samples.proofs.store.put_picks.Given as goal

abbrev pub invariant-loop-i : goal.invariant-loop-i
invariant-loop-i l =
    (l.i ≤ l.want) × (l.place ≡ l.i * l.step) × Added (part_of l.file) l.at l.at.order l.before (picks_to (part_of l.file) (part l.at.order (l.at.order + l.n) l.initial.words) l.step l.i) l.initial.words l.words l.initial.reals l.reals l.count

abbrev pub decreases-loop-i : goal.decreases-loop-i
decreases-loop-i l = l.want - l.i
