-- `solid_bodies::forest::root` meets its contract: the walk falls.
use Prim.Native.Nat.{◌<◌}
use mathlib.Core.Path.{◌≡◌}
use lib.ListN.{length, get_or}
use Rattle.solid_bodies.specs.Work.Forest.{Walked}
use Rattle.solid_bodies.proofs.forest.root.Given as goal

abbrev pub invariant-loop-up : goal.invariant-loop-up
invariant-loop-up l = Walked l.initial.parents l.parents l.i l.at × (l.at < length l.parents) × (l.up ≡ get_or l.parents l.at 0)

abbrev pub decreases-loop-up : goal.decreases-loop-up
decreases-loop-up l = l.at
