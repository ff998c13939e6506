-- `num_text::digits::width_of` meets its contract. The invariant: the digits counted and those that v still has make up the width.
use mathlib.Core.Path.{◌≡◌}
use Prim.Native.Nat.{◌≤◌, ◌+◌, ◌-◌}
use lib.Dec.{ltb}
use Rattle.num_text.specs.Number.{count, width}
use Rattle.num_text.proofs.digits.width_of.Given as goal

abbrev pub invariant-loop-v : goal.invariant-loop-v
invariant-loop-v l = (1 ≤ l.k) × (l.k + l.v ≤ l.n + 1) × (l.k + count (l.n + 1 - l.k) (ltb l.v 10) l.v ≡ 1 + width l.n)

abbrev pub decreases-loop-v : goal.decreases-loop-v
decreases-loop-v l = l.v
