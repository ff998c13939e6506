-- `sheet_thickness::put_kept` meets its contract.
use Prim.Native.Nat.{◌≤◌, ◌+◌}
use lib.ListN.{get_or}
use lib.Ieee.{nan, lt}
use Rattle.sheet_thickness.specs.Work.{PassingPut}
use Rattle.sheet_thickness.proofs.put_kept.Given as goal

abbrev pub invariant-loop-k : goal.invariant-loop-k
invariant-loop-k l = (l.n ≤ l.k) × PassingPut (λ i. lt l.limit (get_or l.reals (l.falling + i) nan)) l.k l.order l.initial.words l.words l.n
