-- `solid_keys::chains::pair` meets its contract.
use Prim.Native.Nat.{◌+◌}
use Rattle.solid_keys.specs.Work.{col, side_cells, Kept, Out}
use Rattle.solid_keys.proofs.chains.pair.Given as goal

abbrev pub invariant-loop-s : goal.invariant-loop-s
invariant-loop-s l = Kept 7 l.initial.mem l.mem × Out (side_cells l.initial.mem) (l.n + 1) l.s (col l.mem 7)
