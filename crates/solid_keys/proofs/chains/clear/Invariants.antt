-- `solid_keys::chains::clear` meets its contract.
use mathlib.Core.Path.{◌≡◌}
use Prim.Native.Nat.{ℕ, ◌<◌}
use Rattle.solid_keys.specs.Work.{col, Kept}
use Rattle.solid_keys.proofs.chains.clear.Given as goal

abbrev pub invariant-loop-s : goal.invariant-loop-s
invariant-loop-s l = Kept 4 l.initial.mem l.mem × ((k : ℕ) → k < l.s → col l.mem 4 k ≡ 0)
