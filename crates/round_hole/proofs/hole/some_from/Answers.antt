-- `round_hole::hole::some_from` meets its contract.
use native.Mathlib.Omega.{arith}
use native.Mathlib.Nat.{le_refl}
use Rattle.round_hole.proofs.RoundLaws.{found_among, found_true}
use Rattle.round_hole.proofs.hole.some_from.Goals as goal

pub returns-then-w-room : goal.returns-then-w-room
returns-then-w-room c = found_among _ _ _ _ _ _ (omega arith) c.some_between.ensures

pub returns-then-some_between : goal.returns-then-some_between
returns-then-some_between c = found_true _ _ _ _ c.if-some_between.true (found_among _ _ _ _ _ _ (le_refl _) c.some_between-2.ensures)

pub returns : goal.returns
returns c = found_among _ _ _ _ _ _ (omega arith) c.some_between-3.ensures
