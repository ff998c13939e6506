-- `round_hole::hole::follows` meets its contract.
use native.Mathlib.Nat.{le_refl}
use lib.Dec.{lit≤}
use Rattle.round_hole.proofs.WholeLaws.{scaled_fits, follows_is}
use Rattle.round_hole.proofs.hole.follows.Goals as goal

pub overflow_mul-result : goal.overflow_mul-result
overflow_mul-result c = scaled_fits 100000 c.cross-cross.result (le_refl 100000) c.cross-cross.ensures.fact_2

pub overflow_mul-result-2 : goal.overflow_mul-result-2
overflow_mul-result-2 c = scaled_fits 20271 c.dot-dot.result (lit≤ tt) c.dot-dot.ensures.fact_2

pub returns : goal.returns
returns c =
    follows_is _ _ c.cross-cross.result c.dot-dot.result c.cross-cross.ensures.fact_1 c.cross-cross.ensures.fact_2
    c.dot-dot.ensures.fact_1 c.dot-dot.ensures.fact_2
