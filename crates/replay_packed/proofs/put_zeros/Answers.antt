-- `replay_packed::put_zeros` meets its contract.
use mathlib.Core.List.{[], ◌∷◌}
use native.Mathlib.Omega.{arith}
use lib.ListN.{replicate-append-replicate}
use Rattle.num_text.proofs.TextLaws.{adds_none, adds_then, adds_same}
use Rattle.replay_packed.proofs.put_zeros.Goals as goal

pub loop-init : goal.loop-init
loop-init c = adds_none _

pub loop-preserved : goal.loop-preserved
loop-preserved c =
    adds_same _ _ (replicate-append-replicate c.loop.counter 1 0) (adds_then _ (0 ∷ []) c.loop.invariant c.put_byte.ensures)
