-- `replay_packed::put_packed` meets its contract.
use Rattle.replay_packed.proofs.PackedLaws.{alone_zero}
use Rattle.num_text.proofs.TextLaws.{adds_none, adds_same}
use Rattle.replay_packed.proofs.put_packed.Goals as goal

pub returns-else-b-ne0 : goal.returns-else-b-ne0
returns-else-b-ne0 c = adds_same _ _ (alone_zero _ _ c.if-after_zero.false c.if-b-ne0.false) (adds_none _)
