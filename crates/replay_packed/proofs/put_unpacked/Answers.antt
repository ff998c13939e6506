-- `replay_packed::put_unpacked` meets its contract. The invariant: to write what the bytes from the index on stand for is to write the whole.
use Rattle.replay_packed.proofs.PackedLaws.{adds_turn, adds_end}
use Rattle.replay_packed.proofs.put_unpacked.Goals as goal

pub loop-b-init : goal.loop-b-init
loop-b-init c = λ after h. h

pub loop-b-preserved : goal.loop-b-preserved
loop-b-preserved c = λ after h. c.loop-b.invariant after (adds_turn c.loop-b.after_zero c.args.packed.now c.loop-b.b-index c.loop-b-test.true c.put_packed.ensures h)

pub returns : goal.returns
returns c = c.loop-b.invariant _ (adds_end c.loop-b.after_zero c.args.packed.now c.loop-b.b-index c.loop-b-test.false)
