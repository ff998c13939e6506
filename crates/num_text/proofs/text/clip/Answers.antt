-- `num_text::text::clip` meets its contract.
use native.Mathlib.Omega.{arith}
use Rattle.std.proofs.Math.Seq.{take_all}
use Rattle.num_text.proofs.PutLaws.{put_none, put_more, put_same}
use Rattle.num_text.proofs.text.clip.Goals as goal

pub loop-b-init : goal.loop-b-init
loop-b-init c = put_none _ _ (omega arith)

pub loop-b-preserved : goal.loop-b-preserved
loop-b-preserved c = put_more c.args.s.now c.loop-b.b-index c.loop-b-test.true c.loop-b.invariant c.place-next.ensures

pub returns : goal.returns
returns c = put_same _ _ (take_all _ _ c.loop-b-test.false) c.loop-b.invariant
