-- `obj_line::field::spaces` meets its contract: the spaces passed and those of the rest make up the whole.
use Rattle.obj_line.proofs.SplitLaws.{spaces_here, spaces_more, spaces_none}
use native.Mathlib.Omega.{arith}
use Rattle.obj_line.proofs.field.spaces.Goals as goal

pub returns-then-b-ne32 : goal.returns-then-b-ne32
returns-then-b-ne32 c = omega (arith, spaces_here c.args.s.now c.loop-i.i c.loop-i-test.true c.if-b-ne32.true)

pub loop-i-preserved : goal.loop-i-preserved
loop-i-preserved c = omega (arith, spaces_more c.args.s.now c.loop-i.i c.loop-i-test.true c.if-b-ne32.false)

pub returns : goal.returns
returns c = omega (arith, spaces_none c.args.s.now c.loop-i.i c.loop-i-test.false)
