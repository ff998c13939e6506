-- `obj_number::cut::find` meets its contract: there is no b among the bytes passed.
use mathlib.Core.Path.{◌≡◌, sym, ◌∙◌}
use lib.ListN.{length}
use Rattle.obj_number.proofs.CutLaws.{none_here, none_more, none_end}
use native.Mathlib.Omega.{arith}
use Rattle.obj_number.proofs.cut.find.Goals as goal

pub returns-then-s-i : goal.returns-then-s-i
returns-then-s-i c = none_here c.args.b c.args.s.now c.loop-i.i c.loop-i.invariant c.loop-i-test.true c.if-s-i.true

pub loop-i-preserved : goal.loop-i-preserved
loop-i-preserved c = none_more c.args.b c.args.s.now c.loop-i.i c.loop-i.invariant c.loop-i-test.true c.if-s-i.false

pub returns : goal.returns
returns c = let all : c.loop-i.i ≡ length c.args.s.now = omega arith in sym all ∙ none_end c.args.b c.args.s.now c.loop-i.i c.loop-i.invariant c.loop-i-test.false
