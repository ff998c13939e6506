-- `obj_windows::window::pick` meets its contract.
use mathlib.Core.Path.{sym}
use Rattle.obj_windows.proofs.WindowLaws.{pick_before, pick_inside, pick_after}
use native.Mathlib.Omega.{arith}
use Rattle.obj_windows.proofs.window.pick.Goals as goal

pub returns-then-number-base : goal.returns-then-number-base
returns-then-number-base c = sym (pick_before c.args.slots.now c.args.base c.args.count c.args.number c.args.old c.if-number-base.true)

pub returns-then-j-count : goal.returns-then-j-count
returns-then-j-count c = sym (pick_inside c.args.slots.now c.args.base c.args.count c.args.number c.args.old (omega arith) (omega (arith, c.if-j-count.true)))

pub returns : goal.returns
returns c = sym (pick_after c.args.slots.now c.args.base c.args.count c.args.number c.args.old (omega arith) (omega (arith, c.if-j-count.false)))
