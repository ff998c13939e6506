-- `obj_windows::fill::defined_by` meets its contract.
use Rattle.obj_windows.proofs.FillLaws.{defines_empty, defines_one, defines_none}
use Rattle.obj_windows.proofs.fill.defined_by.Goals as goal

pub returns-then-line-eq0 : goal.returns-then-line-eq0
returns-then-line-eq0 c = defines_empty c.args.line.now c.if-line-eq0.true

pub returns-then-line-eq118 : goal.returns-then-line-eq118
returns-then-line-eq118 c = defines_one c.args.line.now c.requires c.if-line-eq118.true

pub returns : goal.returns
returns c = defines_none c.args.line.now c.if-line-eq118.false
