-- `obj::write::put_corners` meets its contract: from the tables, or by a second pass.
use Rattle.obj.proofs.WriteLaws.{put_named}
use Rattle.obj.proofs.write.put_corners.Goals as goal

pub returns : goal.returns
returns c = put_named c.args.text.now c.args.numbers.now _ _ _ _ _ c.requires.fact_2.held c.requires.fact_2.named c.requires.fact_2.rows c.if-t-gt16384.false c.put_by_number.ensures
