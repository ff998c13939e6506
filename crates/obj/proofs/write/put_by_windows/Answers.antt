-- `obj::write::put_by_windows` meets its contract.
use Rattle.obj.proofs.WriteLaws.{put_block}
use Rattle.obj.proofs.write.put_by_windows.Goals as goal

pub returns : goal.returns
returns c = put_block c.args.text.now c.args.numbers.now _ _ _ c.args.used c.requires.fact_1 c.requires.fact_3 c.fill.ensures c.put_vertices.ensures
