-- `obj::write::put_end` meets its contract.
use Rattle.num_text.proofs.TextLaws.{adds_then}
use Rattle.obj.proofs.write.put_end.Goals as goal

pub returns : goal.returns
returns c = adds_then _ _ c.put_bytes.ensures c.put_trailer.ensures
