-- `obj_part::bytes::put_vec` meets its contract.
use Rattle.obj_part.specs.Bytes.{vec_bytes}
use Rattle.num_text.proofs.TextLaws.{adds_then}
use Rattle.obj_part.proofs.bytes.put_vec.Goals as goal

pub returns : goal.returns
unfolding vec_bytes
returns c = adds_then _ _ c.put_f64.ensures (adds_then _ _ c.put_f64-2.ensures c.put_f64-3.ensures)
