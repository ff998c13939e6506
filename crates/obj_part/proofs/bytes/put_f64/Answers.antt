-- `obj_part::bytes::put_f64` meets its contract.
use mathlib.Core.Path.{ap}
use Rattle.obj_part.specs.Bytes.{le64, f64_bytes}
use Rattle.num_text.proofs.TextLaws.{adds_same}
use Rattle.obj_part.proofs.bytes.put_f64.Goals as goal

pub returns : goal.returns
unfolding f64_bytes
returns c = adds_same _ _ (ap le64 c.to_bits.ensures) c.put_u64.ensures
