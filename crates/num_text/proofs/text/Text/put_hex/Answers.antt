use mathlib.Core.Path.{refl}
use Rattle.num_text.proofs.text.Text.put_hex.Goals as goal

pub returns : goal.returns
returns c = record { put = c.digits_of_bits-self.ensures; same_slice = refl }
