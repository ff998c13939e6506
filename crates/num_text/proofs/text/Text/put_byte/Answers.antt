use mathlib.Core.Path.{refl}
use Rattle.num_text.proofs.text.Text.put_byte.Goals as goal

pub returns : goal.returns
returns c = record { put = c.place-self.ensures; same_slice = refl }
