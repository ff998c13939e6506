use mathlib.Core.Path.{refl}
use Rattle.num_text.proofs.text.Text.put_bytes.Goals as goal

pub returns-then-s-self : goal.returns-then-s-self
returns-then-s-self c = record { put = c.copy.ensures; same_slice = refl }
