-- `num_text::text::Text::put_decimal` meets its contract: the text goes into a local array, and from there to its place.
use mathlib.Core.Path.{sym}
use native.Mathlib.Nat.{le_refl}
use native.Mathlib.Omega.{arith}
use Rattle.num_text.proofs.DecimalLaws.{refused_text, written_front}
use Rattle.num_text.proofs.TextLaws.{adds_none, adds_same}
use Rattle.num_text.proofs.text.Text.put_decimal.Goals as goal

pub returns-in_default : goal.returns-in_default
returns-in_default c =
    adds_same _ _ (sym (refused_text c.args.x c.args.places c.decimal.ensures (le_refl 24) c.in_default.is)) (adds_none _)

pub returns : goal.returns
returns c =
    adds_same _ _ (written_front c.args.x c.args.places c.decimal.ensures (le_refl 24) c.in-Ok.is) c.put_bytes.ensures
