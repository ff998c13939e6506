use Rattle.num_text.specs.Number.{thousandths}
use Rattle.num_text.proofs.TextLaws.{adds_then}
use Rattle.num_text.proofs.text.Text.put_thousandths.Goals as goal

pub returns : goal.returns
unfolding thousandths
returns c = adds_then _ _ c.put_number.ensures c.put_fraction.ensures
