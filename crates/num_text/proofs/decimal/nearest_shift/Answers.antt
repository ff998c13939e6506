-- `num_text::decimal::nearest_shift` meets its contract, by the laws of `Rounding`.
use Rattle.num_text.proofs.Rounding.{nearest_shift}
use Rattle.num_text.proofs.decimal.nearest_shift.Goals as goal

pub returns : goal.returns
returns c = nearest_shift c.args.v c.args.s c.requires.fact_1 c.requires.fact_2 c.requires.fact_3
