-- `num_inch::inch::put_small` meets its contract: one digit, or one after the other.
use Rattle.num_inch.proofs.DigitLaws.{one_digit, two_digits}
use Rattle.num_text.proofs.TextLaws.{adds_then, adds_same}
use Rattle.num_inch.proofs.inch.put_small.Goals as goal

pub returns-then-n-lt10 : goal.returns-then-n-lt10
returns-then-n-lt10 c =
    adds_same _ _ (one_digit c.args.n c.if-n-lt10.true) c.put_byte.ensures

pub returns : goal.returns
returns c =
    adds_same _ _ (two_digits c.args.n c.if-n-lt10.false c.requires) (adds_then _ _ c.put_byte-2.ensures c.put_byte-3.ensures)
