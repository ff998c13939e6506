-- `num_inch::sixty_fourth::of_whole` meets its contract.
use Rattle.num_inch.proofs.QuotientLaws.{whole_quotient}
use Rattle.num_inch.proofs.sixty_fourth.of_whole.Goals as goal

pub returns : goal.returns
returns c = whole_quotient c.args.n
