-- `print_walls::is_stacked` meets its contract.
use mathlib.Core.Path.{ap, ◌∙◌}
use lib.Ieee.{lt}
use Rattle.num_real.specs.Select.{abs_of}
use Rattle.print_walls.specs.Walls.{ninety_nine}
use Rattle.print_walls.proofs.is_stacked.Goals as goal

pub returns : goal.returns
returns c = ap (lt ninety_nine) (c.abs.ensures ∙ ap abs_of c.dot.ensures)
