-- `solid_tours::boxes::box_count` meets its contract.
use Rattle.solid_tours.proofs.BoxLaws.{count_least}
use mathlib.Core.Path.{◌∙◌}
use Rattle.solid_tours.proofs.boxes.box_count.Goals as goal

pub returns : goal.returns
returns c = c.min.ensures ∙ count_least _ _
