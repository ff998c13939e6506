-- `solid_tours::tour::between_distance` meets its contract: over its places.
use mathlib.Core.Path.{ap, ◌∙◌}
use Rattle.file_part.specs.Part.{part_of}
use Rattle.solid_tours.specs.Work.{least_distance}
use Rattle.solid_tours.proofs.TourLaws.{least_end}
use Rattle.solid_tours.proofs.EdgeLaws.{between_least}
use native.Mathlib.Omega.{arith}
use Rattle.solid_tours.proofs.tour.between_distance.Goals as goal

pub returns : goal.returns
returns c = least_end (part_of c.args.file.now) c.args.p c.args.at c.args.words.now _ _ _ _ _ (omega arith) (omega arith) c.least_square.ensures c.sqrt.ensures ∙ ap (least_distance _ _) c.requires.fact_2.edges ∙ between_least _ _ _ _
