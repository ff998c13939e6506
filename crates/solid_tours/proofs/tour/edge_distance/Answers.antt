-- `solid_tours::tour::edge_distance` meets its contract: over its places.
use mathlib.Core.Path.{ap, ◌∙◌}
use Rattle.file_part.specs.Part.{part_of}
use Rattle.solid_tours.specs.Work.{least_distance}
use Rattle.solid_tours.proofs.PlaceLaws.{readable}
use Rattle.solid_tours.proofs.TourLaws.{least_end}
use Rattle.solid_tours.proofs.EdgeLaws.{edge_least}
use native.Mathlib.Omega.{arith}
use Rattle.solid_tours.proofs.tour.edge_distance.Goals as goal

pub returns : goal.returns
returns c = least_end (part_of c.args.file.now) c.args.p c.args.edges.at c.args.words.now _ _ _ _ _ (omega arith) (omega arith) c.boxed_square.ensures c.sqrt.ensures ∙ ap (least_distance _ _) c.face_places-places.ensures.edges ∙ edge_least _ (readable _ _ _ _ c.requires.fact_1) _ _
