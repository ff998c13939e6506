-- `scratch::regions::Regions::of` meets its contract.
use mathlib.Core.Path.{◌∙◌}
use Rattle.file_ok.proofs.ReadableLaws.{readable_counts}
use Rattle.solid_faces.proofs.BodyLaws.{readable_long, checked_readable}
use native.Mathlib.Omega.{arith}
use Rattle.scratch.proofs.regions.Regions.of.Goals as goal

pub polygon_count-requires : goal.polygon_count-requires
polygon_count-requires c = readable_long _ (checked_readable _ c.requires)

pub vertex_count-requires : goal.vertex_count-requires
vertex_count-requires c = readable_long _ (checked_readable _ c.requires)

pub lay-requires : goal.lay-requires
lay-requires c = let n = readable_counts _ (checked_readable _ c.requires) in
    record {
      fact_1 = omega (arith, n.1, c.polygon_count.ensures);
      fact_2 = omega (arith, n.0, c.vertex_count.ensures);
    }

pub returns : goal.returns
returns c =
    record {
      fact_1 = record { checked = c.requires; laid = c.lay.ensures.laid_1; polygons = c.lay.ensures.laid_2 ∙ c.polygon_count.ensures; vertices = c.lay.ensures.laid_3 ∙ c.vertex_count.ensures };
      fact_2 = c.lay.ensures.segments_value_1;
      fact_3 = c.lay.ensures.segments_value_2;
    }
