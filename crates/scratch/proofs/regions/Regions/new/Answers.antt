-- `scratch::regions::Regions::new` meets its contract.
use Rattle.scratch.proofs.regions.Regions.new.Goals as goal

pub lay-requires : goal.lay-requires
lay-requires c =
    record {
      fact_1 = c.requires.fact_1;
      fact_2 = c.requires.fact_2;
    }

pub returns : goal.returns
returns c =
    record {
      laid_1 = c.lay.ensures.laid_1;
      laid_2 = c.lay.ensures.laid_2;
      laid_3 = c.lay.ensures.laid_3;
      segments_value_1 = c.lay.ensures.segments_value_1;
      segments_value_2 = c.lay.ensures.segments_value_2;
    }
