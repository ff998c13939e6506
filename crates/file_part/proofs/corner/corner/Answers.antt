-- `file_part::corner::corner` meets its contract.
use native.Mathlib.Omega.{arith}
use Rattle.file_job.specs.file_field.specs.Field.{vec_at_of}
use Rattle.file_part.proofs.corner.corner.Goals as goal

pub coordinate-requires : goal.coordinate-requires
unfolding vec_at_of
coordinate-requires c =
    record {
      fact_1 = omega (arith, c.requires.fact_1);
      fact_2 = c.requires.fact_2.x_within;
    }

pub coordinate-requires-2 : goal.coordinate-requires-2
unfolding vec_at_of
coordinate-requires-2 c =
    record {
      fact_1 = omega (arith, c.requires.fact_1);
      fact_2 = c.requires.fact_2.y_within;
    }

pub coordinate-requires-3 : goal.coordinate-requires-3
unfolding vec_at_of
coordinate-requires-3 c =
    record {
      fact_1 = omega (arith, c.requires.fact_1);
      fact_2 = c.requires.fact_2.z_within;
    }

pub returns : goal.returns
unfolding vec_at_of
returns c = cc
