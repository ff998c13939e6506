-- `wall_ray::slab::is_run_reached` meets its contract.
use Rattle.wall_ray.proofs.SlabLaws.{reached_by}
use Rattle.wall_ray.proofs.slab.is_run_reached.Goals as goal

pub run_box-requires : goal.run_box-requires
run_box-requires c =
    record {
      fact_1 = c.requires.fact_1;
      fact_2 = c.requires.fact_2;
    }

pub returns : goal.returns
returns c = reached_by _ _ _ _ _ _ _ c.run_box.ensures c.slab.ensures c.is_reached.ensures
