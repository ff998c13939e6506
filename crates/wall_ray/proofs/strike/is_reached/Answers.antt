-- `wall_ray::strike::is_reached` meets its contract.
use Rattle.wall_ray.proofs.strike.is_reached.Goals as goal

pub returns : goal.returns
returns c = rw (c.is_parallel.ensures, c.is_improved.ensures)
