-- `wall_ray::attempt::is_next` meets its contract.
use Rattle.wall_ray.proofs.attempt.is_next.Goals as goal

pub returns : goal.returns
returns c = rw (c.is_parallel.ensures, c.comes_first.ensures)
