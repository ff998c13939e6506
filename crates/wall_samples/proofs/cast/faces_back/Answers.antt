-- `wall_samples::cast::faces_back` meets its contract.
use Rattle.wall_samples.proofs.cast.faces_back.Goals as goal

pub plane_at-requires : goal.plane_at-requires
plane_at-requires c = c.requires.fact_2

pub plane_at-requires-2 : goal.plane_at-requires-2
plane_at-requires-2 c = c.requires.fact_1

pub returns : goal.returns
returns c = rw (c.dot.ensures, c.plane_at.ensures, c.plane_at-2.ensures)
