-- `wall_ray::slab::Span::narrow` meets its contract.
use Rattle.wall_ray.proofs.SlabLaws.{moved_nan, moved_up, moved_down}
use Rattle.wall_ray.proofs.slab.Span.narrow.Goals as goal

pub returns-then-a-b : goal.returns-then-a-b
returns-then-a-b c = moved_nan _ _ _ c.if-a-b.true

pub returns-then-a-b-2 : goal.returns-then-a-b-2
returns-then-a-b-2 c = moved_up _ _ _ c.if-a-b.false _ _ c.if-a-b-2.true c.max.ensures c.min.ensures

pub returns : goal.returns
returns c = moved_down _ _ _ c.if-a-b.false _ _ c.if-a-b-2.false c.max-2.ensures c.min-2.ensures
