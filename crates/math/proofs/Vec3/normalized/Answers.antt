-- `math::Vec3::normalized` meets its contract.
use borrow.Author.Rules.{rules}
use Rattle.math.proofs.VectorLaws.{normalized_short, normalized_over}
use Rattle.math.proofs.Vec3.normalized.Goals as goal

pub returns-then-l : goal.returns-then-l
returns-then-l c = normalized_short _ _ c.length-l.ensures c.if-l.true

pub returns : goal.returns
returns c = normalized_over _ _ _ c.length-l.ensures c.if-l.false c.div.ensures
