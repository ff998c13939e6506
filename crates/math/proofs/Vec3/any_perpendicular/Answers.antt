-- `math::Vec3::any_perpendicular` meets its contract.
use borrow.Author.Rules.{rules}
use mathlib.Core.Path.{refl}
use mathlib.Core.Bool.{true, false}
use Rattle.math.specs.Vector.{x_vec, y_vec}
use Rattle.math.proofs.VectorLaws.{perpendicular_by}
use Rattle.math.proofs.Vec3.any_perpendicular.Goals as goal

pub returns-then-abs : goal.returns-then-abs
unfolding x_vec
returns-then-abs c = perpendicular_by _ _ _ _ _ true c.abs.ensures c.if-abs.true refl c.cross.ensures c.normalized.ensures

pub returns : goal.returns
unfolding y_vec
returns c = perpendicular_by _ _ _ _ _ false c.abs.ensures c.if-abs.false refl c.cross-2.ensures c.normalized-2.ensures
