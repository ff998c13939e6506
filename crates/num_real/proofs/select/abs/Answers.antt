-- `num_real::select::abs` meets its contract: a case for each kind of float.
use mathlib.Core.Path.{◌≡◌, refl, ◌∙◌}
use mathlib.Core.Bool.{false}
use lib.Ieee.{Float, nan, inf, fin}
use Rattle.std.specs.Float.{float_with_sign}
use Rattle.num_real.specs.Select.{abs_of}
use Rattle.num_real.proofs.select.abs.Goals as goal

cleared : (x : Float) → float_with_sign false x ≡ abs_of x
unfolding float_with_sign abs_of
cleared nan = refl
cleared (inf s) = refl
cleared (fin s m e) = refl

pub returns : goal.returns
returns c = c.abs.ensures.value ∙ cleared c.args.x
