-- The two cases of `normalized` and of `any_perpendicular`, in the words of the code's tests.
use mathlib.Core.Path.{◌≡◌, sym, ap, ◌∙◌}
use mathlib.Core.Bool.{Bool, true, false, cond}
use lib.Ieee.{Float, lt}
use Rattle.num_norm.specs.Length.{e_300}
use Rattle.num_real.specs.Select.{abs_of}
use Rattle.math.specs.declared.Vec3.{Vec3}
use Rattle.math.specs.Vector.{length_of, over, normalized_of, cross_of, x_vec, y_vec, nine_tenths, perpendicular_of}

-- all components by one test: the vector unchanged, or divided by its length
pub normalized_by : (a : Vec3) (b : Bool) → lt (length_of a) e_300 ≡ b → normalized_of a ≡ cond b a (over a (length_of a))
unfolding normalized_of over length_of
normalized_by a true h = rw h
normalized_by a false h = rw h

pub normalized_short : (a : Vec3) (l : Float) → l ≡ length_of a → lt l e_300 ≡ true → a ≡ normalized_of a
normalized_short a l e t = sym (normalized_by a true (rw (← e) t))

pub normalized_over : (a : Vec3) (l : Float) (r : Vec3) → l ≡ length_of a → lt l e_300 ≡ false → r ≡ over a l → r ≡ normalized_of a
normalized_over a l r e f q = q ∙ ap (over a) e ∙ sym (normalized_by a false (rw (← e) f))

-- the axis that the vector is crossed with, by the test of its size along x
pub perpendicular_by : (a o c r : Vec3) (m : Float) (b : Bool) →
    m ≡ abs_of a.x → lt m nine_tenths ≡ b → o ≡ cond b x_vec y_vec → c ≡ cross_of a o → r ≡ normalized_of c → r ≡ perpendicular_of a
unfolding perpendicular_of
perpendicular_by a o c r m b size test axis crossed q =
    q
    ∙ ap normalized_of (crossed ∙ ap (cross_of a) (axis ∙ ap (λ (t : Bool). cond t x_vec y_vec) (sym (ap (λ (k : Float). lt k nine_tenths) (sym size) ∙ test))))
