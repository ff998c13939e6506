-- The cases of the nearest point of a segment, in the words of the code's tests.
use mathlib.Core.Path.{◌≡◌, sym, ap, ◌∙◌}
use mathlib.Core.Bool.{Bool, true, false, cond}
use lib.Ieee.{Float, binary64, div, lt}
use Rattle.math.specs.declared.Vec3.{Vec3}
use Rattle.math.specs.Vector.{zero, one, minus, dot_of}
use Rattle.solid_distance.specs.Segment.{clamp_unit, e_18, along}

pub clamp_low : (x : Float) → lt x zero ≡ true → zero ≡ clamp_unit x
unfolding clamp_unit
clamp_low x h = ap (λ (b : Bool). cond b zero (cond (lt one x) one x)) (sym h)

pub clamp_high : (x : Float) → lt x zero ≡ false → lt one x ≡ true → one ≡ clamp_unit x
unfolding clamp_unit
clamp_high x h k = rw (h, k)

pub clamp_between : (x : Float) → lt x zero ≡ false → lt one x ≡ false → x ≡ clamp_unit x
unfolding clamp_unit
clamp_between x h k = chosen (lt x zero) (lt one x) x h k
  where
    chosen : (a b : Bool) (x : Float) → a ≡ false → b ≡ false → x ≡ cond a zero (cond b one x)
    chosen a b x h k = rw (h, k)

pub along_short : (p a ab : Vec3) (l : Float) → lt l e_18 ≡ true → zero ≡ along p a ab l
unfolding along
along_short p a ab l h = rw h

pub along_long : (p a ab d : Vec3) (l x r : Float) → lt l e_18 ≡ false → d ≡ minus p a → x ≡ dot_of d ab → r ≡ clamp_unit (div binary64 x l) → r ≡ along p a ab l
unfolding along
along_long p a ab d l x r h f g q = q ∙ rw (h, g, f)
