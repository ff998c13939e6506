-- The tests of `is_close` and `is_around`, read as the definitions.
use mathlib.Core.Path.{◌≡◌, ◌∙◌}
use mathlib.Core.Bool.{Bool, true, false}
use lib.Ieee.{Float, binary64, sub, mul, lt, le}
use Rattle.num_real.specs.Select.{max_of, abs_of}
use Rattle.math.specs.declared.Vec3.{Vec3}
use Rattle.math.specs.Vector.{minus, cross_of, length_of}
use Rattle.wall_ray.specs.Strike.{e_9}
use Rattle.round_all.specs.declared.round.Round.{Round}
use Rattle.sheet_bends.specs.Bends.{twentieth, thousandth, is_close, is_along, is_centred, is_around}

pub close_is : (thick a b x y : Float) → x ≡ abs_of (sub binary64 a b) → y ≡ max_of thick e_9 → le x (mul binary64 twentieth y) ≡ is_close thick a b
unfolding is_close
close_is thick a b x y ex ey = rw (ex, ey)

module _ (thick : Float) (inner outer : Round) where
  along_is : (v : Vec3) (x : Float) → v ≡ cross_of outer.axis inner.axis → x ≡ length_of v → is_along inner outer ≡ lt x thousandth
  unfolding is_along
  along_is v x ev ex = rw (ex, ev)

  centred_is : (d v : Vec3) (x : Float) → d ≡ minus outer.origin inner.origin → v ≡ cross_of d inner.axis → x ≡ length_of v →
      is_centred thick inner outer ≡ lt x (mul binary64 twentieth thick)
  unfolding is_centred
  centred_is d v x ed ev ex = rw (ex, ev, ed)

  module _ (v : Vec3) (x : Float) (ev : v ≡ cross_of outer.axis inner.axis) (ex : x ≡ length_of v) where
    -- the axes differ
    pub around_along : lt x thousandth ≡ false → false ≡ is_around thick inner outer
    unfolding is_around
    around_along h = rw (along_is v x ev ex ∙ h)

    module _ (along : lt x thousandth ≡ true) (d w : Vec3) (y : Float) (ed : d ≡ minus outer.origin inner.origin) (ew : w ≡ cross_of d inner.axis) (ey : y ≡ length_of w) where
      -- the axes are apart
      pub around_apart : lt y (mul binary64 twentieth thick) ≡ false → false ≡ is_around thick inner outer
      unfolding is_around
      around_apart h = rw (along_is v x ev ex ∙ along, centred_is d w y ed ew ey ∙ h)

      pub around_is : lt y (mul binary64 twentieth thick) ≡ true → (b : Bool) → b ≡ is_close thick (sub binary64 outer.radius inner.radius) thick →
          b ≡ is_around thick inner outer
      unfolding is_around
      around_is h b e = rw (along_is v x ev ex ∙ along, centred_is d w y ed ew ey ∙ h) e
