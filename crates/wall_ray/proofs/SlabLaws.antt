-- The slab formula in the words of the code, and what it says of a time.
use mathlib.Core.Path.{◌≡◌, refl, ◌∙◌}
use mathlib.Core.Bool.{Bool, true, false, ◌||◌}
use lib.Ieee.{Float, binary64, div, round, units, odd, of_bits, of_fields, le, ne}
use Rattle.num_float.proofs.Tests.{and_left, and_right}
use Rattle.num_real.specs.Select.{min_of, max_of}
use Rattle.num_real.proofs.CompareLaws.{ne_self}
use Rattle.math.specs.declared.Vec3.{Vec3}
use Rattle.math.specs.Vector as vector
use Rattle.solid_boxes.specs.declared.bounds.Bounds.{Bounds}
use Rattle.wall_ray.specs.declared.slab.Span.{Span}
use Rattle.wall_ray.specs.Slab.{meets, moved, endless, whole_ray, slab_of, passes, reached_in}

pub endless_is : div binary64 vector.one vector.zero ≡ endless
unfolding div round units odd of_bits of_fields
endless_is = refl

-- ---- one axis
module _ (s : Span) (a b : Float) where
  pub moved_nan : (ne a a || ne b b) ≡ true → s ≡ moved s a b
  unfolding moved
  moved_nan h = rw (← ne_self a, ← ne_self b, h)

  module _ (h : (ne a a || ne b b) ≡ false) (x y : Float) where
    pub moved_up : le a b ≡ true → x ≡ max_of s.t0 a → y ≡ min_of s.t1 b → record { t0 = x; t1 = y } ≡ moved s a b
    unfolding moved
    moved_up l e f = rw (← ne_self a, ← ne_self b, h, l, e, f)

    pub moved_down : le a b ≡ false → x ≡ max_of s.t0 b → y ≡ min_of s.t1 a → record { t0 = x; t1 = y } ≡ moved s a b
    unfolding moved
    moved_down l e f = rw (← ne_self a, ← ne_self b, h, l, e, f)

-- ---- the three axes
pub chained : (b : Bounds) (o i : Vec3) (s t u v : Span) (a c d e f g : Float) → s ≡ whole_ray →
    a ≡ meets b.lo.x o.x i.x → c ≡ meets b.hi.x o.x i.x → t ≡ moved s a c →
    d ≡ meets b.lo.y o.y i.y → e ≡ meets b.hi.y o.y i.y → u ≡ moved t d e →
    f ≡ meets b.lo.z o.z i.z → g ≡ meets b.hi.z o.z i.z → v ≡ moved u f g → v ≡ slab_of b o i
unfolding slab_of
chained b o i s t u v a c d e f g p0 p1 p2 p3 p4 p5 p6 p7 p8 p9 = rw (p9, p6, p3, p0, p1, p2, p4, p5, p7, p8)

pub reached_by : (b c : Bounds) (o i : Vec3) (s : Span) (t : Float) (r : Bool) → b ≡ c → s ≡ slab_of b o i → r ≡ reached_in s t →
    r ≡ reached_in (slab_of c o i) t
reached_by b c o i s t r e f g = g ∙ rw (f, e)

-- ---- what it says of t
pub reached_passes : (s : Span) (t : Float) → reached_in s t ≡ true → passes s ≡ true
unfolding reached_in
reached_passes s t h = and_left (passes s) _ h

pub reached_after : (s : Span) (t : Float) → reached_in s t ≡ true → le s.t0 t ≡ true
unfolding reached_in
reached_after s t h = and_right (passes s) _ h
