-- The distance along a ray to a plane, with 1e-6 added, beside the exact one.
use mathlib.Core.Path.{◌≡◌, sym, subst}
use Prim.Native.Nat.{ℕ, ◌+◌, ◌*◌, ◌≤◌, ◌<◌}
use native.Mathlib.Nat.{le_trans, le_of_eq, mul_assoc, mul-le-mul_right}
use lib.Dec.{lit<, lit≤}
use lib.IntN.{ℤ, pos, nat_abs, ◌-ℤ◌, ◌*ℤ◌}
use lib.Ieee.{Float, binary64, add}
use Rattle.num_float.specs.Units.{units}
use Rattle.num_float.specs.Within.{Beyond}
use Rattle.num_float.specs.Work.{above, below, gap, Bounded}
use Rattle.num_error.specs.Exact.{scale, exact, Number}
use Rattle.num_error.specs.Work.{Is}
use Rattle.num_error.proofs.Whole.{is_size, is_sub, is_mul, is_scaled, exact_is}
use Rattle.math.specs.declared.Vec3.{Vec3}
use Rattle.math.specs.Vector.{dot_of}
use Rattle.solid_polygon.specs.declared.polygon.Plane.{Plane}
use Rattle.wall_ray.specs.declared.strike.Ray.{Ray}
use Rattle.wall_ray.specs.Strike.{time_of}
use Rattle.wall_samples.specs.Samples.{e_6}
use Rattle.wall_samples.proofs.RayLaws.{e_6_within, e_6_fits}
use Rattle.wall_error.specs.Error.{exact_dot, exact_distance, Facing, Near, Numbers, least_dot, precision, kept_dot, kept_precision}
use Rattle.wall_error.specs.Work.{VecBounded, dot_above, dot_below, last_error, dot_error, longest, Room}
use Rattle.wall_error.proofs.Parts.{beyond_units, part_gap, half_enough}
use Rattle.wall_error.proofs.Dot.{dot_is, dot_bounded, dot_close, dir_room}
use Rattle.wall_error.proofs.Distance.{top_above, top_below, bounded_reading, reading_error}

-- ---- the figures: what is asked, and what kept readings have
pub asked : Room least_dot precision
asked = record { some = lit< tt; short = lit< tt; denominator = lit≤ tt; sum = lit≤ tt; rest = lit≤ tt; error = lit< tt }

pub kept : Room kept_dot kept_precision
kept = record { some = lit< tt; short = lit< tt; denominator = lit≤ tt; sum = lit≤ tt; rest = lit≤ tt; error = lit< tt }

-- ---- numbers of bounded size are numbers
pub number : (x : Float) (b : ℕ) → Bounded x b → Number x
number x b h = record { fit = h.fit; is_finite = h.within.is_finite }

pub numbers : (v : Vec3) (b : ℕ) → VecBounded v b → Numbers v
numbers v b h = record { x_number = number v.x b h.at_x; y_number = number v.y b h.at_y; z_number = number v.z b h.at_z }

e_6_bounded : Bounded e_6 1
e_6_bounded = record { fit = e_6_fits; within = e_6_within }

-- ---- the size of the exact dot product
dot_size : (a b : Vec3) → nat_abs (exact_dot a b) ≡ gap (dot_above a b) (dot_below a b)
dot_size a b = is_size (exact_dot a b) (dot_above a b) (dot_below a b) (dot_is a b)

-- at least 1 / least in size is at least 1 / more
pub facing_wider : (least more : ℕ) (s : Plane) (r : Ray) → least ≤ more → Facing least s r → Facing more s r
unfolding Facing
facing_wider least more s r l h = le_trans h (mul-le-mul_right (nat_abs (exact_dot s.normal r.dir)) l)

-- a rounded one of at least 1 / 2 in size: the exact one is at least 1 / 3
pub half_facing : (s : Plane) (r : Ray) → VecBounded s.normal 1 → VecBounded r.dir 1 → Beyond (dot_of s.normal r.dir) 2 → Facing kept_dot s r
unfolding Facing
half_facing s r N D h =
    let n = s.normal in
    let d = r.dir in
    let bottom = dot_of n d in
    let u : scale ≤ 2 * units bottom = beyond_units bottom 2 (dot_bounded n d 1 N D dir_room).fit h in
    let v : scale * scale ≤ 2 * (units bottom * scale) = le_trans (mul-le-mul_right scale u) (le_of_eq (mul_assoc 2 (units bottom) scale)) in
    subst (λ (k : ℕ). scale * scale ≤ kept_dot * k) (sym (dot_size n d))
    (half_enough (above bottom * scale) (below bottom * scale) (dot_above n d) (dot_below n d) (dot_error 1 (last_error 1)) (units bottom * scale) (scale * scale)
    (dot_close n d 1 N D dir_room) (part_gap bottom scale) v (lit≤ tt))

-- ---- a plane and a ray
module _ (s : Plane) (r : Ray) (N : VecBounded s.normal 1) (W : Bounded s.w 30000) (O : VecBounded r.origin 10002) (D : VecBounded r.dir 1)
    (least precision : ℕ) (room : Room least precision) (far : Facing least s r) where
  abbrev n : Vec3
  n = s.normal

  abbrev d : Vec3
  d = r.dir

  -- the exact w - n . o, and what x - e, times n . d, and it are apart
  abbrev to_plane : ℤ
  to_plane = exact s.w *ℤ pos scale -ℤ exact_dot n r.origin

  far_enough : scale * scale ≤ least * gap (dot_above n d) (dot_below n d)
  unfolding Facing
  far_enough = subst (λ (k : ℕ). scale * scale ≤ least * k) (dot_size n d) far

  abbrev plus_top : ℕ
  plus_top = top_above n r.origin d s.w e_6 N O D W e_6_bounded least precision room far_enough

  abbrev minus_top : ℕ
  minus_top = top_below n r.origin d s.w e_6 N O D W e_6_bounded least precision room far_enough

  to_plane_is : Is to_plane plus_top minus_top
  to_plane_is =
      is_sub (exact s.w *ℤ pos scale) (exact_dot n r.origin) (above s.w * scale) (below s.w * scale) (dot_above n r.origin) (dot_below n r.origin)
      (is_scaled (exact s.w) scale (above s.w) (below s.w) (exact_is s.w)) (dot_is n r.origin)

  apart_is : (x e : Float) →
      Is ((exact x -ℤ exact e) *ℤ exact_dot n d -ℤ to_plane *ℤ pos scale)
      ((above x + below e) * dot_above n d + (below x + above e) * dot_below n d + minus_top * scale)
      ((above x + below e) * dot_below n d + (below x + above e) * dot_above n d + plus_top * scale)
  apart_is x e =
      is_sub ((exact x -ℤ exact e) *ℤ exact_dot n d) (to_plane *ℤ pos scale) ((above x + below e) * dot_above n d + (below x + above e) * dot_below n d)
      ((above x + below e) * dot_below n d + (below x + above e) * dot_above n d) (plus_top * scale) (minus_top * scale)
      (is_mul (exact x -ℤ exact e) (exact_dot n d) (above x + below e) (below x + above e) (dot_above n d) (dot_below n d)
      (is_sub (exact x) (exact e) (above x) (below x) (above e) (below e) (exact_is x) (exact_is e)) (dot_is n d))
      (is_scaled to_plane scale plus_top minus_top to_plane_is)

  abbrev reading : Float
  reading = add binary64 (time_of s r) e_6

  pub plane_reading : Number reading
  unfolding time_of
  plane_reading = number reading (longest least + 1) (bounded_reading n r.origin d s.w e_6 N O D W e_6_bounded least precision room far_enough)

  error : gap ((above reading + below e_6) * dot_above n d + (below reading + above e_6) * dot_below n d + minus_top * scale)
      ((above reading + below e_6) * dot_below n d + (below reading + above e_6) * dot_above n d + plus_top * scale) * precision
      < gap (dot_above n d) (dot_below n d) * scale
  unfolding time_of
  error = reading_error n r.origin d s.w e_6 N O D W e_6_bounded least precision room far_enough

  pub plane_near : Near precision reading e_6 (exact_distance s r)
  unfolding Near exact_distance
  plane_near =
      subst (λ (k : ℕ). nat_abs ((exact reading -ℤ exact e_6) *ℤ exact_dot n d -ℤ to_plane *ℤ pos scale) * precision < k * scale) (sym (dot_size n d))
      (subst (λ (k : ℕ). k * precision < gap (dot_above n d) (dot_below n d) * scale)
      (sym (is_size ((exact reading -ℤ exact e_6) *ℤ exact_dot n d -ℤ to_plane *ℤ pos scale) _ _ (apart_is reading e_6)))
      error)
