-- The thickness readings of a checked file: their polygons are the part's, and their thickness is above zero and at most 2^17.
use mathlib.Core.Path.{◌≡◌, refl, sym, subst}
use mathlib.Core.Bool.{true, false, not, ◌&&◌}
use mathlib.Core.List.{List}
use Prim.Native.Nat.{ℕ, ◌^◌, ◌<◌}
use native.Mathlib.Omega.{arith}
use lib.Dec.{lit<, lit≤}
use lib.ListN.{length}
use lib.Ieee.{Float, binary64, add, sub, lt, le, eq, of_bits}
use borrow.Author.Tests.{not-true}
use Rattle.num_float.specs.Sign.{NonNeg}
use Rattle.num_float.specs.Units.{minus_sign}
use Rattle.num_float.specs.Within.{Within, Beyond}
use Rattle.num_float.proofs.Tests.{and_left, and_right}
use Rattle.num_float.proofs.NonNegative.{finite_number, zero_finite}
use Rattle.num_float.proofs.Order.{not_lt_le}
use Rattle.num_float.proofs.Sign.{add_nonneg}
use Rattle.num_float.proofs.Within.{held_small, add_within, sub_within, div_within}
use Rattle.math.specs.Vector.{dot_of}
use Rattle.math.specs.Vector as vector
use Rattle.file_part.specs.Part.{Part, part_of}
use Rattle.file_part.proofs.PartLaws.{part_polygons}
use Rattle.solid_faces.specs.Faces.{polygon_plane, Checked}
use Rattle.solid_sizes.specs.Sizes.{PlaneWithin}
use Rattle.solid_sizes.proofs.Vectors.{dot_within}
use Rattle.solid_sizes.proofs.Planes.{checked_plane}
use Rattle.solid_sizes.proofs.Above.{add_beyond, beyond_above}
use Rattle.std.specs.Prelude.{Some}
use Rattle.wall_ray.specs.declared.strike.Hit.{Hit}
use Rattle.wall_ray.specs.Slab.{reached_in}
use Rattle.wall_ray.specs.Strike.{is_parallel, time_of, hit_time, is_inside, crosses, own_span, struck}
use Rattle.wall_ray.specs.Nearest.{hit_of}
use Rattle.wall_samples.specs.Samples.{e_6, inward, ray_of, faces_back, readings_of}
use Rattle.wall_samples.specs.Stored.{reading}
use Rattle.wall_samples.proofs.RayLaws.{e_6_within, e_6_fits, origin_within, denominator_beyond}
use Rattle.wall_samples.proofs.ReadingLaws.{readings_each}
use Rattle.measure_sizes.specs.Reading.{ReadingBounds}
use Rattle.measure_sizes.specs.Work.{ReadingWithin}
use Rattle.wall_ray.proofs.NearestLaws.{hit_struck}

-- ---- the constants
e_6_beyond : Beyond e_6 (2 ^ 20)
unfolding of_bits
e_6_beyond = record { is_finite = tt; size = lit≤ tt }

e_6_plus : minus_sign e_6 ≡ false
unfolding of_bits
e_6_plus = refl

e_6_nonneg : NonNeg e_6
unfolding of_bits le lt eq
e_6_nonneg = refl

-- ---- one ray, from polygon p to polygon q
module _ (t : Part) (p q : ℕ) (from : PlaneWithin t p) (to : PlaneWithin t q) where
  top_within : Within (sub binary64 (polygon_plane t q).w (dot_of (polygon_plane t q).normal (ray_of t p).origin)) 60006
  top_within =
      sub_within (polygon_plane t q).w (dot_of (polygon_plane t q).normal (ray_of t p).origin) 30000 30006 60006 to.w
      (dot_within (polygon_plane t q).normal (ray_of t p).origin 1 10002 10002 to.normal (origin_within t p from) (lit≤ tt) (held_small 10002 (lit< tt))
      20004 30006 (lit≤ tt) (held_small 20004 (lit< tt)) (lit≤ tt) (held_small 30006 (lit< tt)))
      (lit≤ tt) (held_small 60006 (lit< tt))

  time_within : faces_back t p q ≡ true → Within (hit_time t (ray_of t p) q) 120012
  unfolding hit_time time_of ray_of
  time_within h =
      div_within (sub binary64 (polygon_plane t q).w (dot_of (polygon_plane t q).normal (ray_of t p).origin))
      (dot_of (polygon_plane t q).normal (inward t p)) 60006 2 120012
      top_within (denominator_beyond t p from q to h) (lit≤ tt) (held_small 120012 (lit< tt))

  -- t is not below 0, and no NaN
  time_nonneg : faces_back t p q ≡ true → struck t (ray_of t p) q ≡ true → NonNeg (hit_time t (ray_of t p) q)
  unfolding struck crosses
  time_nonneg h k =
      let x = hit_time t (ray_of t p) q in
      let met = and_left (crosses t (ray_of t p) q) (reached_in (own_span t (ray_of t p) q) x) k in
      let rest = and_right (not (is_parallel (polygon_plane t q) (ray_of t p))) (not (lt x vector.zero) && is_inside t (ray_of t p) q) met in
      not_lt_le x vector.zero (finite_number x (time_within h).is_finite) (finite_number vector.zero zero_finite)
      (not-true (lt x vector.zero) (and_left (not (lt x vector.zero)) (is_inside t (ray_of t p) q) rest))

  thickness_bounds : faces_back t p q ≡ true → struck t (ray_of t p) q ≡ true → ReadingBounds (add binary64 (hit_time t (ray_of t p) q) e_6)
  thickness_bounds h k =
      let x = hit_time t (ray_of t p) q in
      let w = time_within h in
      let n = time_nonneg h k in
      let sum = add_within x e_6 120012 1 (2 ^ 17) w e_6_within (lit≤ tt) (held_small (2 ^ 17) (lit< tt)) in
      let far = add_beyond x e_6 (2 ^ 20) w.is_finite n e_6_fits e_6_plus e_6_beyond sum.is_finite in
      let sign = add_nonneg x e_6 n e_6_nonneg in
      record { within = sum; beyond = far; nonneg = sign; positive = beyond_above (add binary64 x e_6) (2 ^ 20) far sign }

-- ---- of a checked file
-- each is its own ray's hit
pub readings_within : (s : List ℕ) → Checked s → (k : ℕ) → k < length (readings_of (part_of s)) → ReadingWithin (part_of s) (reading (readings_of (part_of s)) k)
readings_within s h = readings_each t (ReadingWithin t) hit
  where
    t : Part
    t = part_of s

    plane : (p : ℕ) → p < t.polygons → PlaneWithin t p
    plane p l = checked_plane s h p (omega (arith, l, part_polygons s))

    hit : (p : ℕ) (h : Hit) → p < t.polygons → hit_of t (ray_of t p) ≡ Some h → faces_back t p h.polygon ≡ true →
        ReadingWithin t (record { polygon = p; hit = h.polygon; thickness = add binary64 h.t e_6 })
    hit p h l e back =
        let k = hit_struck t (ray_of t p) h e in
        record {
          polygon = l;
          hit = k.0;
          thickness = subst (λ (y : Float). ReadingBounds (add binary64 y e_6)) (sym k.2) (thickness_bounds t p h.polygon (plane p l) (plane h.polygon k.0) back k.1);
        }

pub reading_bounds : (s : List ℕ) → Checked s → (k : ℕ) → k < length (readings_of (part_of s)) → ReadingBounds (reading (readings_of (part_of s)) k).thickness
reading_bounds s h k l = (readings_within s h k l).thickness
