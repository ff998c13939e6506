-- The rounds of a checked file: radius, diameter, length and ratio are finite, not negative, and far below 2^60.
use mathlib.Core.Path.{◌≡◌, refl, sym, subst}
use mathlib.Core.Bool.{Bool, true, false, cond}
use mathlib.Core.List.{List, [], ◌∷◌, ◌++◌}
use Prim.Native.Nat.{ℕ, zero, suc, ◌^◌, ◌≤◌, ◌<◌}
use native.Mathlib.Nat.{le_refl}
use native.Mathlib.Omega.{arith}
use lib.Dec.{T, lit<, lit≤}
use lib.Ieee.{Float, binary64, fits, add, mul, div, lt, eq, le, of_bits}
use Rattle.num_float.specs.Sign.{NonNeg}
use Rattle.num_float.specs.Units.{minus_sign}
use Rattle.num_float.specs.Within.{Within, Beyond}
use Rattle.num_float.proofs.Tests.{contrary}
use Rattle.num_float.proofs.NonNegative.{nonneg_above}
use Rattle.num_float.proofs.Within.{held_small, add_within, sub_within, mul_within, div_within, tested_within, tested_beyond}
use Rattle.num_float.proofs.Sign.{sub_nonneg, mul_nonneg, div_nonneg}
use Rattle.math.specs.declared.Vec3.{Vec3}
use Rattle.math.specs.Vector.{minus, times, normalized_of}
use Rattle.math.specs.Vector as vector
use Rattle.math.specs.Size.{VecWithin}
use Rattle.file_field.specs.Test.{two, ten_thousand}
use Rattle.file_field.specs.Direction.{Directed}
use Rattle.file_field.proofs.FieldLaws.{two_within, ten_thousand_within}
use Rattle.file_job_ok.specs.Rules.{thousandth}
use Rattle.file_part.specs.declared.read.SurfaceKind.{SurfaceKind}
use Rattle.file_part.specs.declared.read.SurfaceKind.TheVariants.{Plane, Cylinder, Revolved, Other}
use Rattle.file_part.specs.Layout.{vertex_count_of, polygon_count_of, entry_at}
use Rattle.file_part.specs.Part.{part_of}
use Rattle.file_ok.specs.Readable.{SurfaceWithin}
use Rattle.file_ok.specs.Work.{Readable}
use Rattle.file_part.proofs.PartLaws.{part_polygons, part_count, part_surface}
use Rattle.file_ok.proofs.ReadableLaws.{readable_run, readable_surface}
use Rattle.solid_polygon.specs.Polygon.{half}
use Rattle.solid_faces.specs.Faces.{faces_of, first_polygon, polygon_corner, Checked}
use Rattle.solid_faces.proofs.BodyLaws.{checked_readable}
use Rattle.solid_faces.proofs.FaceLaws.{first_polygon_begins}
use Rattle.solid_sizes.specs.Sizes.{VecFits}
use Rattle.solid_sizes.specs.Work.{Near, SurfaceFits}
use Rattle.solid_sizes.proofs.Vectors.{plus_within, minus_within, times_within, dot_within}
use Rattle.solid_sizes.proofs.Areas.{readable_near}
use Rattle.solid_sizes.proofs.Directions.{surface_fits, normalized_within}
use Rattle.solid_sizes.proofs.Above.{mul_beyond, beyond_plus, beyond_above}
use Rattle.round_frame.specs.declared.frame.Frame.{Frame}
use Rattle.round_frame.specs.declared.extent.Extent.{Extent}
use Rattle.round_frame.specs.Frame.{frame_of, height_of, measure_of}
use Rattle.round_frame.specs.Polygons.{extent_to}
use Rattle.round_all.specs.Round.{face_surface, is_cylinder, origin_of, dir_of, radius_of, is_round, face_frame, face_measure, round_of, rounds_to, rounds_of}
use Rattle.measure_sizes.specs.Work.{Each}
use Rattle.measure_sizes.specs.Round.{diameter_of, ratio_of, RoundBounds}
use Rattle.measure_sizes.proofs.EachLaws.{each_append}
use Rattle.measure_sizes.proofs.Extents.{Spread, extent_spread}

-- ---- the cylinder of a round
record CylinderBounds (k : SurfaceKind) : Type 0 where
  origin : VecWithin (origin_of k) 10000
  directed : Directed (dir_of k)
  dir_fits : VecFits (dir_of k)
  radius_fits : T (fits binary64 (radius_of k))
  radius_from : le thousandth (radius_of k) ≡ true
  radius_to : le (radius_of k) ten_thousand ≡ true

cylinder_bounds : (k : SurfaceKind) → is_cylinder k ≡ true → SurfaceWithin k → SurfaceFits k → CylinderBounds k
unfolding is_cylinder SurfaceWithin SurfaceFits origin_of dir_of radius_of
cylinder_bounds Plane h w f = absurd (contrary h refl)
cylinder_bounds (Cylinder o d r) h w f = record {
  origin = w.0.near;
  directed = w.0.directed;
  dir_fits = f.1;
  radius_fits = f.2;
  radius_from = w.1;
  radius_to = w.2;
}
cylinder_bounds (Revolved o d) h w f = absurd (contrary h refl)
cylinder_bounds Other h w f = absurd (contrary h refl)

face_cylinder : (s : List ℕ) → Readable s → (f : ℕ) → f < faces_of (part_of s) → is_round (part_of s) f ≡ true → CylinderBounds (face_surface (part_of s) f)
unfolding is_round face_surface
face_cylinder s h f l r =
    let p = first_polygon (part_of s) f in
    let k = ((part_of s).polygon p).surface in
    let at = entry_at (vertex_count_of s) p in
    let below : p < polygon_count_of s = omega (arith, (first_polygon_begins (part_of s) f l).below, part_polygons s) in
    cylinder_bounds k r (subst SurfaceWithin (sym (part_surface s p)) (readable_surface s h p below))
    (subst SurfaceFits (sym (part_surface s p)) (surface_fits s at))

-- ---- radius and diameter
thousandth_nonneg : NonNeg thousandth
unfolding of_bits le lt eq
thousandth_nonneg = refl

thousandth_beyond : Beyond thousandth 1024
unfolding of_bits
thousandth_beyond = record { is_finite = tt; size = lit≤ tt }

thousandth_within : Within thousandth 10000
unfolding of_bits
thousandth_within = record { is_finite = tt; size = lit≤ tt }

two_beyond : Beyond two 1
unfolding of_bits
two_beyond = record { is_finite = tt; size = lit≤ tt }

two_nonneg : NonNeg two
unfolding of_bits le lt eq
two_nonneg = refl

two_plus : minus_sign two ≡ false
unfolding of_bits
two_plus = refl

module _ (r : Float) (fit : T (fits binary64 r)) (from : le thousandth r ≡ true) (to : le r ten_thousand ≡ true) where
  radius_within : Within r 10000
  radius_within = tested_within thousandth r ten_thousand 10000 from to thousandth_within ten_thousand_within

  radius_nonneg : NonNeg r
  radius_nonneg = nonneg_above thousandth r thousandth_nonneg from

  radius_beyond : Beyond r 1024
  radius_beyond = tested_beyond thousandth r 1024 from radius_within.is_finite thousandth_nonneg thousandth_beyond

  diameter_within : Within (mul binary64 two r) 20000
  diameter_within = mul_within two r 2 10000 20000 two_within radius_within (lit≤ tt) (held_small 20000 (lit< tt))

  diameter_beyond : Beyond (mul binary64 two r) 1024
  diameter_beyond = mul_beyond two r 1024 two_plus two_beyond fit (beyond_plus r 1024 radius_beyond radius_nonneg) radius_beyond diameter_within.is_finite

  diameter_nonneg : NonNeg (mul binary64 two r)
  diameter_nonneg = mul_nonneg two r two_within.is_finite radius_within.is_finite two_nonneg radius_nonneg

  diameter_positive : lt vector.zero (mul binary64 two r) ≡ true
  diameter_positive = beyond_above (mul binary64 two r) 1024 diameter_beyond diameter_nonneg

  -- a length over the diameter
  ratio_within : (x : Float) → Within x (2 ^ 17) → Within (div binary64 x (mul binary64 two r)) (2 ^ 27)
  ratio_within x w = div_within x (mul binary64 two r) (2 ^ 17) 1024 (2 ^ 27) w diameter_beyond (lit≤ tt) (held_small (2 ^ 27) (lit< tt))

  ratio_nonneg : (x : Float) → Within x (2 ^ 17) → NonNeg x → NonNeg (div binary64 x (mul binary64 two r))
  ratio_nonneg x w n = div_nonneg x (mul binary64 two r) w.is_finite diameter_within.is_finite n diameter_positive

-- ---- the heights of a face's corners
axis_within : (o d : Vec3) → Directed d → VecFits d → VecWithin (frame_of o d).axis 1
unfolding frame_of
axis_within o d h f = normalized_within d h f

height_within : (o d v : Vec3) → VecWithin o 10000 → Directed d → VecFits d → VecWithin v 10000 → Within (height_of (frame_of o d) v) 60000
unfolding height_of frame_of
height_within o d v O h f w =
    dot_within (minus v o) (normalized_of d) 20000 1 20000 (minus_within v o 10000 10000 20000 w O (lit≤ tt) (held_small 20000 (lit< tt))) (normalized_within d h f)
    (lit≤ tt) (held_small 20000 (lit< tt)) 40000 60000 (lit≤ tt) (held_small 40000 (lit< tt)) (lit≤ tt) (held_small 60000 (lit< tt))

-- a face has a polygon, and that has 3 vertices at least
face_spread : (s : List ℕ) → Readable s → (f : ℕ) → f < faces_of (part_of s) → CylinderBounds (face_surface (part_of s) f) →
    Spread (extent_to (part_of s) f (face_frame (part_of s) f) (part_of s).polygons) 60000
unfolding face_frame Near
face_spread s h f l c =
    let t = part_of s in
    let b = first_polygon_begins t f l in
    extent_spread t f (frame_of (origin_of (face_surface t f)) (dir_of (face_surface t f))) 60000
    (λ q m. let run = readable_run s h q (omega (arith, m, part_polygons s)) in let e = part_count s q in omega (arith, run.least, e))
    (λ q m i k. height_within (origin_of (face_surface t f)) (dir_of (face_surface t f)) (polygon_corner t q i) c.origin c.directed c.dir_fits
    (readable_near s h q (omega (arith, m, part_polygons s)) i k))
    (first_polygon t f) t.polygons b.number b.below (le_refl t.polygons)

-- ---- length and centre
half_within : Within half 1
unfolding of_bits
half_within = record { is_finite = tt; size = lit≤ tt }

record MeasureBounds (a : Frame) (e : Extent) : Type 0 where
  length_within : Within (measure_of a e).length (2 ^ 17)
  length_nonneg : NonNeg (measure_of a e).length
  centre_within : VecWithin (measure_of a e).centre (2 ^ 17)

measure_bounds : (a : Frame) (e : Extent) → VecWithin a.origin 10000 → VecWithin a.axis 1 → Spread e 60000 → MeasureBounds a e
unfolding measure_of
measure_bounds a e O A s =
    let middle = mul_within half (add binary64 e.lo e.hi) 1 120000 120000 half_within
    (add_within e.lo e.hi 60000 60000 120000 s.lo_within s.hi_within (lit≤ tt) (held_small 120000 (lit< tt))) (lit≤ tt) (held_small 120000 (lit< tt)) in
    record {
      length_within = sub_within e.hi e.lo 60000 60000 (2 ^ 17) s.hi_within s.lo_within (lit≤ tt) (held_small (2 ^ 17) (lit< tt));
      length_nonneg = sub_nonneg e.hi e.lo s.hi_within.is_finite s.lo_within.is_finite s.rising;
      centre_within = plus_within a.origin (times a.axis (mul binary64 half (add binary64 e.lo e.hi))) 10000 120000 (2 ^ 17) O
          (times_within a.axis (mul binary64 half (add binary64 e.lo e.hi)) 1 120000 120000 A middle (lit≤ tt) (held_small 120000 (lit< tt)))
          (lit≤ tt) (held_small (2 ^ 17) (lit< tt));
    }

frame_origin : (o d : Vec3) → (frame_of o d).origin ≡ o
unfolding frame_of
frame_origin o d = refl

-- ---- a round
pub round_bounds : (s : List ℕ) → Checked s → (f : ℕ) → f < faces_of (part_of s) → is_round (part_of s) f ≡ true → RoundBounds (round_of (part_of s) f)
unfolding round_of face_measure diameter_of ratio_of
round_bounds s h f l r =
    let t = part_of s in
    let k = face_surface t f in
    let c = face_cylinder s (checked_readable s h) f l r in
    let a = face_frame t f in
    let A : VecWithin a.axis 1 = unfold face_frame in axis_within (origin_of k) (dir_of k) c.directed c.dir_fits in
    let O : VecWithin a.origin 10000 = unfold face_frame in unfold frame_of in c.origin in
    let m = measure_bounds a (extent_to t f a t.polygons) O A (face_spread s (checked_readable s h) f l c) in
    record {
      origin = c.origin;
      axis = unfold measure_of in A;
      centre = m.centre_within;
      radius_from = c.radius_from;
      radius_to = c.radius_to;
      radius_within = radius_within (radius_of k) c.radius_fits c.radius_from c.radius_to;
      radius_nonneg = radius_nonneg (radius_of k) c.radius_fits c.radius_from c.radius_to;
      diameter_within = diameter_within (radius_of k) c.radius_fits c.radius_from c.radius_to;
      diameter_nonneg = diameter_nonneg (radius_of k) c.radius_fits c.radius_from c.radius_to;
      diameter_positive = diameter_positive (radius_of k) c.radius_fits c.radius_from c.radius_to;
      length_within = m.length_within;
      length_nonneg = m.length_nonneg;
      ratio_within = ratio_within (radius_of k) c.radius_fits c.radius_from c.radius_to _ m.length_within;
      ratio_nonneg = ratio_nonneg (radius_of k) c.radius_fits c.radius_from c.radius_to _ m.length_within m.length_nonneg;
    }

-- ---- all of them
rounds_to_lem : (s : List ℕ) → Checked s → (n : ℕ) → n ≤ faces_of (part_of s) → Each RoundBounds (rounds_to (part_of s) n)
unfolding rounds_to
rounds_to_lem s h zero l = unfold Each in tt
rounds_to_lem s h (suc n) l = go (rounds_to_lem s h n (omega (arith, l))) (is_round (part_of s) n) (λ e. round_bounds s h n l e)
  where
    go : Each RoundBounds (rounds_to (part_of s) n) → (b : Bool) → (b ≡ true → RoundBounds (round_of (part_of s) n)) →
        Each RoundBounds (cond b (rounds_to (part_of s) n ++ (round_of (part_of s) n ∷ [])) (rounds_to (part_of s) n))
    go rest true one = each_append RoundBounds (rounds_to (part_of s) n) (round_of (part_of s) n ∷ []) rest (unfold Each in (one refl, tt))
    go rest false one = rest

pub rounds_bounds : (s : List ℕ) → Checked s → Each RoundBounds (rounds_of (part_of s))
unfolding rounds_of
rounds_bounds s h = rounds_to_lem s h (faces_of (part_of s)) (le_refl (faces_of (part_of s)))
