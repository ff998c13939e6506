-- How far each thickness reading of a checked file is off from the exact distance along its ray, plus the exact f64 1e-6.
use mathlib.Core.Path.{◌≡◌, sym, subst}
use mathlib.Core.Bool.{true}
use mathlib.Core.List.{List}
use Prim.Native.Nat.{ℕ, ◌+◌, ◌<◌}
use native.Mathlib.Omega.{arith}
use lib.Dec.{T, lit≤}
use lib.ListN.{length, get_or}
use lib.Ieee.{Float, nan, binary64, fits, add}
use lib.Ieee.Fits.{add-fits}
use Rattle.num_float.specs.Work.{Bounded}
use Rattle.math.specs.declared.Vec3.{Vec3}
use Rattle.math.specs.Vector.{dot_of}
use Rattle.math.specs.Size.{VecWithin}
use Rattle.file_part.specs.Part.{Part, part_of}
use Rattle.file_part.proofs.PartLaws.{part_polygons}
use Rattle.solid_polygon.specs.Plane.{plane_of}
use Rattle.solid_faces.specs.Faces.{polygon_plane, Checked}
use Rattle.solid_sizes.specs.Sizes.{VecFits, PlaneWithin}
use Rattle.solid_sizes.proofs.Planes.{checked_plane}
use Rattle.scratch.specs.declared.regions.Regions.{Regions}
use Rattle.std.specs.Prelude.{Some}
use Rattle.wall_ray.specs.declared.strike.Hit.{Hit}
use Rattle.wall_ray.specs.Strike.{time_of, hit_time}
use Rattle.wall_ray.specs.Nearest.{hit_of}
use Rattle.wall_ray.proofs.NearestLaws.{hit_struck}
use Rattle.wall_samples.specs.declared.cast.Reading.{Reading}
use Rattle.wall_samples.specs.Samples.{e_6, inward, ray_of, faces_back, readings_of}
use Rattle.wall_samples.specs.Stored.{reading, Readings}
use Rattle.wall_samples.proofs.RayLaws.{dir_within, dir_fits, origin_within, origin_fits, denominator_beyond}
use Rattle.wall_samples.proofs.ReadingLaws.{readings_each}
use Rattle.wall_error.specs.Error.{Facing, ReadingFacing, ReadingNear, least_dot, precision, kept_dot, kept_precision}
use Rattle.wall_error.specs.Work.{VecBounded, Room}
use Rattle.wall_error.proofs.Planes.{asked, kept, number, numbers, facing_wider, half_facing, plane_reading, plane_near}

vec_bounded : (v : Vec3) (b : ℕ) → VecWithin v b → VecFits v → VecBounded v b
vec_bounded v b w f = record {
  at_x = record { fit = f.x_fits; within = w.x_within };
  at_y = record { fit = f.y_fits; within = w.y_within };
  at_z = record { fit = f.z_fits; within = w.z_within };
}

-- ---- one ray, from polygon p to polygon q
module _ (t : Part) (p q : ℕ) (from : PlaneWithin t p) (to : PlaneWithin t q) where
  dir_bounded : VecBounded (ray_of t p).dir 1
  unfolding ray_of
  dir_bounded = vec_bounded (inward t p) 1 (dir_within t p from) (dir_fits t p from)

  origin_bounded : VecBounded (ray_of t p).origin 10002
  origin_bounded = vec_bounded (ray_of t p).origin 10002 (origin_within t p from) (origin_fits t p from)

  normal_bounded : VecBounded (polygon_plane t q).normal 1
  normal_bounded = vec_bounded (polygon_plane t q).normal 1 to.normal to.normal_fits

  w_bounded : Bounded (polygon_plane t q).w 30000
  w_bounded = record { fit = w_fits; within = to.w }
    where
      w_fits : T (fits binary64 (polygon_plane t q).w)
      w_fits = unfold polygon_plane in unfold plane_of in unfold dot_of in add-fits binary64 _ _

  -- any strike, kept or not, whatever the test by which a polygon is struck: the reading that it would give
  pub strike_near : (least precision : ℕ) → Room least precision → Facing least (polygon_plane t q) (ray_of t p) →
      ReadingNear precision t (record { polygon = p; hit = q; thickness = add binary64 (time_of (polygon_plane t q) (ray_of t p)) e_6 })
  strike_near least precision room far = record {
    normal = numbers (polygon_plane t q).normal 1 normal_bounded;
    plane_number = number (polygon_plane t q).w 30000 w_bounded;
    start = numbers (ray_of t p).origin 10002 origin_bounded;
    direction = numbers (ray_of t p).dir 1 dir_bounded;
    thickness = plane_reading (polygon_plane t q) (ray_of t p) normal_bounded w_bounded origin_bounded dir_bounded least precision room far;
    near = plane_near (polygon_plane t q) (ray_of t p) normal_bounded w_bounded origin_bounded dir_bounded least precision room far;
  }

  -- a hit that faces back
  pub back_facing : faces_back t p q ≡ true → Facing kept_dot (polygon_plane t q) (ray_of t p)
  back_facing h =
      half_facing (polygon_plane t q) (ray_of t p) normal_bounded dir_bounded (unfold ray_of in denominator_beyond t p from q to h)

-- ---- the readings of a checked file
module _ (s : List ℕ) (h : Checked s) where
  abbrev t : Part
  t = part_of s

  plane : (p : ℕ) → p < t.polygons → PlaneWithin t p
  plane p l = checked_plane s h p (omega (arith, l, part_polygons s))

  by_room : (least precision : ℕ) → Room least precision → (k : ℕ) → k < length (readings_of t) →
      ReadingFacing least t (reading (readings_of t) k) → ReadingNear precision t (reading (readings_of t) k)
  by_room least precision room = readings_each t (λ (r : Reading). ReadingFacing least t r → ReadingNear precision t r) hit
    where
      hit : (p : ℕ) (h : Hit) → p < t.polygons → hit_of t (ray_of t p) ≡ Some h → faces_back t p h.polygon ≡ true →
          ReadingFacing least t (record { polygon = p; hit = h.polygon; thickness = add binary64 h.t e_6 }) →
          ReadingNear precision t (record { polygon = p; hit = h.polygon; thickness = add binary64 h.t e_6 })
      hit p h l e back far =
          let k = hit_struck t (ray_of t p) h e in
          let is : h.t ≡ time_of (polygon_plane t h.polygon) (ray_of t p) = unfold hit_time in k.2 in
          subst (λ (y : Float). ReadingNear precision t (record { polygon = p; hit = h.polygon; thickness = add binary64 y e_6 })) (sym is)
          (strike_near t p h.polygon (plane p l) (plane h.polygon k.0) least precision room (unfold ReadingFacing in far))

  -- "Where normal and direction have an exact dot product of at least 0.02 in size, the reading differs from the exact distance along the ray to that
  -- plane, plus the exact f64 1e-6, by less than 1e-7 mm"
  pub readings_near : (k : ℕ) → k < length (readings_of t) → ReadingFacing least_dot t (reading (readings_of t) k) → ReadingNear precision t (reading (readings_of t) k)
  readings_near = by_room least_dot precision asked

  -- every reading has a dot product of at least 1 / 3, since its hit faces back
  pub readings_facing : (k : ℕ) → k < length (readings_of t) → ReadingFacing kept_dot t (reading (readings_of t) k)
  readings_facing = readings_each t (ReadingFacing kept_dot t) hit
    where
      hit : (p : ℕ) (h : Hit) → p < t.polygons → hit_of t (ray_of t p) ≡ Some h → faces_back t p h.polygon ≡ true →
          ReadingFacing kept_dot t (record { polygon = p; hit = h.polygon; thickness = add binary64 h.t e_6 })
      hit p h l e back = unfold ReadingFacing in back_facing t p h.polygon (plane p l) (plane h.polygon (hit_struck t (ray_of t p) h e).0) back

  -- so the condition of 0.02 is always met
  pub always_facing : (k : ℕ) → k < length (readings_of t) → ReadingFacing least_dot t (reading (readings_of t) k)
  unfolding ReadingFacing
  always_facing k l =
      let r = reading (readings_of t) k in
      facing_wider kept_dot least_dot (polygon_plane t r.hit) (ray_of t r.polygon) (lit≤ tt) (readings_facing k l)

  -- and each reading is off by less than 1e-9 mm
  pub readings_nearer : (k : ℕ) → k < length (readings_of t) → ReadingNear kept_precision t (reading (readings_of t) k)
  readings_nearer k l = by_room kept_dot kept_precision kept k l (readings_facing k l)

  -- and as a check keeps them: in the lent scratch, where the readings are put
  pub stored_nearer : (at : Regions) (words : List ℕ) (reals : List Float) → Readings t at words reals → (k : ℕ) → k < length (readings_of t) →
      ReadingNear kept_precision t
      (record { polygon = get_or words (at.readings + k) 0; hit = get_or words (at.hits + k) 0; thickness = get_or reals (at.thickness + k) nan })
  stored_nearer at words reals g k l = rw (g.stored.polygons k l, g.stored.hits k l, g.stored.thickness k l) (readings_nearer k l)
