-- A polygon near the origin: its normal's components are at most 1 in size, its plane's w at most 30,000, and its centroids' coordinates at
-- most 10,000 and 10,001.
use mathlib.Core.Path.{◌≡◌, refl, sym}
use mathlib.Core.Bool.{Bool, true, false, cond}
use mathlib.Core.List.{List}
use Prim.Native.Nat.{ℕ, zero, suc, ◌+◌, ◌*◌, ◌^◌, ◌≤◌, ◌<◌, zero-le}
use native.Mathlib.Nat.{le_refl, le_trans, le_of_eq, suc-mul}
use native.Mathlib.Omega.{arith}
use lib.Dec.{eqb, lit<, lit≤}
use borrow.Author.Tests.{eqb-false}
use lib.Ieee.{Float, binary64, fits, add, sub, mul, div, of_bits, le, lt, eq}
use lib.Ieee.Fits.{add-fits, div-fits}
use Rattle.num_float.specs.Within.{Within}
use Rattle.num_float.proofs.Within.{held_small, held_pow, add_within, sub_within, mul_within}
use Rattle.num_norm.proofs.Component.{two_to_minus_484, ComponentsBounded, components_tested}
use Rattle.math.specs.declared.Vec3.{Vec3}
use Rattle.math.specs.Vector.{zero_vec, over, times, dot_of, length_of}
use Rattle.math.specs.Vector as vector
use Rattle.math.specs.Size.{VecWithin}
use Rattle.file_part.specs.Layout.{polygon_count_of}
use Rattle.file_part.specs.Part.{part_of}
use Rattle.file_part.proofs.PartLaws.{part_count}
use Rattle.file_ok.proofs.ReadableLaws.{readable_run}
use Rattle.solid_polygon.specs.Polygon.{after, newell_step, newell_to, newell_of, corners_to, real, plane_centroid, centroid_of}
use Rattle.solid_polygon.specs.Plane.{e_14, is_flat, normal_of, plane_of}
use Rattle.solid_faces.specs.Faces.{polygon_corner, polygon_flat, polygon_plane, Checked}
use Rattle.solid_faces.proofs.BodyLaws.{checked_readable, checked_flat}
use Rattle.solid_sizes.specs.Sizes.{VecFits, PlaneWithin}
use Rattle.solid_sizes.specs.Work.{Near}
use Rattle.solid_sizes.proofs.Vectors.{plus_within, dot_within, wider_vec, square_finite}
use Rattle.solid_sizes.proofs.Means.{mean_within, mean_times_within}
use Rattle.solid_sizes.proofs.Areas.{readable_near}

-- ---- Newell's sum
-- a term (p - q) * (r + s), added to i of them
newell_term : (m p q r s : Float) (i : ℕ) → suc i < 2 ^ 53 → Within m (i * 2 ^ 29) → Within p 10000 → Within q 10000 → Within r 10000 → Within s 10000 →
    Within (add binary64 m (mul binary64 (sub binary64 p q) (add binary64 r s))) (suc i * 2 ^ 29)
newell_term m p q r s i I M P Q R S =
    add_within m (mul binary64 (sub binary64 p q) (add binary64 r s)) (i * 2 ^ 29) (2 ^ 29) (suc i * 2 ^ 29) M
    (mul_within (sub binary64 p q) (add binary64 r s) 20000 20000 (2 ^ 29)
    (sub_within p q 10000 10000 20000 P Q (lit≤ tt) (held_small 20000 (lit< tt)))
    (add_within r s 10000 10000 20000 R S (lit≤ tt) (held_small 20000 (lit< tt))) (lit≤ tt) (held_small (2 ^ 29) (lit< tt)))
    (le_of_eq (sym (suc-mul i (2 ^ 29)))) (held_pow (suc i) 29 I (lit≤ tt))

newell_step_lem : (m a b : Vec3) (i : ℕ) → suc i < 2 ^ 53 → VecWithin m (i * 2 ^ 29) → VecWithin a 10000 → VecWithin b 10000 →
    VecWithin (newell_step m a b) (suc i * 2 ^ 29)
unfolding newell_step
newell_step_lem m a b i I M A B = record {
  x_within = newell_term m.x a.y b.y a.z b.z i I M.x_within A.y_within B.y_within A.z_within B.z_within;
  y_within = newell_term m.y a.z b.z a.x b.x i I M.y_within A.z_within B.z_within A.x_within B.x_within;
  z_within = newell_term m.z a.x b.x a.y b.y i I M.z_within A.x_within B.x_within A.y_within B.y_within;
}

zero_within : (b : ℕ) → VecWithin zero_vec b
unfolding zero_vec of_bits
zero_within b = record {
  x_within = record { is_finite = tt; size = zero-le };
  y_within = record { is_finite = tt; size = zero-le };
  z_within = record { is_finite = tt; size = zero-le };
}

-- the next corner is one of the polygon's
after_below : (n k : ℕ) → k < n → after n k < n
unfolding after
after_below n k h = go (eqb (k + 1) n) (eqb-false (k + 1) n)
  where
    go : (b : Bool) → (b ≡ false → k + 1 ≡ n → ⊥) → cond b 0 (k + 1) < n
    go true e = omega (arith, h)
    go false e = omega (arith, h, e refl)

newell_to_lem : (c : ℕ → Vec3) (n k : ℕ) → Near c n → n ≤ 64 → k ≤ n → VecWithin (newell_to c n k) (k * 2 ^ 29)
unfolding newell_to Near
newell_to_lem c n zero near most l = zero_within (0 * 2 ^ 29)
newell_to_lem c n (suc k) near most l =
    newell_step_lem (newell_to c n k) (c k) (c (after n k)) k (omega (arith, l, most)) (newell_to_lem c n k near most (omega (arith, l)))
    (near k l) (near (after n k) (after_below n k l))

newell_within : (c : ℕ → Vec3) (n : ℕ) → Near c n → n ≤ 64 → VecWithin (newell_of c n) (2 ^ 35)
unfolding newell_of
newell_within c n near most = wider_vec (newell_to c n n) (n * 2 ^ 29) (2 ^ 35) (few n most) (newell_to_lem c n n near most (le_refl n))
  where
    few : (n : ℕ) → n ≤ 64 → n * 2 ^ 29 ≤ 2 ^ 35
    few n h = omega (arith, h)

newell_fits : (c : ℕ → Vec3) (n k : ℕ) → VecFits (newell_to c n k)
unfolding newell_to
newell_fits c n zero = unfold zero_vec in unfold of_bits in unfold fits in record { x_fits = tt; y_fits = tt; z_fits = tt }
newell_fits c n (suc k) = unfold newell_step in record { x_fits = add-fits binary64 _ _; y_fits = add-fits binary64 _ _; z_fits = add-fits binary64 _ _ }

-- ---- the normal
e_14_beyond : le two_to_minus_484 e_14 ≡ true
unfolding of_bits le lt eq
e_14_beyond = refl

normal_components : (c : ℕ → Vec3) (n : ℕ) → Near c n → n ≤ 64 → is_flat c n ≡ false →
    ComponentsBounded (newell_of c n).x (newell_of c n).y (newell_of c n).z 1
unfolding is_flat length_of
normal_components c n near most flat =
    let v = newell_of c n in
    let f : VecFits v = unfold newell_of in newell_fits c n n in
    components_tested v.x v.y v.z f.x_fits f.y_fits f.z_fits (square_finite v 35 (lit≤ tt) (newell_within c n near most)) e_14 e_14_beyond flat

pub normal_within : (c : ℕ → Vec3) (n : ℕ) → Near c n → n ≤ 64 → is_flat c n ≡ false → VecWithin (normal_of c n) 1
unfolding normal_of over length_of
normal_within c n near most flat =
    let b = normal_components c n near most flat in
    record { x_within = b.at_x.within; y_within = b.at_y.within; z_within = b.at_z.within }

pub normal_fit : (c : ℕ → Vec3) (n : ℕ) → VecFits (normal_of c n)
unfolding normal_of over
normal_fit c n = record { x_fits = div-fits binary64 _ _; y_fits = div-fits binary64 _ _; z_fits = div-fits binary64 _ _ }

-- ---- the centroids
corners_to_lem : (c : ℕ → Vec3) (n k : ℕ) → Near c n → n ≤ 64 → k ≤ n → VecWithin (corners_to c k) (k * 10000)
unfolding corners_to Near
corners_to_lem c n zero near most l = zero_within (0 * 10000)
corners_to_lem c n (suc k) near most l =
    plus_within (corners_to c k) (c k) (k * 10000) 10000 (suc k * 10000) (corners_to_lem c n k near most (omega (arith, l))) (near k l)
    (le_of_eq (sym (suc-mul k 10000))) (held_small (suc k * 10000) (omega (arith, l, most)))

pub plane_centroid_within : (c : ℕ → Vec3) (n : ℕ) → Near c n → 3 ≤ n → n ≤ 64 → VecWithin (plane_centroid c n) 10000
unfolding plane_centroid over
plane_centroid_within c n near least most =
    let w = corners_to_lem c n n near most (le_refl n) in
    let each : (x : Float) → Within x (n * 10000) → Within (div binary64 x (real n)) 10000 =
    λ x X. mean_within x n 10000 (omega (arith, least)) (le_trans most (lit≤ tt)) X (held_small 10000 (lit< tt)) in
    record { x_within = each _ w.x_within; y_within = each _ w.y_within; z_within = each _ w.z_within }

pub centroid_within : (c : ℕ → Vec3) (n : ℕ) → Near c n → 3 ≤ n → n ≤ 64 → VecWithin (centroid_of c n) 10001
unfolding centroid_of times
centroid_within c n near least most =
    let w = corners_to_lem c n n near most (le_refl n) in
    let each : (x : Float) → Within x (n * 10000) → Within (mul binary64 x (div binary64 vector.one (real n))) 10001 =
    λ x X. mean_times_within x n 10000 (omega (arith, least)) (le_trans most (lit≤ tt)) X (lit< tt) (le_trans (few n most) (lit≤ tt)) in
    record { x_within = each _ w.x_within; y_within = each _ w.y_within; z_within = each _ w.z_within }
  where
    few : (n : ℕ) → n ≤ 64 → n * 10000 ≤ 640000
    few n h = omega (arith, h)

-- ---- the plane
-- the numbers of a plane of a polygon near the origin
pub w_within : (c : ℕ → Vec3) (n : ℕ) → Near c n → 3 ≤ n → n ≤ 64 → is_flat c n ≡ false → Within (dot_of (normal_of c n) (plane_centroid c n)) 30000
w_within c n near least most flat =
    dot_within (normal_of c n) (plane_centroid c n) 1 10000 10000 (normal_within c n near most flat) (plane_centroid_within c n near least most)
    (lit≤ tt) (held_small 10000 (lit< tt)) 20000 30000 (lit≤ tt) (held_small 20000 (lit< tt)) (lit≤ tt) (held_small 30000 (lit< tt))

-- ---- the polygons of a checked file
pub checked_plane : (s : List ℕ) → Checked s → (p : ℕ) → p < polygon_count_of s → PlaneWithin (part_of s) p
unfolding polygon_plane plane_of polygon_flat
checked_plane s h p l =
    let r = checked_readable s h in
    let run = readable_run s r p l in
    let c = polygon_corner (part_of s) p in
    let n = ((part_of s).polygon p).count in
    let near = readable_near s r p l in
    let e = part_count s p in
    let least : 3 ≤ n = omega (arith, run.least, e) in
    let most : n ≤ 64 = omega (arith, run.most, e) in
    let flat : is_flat c n ≡ false = checked_flat s h p l in
    record {
      normal = normal_within c n near most flat;
      normal_fits = normal_fit c n;
      w = w_within c n near least most flat;
      centroid = centroid_within c n near least most;
    }
