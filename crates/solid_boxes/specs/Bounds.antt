-- Boxes around polygons. Definitions only.
use Rattle.std.specs.Prelude.{◌≡◌, true, ℕ, zero, suc, Float}
use Rattle.std.specs.Float.{binary64}
use Rattle.std.specs.Float.Ieee.{add, sub, le, of_bits}
use Rattle.math.specs.declared.Vec3.{Vec3}
use Rattle.math.specs.Vector.{vec, low_of, high_of}
use Rattle.file_part.specs.Part.{Part}
use Rattle.solid_faces.specs.Faces.{polygon_corner}
use Rattle.solid_boxes.specs.declared.bounds.Bounds.{Bounds}

-- ---- a polygon's own box: "its vertices' lowest and highest coordinates, each moved 1e-6 mm outward"
-- the box of a box and a point
unfoldable pub grown : Bounds → Vec3 → Bounds
grown b p = record { lo = low_of b.lo p; hi = high_of b.hi p }

-- the box of the first n corners, from corner 0 on as `Bvh::new` folds them
unfoldable pub hull_of : (ℕ → Vec3) → ℕ → Bounds
hull_of c zero = record { lo = c 0; hi = c 0 }
hull_of c (suc k) = grown (hull_of c k) (c k)

-- each bound moved d outward
unfoldable pub widened : Float → Bounds → Bounds
widened d b =
    record {
      lo = vec (sub binary64 b.lo.x d) (sub binary64 b.lo.y d) (sub binary64 b.lo.z d);
      hi = vec (add binary64 b.hi.x d) (add binary64 b.hi.y d) (add binary64 b.hi.z d);
    }

-- the f64 1e-6
abbrev pub e_6 : Float
e_6 = of_bits binary64 0x3eb0_c6f7_a0b5_ed8d

unfoldable pub own_box_of : Part → ℕ → Bounds
own_box_of t p = widened e_6 (hull_of (polygon_corner t p) (t.polygon p).count)

-- ---- the bounds as the slab formula takes them: `lo - 1e-9` and `hi + 1e-9`
-- the f64 1e-9
abbrev pub e_9 : Float
e_9 = of_bits binary64 0x3e11_2e0b_e826_d695

unfoldable pub padded : Bounds → Bounds
padded b = widened e_9 b

-- ---- one box in another: "A box above another holds its lowest and highest coordinates"
pub record Holds (c b : Bounds) : Type 0 where
  pub low_x : le c.lo.x b.lo.x ≡ true
  pub low_y : le c.lo.y b.lo.y ≡ true
  pub low_z : le c.lo.z b.lo.z ≡ true
  pub high_x : le b.hi.x c.hi.x ≡ true
  pub high_y : le b.hi.y c.hi.y ≡ true
  pub high_z : le b.hi.z c.hi.z ≡ true
