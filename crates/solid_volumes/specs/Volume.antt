-- The volume of a body: of each of its polygons, the pyramids over the triangles of its fan, with their tips at zero. Definitions only.
use Rattle.std.specs.Prelude.{ℕ, zero, suc, ◌+◌, ◌-◌, ◌<◌, ◌≡◌, cond, List, eqb, length, get_or, Float}
use Rattle.std.specs.Float.{nan, binary64}
use Rattle.std.specs.Float.Ieee.{add, div, of_bits}
use Rattle.num_float.specs.Sign.{plus_zero}
use Rattle.math.specs.declared.Vec3.{Vec3}
use Rattle.math.specs.Vector.{dot_of, cross_of}
use Rattle.file_part.specs.Part.{Part}
use Rattle.solid_bodies.specs.Body.{body_of}

-- the f64 6
abbrev pub six : Float
six = of_bits binary64 0x4018_0000_0000_0000

-- `a.dot(b.cross(c)) / 6.0`
unfoldable pub pyramid : Vec3 → Vec3 → Vec3 → Float
pyramid a b c = div binary64 (dot_of a (cross_of b c)) six

-- a running sum, with the first k triangles of the fan over the run from `first` on added in turn
unfoldable pub fan : (ℕ → Vec3) → ℕ → Float → ℕ → Float
fan vertex first a zero = a
fan vertex first a (suc k) = add binary64 (fan vertex first a k) (pyramid (vertex first) (vertex (first + k + 1)) (vertex (first + k + 2)))

-- the same of polygon p
unfoldable pub fan_from : Part → ℕ → Float → ℕ → Float
fan_from t p a k = fan t.vertex (t.polygon p).first a k

-- the sum of body b over the polygons below p by rising number, from 0.0: one running sum over all triangles; a polygon of another body adds none
unfoldable pub volume_to : Part → ℕ → ℕ → Float
volume_to t b zero = plus_zero
volume_to t b (suc p) = fan_from t p (volume_to t b p) (cond (eqb (body_of t p) b) ((t.polygon p).count - 2) 0)

-- the volume of the body that goes by b
unfoldable pub volume_of : Part → ℕ → Float
volume_of t b = volume_to t b t.polygons

-- of each number below P the list has the volume of the body that goes by it
pub record Volumes (t : Part) (volume : List Float) : Type 0 where
  pub each : (b : ℕ) → b < t.polygons → get_or volume b nan ≡ volume_of t b
  pub long : length volume ≡ t.polygons
