-- The bends of a sheet, as dfm.rs's `sheet_metal` finds them: "a concave partial cylinder with a convex one on the same axis, t larger".
-- Definitions only. Faces are told by their numbers; a bend goes by its inside face, and `thick` is the sheet's thickness.
use Rattle.std.specs.Prelude.{Bool, not, ◌&&◌, ◌||◌, cond, List, ℕ, zero, suc, eqb, ltb, length, Float}
use Rattle.std.specs.Float.{binary64}
use Rattle.std.specs.Float.Ieee.{sub, mul, lt, le, of_bits}
use Rattle.num_real.specs.Select.{max_of, abs_of}
use Rattle.math.specs.Vector.{minus, cross_of, length_of}
use Rattle.math.specs.Vector as vector
use Rattle.list_laws.specs.Below.{lowest_below}
use Rattle.list_groups.specs.Groups.{passing}
use Rattle.file_part.specs.Part.{Part}
use Rattle.solid_faces.specs.Faces.{faces_of}
use Rattle.solid_bodies.specs.Body.{some_below}
use Rattle.wall_ray.specs.Strike.{e_9}
use Rattle.round_all.specs.declared.round.Round.{Round}
use Rattle.round_all.specs.Round.{is_round, is_concave, is_hole, round_of}

-- the f64 0.05 and 1e-3
abbrev pub twentieth : Float
twentieth = of_bits binary64 0x3fa9_9999_9999_999a

abbrev pub thousandth : Float
thousandth = of_bits binary64 0x3f50_624d_d2f1_a9fc

-- `let close = |a: f64, b: f64| (a - b).abs() <= 0.05 * t.max(1e-9);`
unfoldable pub is_close : Float → Float → Float → Bool
is_close thick a b = le (abs_of (sub binary64 a b)) (mul binary64 twentieth (max_of thick e_9))

-- ---- one bend
-- `r.concave && !is_hole(r)`
unfoldable pub is_inside : Part → ℕ → Bool
is_inside t f = is_round t f && (is_concave t f && not (is_hole t f))

-- `o.axis.cross(inner.axis).length() < 1e-3`
unfoldable pub is_along : Round → Round → Bool
is_along inner outer = lt (length_of (cross_of outer.axis inner.axis)) thousandth

-- `(o.origin - inner.origin).cross(inner.axis).length() < 0.05 * t`
unfoldable pub is_centred : Float → Round → Round → Bool
is_centred thick inner outer = lt (length_of (cross_of (minus outer.origin inner.origin) inner.axis)) (mul binary64 twentieth thick)

-- both, and `close(o.radius - inner.radius, t)`
unfoldable pub is_around : Float → Round → Round → Bool
is_around thick inner outer = is_along inner outer && (is_centred thick inner outer && is_close thick (sub binary64 outer.radius inner.radius) thick)

-- `!o.concave`, and around the inside face f
unfoldable pub is_outside : Part → Float → ℕ → ℕ → Bool
is_outside t thick f g = is_round t g && (not (is_concave t g) && is_around thick (round_of t f) (round_of t g))

-- `rounds.iter().find(..)`: the first; the number of faces where there is none
unfoldable pub outside_of : Part → Float → ℕ → ℕ
outside_of t thick f = lowest_below (faces_of t) (is_outside t thick f)

-- face f is the inside of a bend: there is one outside
unfoldable pub is_bend : Part → Float → ℕ → Bool
is_bend t thick f = is_inside t f && ltb (outside_of t thick f) (faces_of t)

-- ---- all of them
-- `bends`: their inside faces, in the faces' order
unfoldable pub bends_of : Part → Float → List ℕ
bends_of t thick = passing (is_bend t thick) (faces_of t)

unfoldable pub bend_count : Part → Float → ℕ
bend_count t thick = length (bends_of t thick)

-- `bend_faces.contains(..)`: face g is the inside or the outside of some bend
unfoldable pub is_bend_face : Part → Float → ℕ → Bool
is_bend_face t thick g = some_below (faces_of t) (λ f. is_bend t thick f && (eqb f g || eqb (outside_of t thick f) g))

-- `bends.iter().map(|b| b.0.radius).fold(0.0, f64::max)`, of the faces below n
unfoldable pub bend_radius_to : Part → Float → ℕ → Float
bend_radius_to t thick zero = vector.zero
bend_radius_to t thick (suc f) = cond (is_bend t thick f) (max_of (bend_radius_to t thick f) (round_of t f).radius) (bend_radius_to t thick f)

unfoldable pub bend_radius : Part → Float → Float
bend_radius t thick = bend_radius_to t thick (faces_of t)
