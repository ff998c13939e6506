-- The faces of a print that hang over, as dfm.rs's `printing` finds them: "downward faces leaning further from vertical than the limit, other than those on
-- the build plate and the tops of small horizontal holes, which bridge". Definitions only.
use Rattle.std.specs.Prelude.{Bool, not, ◌&&◌, cond, ℕ, zero, suc, eqb, Float}
use Rattle.std.specs.Float.{binary64}
use Rattle.std.specs.Float.Ieee.{add, mul, neg, lt, le, of_bits}
use Rattle.num_real.specs.Select.{max_of, abs_of}
use Rattle.num_sine.specs.Sine.{sine_of}
use Rattle.math.specs.Vector.{one, dot_of}
use Rattle.math.specs.Vector as vector
use Rattle.list_laws.specs.Below.{all_below, count_below}
use Rattle.file_part.specs.Part.{Part}
use Rattle.solid_faces.specs.Faces.{faces_of, face_number, polygon_corner, polygon_plane, polygon_area}
use Rattle.solid_ranks.specs.Ranks.{face_of_rank}
use Rattle.wall_ray.specs.Strike.{e_9}
use Rattle.wall_samples.specs.Samples.{e_6}
use Rattle.round_all.specs.Round.{is_round, is_hole, round_of}
use Rattle.measure_sizes.specs.Round.{diameter_of}
use Rattle.print_height.specs.Height.{up_of, heights_of, height_of}
use Rattle.print_overhang.specs.declared.Lean.{Lean}

-- `BRIDGED_HOLE` and `MIN_OVERHANG_AREA`: the f64 10.0 and 0.01; and 0.1
abbrev pub bridged_hole : Float
bridged_hole = of_bits binary64 0x4024_0000_0000_0000

abbrev pub min_overhang_area : Float
min_overhang_area = of_bits binary64 0x3f84_7ae1_47ae_147b

abbrev pub tenth : Float
tenth = of_bits binary64 0x3fb9_9999_9999_999a

-- ---- what a part's polygons are held against
-- `tol`: `1e-6 * (top - base).max(1.0)`
unfoldable pub tol_of : Part → Float
tol_of t = mul binary64 e_6 (max_of (height_of t) one)

-- the build direction, `base + tol`, and `steep + 1e-9`: "Its sine comes from a table" (replacement 4)
unfoldable pub lean_of_word : Part → Lean
lean_of_word t = record { up = up_of t; plate = add binary64 (heights_of t).lo (tol_of t); steep = add binary64 (sine_of t.job.print.overhang) e_9 }

-- ---- one polygon
-- `-p.normal.dot(up) <= steep + 1e-9` fails
unfoldable pub faces_down : Part → Lean → ℕ → Bool
faces_down t lean p = not (le (neg (dot_of (polygon_plane t p).normal lean.up)) lean.steep)

-- `2.0 * h.radius <= BRIDGED_HOLE && h.axis.dot(up).abs() < 0.1`, of a hole
unfoldable pub is_bridged : Part → Lean → ℕ → Bool
is_bridged t lean f = (is_round t f && is_hole t f) && (le (diameter_of (round_of t f)) bridged_hole && lt (abs_of (dot_of (round_of t f).axis lean.up)) tenth)

-- `p.verts.iter().all(|v| v.dot(up) < base + tol)`
unfoldable pub on_plate : Part → Lean → ℕ → Bool
on_plate t lean p = all_below (t.polygon p).count (λ k. lt (dot_of (polygon_corner t p k) lean.up) lean.plate)

unfoldable pub hangs_over : Part → Lean → ℕ → Bool
hangs_over t lean p = faces_down t lean p && (not (is_bridged t lean (face_number t p)) && not (on_plate t lean p))

-- ---- by faces
-- `*faces.entry(p.tag.id).or_default() += poly_area(&p.verts)`: of the polygons of face f below n
unfoldable pub overhang_to_of : Part → Lean → ℕ → ℕ → Float
overhang_to_of t lean f zero = vector.zero
overhang_to_of t lean f (suc p) =
    cond (eqb (face_number t p) f && hangs_over t lean p) (add binary64 (overhang_to_of t lean f p) (polygon_area t p)) (overhang_to_of t lean f p)

unfoldable pub overhang_of : Part → Lean → ℕ → Float
overhang_of t lean f = overhang_to_of t lean f t.polygons

-- `faces.retain(|_, a| *a >= MIN_OVERHANG_AREA)`; a face of no such polygon has 0.0
unfoldable pub is_kept : Part → Lean → ℕ → Bool
is_kept t lean f = le min_overhang_area (overhang_of t lean f)

unfoldable pub is_overhang : Part → ℕ → Bool
is_overhang t f = is_kept t (lean_of_word t) f

-- `faces.len()`: by rising ids, as the map has them
unfoldable pub overhang_count : Part → Lean → ℕ
overhang_count t lean = count_below (faces_of t) (λ r. is_kept t lean (face_of_rank t r))

-- `faces.values().sum()`: of the faces of ranks below n, so by rising ids
unfoldable pub overhang_sum : Part → Lean → ℕ → Float
overhang_sum t lean zero = vector.zero
overhang_sum t lean (suc r) =
    cond (is_kept t lean (face_of_rank t r)) (add binary64 (overhang_sum t lean r) (overhang_of t lean (face_of_rank t r))) (overhang_sum t lean r)

unfoldable pub overhang_area : Part → Lean → Float
overhang_area t lean = overhang_sum t lean (faces_of t)
