-- The rule `Short flange` of dfm.rs's `sheet_metal`: "each flat face next to a bend must be long enough for the brake to hold". Definitions only.
-- A bend goes by its inside face f; `thick` is the sheet's thickness.
use Rattle.std.specs.Prelude.{Bool, false, not, ◌&&◌, ◌||◌, cond, List, [], ◌∷◌, ◌++◌, ℕ, zero, suc, eqb, get_or, Float}
use Rattle.std.specs.Float.{binary64}
use Rattle.std.specs.Float.Ieee.{add, mul, lt, of_bits}
use Rattle.num_real.specs.Select.{max_of, abs_of}
use Rattle.math.specs.declared.Vec3.{Vec3}
use Rattle.math.specs.Vector.{minus, times, dot_of, length_of}
use Rattle.math.specs.Vector as vector
use Rattle.list_groups.specs.Groups.{joined}
use Rattle.file_part.specs.Part.{Part}
use Rattle.solid_faces.specs.Faces.{faces_of, face_number, polygon_corner}
use Rattle.solid_flat.specs.Flat.{is_flat_face, face_normal}
use Rattle.solid_tours.specs.Tours.{over_neighbours}
use Rattle.wall_ray.specs.Strike.{e_9}
use Rattle.round_all.specs.Round.{round_of}
use Rattle.sheet_bends.specs.Bends.{outside_of, is_bend, is_bend_face}
use Rattle.fault_row.specs.declared.flaw.Flaw.{Flaw}
use Rattle.fault_row.specs.declared.flaw.Flaw.TheVariants.{ShortFlange}
use Rattle.rule_flanges.specs.declared.legs.Leg.{Leg}

-- the f64 0.1, 0.99 and 4.0
abbrev pub tenth : Float
tenth = of_bits binary64 0x3fb9_9999_9999_999a

abbrev pub ninety_nine : Float
ninety_nine = of_bits binary64 0x3fef_ae14_7ae1_47ae

abbrev pub four : Float
four = of_bits binary64 0x4010_0000_0000_0000

-- ---- the faces beside a bend
-- face g runs on from a bend about this axis: it is flat, of no bend, and not square to the axis: `n.dot(bend.axis).abs() > 0.1` fails
unfoldable pub runs_on : Part → Float → Vec3 → ℕ → Bool
runs_on t thick axis g = is_flat_face t g && (not (is_bend_face t thick g) && not (lt tenth (abs_of (dot_of (face_normal t g) axis))))

-- of the neighbour g of face h, with these segments between them: none or one leg, with `segs.first()`
unfoldable pub group_legs : Part → Float → Vec3 → ℕ → ℕ → List ℕ → List Leg
group_legs t thick axis h g segments = cond (runs_on t thick axis g) (record { bend = h; face = g; line = get_or segments 0 0 } ∷ []) []

-- `for (other, segs) in part.neighbours(bend.id)`, of face h of a bend
unfoldable pub legs_beside : Part → Float → ℕ → List Leg
legs_beside t thick h = over_neighbours t h (group_legs t thick (round_of t h).axis h)

-- `for bend in [inner, outer]`
unfoldable pub legs_of : Part → Float → ℕ → List Leg
legs_of t thick f = legs_beside t thick f ++ legs_beside t thick (outside_of t thick f)

-- ---- "Each leg has an inside and an outside face; report it once."
-- `m.dot(n).abs() > 0.99` of some leg that is taken. (`seen` keeps the inside face too; no two bends have the same, so a bend sees its own legs alone.)
unfoldable pub is_seen : Part → List Leg → ℕ → Bool
is_seen t [] g = false
is_seen t (m ∷ ms) g = lt ninety_nine (abs_of (dot_of (face_normal t m.face) (face_normal t g))) || is_seen t ms g

-- one leg more: taken unless it is seen
unfoldable pub with_leg : Part → List Leg → Leg → List Leg
with_leg t seen leg = cond (is_seen t seen leg.face) seen (seen ++ (leg ∷ []))

unfoldable pub taken_from : Part → List Leg → List Leg → List Leg
taken_from t seen [] = seen
taken_from t seen (leg ∷ legs) = taken_from t (with_leg t seen leg) legs

-- the flanges of the bend with the inside face f
unfoldable pub flanges_of : Part → Float → ℕ → List Leg
flanges_of t thick f = taken_from t [] (legs_of t thick f)

-- ---- "Flange length: how far the face reaches from the bend line, square to it."
-- `(d - along * d.dot(along)).length()`
unfoldable pub away_from : Vec3 → Vec3 → Float
away_from along d = length_of (minus d (times along (dot_of d along)))

-- over the first k corners of a polygon, from x on
unfoldable pub run_reach : Vec3 → Vec3 → (ℕ → Vec3) → Float → ℕ → Float
run_reach along from corner x zero = x
run_reach along from corner x (suc k) = max_of (run_reach along from corner x k) (away_from along (minus (corner k) from))

-- over the polygons of face g that are below n
unfoldable pub reach_with : Part → ℕ → Vec3 → Vec3 → ℕ → Float → Float
reach_with t g along from q x = cond (eqb (face_number t q) g) (run_reach along from (polygon_corner t q) x (t.polygon q).count) x

unfoldable pub reach_to : Part → ℕ → Vec3 → Vec3 → ℕ → Float
reach_to t g along from zero = vector.zero
reach_to t g along from (suc q) = reach_with t g along from q (reach_to t g along from q)

-- from `line[0]`, along `bend.axis`
unfoldable pub reach_of : Part → Leg → Float
reach_of t leg = reach_to t leg.face (round_of t leg.bend).axis (t.vertex leg.line) t.polygons

-- ---- the faults
-- `min_flange`
unfoldable pub min_flange : Float → Float
min_flange thick = mul binary64 four thick

-- `if length + 1e-9 < min_flange`
unfoldable pub flange_flaw : Part → Float → ℕ → Leg → List Flaw
flange_flaw t thick f leg =
    cond (lt (add binary64 (reach_of t leg) e_9) (min_flange thick)) (ShortFlange leg.face f (reach_of t leg) (min_flange thick) ∷ []) []

unfoldable pub flange_flaws : Part → Float → ℕ → List Leg → List Flaw
flange_flaws t thick f [] = []
flange_flaws t thick f (leg ∷ legs) = flange_flaw t thick f leg ++ flange_flaws t thick f legs

-- of the bend with the inside face f, where it is one
unfoldable pub bend_flanges : Part → Float → ℕ → List Flaw
bend_flanges t thick f = cond (is_bend t thick f) (flange_flaws t thick f (flanges_of t thick f)) []

-- `for (inner, outer) in &bends`
unfoldable pub short_flanges : Part → Float → List Flaw
short_flanges t thick = joined (bend_flanges t thick) (faces_of t)
