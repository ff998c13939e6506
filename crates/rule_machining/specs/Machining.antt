-- The faults of machining, as dfm.rs's `machining` finds them. Definitions only.
use Rattle.std.specs.Prelude.{cond, List, [], ◌∷◌, ◌++◌, ℕ, Float}
use Rattle.std.specs.Float.{binary64}
use Rattle.std.specs.Float.Ieee.{mul, lt, of_bits}
use Rattle.file_part.specs.Part.{Part}
use Rattle.solid_polygon.specs.Polygon.{half}
use Rattle.round_all.specs.declared.round.Round.{Round}
use Rattle.round_all.specs.Round.{rounds_of}
use Rattle.measure_sizes.specs.Round.{diameter_of, ratio_of}
use Rattle.wall_pairs.specs.Walls.{over_walls, least_of}
use Rattle.fault_row.specs.declared.fault.Severity.{Severity}
use Rattle.fault_row.specs.declared.fault.Severity.TheVariants.{Error, Warning}
use Rattle.fault_row.specs.declared.flaw.Flaw.{Flaw}
use Rattle.fault_row.specs.declared.flaw.Flaw.TheVariants.{ThinWall, SmallHole, DeepHoleMax, DeepHoleStandard, TightInsideRadius, DeepInsideCorner}
use Rattle.rule_corners.specs.fault_text.specs.Job.{min_wall_of}
use Rattle.rule_corners.specs.fault_text.specs.Machining.{min_drill, min_mill_radius}

-- `STANDARD_REACH` and `MAX_REACH`: the f64 4.0 and 10.0
abbrev pub standard_reach : Float
standard_reach = of_bits binary64 0x4010_0000_0000_0000

abbrev pub max_reach : Float
max_reach = of_bits binary64 0x4024_0000_0000_0000

-- ---- `Thin walls: the thinnest reading between each pair of facing surfaces.`
-- `if t < 0.5 * min_wall { Severity::Error } else { Severity::Warning }`
unfoldable pub wall_severity : Part → Float → Severity
wall_severity t x = cond (lt x (mul binary64 half (min_wall_of t))) Error Warning

-- `if t < min_wall`, of a wall x thick between faces f and g: none or one
unfoldable pub wall_flaw : Part → ℕ → ℕ → Float → List Flaw
wall_flaw t f g x = cond (lt x (min_wall_of t)) (ThinWall (wall_severity t x) f g x ∷ []) []

-- `for ((a, b), t) in thinnest`
unfoldable pub thin_walls : Part → List Flaw
thin_walls t = over_walls t (λ f g l. wall_flaw t f g (least_of t l))

-- ---- `Holes and inside corners.`: none or one of each, with d `diameter_of` and ratio `ratio_of`
-- `if d < MIN_DRILL`
unfoldable pub small_holes : Round → List Flaw
small_holes r = cond (lt (diameter_of r) min_drill) (SmallHole r.face (diameter_of r) ∷ []) []

-- `if ratio > MAX_REACH`, `else if ratio > STANDARD_REACH`
unfoldable pub deep_holes : Round → List Flaw
deep_holes r =
    cond (lt max_reach (ratio_of r)) (DeepHoleMax r.face (ratio_of r) (diameter_of r) r.length ∷ [])
    (cond (lt standard_reach (ratio_of r)) (DeepHoleStandard r.face (ratio_of r) ∷ []) [])

-- `if r.radius < MIN_MILL_RADIUS`
unfoldable pub tight_radii : Round → List Flaw
tight_radii r = cond (lt r.radius min_mill_radius) (TightInsideRadius r.face r.radius ∷ []) []

-- `if ratio > STANDARD_REACH`
unfoldable pub deep_corners : Round → List Flaw
deep_corners r = cond (lt standard_reach (ratio_of r)) (DeepInsideCorner r.face (ratio_of r) r.radius r.length ∷ []) []

unfoldable pub hole_flaws : Round → List Flaw
hole_flaws r = small_holes r ++ deep_holes r

unfoldable pub inside_flaws : Round → List Flaw
inside_flaws r = tight_radii r ++ deep_corners r

-- `if !r.concave { continue; }`, then `if is_hole(&r)`
unfoldable pub round_flaws : Round → List Flaw
round_flaws r = cond r.concave (cond r.hole (hole_flaws r) (inside_flaws r)) []

-- `for r in part.rounds()`
unfoldable pub flaws_of_rounds : List Round → List Flaw
flaws_of_rounds [] = []
flaws_of_rounds (r ∷ rs) = round_flaws r ++ flaws_of_rounds rs

unfoldable pub rounds_flaws : Part → List Flaw
rounds_flaws t = flaws_of_rounds (rounds_of t)
