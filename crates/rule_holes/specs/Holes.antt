-- The rules `Small hole` and `Hole too close` of dfm.rs's `sheet_metal`: "Holes through the sheet: size, and distance to edges, other holes and bends."
-- Definitions only. `thick` is the sheet's thickness.
use Rattle.std.specs.Prelude.{Bool, ◌&&◌, ◌||◌, cond, List, [], ◌∷◌, ◌++◌, Option, Some, None, ℕ, Float}
use Rattle.std.specs.Float.{binary64}
use Rattle.std.specs.Float.Ieee.{add, mul, lt, of_bits}
use Rattle.num_real.specs.Select.{max_of}
use Rattle.num_text.specs.Put.{bytes}
use Rattle.math.specs.Vector as vector
use Rattle.list_groups.specs.Groups.{joined}
use Rattle.file_field.specs.Test.{two}
use Rattle.file_part.specs.Part.{Part}
use Rattle.solid_faces.specs.Faces.{faces_of}
use Rattle.wall_ray.specs.Strike.{e_9}
use Rattle.round_all.specs.Round.{is_round, is_hole, round_of}
use Rattle.measure_sizes.specs.Round.{diameter_of}
use Rattle.sheet_bends.specs.Bends.{is_bend_face, bend_radius}
use Rattle.fault_row.specs.declared.flaw.Flaw.{Flaw}
use Rattle.fault_row.specs.declared.flaw.Flaw.TheVariants.{SheetSmallHole, HoleNearBend, HoleNearEdge}
use Rattle.rule_holes.specs.declared.nearest.Gap.{Gap}
use Rattle.rule_holes.specs.Name.{is_named}
use Rattle.rule_holes.specs.Nearest.{nearest_of}

-- the f64 1.2 and 2.5
abbrev pub six_fifths : Float
six_fifths = of_bits binary64 0x3ff3_3333_3333_3333

abbrev pub five_halves : Float
five_halves = of_bits binary64 0x4004_0000_0000_0000

-- ---- `Small hole`
-- `min_hole`: `m.name.contains("Stainless") || m.name.contains("304")`
unfoldable pub min_hole_of : Part → Float → Float
min_hole_of t thick = cond (is_named t (bytes "Stainless") || is_named t (bytes "304")) (mul binary64 six_fifths thick) thick

-- `if d + 1e-9 < min_hole`, of the hole of face f
unfoldable pub small_hole : Part → Float → ℕ → List Flaw
small_hole t thick f =
    cond (lt (add binary64 (diameter_of (round_of t f)) e_9) (min_hole_of t thick)) (SheetSmallHole f (diameter_of (round_of t f)) (min_hole_of t thick) ∷ []) []

-- ---- `Hole too close`
-- `need`: near a bend, and elsewhere
unfoldable pub need_of : Part → Float → Bool → Float
need_of t thick nearBend = cond nearBend (add binary64 (mul binary64 five_halves thick) (bend_radius t thick)) (mul binary64 two thick)

-- `what`: "a bend", or "an edge or another hole"
unfoldable pub too_close : Bool → ℕ → ℕ → Float → Float → Flaw
too_close nearBend f g gap need = cond nearBend (HoleNearBend f g gap need) (HoleNearEdge f g gap need)

-- `if gap + 1e-9 < need`, with `gap.max(0.0)` in the message, of the hole of face f and what is nearest to it
unfoldable pub gap_flaw : Bool → Float → ℕ → Gap → List Flaw
gap_flaw nearBend need f n = cond (lt (add binary64 n.gap e_9) need) (too_close nearBend f n.other (max_of n.gap vector.zero) need ∷ []) []

-- `if let Some((gap, other, near_bend)) = nearest`
unfoldable pub close_flaw : Part → Float → ℕ → Option Gap → List Flaw
close_flaw t thick f None = []
close_flaw t thick f (Some n) = gap_flaw (is_bend_face t thick n.other) (need_of t thick (is_bend_face t thick n.other)) f n

-- ---- both, of face f where it is a hole
unfoldable pub hole_flaws : Part → Float → ℕ → List Flaw
hole_flaws t thick f = cond (is_round t f && is_hole t f) (small_hole t thick f ++ close_flaw t thick f (nearest_of t (round_of t f))) []

-- `for h in &holes`
unfoldable pub sheet_holes : Part → Float → List Flaw
sheet_holes t thick = joined (hole_flaws t thick) (faces_of t)
