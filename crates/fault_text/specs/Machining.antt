-- The messages of machining, as dfm.rs's `machining` has them. Definitions only.
use Rattle.std.specs.Prelude.{List, ◌++◌, ℕ, Float}
use Rattle.std.specs.Float.{binary64}
use Rattle.std.specs.Float.Ieee.{of_bits}
use Rattle.math.specs.Vector.{one}
use Rattle.num_text.specs.Put.{bytes}
use Rattle.num_text.specs.Decimal.{decimal_text}
use Rattle.file_part.specs.Part.{Part}
use Rattle.fault_text.specs.Job.{min_wall_of, work_name}
use Rattle.fault_text.specs.Text.{mm}

-- "MIN_DRILL" and "MIN_MILL_RADIUS": the f64 1.0 and 0.5. "MAX_REACH" prints as 10, "STANDARD_REACH" as 4
abbrev pub min_drill : Float
min_drill = one

abbrev pub min_mill_radius : Float
min_mill_radius = of_bits binary64 0x3fe0_0000_0000_0000

-- ---- messages
unfoldable pub thin_wall_text : Part → Float → List ℕ
thin_wall_text t x =
    bytes "Wall is " ++ (mm x ++ (bytes " thick; " ++ (work_name t ++ (bytes " needs at least " ++ (mm (min_wall_of t)
    ++ bytes " to machine without chatter or breaking.")))))

unfoldable pub small_hole_text : Float → List ℕ
small_hole_text d = bytes "Hole is " ++ (mm d ++ (bytes " across; below " ++ (mm min_drill ++ bytes " needs micro drills.")))

unfoldable pub deep_hole_max_text : Float → Float → Float → List ℕ
deep_hole_max_text ratio d length =
    bytes "Hole is " ++ (decimal_text ratio 1 ++ (bytes " diameters deep (" ++ (mm d ++ (bytes " by " ++ (mm length ++ bytes "); past 10 it needs gun drilling.")))))

unfoldable pub deep_hole_standard_text : Float → List ℕ
deep_hole_standard_text ratio = bytes "Hole is " ++ (decimal_text ratio 1 ++ bytes " diameters deep; standard drills reach about 4.")

unfoldable pub tight_inside_radius_text : Float → List ℕ
tight_inside_radius_text radius = bytes "Inside radius is " ++ (mm radius ++ (bytes "; below " ++ (mm min_mill_radius ++ bytes " needs very small end mills.")))

unfoldable pub deep_inside_corner_text : Float → Float → Float → List ℕ
deep_inside_corner_text ratio radius length =
    bytes "A " ++ (mm radius ++ (bytes " radius runs " ++ (mm length ++ (bytes " deep (" ++ (decimal_text ratio 1
    ++ bytes " tool diameters); a larger radius lets a stiffer tool reach.")))))

unfoldable pub sharp_inside_corner_text : Float → Float → List ℕ
sharp_inside_corner_text length fillet =
    bytes "Inside corner " ++ (mm length ++ (bytes " long is sharp, but a rotating tool leaves its own radius here; add a fillet (at least " ++ (mm fillet
    ++ bytes ", larger for deep pockets).")))
