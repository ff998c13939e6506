-- The messages of sheet metal, as dfm.rs's `sheet_metal` has them. Definitions only.
use Rattle.std.specs.Prelude.{cond, List, ◌++◌, ℕ, Float}
use Rattle.num_text.specs.Put.{bytes}
use Rattle.num_text.specs.Number.{thousandths}
use Rattle.file_part.specs.Part.{Part}
use Rattle.fault_text.specs.Job.{name_or}
use Rattle.fault_text.specs.Text.{mm}

-- ---- from the job
-- the material's name, or "this material" where there is none
unfoldable pub sheet_name : Part → List ℕ
sheet_name t = name_or t (bytes "this material")

-- "The bend ratio prints without trailing zeros: 1500 is 1.5". Where there is no material, it is 1.0, which prints as 1
unfoldable pub ratio_text : Part → List ℕ
ratio_text t = cond t.job.has_material (thousandths t.job.material.bend_ratio) (bytes "1")

-- ---- messages
unfoldable pub no_material_text : List ℕ
no_material_text = bytes "Assign a material to check bend radii against it; using 1x thickness."

-- there is a material then
unfoldable pub material_text : Part → List ℕ
material_text t = sheet_name t ++ bytes " is not formed as sheet metal."

unfoldable pub not_one_thickness_text : Float → Float → Float → List ℕ
not_one_thickness_text lo hi thickness =
    bytes "Sheet metal is one thickness throughout; this part runs from " ++ (mm lo ++ (bytes " to " ++ (mm hi ++ (bytes " (mostly " ++ (mm thickness ++ bytes ").")))))

-- the words around the ratio of the next
unfoldable pub bend_need : Part → List ℕ
bend_need t = bytes " needs at least " ++ (ratio_text t ++ bytes "x thickness (")

unfoldable pub tight_bend_text : Part → Float → Float → List ℕ
tight_bend_text t radius min_radius =
    bytes "Inside bend radius is " ++ (mm radius ++ (bytes "; " ++ (sheet_name t ++ (bend_need t ++ (mm min_radius ++ bytes ") or it may crack.")))))

unfoldable pub short_flange_text : Float → Float → List ℕ
short_flange_text length min_flange =
    bytes "Flange reaches " ++ (mm length ++ (bytes " from its bend; a press brake needs about 4x thickness (" ++ (mm min_flange ++ bytes ").")))

unfoldable pub sheet_small_hole_text : Float → Float → List ℕ
sheet_small_hole_text d min_hole_of =
    bytes "Hole is " ++ (mm d ++ (bytes " across; holes smaller than " ++ (mm min_hole_of ++ bytes " punch poorly and may need drilling.")))

-- gap is dfm.rs's `gap.max(0.0)`: "a gap of zero, of either sign, now prints 0.000" (document 02, item 2)
unfoldable pub hole_too_close_text : List ℕ → Float → Float → List ℕ
hole_too_close_text what gap need =
    bytes "Hole edge is " ++ (mm gap ++ (bytes " from " ++ (what ++ (bytes "; keep at least " ++ (mm need ++ bytes " so it does not distort.")))))

unfoldable pub hole_near_bend_text : Float → Float → List ℕ
hole_near_bend_text gap need = hole_too_close_text (bytes "a bend") gap need

unfoldable pub hole_near_edge_text : Float → Float → List ℕ
hole_near_edge_text gap need = hole_too_close_text (bytes "an edge or another hole") gap need
