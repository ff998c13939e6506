-- A flaw as it is told in a part: the fault with its text. Definitions only.
use Rattle.std.specs.Prelude.{List, [], ◌∷◌, ℕ}
use Rattle.file_part.specs.declared.read.FaceId.{FaceId}
use Rattle.file_part.specs.Part.{Part}
use Rattle.solid_ids.specs.Ids.{id_of}
use Rattle.fault_row.specs.declared.fault.Severity.TheVariants.{Error, Warning, Note}
use Rattle.fault_row.specs.declared.fault.Rule.TheVariants as rule
use Rattle.fault_row.specs.declared.row.FaultRow.{FaultRow}
use Rattle.fault_row.specs.declared.flaw.Flaw.{Flaw}
use Rattle.fault_row.specs.declared.flaw.Flaw.TheVariants.{ThinWall, SmallHole, DeepHoleMax, DeepHoleStandard, TightInsideRadius, DeepInsideCorner, SharpInsideCorner, NoMaterial, Material, NotOneThickness, TightBend, ShortFlange, SheetSmallHole, HoleNearBend, HoleNearEdge, NotClosed, ThinnerThanALayer, FewLayers, ThinnerThanTheNozzle, PrintThinWall, PrintSmallHole, Overhang, EnclosedHollowSla, EnclosedHollowSls}
use Rattle.fault_row.specs.Fault.{Fault, fault}
use Rattle.fault_row.specs.Flaw.{flaw_of}
use Rattle.fault_text.specs.Machining.{thin_wall_text, small_hole_text, deep_hole_max_text, deep_hole_standard_text, tight_inside_radius_text, deep_inside_corner_text, sharp_inside_corner_text}
use Rattle.fault_text.specs.Sheet.{no_material_text, material_text, not_one_thickness_text, tight_bend_text, short_flange_text, sheet_small_hole_text, hole_near_bend_text, hole_near_edge_text}
use Rattle.fault_text.specs.Printing.{not_closed_text, thinner_than_a_layer_text, few_layers_text, thinner_than_the_nozzle_text, print_thin_wall_text, print_small_hole_text, overhang_text, enclosed_hollow_sla_text, enclosed_hollow_sls_text}
use Rattle.fault_text.specs.Many.{off_faces, overhang_faces, hollow_faces}

-- the ids of faces by their numbers
abbrev one : Part → ℕ → List FaceId
one t f = id_of t f ∷ []

abbrev two : Part → ℕ → ℕ → List FaceId
two t f g = id_of t f ∷ id_of t g ∷ []

-- severity, rule, text, faces, and count 1 but for overhangs: as dfm.rs pushes them
unfoldable pub told : Part → Flaw → Fault
told t (ThinWall severity f g x) = fault severity rule.ThinWall (thin_wall_text t x) (two t f g)
told t (SmallHole f d) = fault Warning rule.SmallHole (small_hole_text d) (one t f)
told t (DeepHoleMax f ratio d length) = fault Warning rule.DeepHole (deep_hole_max_text ratio d length) (one t f)
told t (DeepHoleStandard f ratio) = fault Note rule.DeepHole (deep_hole_standard_text ratio) (one t f)
told t (TightInsideRadius f radius) = fault Warning rule.TightInsideRadius (tight_inside_radius_text radius) (one t f)
told t (DeepInsideCorner f ratio radius length) = fault Warning rule.DeepInsideCorner (deep_inside_corner_text ratio radius length) (one t f)
told t (SharpInsideCorner f g length fillet) = fault Warning rule.SharpInsideCorner (sharp_inside_corner_text length fillet) (two t f g)
told t NoMaterial = fault Note rule.NoMaterial no_material_text []
told t Material = fault Error rule.Material (material_text t) []
told t (NotOneThickness lo hi thickness) = fault Error rule.NotOneThickness (not_one_thickness_text lo hi thickness) (off_faces t)
told t (TightBend f g radius least) = fault Error rule.TightBend (tight_bend_text t radius least) (two t f g)
told t (ShortFlange f g length least) = fault Warning rule.ShortFlange (short_flange_text length least) (two t f g)
told t (SheetSmallHole f d least) = fault Warning rule.SmallHole (sheet_small_hole_text d least) (one t f)
told t (HoleNearBend f g gap need) = fault Warning rule.HoleTooClose (hole_near_bend_text gap need) (two t f g)
told t (HoleNearEdge f g gap need) = fault Warning rule.HoleTooClose (hole_near_edge_text gap need) (two t f g)
told t (NotClosed edges) = fault Error rule.NotClosed (not_closed_text edges) []
told t (ThinnerThanALayer f g x) = fault Error rule.ThinnerThanALayer (thinner_than_a_layer_text x t.job.print.layer) (two t f g)
told t (FewLayers f g x layers) = fault Warning rule.FewLayers (few_layers_text x layers t.job.print.layer) (two t f g)
told t (ThinnerThanTheNozzle f g x) = fault Error rule.ThinnerThanTheNozzle (thinner_than_the_nozzle_text x t.job.print.nozzle) (two t f g)
told t (PrintThinWall severity f g x) = fault severity rule.ThinWall (print_thin_wall_text t.job.process x t.job.print.min_wall) (two t f g)
told t (PrintSmallHole f d) = fault Warning rule.SmallHole (print_small_hole_text d t.job.print.min_hole) (one t f)
told t (Overhang count area) = record {
  heading = record { severity = Warning; rule = rule.Overhang; text = overhang_text area t.job.print.overhang };
  count = count;
  faces = overhang_faces t;
}
told t (EnclosedHollowSla p volume) = fault Warning rule.EnclosedHollow (enclosed_hollow_sla_text volume) (hollow_faces t p)
told t (EnclosedHollowSls p volume) = fault Error rule.EnclosedHollow (enclosed_hollow_sls_text volume) (hollow_faces t p)

-- all of a list
unfoldable pub told_all : Part → List Flaw → List Fault
told_all t [] = []
told_all t (f ∷ fs) = told t f ∷ told_all t fs

-- the text alone
unfoldable pub text_of : Part → Flaw → List ℕ
text_of t f = (told t f).heading.text

-- the fault that a row is; that of `row_of f` is `told t f` (`row_told`, proofs/ToldLaws.antt)
unfoldable pub fault_of : Part → FaultRow → Fault
fault_of t r = told t (flaw_of r)
