-- No text is longer than 255 bytes.
use mathlib.Core.Path.{ap, subst}
use mathlib.Core.Bool.{Bool, true, false, cond}
use mathlib.Core.List.{List}
use Prim.Native.Nat.{ℕ, suc, ◌/◌, ◌%◌, ◌≤◌, ◌<◌}
use native.Mathlib.Omega.{arith}
use lib.ListN.{length, length-append, length-take}
use lib.Ieee.{Float}
use Rattle.num_text.specs.Put.{bytes}
use Rattle.num_text.specs.Number.{digits, width, numeral, after_point, trim, thousandths}
use Rattle.num_text.proofs.NumberLaws.{length_digits, length_numeral, width_le, fraction_front}
use Rattle.num_text.proofs.DecimalLaws.{decimal_text_length}
use Rattle.file_job.specs.declared.Process.{Process}
use Rattle.file_job.specs.declared.Process.TheVariants.{CncMachining, SheetMetal, Fdm, Sla, Sls}
use Rattle.file_part.specs.Part.{Part, part_of}
use Rattle.solid_faces.specs.Faces.{Checked}
use Rattle.fault_row.specs.declared.flaw.Flaw.{Flaw}
use Rattle.fault_row.specs.declared.flaw.Flaw.TheVariants.{ThinWall, SmallHole, DeepHoleMax, DeepHoleStandard, TightInsideRadius, DeepInsideCorner, SharpInsideCorner, NoMaterial, Material, NotOneThickness, TightBend, ShortFlange, SheetSmallHole, HoleNearBend, HoleNearEdge, NotClosed, ThinnerThanALayer, FewLayers, ThinnerThanTheNozzle, PrintThinWall, PrintSmallHole, Overhang, EnclosedHollowSla, EnclosedHollowSls}
use Rattle.fault_text.specs.Job.{min_wall_of, name_or, work_name}
use Rattle.fault_text.specs.Text.{mm_places, mm}
use Rattle.fault_text.specs.Machining.{min_drill, min_mill_radius, thin_wall_text, small_hole_text, deep_hole_max_text, deep_hole_standard_text, tight_inside_radius_text, deep_inside_corner_text, sharp_inside_corner_text}
use Rattle.fault_text.specs.Sheet.{sheet_name, ratio_text, bend_need, hole_too_close_text, no_material_text, material_text, not_one_thickness_text, tight_bend_text, short_flange_text, sheet_small_hole_text, hole_near_bend_text, hole_near_edge_text}
use Rattle.fault_text.specs.Printing.{label_of, two_layers, limit_of, not_closed_text, floor_text, thinner_than_a_layer_text, few_layers_text, thinner_than_the_nozzle_text, print_thin_wall_text, print_small_hole_text, overhang_text, enclosed_hollow_sla_text, enclosed_hollow_sls_text}
use Rattle.fault_text.specs.Told.{told, text_of}
use Rattle.fault_text.specs.Good.{Good}
use Rattle.fault_text.proofs.JobLaws.{name_short, ratio_to}

-- ---- a decimal has at most 23 bytes, a name at most 40
mm_short : (x : Float) → length (mm x) ≤ 26
unfolding mm
mm_short x = simp length-append (omega (arith, decimal_text_length x (mm_places x)))

name_or_short : (t : Part) (other : List ℕ) → length t.name ≤ 40 → length other ≤ 40 → length (name_or t other) ≤ 40
unfolding name_or
name_or_short t other h k = go t.job.has_material
  where
    go : (b : Bool) → length (cond b t.name other) ≤ 40
    go true = h
    go false = k

-- ---- machining
thin_wall_short : (t : Part) (x : Float) → length t.name ≤ 40 → length (thin_wall_text t x) ≤ 255
unfolding thin_wall_text work_name
thin_wall_short t x h = simp length-append (omega (arith, mm_short x, mm_short (min_wall_of t), name_or_short t (bytes "a machined part") h (omega arith)))

small_hole_short : (d : Float) → length (small_hole_text d) ≤ 255
unfolding small_hole_text
small_hole_short d = simp length-append (omega (arith, mm_short d, mm_short min_drill))

deep_hole_max_short : (ratio d l : Float) → length (deep_hole_max_text ratio d l) ≤ 255
unfolding deep_hole_max_text
deep_hole_max_short ratio d l = simp length-append (omega (arith, decimal_text_length ratio 1, mm_short d, mm_short l))

deep_hole_standard_short : (ratio : Float) → length (deep_hole_standard_text ratio) ≤ 255
unfolding deep_hole_standard_text
deep_hole_standard_short ratio = simp length-append (omega (arith, decimal_text_length ratio 1))

tight_inside_radius_short : (radius : Float) → length (tight_inside_radius_text radius) ≤ 255
unfolding tight_inside_radius_text
tight_inside_radius_short radius = simp length-append (omega (arith, mm_short radius, mm_short min_mill_radius))

deep_inside_corner_short : (ratio radius l : Float) → length (deep_inside_corner_text ratio radius l) ≤ 255
unfolding deep_inside_corner_text
deep_inside_corner_short ratio radius l = simp length-append (omega (arith, decimal_text_length ratio 1, mm_short radius, mm_short l))

sharp_inside_corner_short : (l fillet : Float) → length (sharp_inside_corner_text l fillet) ≤ 255
unfolding sharp_inside_corner_text
sharp_inside_corner_short l fillet = simp length-append (omega (arith, mm_short l, mm_short fillet))

-- ---- sheet metal: a ratio of at most 100,000 thousandths has at most 7 bytes
fraction_short : (ds : List ℕ) → length (after_point (trim ds)) ≤ suc (length ds)
fraction_short ds = subst (λ (n : ℕ). n ≤ suc (length ds)) (ap length (fraction_front ds)) (simp length-take (omega arith))

thousandths_short : (n : ℕ) → n ≤ 100000 → length (thousandths n) ≤ 7
unfolding thousandths
thousandths_short n h =
    let w : width (n / 1000) ≤ 3 = width_le (n / 1000) 3 (omega arith) (omega arith) in
    omega (
      arith,
      length-append (numeral (n / 1000)) (after_point (trim (digits 3 (n % 1000)))),
      length_numeral (n / 1000),
      fraction_short (digits 3 (n % 1000)),
      length_digits 3 (n % 1000),
    )

ratio_short : (t : Part) → t.job.material.bend_ratio ≤ 100000 → length (ratio_text t) ≤ 7
unfolding ratio_text
ratio_short t h = go t.job.has_material
  where
    go : (b : Bool) → length (cond b (thousandths t.job.material.bend_ratio) (bytes "1")) ≤ 7
    go true = thousandths_short t.job.material.bend_ratio h
    go false = omega arith

no_material_short : length no_material_text ≤ 255
unfolding no_material_text
no_material_short = omega arith

material_short : (t : Part) → length t.name ≤ 40 → length (material_text t) ≤ 255
unfolding material_text sheet_name
material_short t h = simp length-append (omega (arith, name_or_short t (bytes "this material") h (omega arith)))

not_one_thickness_short : (lo hi thickness : Float) → length (not_one_thickness_text lo hi thickness) ≤ 255
unfolding not_one_thickness_text
not_one_thickness_short lo hi thickness = simp length-append (omega (arith, mm_short lo, mm_short hi, mm_short thickness))

tight_bend_short : (t : Part) (radius min_radius : Float) → length t.name ≤ 40 → t.job.material.bend_ratio ≤ 100000 →
    length (tight_bend_text t radius min_radius) ≤ 255
unfolding tight_bend_text sheet_name bend_need
tight_bend_short t radius min_radius h r =
    simp length-append (omega (arith, mm_short radius, mm_short min_radius, name_or_short t (bytes "this material") h (omega arith), ratio_short t r))

short_flange_short : (l min_flange : Float) → length (short_flange_text l min_flange) ≤ 255
unfolding short_flange_text
short_flange_short l min_flange = simp length-append (omega (arith, mm_short l, mm_short min_flange))

sheet_small_hole_short : (d min_hole_of : Float) → length (sheet_small_hole_text d min_hole_of) ≤ 255
unfolding sheet_small_hole_text
sheet_small_hole_short d min_hole_of = simp length-append (omega (arith, mm_short d, mm_short min_hole_of))

hole_near_bend_short : (gap need : Float) → length (hole_near_bend_text gap need) ≤ 255
unfolding hole_near_bend_text hole_too_close_text
hole_near_bend_short gap need = simp length-append (omega (arith, mm_short gap, mm_short need))

hole_near_edge_short : (gap need : Float) → length (hole_near_edge_text gap need) ≤ 255
unfolding hole_near_edge_text hole_too_close_text
hole_near_edge_short gap need = simp length-append (omega (arith, mm_short gap, mm_short need))

-- ---- printing
label_short : (process : Process) → length (label_of process) ≤ 13
unfolding label_of
label_short CncMachining = omega arith
label_short SheetMetal = omega arith
label_short Fdm = omega arith
label_short Sla = omega arith
label_short Sls = omega arith

not_closed_short : (edges : ℕ) → edges < 4294967296 → length (not_closed_text edges) ≤ 255
unfolding not_closed_text
not_closed_short edges h =
    let w : width edges ≤ 10 = width_le edges 10 (omega arith) (omega arith) in
    simp length-append (omega (arith, length_numeral edges, w))

thinner_than_a_layer_short : (x layer : Float) → length (thinner_than_a_layer_text x layer) ≤ 255
unfolding thinner_than_a_layer_text floor_text
thinner_than_a_layer_short x layer = simp length-append (omega (arith, mm_short x, mm_short layer))

few_layers_short : (x layers layer : Float) → length (few_layers_text x layers layer) ≤ 255
unfolding few_layers_text floor_text
few_layers_short x layers layer =
    simp length-append (omega (arith, mm_short x, decimal_text_length layers 1, mm_short layer, mm_short (two_layers layer)))

thinner_than_the_nozzle_short : (x nozzle : Float) → length (thinner_than_the_nozzle_text x nozzle) ≤ 255
unfolding thinner_than_the_nozzle_text
thinner_than_the_nozzle_short x nozzle = simp length-append (omega (arith, mm_short x, mm_short nozzle))

print_thin_wall_short : (process : Process) (x least : Float) → length (print_thin_wall_text process x least) ≤ 255
unfolding print_thin_wall_text
print_thin_wall_short process x least = simp length-append (omega (arith, mm_short x, label_short process, mm_short least))

print_small_hole_short : (d min_hole_of : Float) → length (print_small_hole_text d min_hole_of) ≤ 255
unfolding print_small_hole_text
print_small_hole_short d min_hole_of = simp length-append (omega (arith, mm_short d, mm_short min_hole_of))

overhang_short : (area : Float) (tenths : ℕ) → length (overhang_text area tenths) ≤ 255
unfolding overhang_text
overhang_short area tenths = simp length-append (omega (arith, decimal_text_length area 1, decimal_text_length (limit_of tenths) 0))

enclosed_hollow_sla_short : (volume : Float) → length (enclosed_hollow_sla_text volume) ≤ 255
unfolding enclosed_hollow_sla_text
enclosed_hollow_sla_short volume = simp length-append (omega (arith, decimal_text_length volume 1))

enclosed_hollow_sls_short : (volume : Float) → length (enclosed_hollow_sls_text volume) ≤ 255
unfolding enclosed_hollow_sls_text
enclosed_hollow_sls_short volume = simp length-append (omega (arith, decimal_text_length volume 1))

-- ---- of any flaw that is printed
pub text_short : (t : Part) (f : Flaw) → length t.name ≤ 40 → t.job.material.bend_ratio ≤ 100000 → Good t f → length (text_of t f) ≤ 255
unfolding text_of told Good
text_short t (ThinWall s f g x) h r ok = thin_wall_short t x h
text_short t (SmallHole f d) h r ok = small_hole_short d
text_short t (DeepHoleMax f ratio d l) h r ok = deep_hole_max_short ratio d l
text_short t (DeepHoleStandard f ratio) h r ok = deep_hole_standard_short ratio
text_short t (TightInsideRadius f radius) h r ok = tight_inside_radius_short radius
text_short t (DeepInsideCorner f ratio radius l) h r ok = deep_inside_corner_short ratio radius l
text_short t (SharpInsideCorner f g l fillet) h r ok = sharp_inside_corner_short l fillet
text_short t NoMaterial h r ok = no_material_short
text_short t Material h r ok = material_short t h
text_short t (NotOneThickness lo hi thickness) h r ok = not_one_thickness_short lo hi thickness
text_short t (TightBend f g radius least) h r ok = tight_bend_short t radius least h r
text_short t (ShortFlange f g l least) h r ok = short_flange_short l least
text_short t (SheetSmallHole f d least) h r ok = sheet_small_hole_short d least
text_short t (HoleNearBend f g gap need) h r ok = hole_near_bend_short gap need
text_short t (HoleNearEdge f g gap need) h r ok = hole_near_edge_short gap need
text_short t (NotClosed edges) h r ok = not_closed_short edges ok.1
text_short t (ThinnerThanALayer f g x) h r ok = thinner_than_a_layer_short x t.job.print.layer
text_short t (FewLayers f g x layers) h r ok = few_layers_short x layers t.job.print.layer
text_short t (ThinnerThanTheNozzle f g x) h r ok = thinner_than_the_nozzle_short x t.job.print.nozzle
text_short t (PrintThinWall s f g x) h r ok = print_thin_wall_short t.job.process x t.job.print.min_wall
text_short t (PrintSmallHole f d) h r ok = print_small_hole_short d t.job.print.min_hole
text_short t (Overhang count area) h r ok = overhang_short area t.job.print.overhang
text_short t (EnclosedHollowSla p volume) h r ok = enclosed_hollow_sla_short volume
text_short t (EnclosedHollowSls p volume) h r ok = enclosed_hollow_sls_short volume

-- of an accepted file
pub checked_short : (s : List ℕ) (f : Flaw) → Checked s → Good (part_of s) f → length (text_of (part_of s) f) ≤ 255
checked_short s f h ok = text_short (part_of s) f (name_short s h) (ratio_to s h) ok
