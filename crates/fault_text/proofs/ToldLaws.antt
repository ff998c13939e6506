-- A flaw's row means the flaw as it is told; its count; lists of flaws.
use mathlib.Core.Path.{◌≡◌, refl, sym, ap, ◌∙◌}
use mathlib.Core.List.{List, [], ◌∷◌, ◌++◌}
use Prim.Native.Nat.{ℕ, zero, suc, ◌<◌}
use native.Mathlib.Omega.{arith}
use lib.ListN.{length, get_or}
use lib.Ieee.{Float}
use Rattle.file_job.specs.declared.Job.{Job}
use Rattle.file_part.specs.Part.{Part}
use Rattle.fault_row.specs.declared.fault.Severity.{Severity}
use Rattle.fault_row.specs.declared.flaw.Flaw.{Flaw}
use Rattle.fault_row.specs.declared.flaw.Flaw.TheVariants.{ThinWall, SmallHole, DeepHoleMax, DeepHoleStandard, TightInsideRadius, DeepInsideCorner, SharpInsideCorner, NoMaterial, Material, NotOneThickness, TightBend, ShortFlange, SheetSmallHole, HoleNearBend, HoleNearEdge, NotClosed, ThinnerThanALayer, FewLayers, ThinnerThanTheNozzle, PrintThinWall, PrintSmallHole, Overhang, EnclosedHollowSla, EnclosedHollowSls}
use Rattle.fault_row.specs.Fault.{Fault}
use Rattle.fault_row.specs.Fault as fault
use Rattle.fault_row.specs.Flaw.{row_of}
use Rattle.fault_row.specs.Flaws.{none}
use Rattle.fault_row.proofs.FlawLaws.{flaw_of_row}
use Rattle.fault_text.specs.Printing.{thinner_than_a_layer_text, few_layers_text, thinner_than_the_nozzle_text, print_thin_wall_text, print_small_hole_text, overhang_text}
use Rattle.fault_text.specs.Told.{told, told_all, text_of, fault_of}
use Rattle.fault_text.specs.Good.{Good}

-- ---- the row of a flaw
-- in every part a flaw's row is the fault that the flaw is told as
pub row_told : (t : Part) (f : Flaw) → fault_of t (row_of f) ≡ told t f
unfolding fault_of
row_told t f = ap (told t) (flaw_of_row f)

-- ---- the texts of printing, with the job as it was read
module _ (t : Part) {j : Job} (flaw : Flaw) (e : j ≡ t.job) where
  pub layer_told : {f g : ℕ} {x : Float} → flaw ≡ ThinnerThanALayer f g x → thinner_than_a_layer_text x j.print.layer ≡ text_of t flaw
  unfolding text_of told
  layer_told {f} {g} {x} is = ap (λ (k : Job). thinner_than_a_layer_text x k.print.layer) e ∙ ap (text_of t) (sym is)

  pub few_layers_told : {f g : ℕ} {x layers : Float} → flaw ≡ FewLayers f g x layers → few_layers_text x layers j.print.layer ≡ text_of t flaw
  unfolding text_of told
  few_layers_told {f} {g} {x} {layers} is = ap (λ (k : Job). few_layers_text x layers k.print.layer) e ∙ ap (text_of t) (sym is)

  pub nozzle_told : {f g : ℕ} {x : Float} → flaw ≡ ThinnerThanTheNozzle f g x → thinner_than_the_nozzle_text x j.print.nozzle ≡ text_of t flaw
  unfolding text_of told
  nozzle_told {f} {g} {x} is = ap (λ (k : Job). thinner_than_the_nozzle_text x k.print.nozzle) e ∙ ap (text_of t) (sym is)

  pub print_thin_wall_told : {severity : Severity} {f g : ℕ} {x : Float} → flaw ≡ PrintThinWall severity f g x → print_thin_wall_text j.process x j.print.min_wall ≡ text_of t flaw
  unfolding text_of told
  print_thin_wall_told {severity} {f} {g} {x} is = ap (λ (k : Job). print_thin_wall_text k.process x k.print.min_wall) e ∙ ap (text_of t) (sym is)

  pub print_small_hole_told : {f : ℕ} {d : Float} → flaw ≡ PrintSmallHole f d → print_small_hole_text d j.print.min_hole ≡ text_of t flaw
  unfolding text_of told
  print_small_hole_told {f} {d} is = ap (λ (k : Job). print_small_hole_text d k.print.min_hole) e ∙ ap (text_of t) (sym is)

  pub overhang_told : {count : ℕ} {area : Float} → flaw ≡ Overhang count area → overhang_text area j.print.overhang ≡ text_of t flaw
  unfolding text_of told
  overhang_told {count} {area} is = ap (λ (k : Job). overhang_text area k.print.overhang) e ∙ ap (text_of t) (sym is)

-- ---- the count of a row that is printed: 2,048 of them add up below 2 ^ 32
pub good_count : (t : Part) (f : Flaw) → Good t f → (row_of f).count < 2097152
unfolding row_of Good
good_count t (ThinWall s f g x) h = omega arith
good_count t (SmallHole f d) h = omega arith
good_count t (DeepHoleMax f ratio d l) h = omega arith
good_count t (DeepHoleStandard f ratio) h = omega arith
good_count t (TightInsideRadius f radius) h = omega arith
good_count t (DeepInsideCorner f ratio radius l) h = omega arith
good_count t (SharpInsideCorner f g l fillet) h = omega arith
good_count t NoMaterial h = omega arith
good_count t Material h = omega arith
good_count t (NotOneThickness lo hi thickness) h = omega arith
good_count t (TightBend f g radius least) h = omega arith
good_count t (ShortFlange f g l least) h = omega arith
good_count t (SheetSmallHole f d least) h = omega arith
good_count t (HoleNearBend f g gap need) h = omega arith
good_count t (HoleNearEdge f g gap need) h = omega arith
good_count t (NotClosed edges) h = omega arith
good_count t (ThinnerThanALayer f g x) h = omega arith
good_count t (FewLayers f g x layers) h = omega arith
good_count t (ThinnerThanTheNozzle f g x) h = omega arith
good_count t (PrintThinWall s f g x) h = omega arith
good_count t (PrintSmallHole f d) h = omega arith
good_count t (Overhang count area) h = h.2
good_count t (EnclosedHollowSla p volume) h = omega arith
good_count t (EnclosedHollowSls p volume) h = omega arith

-- ---- all of a list
module _ (t : Part) where
  pub told_length : (fs : List Flaw) → length (told_all t fs) ≡ length fs
  unfolding told_all
  told_length [] = refl
  told_length (f ∷ fs) = ap suc (told_length fs)

  pub told_at : (fs : List Flaw) (k : ℕ) → k < length fs → told t (get_or fs k none) ≡ get_or (told_all t fs) k fault.none
  unfolding told_all
  told_at [] k h = absurd (omega arith)
  told_at (f ∷ fs) zero h = refl
  told_at (f ∷ fs) (suc k) h = told_at fs k (omega arith)

  pub told_append : (fs gs : List Flaw) → told_all t (fs ++ gs) ≡ told_all t fs ++ told_all t gs
  unfolding told_all
  told_append [] gs = refl
  told_append (f ∷ fs) gs = ap (λ (x : List Fault). told t f ∷ x) (told_append fs gs)
