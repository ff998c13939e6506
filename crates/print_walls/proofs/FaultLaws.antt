-- One wall: the row that is put is that of the flaw of dfm.rs, or none is put where there is none.
use mathlib.Core.Path.{◌≡◌, refl, sym, ap, ◌∙◌}
use mathlib.Core.Bool.{Bool, true, false, ◌&&◌}
use mathlib.Core.List.{List, [], ◌∷◌}
use Prim.Native.Nat.{ℕ, ◌<◌, ◌^◌}
use native.Mathlib.Omega.{arith}
use lib.Dec.{lit≤, lit<}
use lib.Ieee.{Float, binary64, add, mul, div, lt, le, eq, of_bits}
use Rattle.num_float.specs.Sign.{NonNeg, plus_zero}
use Rattle.num_float.specs.Within.{Beyond}
use Rattle.num_float.proofs.Order.{lt_le_trans}
use Rattle.num_float.proofs.Within.{held_small, div_within, tested_beyond}
use Rattle.num_float.proofs.Sign.{div_nonneg}
use Rattle.num_text.specs.Decimal.{accepted}
use Rattle.num_text.proofs.NeverRefused.{accepted_at}
use Rattle.file_job.specs.declared.PrintSettings.{PrintSettings}
use Rattle.file_job_ok.specs.Rules.{thousandth}
use Rattle.file_part.specs.Part.{Part, part_of}
use Rattle.solid_faces.specs.Faces.{faces_of, Checked}
use Rattle.wall_ray.specs.Strike.{e_9}
use Rattle.measure_sizes.specs.Reading.{ReadingBounds}
use Rattle.wall_pairs.specs.declared.NextWall.{NextWall}
use Rattle.fault_row.specs.declared.fault.Severity.{Severity}
use Rattle.fault_row.specs.declared.flaw.Flaw.{Flaw}
use Rattle.fault_row.specs.declared.flaw.Flaw.TheVariants.{ThinnerThanALayer, FewLayers, ThinnerThanTheNozzle, PrintThinWall}
use Rattle.fault_row.specs.Row.{RowPut}
use Rattle.fault_row.specs.Flaw.{row_of}
use Rattle.fault_row.proofs.RowLaws.{row_put_same}
use Rattle.fault_row.proofs.FlawLaws.{flaws_none, flaws_one, flaws_same}
use Rattle.fault_text.specs.Printing.{two_layers}
use Rattle.fault_text.specs.Good.{Good}
use Rattle.fault_text.proofs.SettingsLaws.{settings_good_lem, layer_accepted, two_layers_accepted, nozzle_accepted, print_wall_accepted}
use Rattle.print_walls.specs.Walls.{floor_flaw, wall_severity, side_flaw}
use Rattle.print_walls.specs.Work.{under_nozzle, severity_by, flaw_by, WallPut}

-- ---- the numbers that are printed
thick_accepted : (x : Float) → ReadingBounds x → accepted x 2 ≡ true
thick_accepted x b = accepted_at x (2 ^ 17) 2 b.nonneg b.within (lit< tt) (omega arith)

thousandth_nonneg : NonNeg thousandth
unfolding of_bits le lt eq
thousandth_nonneg = refl

thousandth_above : lt plus_zero thousandth ≡ true
unfolding of_bits le lt eq
thousandth_above = refl

thousandth_beyond : Beyond thousandth 1024
unfolding of_bits
thousandth_beyond = record { is_finite = tt; size = lit≤ tt }

-- at most 2^17 mm of layers of at least 1/1024 mm
layers_accepted : (s : List ℕ) → Checked s → (x : Float) → ReadingBounds x → accepted (div binary64 x (part_of s).job.print.layer) 1 ≡ true
layers_accepted s h x b =
    let g = settings_good_lem s h in
    let layer = (part_of s).job.print.layer in
    let finite = g.layer_within.is_finite in
    let beyond = tested_beyond thousandth layer 1024 g.layer_from finite thousandth_nonneg thousandth_beyond in
    let within = div_within x layer (2 ^ 17) 1024 (2 ^ 27) b.within beyond (lit≤ tt) (held_small (2 ^ 27) (lit< tt)) in
    accepted_at (div binary64 x layer) (2 ^ 27) 1
    (div_nonneg x layer b.within.is_finite finite b.nonneg (lt_le_trans plus_zero thousandth layer thousandth_above g.layer_from)) within (lit< tt) (omega arith)

-- ---- what is found, by any rule
module _ {rule : Part → ℕ → ℕ → Float → List Flaw} {p : PrintSettings} {faces : NextWall} {x : Float} {from : ℕ} {cells : List ℕ} {numbers : List Float} where
  none_put : ((s : List ℕ) → p ≡ (part_of s).job.print → rule (part_of s) faces.first faces.second x ≡ []) → WallPut rule p faces x from cells cells numbers numbers from
  none_put finds =
      record {
        few = omega arith;
        cells_long = refl;
        numbers_long = refl;
        put = λ s ok same a b bounds. flaws_same (sym (finds s same)) (flaws_none from cells numbers);
      }

  one_put : {cells' : List ℕ} {numbers' : List Float} {r : ℕ} (f : Flaw) (flaw : Part → Flaw) →
      ((s : List ℕ) → p ≡ (part_of s).job.print → rule (part_of s) faces.first faces.second x ≡ flaw (part_of s) ∷ []) →
      ((s : List ℕ) → p ≡ (part_of s).job.print → f ≡ flaw (part_of s)) →
      ((s : List ℕ) → Checked s → faces.first < faces_of (part_of s) → faces.second < faces_of (part_of s) → ReadingBounds x → Good (part_of s) (flaw (part_of s))) →
      RowPut from (row_of f) cells cells' numbers numbers' r → WallPut rule p faces x from cells cells' numbers numbers' r
  one_put f flaw finds is good put =
      record {
        few = omega (arith, put.count);
        cells_long = put.cells_kept.long;
        numbers_long = put.numbers_kept.long;
        put = λ s ok same a b bounds. flaws_same (sym (finds s same)) (flaws_one (flaw (part_of s)) (row_put_same (ap row_of (is s same)) put) (good s ok a b bounds));
      }

-- the same in other words
rule_same : {rule other : Part → ℕ → ℕ → Float → List Flaw} {p : PrintSettings} {faces : NextWall} {x : Float} {from r : ℕ} {cells cells' : List ℕ} {numbers numbers' : List Float} →
    ((t : Part) → rule t faces.first faces.second x ≡ other t faces.first faces.second x) → WallPut rule p faces x from cells cells' numbers numbers' r →
    WallPut other p faces x from cells cells' numbers numbers' r
rule_same equal w =
    record {
      few = w.few;
      cells_long = w.cells_long;
      numbers_long = w.numbers_long;
      put = λ s ok same a b bounds. flaws_same (equal (part_of s)) (w.put s ok same a b bounds);
    }

-- ---- the tests of the code are those of the part with these settings
two_test : (p q : PrintSettings) (x : Float) (b : Bool) → p ≡ q → lt x (mul binary64 (of_bits binary64 0x4000_0000_0000_0000) p.layer) ≡ b → lt x (two_layers q.layer) ≡ b
unfolding two_layers
two_test p q x b same h = sym (ap (λ (z : PrintSettings). lt x (two_layers z.layer)) same) ∙ h

layer_test : (p q : PrintSettings) (x : Float) (b : Bool) → p ≡ q → lt (add binary64 x e_9) p.layer ≡ b → lt (add binary64 x e_9) q.layer ≡ b
layer_test p q x b same h = sym (ap (λ (z : PrintSettings). lt (add binary64 x e_9) z.layer) same) ∙ h

wall_test : (p q : PrintSettings) (x : Float) (b : Bool) → p ≡ q → lt (add binary64 x e_9) p.min_wall ≡ b → lt (add binary64 x e_9) q.min_wall ≡ b
wall_test p q x b same h = sym (ap (λ (z : PrintSettings). lt (add binary64 x e_9) z.min_wall) same) ∙ h

nozzle_test : (p q : PrintSettings) (x : Float) (b : Bool) → p ≡ q → under_nozzle p x ≡ b → (q.has_nozzle && lt (add binary64 x e_9) q.nozzle) ≡ b
unfolding under_nozzle
nozzle_test p q x b same h = sym (ap (λ (z : PrintSettings). under_nozzle z x) same) ∙ h

-- the severity
severity_is : (t : Part) (p : PrintSettings) (x : Float) (v : Severity) → p ≡ t.job.print → v ≡ severity_by p x → v ≡ wall_severity t x
unfolding wall_severity severity_by
severity_is t p x v same e = e ∙ ap (λ (q : PrintSettings). severity_by q x) same

-- ---- no fault
module _ {p : PrintSettings} {faces : NextWall} {x : Float} {from : ℕ} {cells : List ℕ} {numbers : List Float} where
  pub floor_none : lt x (mul binary64 (of_bits binary64 0x4000_0000_0000_0000) p.layer) ≡ false → WallPut floor_flaw p faces x from cells cells numbers numbers from
  unfolding floor_flaw
  floor_none h = none_put (λ s same. rw (two_test p (part_of s).job.print x false same h))

  pub side_none : (n : Bool) → n ≡ under_nozzle p x → n ≡ false → lt (add binary64 x e_9) p.min_wall ≡ false → WallPut side_flaw p faces x from cells cells numbers numbers from
  unfolding side_flaw
  side_none n is above h = none_put (λ s same. rw (nozzle_test p (part_of s).job.print x false same (sym is ∙ above), wall_test p (part_of s).job.print x false same h))

module _ {p : PrintSettings} {faces : NextWall} {x : Float} {from r : ℕ} {cells cells' : List ℕ} {numbers numbers' : List Float} where
  -- ---- a floor or roof
  pub floor_layer : lt x (mul binary64 (of_bits binary64 0x4000_0000_0000_0000) p.layer) ≡ true → lt (add binary64 x e_9) p.layer ≡ true →
      RowPut from (row_of (ThinnerThanALayer faces.first faces.second x)) cells cells' numbers numbers' r → WallPut floor_flaw p faces x from cells cells' numbers numbers' r
  unfolding floor_flaw Good
  floor_layer two one put =
      one_put (ThinnerThanALayer faces.first faces.second x) (λ t. ThinnerThanALayer faces.first faces.second x)
      (λ s same. rw (two_test p (part_of s).job.print x true same two, layer_test p (part_of s).job.print x true same one)) (λ s same. refl)
      (λ s ok a b bounds. (a, b, thick_accepted x bounds, layer_accepted s ok)) put

  pub floor_few : lt x (mul binary64 (of_bits binary64 0x4000_0000_0000_0000) p.layer) ≡ true → lt (add binary64 x e_9) p.layer ≡ false →
      RowPut from (row_of (FewLayers faces.first faces.second x (div binary64 x p.layer))) cells cells' numbers numbers' r →
      WallPut floor_flaw p faces x from cells cells' numbers numbers' r
  unfolding floor_flaw Good
  floor_few two one put =
      one_put (FewLayers faces.first faces.second x (div binary64 x p.layer)) (λ t. FewLayers faces.first faces.second x (div binary64 x t.job.print.layer))
      (λ s same. rw (two_test p (part_of s).job.print x true same two, layer_test p (part_of s).job.print x false same one))
      (λ s same. ap (λ (q : PrintSettings). FewLayers faces.first faces.second x (div binary64 x q.layer)) same)
      (λ s ok a b bounds. (a, b, thick_accepted x bounds, layers_accepted s ok x bounds, layer_accepted s ok, two_layers_accepted s ok)) put

  -- ---- any other wall
  pub side_nozzle : (n : Bool) → n ≡ under_nozzle p x → n ≡ true → RowPut from (row_of (ThinnerThanTheNozzle faces.first faces.second x)) cells cells' numbers numbers' r →
      WallPut side_flaw p faces x from cells cells' numbers numbers' r
  unfolding side_flaw Good
  side_nozzle n is under put =
      one_put (ThinnerThanTheNozzle faces.first faces.second x) (λ t. ThinnerThanTheNozzle faces.first faces.second x)
      (λ s same. rw (nozzle_test p (part_of s).job.print x true same (sym is ∙ under))) (λ s same. refl)
      (λ s ok a b bounds. (a, b, thick_accepted x bounds, nozzle_accepted s ok)) put

  pub side_thin : (n : Bool) {v : Severity} → n ≡ under_nozzle p x → n ≡ false → lt (add binary64 x e_9) p.min_wall ≡ true → v ≡ severity_by p x →
      RowPut from (row_of (PrintThinWall v faces.first faces.second x)) cells cells' numbers numbers' r → WallPut side_flaw p faces x from cells cells' numbers numbers' r
  unfolding side_flaw Good
  side_thin n {v} is above thin rated put =
      one_put (PrintThinWall v faces.first faces.second x) (λ t. PrintThinWall (wall_severity t x) faces.first faces.second x)
      (λ s same. rw (nozzle_test p (part_of s).job.print x false same (sym is ∙ above), wall_test p (part_of s).job.print x true same thin))
      (λ s same. ap (λ (q : Severity). PrintThinWall q faces.first faces.second x) (severity_is (part_of s) p x v same rated))
      (λ s ok a b bounds. (a, b, thick_accepted x bounds, print_wall_accepted s ok)) put

-- ---- by what the thinnest reading goes through
module _ {p : PrintSettings} {faces : NextWall} {x : Float} {from r : ℕ} {cells cells' : List ℕ} {numbers numbers' : List Float} where
  pub by_floor : (stacked : Bool) → stacked ≡ true → WallPut floor_flaw p faces x from cells cells' numbers numbers' r →
      WallPut (flaw_by stacked) p faces x from cells cells' numbers numbers' r
  unfolding flaw_by
  by_floor stacked h w = rule_same (λ t. sym (rw h refl)) w

  pub by_side : (stacked : Bool) → stacked ≡ false → WallPut side_flaw p faces x from cells cells' numbers numbers' r →
      WallPut (flaw_by stacked) p faces x from cells cells' numbers numbers' r
  unfolding flaw_by
  by_side stacked h w = rule_same (λ t. sym (rw h refl)) w
