-- The rules on the material.
use mathlib.Core.Path.{◌≡◌, refl, sym}
use mathlib.Core.Bool.{Bool, true, false, ◌&&◌, cond}
use mathlib.Core.List.{List, [], ◌∷◌}
use Prim.Native.Nat.{ℕ}
use native.Mathlib.Omega.{arith}
use lib.IntN.{pos}
use lib.Ieee.{Float, binary64, div, of_int, of_bits}
use denote.Enum.Declared.{tag_of}
use Rattle.math.specs.Vector.{one}
use Rattle.file_job.specs.declared.MaterialClass.{MaterialClass}
use Rattle.file_job.specs.declared.MaterialClass.TheVariants.{Metal, Plastic}
use Rattle.file_job.specs.contracts.MaterialClass as material-class
use Rattle.file_job.specs.declared.Job.{Job}
use Rattle.fault_row.specs.declared.flaw.Flaw.{Flaw}
use Rattle.fault_row.specs.declared.flaw.Flaw.TheVariants.{NoMaterial, Material}
use Rattle.fault_row.specs.Row.{RowPut}
use Rattle.fault_row.specs.Flaw.{row_of}
use Rattle.fault_row.proofs.FlawLaws.{flaws_none, flaws_one, flaws_same}
use Rattle.rule_flanges.specs.fault_text.specs.Good.{Good}
use Rattle.rule_flanges.specs.fault_text.specs.Good.{Good}
use Rattle.rule_sheet.specs.Material.{is_metal, is_formed, ratio_of, material_flaws}
use Rattle.rule_sheet.specs.Work.{MaterialPut}

-- ---- the class, by its place among the variants
pub metal_is : (x : MaterialClass) → tag_of material-class.the_type x ≡ 0 → true ≡ is_metal x
unfolding is_metal
metal_is Metal h = refl
metal_is Plastic h = absurd (omega (arith, h))

pub plastic_is : (x : MaterialClass) → tag_of material-class.the_type x ≡ 1 → false ≡ is_metal x
unfolding is_metal
plastic_is Metal h = absurd (omega (arith, h))
plastic_is Plastic h = refl

-- ---- whether it is formed
pub formed_none : (job : Job) → job.has_material ≡ false → true ≡ is_formed job
unfolding is_formed
formed_none job e = rw e refl

pub formed_some : (job : Job) (b : Bool) → job.has_material ≡ true → b ≡ is_metal job.material.class → b && job.material.has_bend_ratio ≡ is_formed job
unfolding is_formed
formed_some job b e m = rw (e, m) refl

-- ---- the faults
chosen : (x y : List Flaw) (b c : Bool) → b ≡ true → c ≡ true → cond b (cond c [] x) y ≡ []
chosen x y b c e f = rw (e, f) refl

refused : (x y : List Flaw) (b c : Bool) → b ≡ true → c ≡ false → cond b (cond c [] x) y ≡ x
refused x y b c e f = rw (e, f) refl

missing : (x y : List Flaw) (b c : Bool) → b ≡ false → cond b (cond c [] x) y ≡ y
missing x y b c e = rw e refl

module _ (job : Job) where
  said_nothing : job.has_material ≡ true → is_formed job ≡ true → material_flaws job ≡ []
  unfolding material_flaws
  said_nothing e f = chosen _ _ _ _ e f

  said_material : job.has_material ≡ true → is_formed job ≡ false → material_flaws job ≡ Material ∷ []
  unfolding material_flaws
  said_material e f = refused _ _ _ _ e f

  said_none : job.has_material ≡ false → material_flaws job ≡ NoMaterial ∷ []
  unfolding material_flaws
  said_none e = missing (Material ∷ []) (NoMaterial ∷ []) job.has_material (is_formed job) e

module _ (job : Job) {cells : List ℕ} {numbers : List Float} where
  pub material_none : job.has_material ≡ true → is_formed job ≡ true → MaterialPut job cells cells numbers numbers 0
  material_none e f = record { few = omega arith; put = λ t some. flaws_same (sym (said_nothing job e f)) (flaws_none 0 cells numbers) }

module _ (job : Job) {cells cells' : List ℕ} {numbers numbers' : List Float} {r : ℕ} where
  pub no_material_put : job.has_material ≡ false → RowPut 0 (row_of NoMaterial) cells cells' numbers numbers' r → MaterialPut job cells cells' numbers numbers' r
  unfolding Good
  no_material_put e p = record { few = omega (arith, p.count); put = λ t some. flaws_same (sym (said_none job e)) (flaws_one NoMaterial p some) }

  pub material_put : job.has_material ≡ true → is_formed job ≡ false → RowPut 0 (row_of Material) cells cells' numbers numbers' r → MaterialPut job cells cells' numbers numbers' r
  unfolding Good
  material_put e f p = record { few = omega (arith, p.count); put = λ t some. flaws_same (sym (said_material job e f)) (flaws_one Material p some) }

-- ---- the ratio
pub ratio_none : (job : Job) → job.has_material ≡ false → one ≡ ratio_of job
unfolding ratio_of
ratio_none job e = rw e refl

pub ratio_some : (job : Job) → job.has_material ≡ true → div binary64 (of_int binary64 (pos job.material.bend_ratio)) (of_bits binary64 0x408f_4000_0000_0000) ≡ ratio_of job
unfolding ratio_of
ratio_some job e = rw e refl
