-- What dfm.rs's `sheet_metal` asks of the material. Definitions only.
use Rattle.std.specs.Prelude.{Bool, true, false, not, ◌&&◌, ◌||◌, cond, List, [], ◌∷◌, pos, Float}
use Rattle.std.specs.Float.{binary64}
use Rattle.std.specs.Float.Ieee.{div, of_int, of_bits}
use Rattle.math.specs.Vector.{one}
use Rattle.file_job.specs.declared.MaterialClass.{MaterialClass}
use Rattle.file_job.specs.declared.MaterialClass.TheVariants.{Metal, Plastic}
use Rattle.file_job.specs.declared.Job.{Job}
use Rattle.fault_row.specs.declared.flaw.Flaw.{Flaw}
use Rattle.fault_row.specs.declared.flaw.Flaw.TheVariants.{NoMaterial, Material}

unfoldable pub is_metal : MaterialClass → Bool
is_metal Metal = true
is_metal Plastic = false

-- `(MaterialClass::Metal, Some(r)) => r`; where there is no material, the check goes on too
unfoldable pub is_formed : Job → Bool
is_formed job = not job.has_material || (is_metal job.material.class && job.material.has_bend_ratio)

-- `ratio`: the material's, "the count divided once .. as f64; so is the bend ratio by 1000"; 1.0 where there is none
unfoldable pub ratio_of : Job → Float
ratio_of job = cond job.has_material (div binary64 (of_int binary64 (pos job.material.bend_ratio)) (of_bits binary64 0x408f_4000_0000_0000)) one

-- `No material`, or `Material`, or nothing
unfoldable pub material_flaws : Job → List Flaw
material_flaws job = cond job.has_material (cond (is_formed job) [] (Material ∷ [])) (NoMaterial ∷ [])
