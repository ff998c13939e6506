-- What a job within the rules gives to the layers above: the bounds of each field. Definitions only.
-- A field that is not flagged is zero, so its bounds hold with or without the flag.
use Rattle.std.specs.Prelude.{◌≡◌, Bool, true, false, List, ℕ, ◌+◌, ◌≤◌, ◌<◌, get_or}
use Rattle.std.specs.Float.Ieee.{le}
use Rattle.num_float.specs.Sign.{NonNeg, plus_zero}
use Rattle.num_float.specs.Within.{Within}
use Rattle.file_job.specs.file_field.specs.Field.{u32_at, u64_at}
use Rattle.file_job.specs.file_field.specs.Direction.{Directed}
use Rattle.file_job.specs.declared.Material.{Material}
use Rattle.file_job.specs.declared.PrintSettings.{PrintSettings}
use Rattle.file_job.specs.Job.{job_at}
use Rattle.file_job_ok.specs.Rules.{thousandth, thousand}

-- "up .. a squared length .. from 0.25 to 4"; "layer 0.001 to 1e3; nozzle 0 to 1e3; min_wall, min_hole 0 to 1e4"; an overhang of at most 900 tenths
pub record GoodSettings (p : PrintSettings) : Type 0 where
  pub up_good : Directed p.up
  pub layer_from : le thousandth p.layer ≡ true
  pub layer_to : le p.layer thousand ≡ true
  pub layer_nonneg : NonNeg p.layer
  pub layer_within : Within p.layer 1000
  pub nozzle_nonneg : NonNeg p.nozzle
  pub nozzle_within : Within p.nozzle 1000
  pub nozzle_none : p.has_nozzle ≡ false → p.nozzle ≡ plus_zero
  pub wall_nonneg : NonNeg p.min_wall
  pub wall_within : Within p.min_wall 10000
  pub hole_nonneg : NonNeg p.min_hole
  pub hole_within : Within p.min_hole 10000
  pub overhang_to : p.overhang ≤ 900
  pub overhang_none : p.has_overhang ≡ false → p.overhang ≡ 0

-- "material min_wall within ±1e4; ratio at most 100,000; name 1 to 40 bytes", and "bend ratio, which needs material"
pub record GoodMaterial (flag : Bool) (m : Material) : Type 0 where
  pub wall_within : Within m.min_wall 10000
  pub wall_none : flag ≡ false → m.min_wall ≡ plus_zero
  pub ratio_needs : m.has_bend_ratio ≡ true → flag ≡ true
  pub ratio_to : m.bend_ratio ≤ 100000
  pub ratio_none : m.has_bend_ratio ≡ false → m.bend_ratio ≡ 0
  pub length_to : m.name_length ≤ 40
  pub length_from : flag ≡ true → 1 ≤ m.name_length
  pub length_none : flag ≡ false → m.name_length ≡ 0

-- the name of n bytes at i: "bytes of hexadecimal 20 to 7E", "name bytes past the length are zero bits"
pub record GoodName (s : List ℕ) (i n : ℕ) : Type 0 where
  pub byte_from : (k : ℕ) → k < n → 0x20 ≤ get_or s (i + k) 0
  pub byte_to : (k : ℕ) → k < n → get_or s (i + k) 0 ≤ 0x7e
  pub past : (k : ℕ) → n ≤ k → k < 40 → get_or s (i + k) 0 ≡ 0

-- the job at `at`; its process, flags and class are numbers that it has a meaning for
pub record GoodJob (s : List ℕ) (at : ℕ) : Type 0 where
  pub process_to : u32_at s at ≤ 4
  pub flags_to : u32_at s (at + 4) ≤ 15
  pub class_to : u32_at s (at + 68) ≤ 1
  pub settings : GoodSettings (job_at s at).print
  pub nozzle_bits : (job_at s at).print.has_nozzle ≡ false → u64_at s (at + 40) ≡ 0
  pub the_material : GoodMaterial (job_at s at).has_material (job_at s at).material
  pub the_name : GoodName s (at + 88) (job_at s at).material.name_length
