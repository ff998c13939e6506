-- The job of a part file, read from its 128 bytes, and the default print settings. Definitions only.
-- u32 process, flags; f64 up (3), layer, nozzle, min_wall, min_hole; u32 overhang tenths, class, bend ratio in thousandths, name length;
-- f64 material min_wall; 40 name bytes: at 0, 4, 8, 32, 40, 48, 56, 64, 68, 72, 76, 80 and 88.
use Rattle.std.specs.Prelude.{Bool, true, false, cond, List, ℕ, ◌+◌, ◌/◌, ◌%◌, take, drop, eqb}
use Rattle.std.specs.Float.{binary64}
use Rattle.std.specs.Float.Ieee.{of_bits}
use Rattle.file_field.specs.math.specs.Vector.{y_vec}
use Rattle.file_field.specs.Field.{u32_at, f64_at, vec_at_of}
use Rattle.file_job.specs.declared.Process.{Process}
use Rattle.file_job.specs.declared.Process.TheVariants.{CncMachining, SheetMetal, Fdm, Sla, Sls}
use Rattle.file_job.specs.declared.MaterialClass.{MaterialClass}
use Rattle.file_job.specs.declared.MaterialClass.TheVariants.{Metal, Plastic}
use Rattle.file_job.specs.declared.Material.{Material}
use Rattle.file_job.specs.declared.PrintSettings.{PrintSettings}
use Rattle.file_job.specs.declared.Job.{Job}

-- "process (0 CNC, 1 sheet, 2 FDM, 3 SLA, 4 SLS)"
unfoldable pub process_of : ℕ → Process
process_of n = cond (eqb n 0) CncMachining (cond (eqb n 1) SheetMetal (cond (eqb n 2) Fdm (cond (eqb n 3) Sla Sls)))

-- "class (0 metal, 1 plastic)"
unfoldable pub class_of : ℕ → MaterialClass
class_of n = cond (eqb n 0) Metal Plastic

-- "flags (1 material, 2 nozzle, 4 overhang, 8 bend ratio, which needs material)"
unfoldable pub has_flag : ℕ → ℕ → Bool
has_flag flags flag = eqb (flags / flag % 2) 1

unfoldable pub settings_at : List ℕ → ℕ → PrintSettings
settings_at s at = record {
  up = vec_at_of s (at + 8);
  layer = f64_at s (at + 32);
  has_nozzle = has_flag (u32_at s (at + 4)) 2;
  nozzle = f64_at s (at + 40);
  min_wall = f64_at s (at + 48);
  min_hole = f64_at s (at + 56);
  has_overhang = has_flag (u32_at s (at + 4)) 4;
  overhang = u32_at s (at + 64);
}

unfoldable pub material_at : List ℕ → ℕ → Material
material_at s at = record {
  class = class_of (u32_at s (at + 68));
  min_wall = f64_at s (at + 80);
  has_bend_ratio = has_flag (u32_at s (at + 4)) 8;
  bend_ratio = u32_at s (at + 72);
  name_length = u32_at s (at + 76);
}

unfoldable pub job_at : List ℕ → ℕ → Job
job_at s at = record {
  process = process_of (u32_at s at);
  print = settings_at s at;
  has_material = has_flag (u32_at s (at + 4)) 1;
  material = material_at s at;
}

-- the material's name
unfoldable pub name_at : List ℕ → ℕ → List ℕ
name_at s at = take (u32_at s (at + 76)) (drop (at + 88) s)

-- ---- "The defaults of each process follow `PrintSettings::defaults`"; an overhang of 60 degrees is 600 tenths
-- the f64 0.05, 0.1, 0.2, 0.4, 0.5, 0.8, 1.5 and 2
unfoldable pub sla_settings : PrintSettings
sla_settings = record {
  up = y_vec;
  layer = of_bits binary64 0x3fa9_9999_9999_999a;
  has_nozzle = false;
  nozzle = of_bits binary64 0;
  min_wall = of_bits binary64 0x3fe0_0000_0000_0000;
  min_hole = of_bits binary64 0x3fe0_0000_0000_0000;
  has_overhang = true;
  overhang = 600;
}

unfoldable pub sls_settings : PrintSettings
sls_settings = record {
  up = y_vec;
  layer = of_bits binary64 0x3fb9_9999_9999_999a;
  has_nozzle = false;
  nozzle = of_bits binary64 0;
  min_wall = of_bits binary64 0x3fe9_9999_9999_999a;
  min_hole = of_bits binary64 0x3ff8_0000_0000_0000;
  has_overhang = false;
  overhang = 0;
}

unfoldable pub fdm_settings : PrintSettings
fdm_settings = record {
  up = y_vec;
  layer = of_bits binary64 0x3fc9_9999_9999_999a;
  has_nozzle = true;
  nozzle = of_bits binary64 0x3fd9_9999_9999_999a;
  min_wall = of_bits binary64 0x3fe9_9999_9999_999a;
  min_hole = of_bits binary64 0x4000_0000_0000_0000;
  has_overhang = true;
  overhang = 450;
}

-- machining and sheet metal have the settings of FDM, and no use for them
unfoldable pub defaults_of : Process → PrintSettings
defaults_of CncMachining = fdm_settings
defaults_of SheetMetal = fdm_settings
defaults_of Fdm = fdm_settings
defaults_of Sla = sla_settings
defaults_of Sls = sls_settings
