-- What the rules and the messages take from the job. Definitions only.
use Rattle.std.specs.Prelude.{◌&&◌, cond, List, ℕ, Float}
use Rattle.std.specs.Float.{binary64}
use Rattle.std.specs.Float.Ieee.{of_bits, lt}
use Rattle.math.specs.Vector.{zero}
use Rattle.num_text.specs.Put.{bytes}
use Rattle.file_part.specs.Part.{Part}

-- "DEFAULT_MIN_WALL": the f64 0.8
abbrev pub default_min_wall : Float
default_min_wall = of_bits binary64 0x3fe9_9999_9999_999a

-- the material's, where there is a material and it is above 0. "Material min_wall 0 counts as 0.8"
unfoldable pub min_wall_of : Part → Float
min_wall_of t = cond (t.job.has_material && lt zero t.job.material.min_wall) t.job.material.min_wall default_min_wall

-- the material's name, or what is said where there is no material
unfoldable pub name_or : Part → List ℕ → List ℕ
name_or t other = cond t.job.has_material t.name other

-- dfm.rs's `what`
unfoldable pub work_name : Part → List ℕ
work_name t = name_or t (bytes "a machined part")
