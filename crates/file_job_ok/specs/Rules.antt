-- When a job is out of document 01's rules (refusal 5). Definitions only. Each test is one sentence.
use Rattle.std.specs.Prelude.{Bool, not, ◌&&◌, ◌||◌, cond, List, ℕ, ◌+◌, eqb, leb, ltb, get_or, Float}
use Rattle.std.specs.Float.{binary64}
use Rattle.std.specs.Float.Ieee.{of_bits, neg}
use Rattle.list_laws.specs.Below.{all_below}
use Rattle.file_job.specs.file_field.specs.Field.{u32_at, u64_at, f64_at, vec_at_of}
use Rattle.file_job.specs.file_field.specs.Test.{in_range, is_direction, ten_thousand}
use Rattle.file_job.specs.Job.{has_flag}

-- the f64 0, 0.001 and 1e3
abbrev pub none : Float
none = of_bits binary64 0

abbrev pub thousandth : Float
thousandth = of_bits binary64 0x3f50_624d_d2f1_a9fc

abbrev pub thousand : Float
thousand = of_bits binary64 0x408f_4000_0000_0000

-- "Unflagged fields .. are zero bits": in its range where the flag is set, and zero bits where it is not
unfoldable pub flagged_real : Bool → List ℕ → ℕ → Float → Float → Bool
flagged_real flag s i lo hi = cond flag (in_range lo (f64_at s i) hi) (eqb (u64_at s i) 0)

unfoldable pub flagged_word : Bool → List ℕ → ℕ → ℕ → ℕ → Bool
flagged_word flag s i lo hi = cond flag (leb lo (u32_at s i) && leb (u32_at s i) hi) (eqb (u32_at s i) 0)

-- ---- process and flags: "0 CNC .. 4 SLS", "other flag bits are zero", "bend ratio, which needs material"
unfoldable pub head_good : List ℕ → ℕ → Bool
head_good s at =
    leb (u32_at s at) 4 && leb (u32_at s (at + 4)) 15 && (has_flag (u32_at s (at + 4)) 1 || not (has_flag (u32_at s (at + 4)) 8))

-- ---- print settings: "layer 0.001 to 1e3; nozzle 0 to 1e3; min_wall, min_hole 0 to 1e4"; the overhang's table ends at 900
unfoldable pub settings_good : List ℕ → ℕ → Bool
settings_good s at =
    is_direction (vec_at_of s (at + 8))
    && in_range thousandth (f64_at s (at + 32)) thousand
    && flagged_real (has_flag (u32_at s (at + 4)) 2) s (at + 40) none thousand
    && in_range none (f64_at s (at + 48)) ten_thousand
    && in_range none (f64_at s (at + 56)) ten_thousand
    && flagged_word (has_flag (u32_at s (at + 4)) 4) s (at + 64) 0 900

-- ---- material: "class (0 metal, 1 plastic)", "ratio at most 100,000", "name 1 to 40 bytes", "material min_wall within ±1e4"
unfoldable pub material_good : List ℕ → ℕ → Bool
material_good s at =
    flagged_word (has_flag (u32_at s (at + 4)) 1) s (at + 68) 0 1
    && flagged_word (has_flag (u32_at s (at + 4)) 8) s (at + 72) 0 100000
    && flagged_word (has_flag (u32_at s (at + 4)) 1) s (at + 76) 1 40
    && flagged_real (has_flag (u32_at s (at + 4)) 1) s (at + 80) (neg ten_thousand) ten_thousand

-- ---- name: "bytes of hexadecimal 20 to 7E", "name bytes past the length are zero bits"
unfoldable pub name_byte_good : ℕ → ℕ → ℕ → Bool
name_byte_good k length b = cond (ltb k length) (leb 0x20 b && leb b 0x7e) (eqb b 0)

unfoldable pub name_good : List ℕ → ℕ → Bool
name_good s at = all_below 40 (λ k. name_byte_good k (u32_at s (at + 76)) (get_or s (at + 88 + k) 0))

-- refusal 5 is its contrary
unfoldable pub job_good : List ℕ → ℕ → Bool
job_good s at = head_good s at && settings_good s at && material_good s at && name_good s at
