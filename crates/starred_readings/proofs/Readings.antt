-- The readings at the edge of document 01 that are marked as proved, and those of lengths in document 02, each a theorem about the meaning itself,
-- computed.
-- A float is written fin s m e: m * 2 ^ e, negative where s is true; negsuc k is -(k + 1). So 0.125 is fin false 1 (negsuc 2).
use mathlib.Core.Path.{◌≡◌, refl}
use mathlib.Core.Bool.{true, false}
use mathlib.Core.List.{[], ◌∷◌}
use Prim.Native.Nat.{ℕ}
use lib.IntN.{pos, negsuc}
use lib.Ieee.{fin, binary64, mul, le, lt, eq, to_bits, of_bits}
use Rattle.num_root.specs.Root.{root}
use Rattle.num_text.specs.Decimal.{text, accepted, decimal_text}
use Rattle.num_text.specs.Put.{bytes}
use Rattle.file_part.specs.Part.{Part}
use Rattle.solid_ids.specs.Ids.{id_of}
use Rattle.round_all.specs.declared.round.Round.{Round}
use Rattle.measure_sizes.specs.Round.{ratio_of}
use Rattle.fault_row.specs.declared.fault.Severity.TheVariants.{Error, Warning, Note}
use Rattle.fault_row.specs.declared.fault.Rule.TheVariants.{DeepHole, ThinWall}
use Rattle.fault_row.specs.Fault.{fault}
use Rattle.fault_text.specs.Job.{default_min_wall, min_wall_of}
use Rattle.fault_text.specs.Text.{mm_places, mm}
use Rattle.fault_text.specs.Machining.{thin_wall_text, deep_hole_standard_text}
use Rattle.fault_text.specs.Told.{told, told_all}
use Rattle.fault_text.proofs.JobLaws.{min_wall_zero}
use Rattle.rule_machining.specs.Machining.{wall_severity, wall_flaw, deep_holes}

-- ---- decimals
-- 0.125 to two places is 0.12
pub eighth : text (fin false 1 (negsuc 2)) 2 ≡ bytes "0.12"
unfolding text
eighth = refl

-- 0.375 is 0.38
pub three_eighths : text (fin false 3 (negsuc 2)) 2 ≡ bytes "0.38"
unfolding text
three_eighths = refl

-- 0.25 to one is 0.2
pub quarter : text (fin false 1 (negsuc 1)) 1 ≡ bytes "0.2"
unfolding text
quarter = refl

-- 2.5 to none is 2
pub two_and_a_half : text (fin false 5 (negsuc 0)) 0 ≡ bytes "2"
unfolding text
two_and_a_half = refl

-- the f64 of 1.005 to two is 1.00
pub below_half : text (of_bits binary64 0x3FF0147AE147AE14) 2 ≡ bytes "1.00"
unfolding text of_bits
below_half = refl

-- minus zero prints as zero
pub minus_zero_text : text (fin true 0 (pos 0)) 2 ≡ bytes "0.00"
unfolding text
minus_zero_text = refl

-- ---- lengths: "A length below 0.1 mm is written with three decimals in every message; 0.1 and above keep two" (document 02, item 2)
-- 0.1 has two
pub length_tenth : mm (of_bits binary64 0x3FB999999999999A) ≡ bytes "0.10 mm"
unfolding mm mm_places decimal_text accepted text of_bits le lt eq
length_tenth = refl

-- the next f64 below three: "tested on the f64 before rounding"
pub length_below_tenth : mm (of_bits binary64 0x3FB9999999999999) ≡ bytes "0.100 mm"
unfolding mm mm_places decimal_text accepted text of_bits le lt eq
length_below_tenth = refl

-- the layers of resin: 0.025 and 0.03 no longer look equal
pub length_of_25 : mm (of_bits binary64 0x3F9999999999999A) ≡ bytes "0.025 mm"
unfolding mm mm_places decimal_text accepted text of_bits le lt eq
length_of_25 = refl

pub length_of_30 : mm (of_bits binary64 0x3F9EB851EB851EB8) ≡ bytes "0.030 mm"
unfolding mm mm_places decimal_text accepted text of_bits le lt eq
length_of_30 = refl

-- "a gap of zero, of either sign, now prints 0.000"
pub length_zero : mm (fin false 0 (pos 0)) ≡ bytes "0.000 mm"
unfolding mm mm_places decimal_text accepted text of_bits le lt eq
length_zero = refl

pub length_minus_zero : mm (fin true 0 (pos 0)) ≡ bytes "0.000 mm"
unfolding mm mm_places decimal_text accepted text of_bits le lt eq
length_minus_zero = refl

-- ---- roots
-- the root of 4 is 2
pub root_of_four : root (fin false 1 (pos 2)) ≡ fin false 1 (pos 1)
unfolding root
root_of_four = refl

-- of 2 is hexadecimal 3FF6A09E667F3BCD
pub root_of_two : to_bits binary64 (root (fin false 1 (pos 1))) ≡ 0x3FF6A09E667F3BCD
unfolding root to_bits
root_of_two = refl

-- of minus zero is minus zero
pub root_of_minus_zero : root (fin true 0 (pos 0)) ≡ fin true 0 (pos 0)
unfolding root
root_of_minus_zero = refl

-- ---- CNC minimum 0.8
-- 0.4 is a Warning
pub wall_at_half : (t : Part) (f g : ℕ) → min_wall_of t ≡ default_min_wall → told_all t (wall_flaw t f g (of_bits binary64 0x3FD999999999999A)) ≡
    fault Warning ThinWall (thin_wall_text t (of_bits binary64 0x3FD999999999999A)) (id_of t f ∷ id_of t g ∷ []) ∷ []
unfolding wall_flaw wall_severity told_all told
wall_at_half t f g e = rw e (unfold lt mul of_bits in refl)

-- the next f64 below an Error
pub wall_below_half : (t : Part) (f g : ℕ) → min_wall_of t ≡ default_min_wall → told_all t (wall_flaw t f g (of_bits binary64 0x3FD9999999999999)) ≡
    fault Error ThinWall (thin_wall_text t (of_bits binary64 0x3FD9999999999999)) (id_of t f ∷ id_of t g ∷ []) ∷ []
unfolding wall_flaw wall_severity told_all told
wall_below_half t f g e = rw e (unfold lt mul of_bits in refl)

-- 0.8 gives none
pub wall_at_minimum : (t : Part) (f g : ℕ) → min_wall_of t ≡ default_min_wall → wall_flaw t f g (of_bits binary64 0x3FE999999999999A) ≡ []
unfolding wall_flaw
wall_at_minimum t f g e = rw e (unfold lt of_bits in refl)

-- material min_wall 0 counts as 0.8
pub min_wall_of_zero : (t : Part) → t.job.material.min_wall ≡ of_bits binary64 0 → min_wall_of t ≡ of_bits binary64 0x3FE999999999999A
min_wall_of_zero t e = min_wall_zero t e

-- ---- hole length over diameter
-- 10 is a Note
pub hole_ten_deep : (t : Part) (r : Round) → ratio_of r ≡ of_bits binary64 0x4024000000000000 → told_all t (deep_holes r) ≡
    fault Note DeepHole (deep_hole_standard_text (of_bits binary64 0x4024000000000000)) (id_of t r.face ∷ []) ∷ []
unfolding deep_holes told_all told
hole_ten_deep t r e = rw e (unfold lt of_bits in refl)

-- 4 none
pub hole_four_deep : (r : Round) → ratio_of r ≡ of_bits binary64 0x4010000000000000 → deep_holes r ≡ []
unfolding deep_holes
hole_four_deep r e = rw e (unfold lt of_bits in refl)
