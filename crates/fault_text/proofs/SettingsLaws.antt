-- What printing takes from the job of an accepted file are numbers that are printed.
use mathlib.Core.Path.{◌≡◌, refl, sym, subst}
use mathlib.Core.Bool.{true}
use mathlib.Core.List.{List}
use Prim.Native.Nat.{ℕ, ◌≤◌}
use native.Mathlib.Omega.{arith}
use lib.IntN.{pos}
use lib.Dec.{lit≤, lit<}
use lib.Ieee.{binary64, of_int, of_bits, le, lt, eq}
use Rattle.num_float.specs.Sign.{NonNeg, plus_zero}
use Rattle.num_float.specs.Within.{Within, Beyond}
use Rattle.num_float.proofs.Within.{held_small, mul_within, div_within, whole_within}
use Rattle.num_float.proofs.Sign.{mul_nonneg, div_nonneg, whole_nonneg}
use Rattle.num_text.specs.Decimal.{accepted}
use Rattle.num_text.proofs.NeverRefused.{accepted_at}
use Rattle.file_job.specs.declared.Job.{Job}
use Rattle.file_job_ok.specs.Good.{GoodSettings}
use Rattle.file_part.specs.Part.{part_of}
use Rattle.file_part.proofs.PartLaws.{part_job}
use Rattle.file_ok.proofs.ReadableLaws.{readable_job}
use Rattle.solid_faces.specs.Faces.{Checked}
use Rattle.solid_faces.proofs.BodyLaws.{checked_readable}
use Rattle.fault_text.specs.Printing.{two_layers, limit_of}

pub settings_good_lem : (s : List ℕ) → Checked s → GoodSettings (part_of s).job.print
settings_good_lem s h = subst (λ (j : Job). GoodSettings j.print) (sym (part_job s)) (readable_job s (checked_readable s h)).settings

pub layer_accepted : (s : List ℕ) → Checked s → accepted (part_of s).job.print.layer 2 ≡ true
layer_accepted s h =
    let g = settings_good_lem s h in
    accepted_at _ 1000 2 g.layer_nonneg g.layer_within (lit< tt) (omega arith)

pub nozzle_accepted : (s : List ℕ) → Checked s → accepted (part_of s).job.print.nozzle 2 ≡ true
nozzle_accepted s h =
    let g = settings_good_lem s h in
    accepted_at _ 1000 2 g.nozzle_nonneg g.nozzle_within (lit< tt) (omega arith)

pub print_wall_accepted : (s : List ℕ) → Checked s → accepted (part_of s).job.print.min_wall 2 ≡ true
print_wall_accepted s h =
    let g = settings_good_lem s h in
    accepted_at _ 10000 2 g.wall_nonneg g.wall_within (lit< tt) (omega arith)

pub print_hole_accepted : (s : List ℕ) → Checked s → accepted (part_of s).job.print.min_hole 2 ≡ true
print_hole_accepted s h =
    let g = settings_good_lem s h in
    accepted_at _ 10000 2 g.hole_nonneg g.hole_within (lit< tt) (omega arith)

-- ---- two layers
two_within : Within (of_bits binary64 0x4000_0000_0000_0000) 2
unfolding of_bits
two_within = record { is_finite = tt; size = lit≤ tt }

two_nonneg : NonNeg (of_bits binary64 0x4000_0000_0000_0000)
unfolding of_bits le
two_nonneg = refl

pub two_layers_accepted : (s : List ℕ) → Checked s → accepted (two_layers (part_of s).job.print.layer) 2 ≡ true
unfolding two_layers
two_layers_accepted s h =
    let g = settings_good_lem s h in
    let w = mul_within _ _ 2 1000 2000 two_within g.layer_within (omega arith) (held_small 2000 (lit< tt)) in
    accepted_at _ 2000 2 (mul_nonneg _ _ two_within.is_finite g.layer_within.is_finite two_nonneg g.layer_nonneg) w (lit< tt) (omega arith)

-- ---- the limit of overhangs: at most 900 tenths
ten_beyond : Beyond (of_bits binary64 0x4024_0000_0000_0000) 1
unfolding of_bits
ten_beyond = record { is_finite = tt; size = lit≤ tt }

ten_above : lt plus_zero (of_bits binary64 0x4024_0000_0000_0000) ≡ true
unfolding of_bits le lt eq
ten_above = refl

tenths_accepted : (n : ℕ) → n ≤ 900 → accepted (limit_of n) 0 ≡ true
unfolding limit_of
tenths_accepted n k =
    let x = whole_within n (omega (arith, k)) in
    let w = div_within (of_int binary64 (pos n)) (of_bits binary64 0x4024_0000_0000_0000) n 1 900 x ten_beyond (omega arith) (held_small 900 (lit< tt)) in
    accepted_at _ 900 0 (div_nonneg _ _ x.is_finite ten_beyond.is_finite (whole_nonneg n) ten_above) w (lit< tt) (omega arith)

pub limit_accepted : (s : List ℕ) → Checked s → accepted (limit_of (part_of s).job.print.overhang) 0 ≡ true
limit_accepted s h = tenths_accepted (part_of s).job.print.overhang (settings_good_lem s h).overhang_to
