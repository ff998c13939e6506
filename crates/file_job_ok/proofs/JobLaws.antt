-- What a job within the rules has: each part of the test, as the bounds of a field.
use mathlib.Core.Path.{◌≡◌, refl, sym, ap, ◌∙◌, subst}
use mathlib.Core.Bool.{Bool, true, false, not, ◌&&◌, ◌||◌, cond}
use mathlib.Core.List.{List}
use Prim.Native.Nat.{ℕ, ◌+◌, ◌≤◌, ◌<◌}
use native.Mathlib.Omega.{arith}
use lib.Dec.{leb, eqb, lit≤}
use lib.ListN.{get_or}
use lib.Ieee.{Float, binary64, of_bits, neg, le}
use borrow.Author.Tests.{lt-ltb, le-ltb, leb-true, eqb-true}
use Rattle.num_float.specs.Sign.{NonNeg, plus_zero}
use Rattle.num_float.specs.Within.{Within}
use Rattle.num_float.proofs.Tests.{contrary, and_left, and_right}
use Rattle.num_float.proofs.Within.{wider, neg_within}
use Rattle.list_laws.proofs.Below.{all_each}
use Rattle.file_job.specs.file_field.specs.Field.{u32_at, u64_at, f64_at, vec_at_of}
use Rattle.file_job.specs.file_field.specs.Test.{in_range, is_direction, ten_thousand}
use Rattle.file_job.specs.file_field.proofs.FieldLaws.{in_range_from, in_range_to, in_range_within, in_range_nonneg, directed, ten_thousand_within}
use Rattle.file_job.specs.Job.{has_flag, settings_at, material_at, job_at}
use Rattle.file_job_ok.specs.Rules.{none, thousandth, thousand, flagged_real, flagged_word, head_good, settings_good, material_good, name_byte_good, name_good, job_good}
use Rattle.file_job_ok.specs.Good.{GoodSettings, GoodMaterial, GoodName, GoodJob}

-- ---- the ends of the ranges
none_within : Within none 0
unfolding of_bits
none_within = record { is_finite = tt; size = lit≤ tt }

none_nonneg : NonNeg none
unfolding of_bits le
none_nonneg = refl

thousandth_within : Within thousandth 1
unfolding of_bits
thousandth_within = record { is_finite = tt; size = lit≤ tt }

thousandth_nonneg : NonNeg thousandth
unfolding of_bits le
thousandth_nonneg = refl

thousand_within : Within thousand 1000
unfolding of_bits
thousand_within = record { is_finite = tt; size = lit≤ tt }

zero_to : (b : ℕ) → Within none b
zero_to b = wider b (omega arith) none_within

-- ---- a field with a flag
real_bits : (flag : Bool) (s : List ℕ) (i : ℕ) (lo hi : Float) → flagged_real flag s i lo hi ≡ true → flag ≡ false → u64_at s i ≡ 0
unfolding flagged_real
real_bits true s i lo hi h f = absurd (contrary refl f)
real_bits false s i lo hi h f = eqb-true (u64_at s i) 0 h

real_none : (flag : Bool) (s : List ℕ) (i : ℕ) (lo hi : Float) → flagged_real flag s i lo hi ≡ true → flag ≡ false → f64_at s i ≡ plus_zero
unfolding f64_at
real_none flag s i lo hi h f = ap (of_bits binary64) (real_bits flag s i lo hi h f)

-- what holds of the range and of 0.0 holds of the field
real_has :
    (P : Float → Type 0) (flag : Bool) (s : List ℕ) (i : ℕ) (lo hi : Float) →
    flagged_real flag s i lo hi ≡ true →
    (in_range lo (f64_at s i) hi ≡ true → P (f64_at s i)) →
    P plus_zero →
    P (f64_at s i)
unfolding flagged_real
real_has P true s i lo hi h in_range_lem at_zero = in_range_lem h
real_has P false s i lo hi h in_range_lem at_zero = subst P (sym (real_none false s i lo hi h refl)) at_zero

word_none : (flag : Bool) (s : List ℕ) (i lo hi : ℕ) → flagged_word flag s i lo hi ≡ true → flag ≡ false → u32_at s i ≡ 0
unfolding flagged_word
word_none true s i lo hi h f = absurd (contrary refl f)
word_none false s i lo hi h f = eqb-true (u32_at s i) 0 h

word_from : (flag : Bool) (s : List ℕ) (i lo hi : ℕ) → flagged_word flag s i lo hi ≡ true → flag ≡ true → lo ≤ u32_at s i
unfolding flagged_word
word_from true s i lo hi h f = leb-true lo (u32_at s i) (and_left _ _ h)
word_from false s i lo hi h f = absurd (contrary f refl)

word_to : (flag : Bool) (s : List ℕ) (i lo hi : ℕ) → flagged_word flag s i lo hi ≡ true → u32_at s i ≤ hi
unfolding flagged_word
word_to true s i lo hi h = leb-true (u32_at s i) hi (and_right (leb lo (u32_at s i)) _ h)
word_to false s i lo hi h = omega (arith, eqb-true (u32_at s i) 0 h)

-- ---- tests joined by `and`, and "bend ratio, which needs material"
three : (a b c : Bool) → (a && b && c) ≡ true → (a ≡ true) × (b ≡ true) × (c ≡ true)
three a b c h = (and_left a b (and_left (a && b) c h), and_right a b (and_left (a && b) c h), and_right (a && b) c h)

four : (a b c d : Bool) → (a && b && c && d) ≡ true → (a ≡ true) × (b ≡ true) × (c ≡ true) × (d ≡ true)
four a b c d h =
    let p = three a b c (and_left (a && b && c) d h) in
    (p.0, p.1, p.2, and_right (a && b && c) d h)

six :
    (a b c d e f : Bool) →
    (a && b && c && d && e && f) ≡ true →
    (a ≡ true) × (b ≡ true) × (c ≡ true) × (d ≡ true) × (e ≡ true) × (f ≡ true)
six a b c d e f h =
    let most = and_left (a && b && c && d && e) f h in
    let p = four a b c d (and_left (a && b && c && d) e most) in
    (p.0, p.1, p.2, p.3, and_right (a && b && c && d) e most, and_right (a && b && c && d && e) f h)

first_needed : (a b : Bool) → (a || not b) ≡ true → b ≡ true → a ≡ true
first_needed true b h e = refl
first_needed false true h e = h
first_needed false false h e = e

-- ---- the tests that a part of the job has passed
head_parts :
    (s : List ℕ) (at : ℕ) →
    head_good s at ≡ true →
    (leb (u32_at s at) 4 ≡ true) × (leb (u32_at s (at + 4)) 15 ≡ true) × ((has_flag (u32_at s (at + 4)) 1 || not (has_flag (u32_at s (at + 4)) 8)) ≡ true)
unfolding head_good
head_parts s at h = three _ _ _ h

settings_parts :
    (s : List ℕ) (at : ℕ) →
    settings_good s at ≡ true →
    (is_direction (vec_at_of s (at + 8)) ≡ true)
    × (in_range thousandth (f64_at s (at + 32)) thousand ≡ true)
    × (flagged_real (has_flag (u32_at s (at + 4)) 2) s (at + 40) none thousand ≡ true)
    × (in_range none (f64_at s (at + 48)) ten_thousand ≡ true)
    × (in_range none (f64_at s (at + 56)) ten_thousand ≡ true)
    × (flagged_word (has_flag (u32_at s (at + 4)) 4) s (at + 64) 0 900 ≡ true)
unfolding settings_good
settings_parts s at h = six _ _ _ _ _ _ h

material_parts :
    (s : List ℕ) (at : ℕ) →
    material_good s at ≡ true →
    (flagged_word (has_flag (u32_at s (at + 4)) 1) s (at + 68) 0 1 ≡ true)
    × (flagged_word (has_flag (u32_at s (at + 4)) 8) s (at + 72) 0 100000 ≡ true)
    × (flagged_word (has_flag (u32_at s (at + 4)) 1) s (at + 76) 1 40 ≡ true)
    × (flagged_real (has_flag (u32_at s (at + 4)) 1) s (at + 80) (neg ten_thousand) ten_thousand ≡ true)
unfolding material_good
material_parts s at h = four _ _ _ _ h

-- ---- the parts of a job
-- a size that may not be negative
size_nonneg : (x hi : Float) → in_range none x hi ≡ true → NonNeg x
size_nonneg x hi h = in_range_nonneg none x hi h none_nonneg

size_within : (x : Float) → in_range none x ten_thousand ≡ true → Within x 10000
size_within x h = in_range_within none x ten_thousand 10000 h (zero_to 10000) ten_thousand_within

good_settings : (s : List ℕ) (at : ℕ) → settings_good s at ≡ true → GoodSettings (settings_at s at)
unfolding settings_at
good_settings s at h =
    let p = settings_parts s at h in
    let nozzle-flag = has_flag (u32_at s (at + 4)) 2 in
    let overhang-flag = has_flag (u32_at s (at + 4)) 4 in
    let nozzle = f64_at s (at + 40) in
    record {
      up_good = directed (vec_at_of s (at + 8)) p.0;
      layer_from = in_range_from thousandth (f64_at s (at + 32)) thousand p.1;
      layer_to = in_range_to thousandth (f64_at s (at + 32)) thousand p.1;
      layer_nonneg = in_range_nonneg thousandth (f64_at s (at + 32)) thousand p.1 thousandth_nonneg;
      layer_within = in_range_within thousandth (f64_at s (at + 32)) thousand 1000 p.1 (wider 1000 (omega arith) thousandth_within) thousand_within;
      nozzle_nonneg = real_has NonNeg nozzle-flag s (at + 40) none thousand p.2 (size_nonneg nozzle thousand) none_nonneg;
      nozzle_within =
          real_has (λ x. Within x 1000) nozzle-flag s (at + 40) none thousand p.2
          (λ r. in_range_within none nozzle thousand 1000 r (zero_to 1000) thousand_within) (zero_to 1000);
      nozzle_none = real_none nozzle-flag s (at + 40) none thousand p.2;
      wall_nonneg = size_nonneg (f64_at s (at + 48)) ten_thousand p.3;
      wall_within = size_within (f64_at s (at + 48)) p.3;
      hole_nonneg = size_nonneg (f64_at s (at + 56)) ten_thousand p.4;
      hole_within = size_within (f64_at s (at + 56)) p.4;
      overhang_to = word_to overhang-flag s (at + 64) 0 900 p.5;
      overhang_none = word_none overhang-flag s (at + 64) 0 900 p.5;
    }

nozzle_bits : (s : List ℕ) (at : ℕ) → settings_good s at ≡ true → (settings_at s at).has_nozzle ≡ false → u64_at s (at + 40) ≡ 0
unfolding settings_at
nozzle_bits s at h = real_bits (has_flag (u32_at s (at + 4)) 2) s (at + 40) none thousand (settings_parts s at h).2

good_material : (s : List ℕ) (at : ℕ) → head_good s at ≡ true → material_good s at ≡ true → GoodMaterial (has_flag (u32_at s (at + 4)) 1) (material_at s at)
unfolding material_at
good_material s at g h =
    let p = material_parts s at h in
    let flag = has_flag (u32_at s (at + 4)) 1 in
    let ratio-flag = has_flag (u32_at s (at + 4)) 8 in
    let wall = f64_at s (at + 80) in
    record {
      wall_within =
          real_has (λ x. Within x 10000) flag s (at + 80) (neg ten_thousand) ten_thousand p.3
          (λ r. in_range_within (neg ten_thousand) wall ten_thousand 10000 r (neg_within ten_thousand 10000 ten_thousand_within) ten_thousand_within)
          (zero_to 10000);
      wall_none = real_none flag s (at + 80) (neg ten_thousand) ten_thousand p.3;
      ratio_needs = first_needed flag ratio-flag (head_parts s at g).2;
      ratio_to = word_to ratio-flag s (at + 72) 0 100000 p.1;
      ratio_none = word_none ratio-flag s (at + 72) 0 100000 p.1;
      length_to = word_to flag s (at + 76) 1 40 p.2;
      length_from = word_from flag s (at + 76) 1 40 p.2;
      length_none = word_none flag s (at + 76) 1 40 p.2;
    }

class_to : (s : List ℕ) (at : ℕ) → material_good s at ≡ true → u32_at s (at + 68) ≤ 1
class_to s at h = word_to (has_flag (u32_at s (at + 4)) 1) s (at + 68) 0 1 (material_parts s at h).0

-- ---- the name
byte_bounds : (k n b : ℕ) → name_byte_good k n b ≡ true → k < n → (0x20 ≤ b) × (b ≤ 0x7e)
unfolding name_byte_good
byte_bounds k n b h l = (leb-true 0x20 b (and_left _ _ told), leb-true b 0x7e (and_right (leb 0x20 b) _ told))
  where
    told : (leb 0x20 b && leb b 0x7e) ≡ true
    told = ap (λ (t : Bool). cond t (leb 0x20 b && leb b 0x7e) (eqb b 0)) (sym (lt-ltb k n l)) ∙ h

byte_past : (k n b : ℕ) → name_byte_good k n b ≡ true → n ≤ k → b ≡ 0
unfolding name_byte_good
byte_past k n b h l = eqb-true b 0 (ap (λ (t : Bool). cond t (leb 0x20 b && leb b 0x7e) (eqb b 0)) (sym (le-ltb k n l)) ∙ h)

name_byte : (s : List ℕ) (at k : ℕ) → name_good s at ≡ true → k < 40 → name_byte_good k (u32_at s (at + 76)) (get_or s (at + 88 + k) 0) ≡ true
unfolding name_good
name_byte s at k h l = all_each 40 _ h k l

good_name : (s : List ℕ) (at : ℕ) → u32_at s (at + 76) ≤ 40 → name_good s at ≡ true → GoodName s (at + 88) (u32_at s (at + 76))
good_name s at to h = record {
  byte_from = λ k l. (byte_bounds k _ _ (name_byte s at k h (omega (arith, to, l))) l).0;
  byte_to = λ k l. (byte_bounds k _ _ (name_byte s at k h (omega (arith, to, l))) l).1;
  past = λ k l m. byte_past k _ _ (name_byte s at k h m) l;
}

-- ---- the whole job
head_to : (s : List ℕ) (at : ℕ) → head_good s at ≡ true → (u32_at s at ≤ 4) × (u32_at s (at + 4) ≤ 15)
head_to s at h = (leb-true (u32_at s at) 4 (head_parts s at h).0, leb-true (u32_at s (at + 4)) 15 (head_parts s at h).1)

pub good_job : (s : List ℕ) (at : ℕ) → job_good s at ≡ true → GoodJob s at
unfolding job_good job_at settings_at material_at
good_job s at h =
    let p = four (head_good s at) (settings_good s at) (material_good s at) (name_good s at) h in
    let material = good_material s at p.0 p.2 in
    record {
      process_to = (head_to s at p.0).0;
      flags_to = (head_to s at p.0).1;
      class_to = class_to s at p.2;
      settings = good_settings s at p.1;
      nozzle_bits = nozzle_bits s at p.1;
      the_material = material;
      the_name = good_name s at material.length_to p.3;
    }
