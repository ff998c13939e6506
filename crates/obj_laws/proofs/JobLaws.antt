-- The job of a part file, read from the 128 bytes that were given.
use mathlib.Core.Path.{◌≡◌, refl, sym, ap, ◌∙◌}
use mathlib.Core.Bool.{Bool, true, ◌&&◌}
use mathlib.Core.List.{List, ◌++◌}
use Prim.Native.Nat.{ℕ, zero, suc, ◌+◌, ◌≤◌, ◌<◌}
use native.Mathlib.Nat.{le_trans, add-zero, add_assoc}
use native.Mathlib.Omega.{arith}
use lib.ListN.{length, take, drop, get_or, length-drop, get_or-append}
use lib.Seq.{get_or-drop, drop-drop, take-append-le, drop-append-le}
use lib.Ieee.{binary64, of_bits}
use Rattle.list_laws.specs.Below.{all_below}
use Rattle.file_field.specs.Field.{u32_at, u64_at, f64_at, vec_at_of}
use Rattle.file_job.specs.Job.{settings_at, material_at, job_at, name_at}
use Rattle.file_job_ok.specs.Rules.{flagged_real, flagged_word, head_good, settings_good, material_good, name_byte_good, name_good, job_good}
use Rattle.file_job_ok.proofs.JobLaws.{good_job}

-- ---- tests that agree below n
pub all_same : (n : ℕ) (f g : ℕ → Bool) → ((i : ℕ) → i < n → f i ≡ g i) → all_below n f ≡ all_below n g
unfolding all_below
all_same zero f g h = refl
all_same (suc n) f g h =
    ap (λ (b : Bool). b && f n) (all_same n f g (λ i l. h i (omega (arith, l)))) ∙ ap (λ (b : Bool). all_below n g && b) (h n (omega arith))

-- ---- the fields of a job that stands at a place
module _ (s job rest : List ℕ) (at : ℕ) (L : length job ≡ 128) (E : drop at s ≡ job ++ rest) where
  byte : (k : ℕ) → k < 128 → get_or s (at + k) 0 ≡ get_or job k 0
  byte k h = sym (get_or-drop at s k 0) ∙ ap (λ (l : List ℕ). get_or l k 0) E ∙ get_or-append job rest 0 k (omega (arith, h, L))

  byte_after : (i k : ℕ) → i + k < 128 → get_or s (at + i + k) 0 ≡ get_or job (i + k) 0
  byte_after i k h = ap (λ (n : ℕ). get_or s n 0) (add_assoc at i k) ∙ byte (i + k) h

  u32_in : (k : ℕ) → k + 3 < 128 → u32_at s (at + k) ≡ u32_at job k
  unfolding u32_at
  u32_in k h = rw (byte k (omega (arith, h)), byte_after k 1 (omega (arith, h)), byte_after k 2 (omega (arith, h)), byte_after k 3 h)

  u64_in : (k : ℕ) → k + 7 < 128 → u64_at s (at + k) ≡ u64_at job k
  unfolding u64_at
  u64_in k h = rw (u32_in k (omega (arith, h)), add_assoc at k 4, u32_in (k + 4) (omega (arith, h)))

  f64_in : (k : ℕ) → k + 7 < 128 → f64_at s (at + k) ≡ f64_at job k
  unfolding f64_at
  f64_in k h = ap (of_bits binary64) (u64_in k h)

  vec_in : (k : ℕ) → k + 23 < 128 → vec_at_of s (at + k) ≡ vec_at_of job k
  unfolding vec_at_of
  vec_in k h = rw (f64_in k (omega (arith, h)), add_assoc at k 8, f64_in (k + 8) (omega (arith, h)), add_assoc at k 16, f64_in (k + 16) (omega (arith, h)))

  process_in : u32_at s at ≡ u32_at job 0
  process_in = ap (u32_at s) (sym (add-zero at)) ∙ u32_in 0 (omega arith)

  -- ---- the job
  settings_in : settings_at s at ≡ settings_at job 0
  unfolding settings_at
  settings_in =
      rw (vec_in 8 (omega arith), f64_in 32 (omega arith), u32_in 4 (omega arith), f64_in 40 (omega arith), f64_in 48 (omega arith), f64_in 56 (omega arith), u32_in 64 (omega arith))

  material_in : material_at s at ≡ material_at job 0
  unfolding material_at
  material_in = rw (u32_in 68 (omega arith), f64_in 80 (omega arith), u32_in 4 (omega arith), u32_in 72 (omega arith), u32_in 76 (omega arith))

  pub job_in : job_at s at ≡ job_at job 0
  unfolding job_at
  job_in = rw (process_in, settings_in, u32_in 4 (omega arith), material_in)

  -- the name, where its length is within the rules
  name_bytes : drop (at + 88) s ≡ drop 88 job ++ rest
  name_bytes = sym (drop-drop 88 at s) ∙ ap (drop 88) E ∙ drop-append-le 88 job rest (omega (arith, L))

  name_within : u32_at job 76 ≤ 40 → name_at s at ≡ name_at job 0
  unfolding name_at
  name_within h =
      ap (λ (n : ℕ). take n (drop (at + 88) s)) (u32_in 76 (omega arith))
      ∙ ap (take (u32_at job 76)) name_bytes
      ∙ take-append-le (u32_at job 76) (drop 88 job) rest (le_trans h (omega (arith, L, length-drop 88 job)))

  pub name_in : job_good job 0 ≡ true → name_at s at ≡ name_at job 0
  unfolding job_at material_at
  name_in h = name_within (good_job job 0 h).the_material.length_to

  -- ---- its test
  head_good_in : head_good s at ≡ head_good job 0
  unfolding head_good
  head_good_in = rw (process_in, u32_in 4 (omega arith))

  settings_good_in : settings_good s at ≡ settings_good job 0
  unfolding settings_good flagged_real flagged_word
  settings_good_in =
      rw (vec_in 8 (omega arith), f64_in 32 (omega arith), u32_in 4 (omega arith), f64_in 40 (omega arith), u64_in 40 (omega arith), f64_in 48 (omega arith), f64_in 56 (omega arith), u32_in 64 (omega arith))

  material_good_in : material_good s at ≡ material_good job 0
  unfolding material_good flagged_real flagged_word
  material_good_in =
      rw (u32_in 4 (omega arith), u32_in 68 (omega arith), u32_in 72 (omega arith), u32_in 76 (omega arith), f64_in 80 (omega arith), u64_in 80 (omega arith))

  name_good_in : name_good s at ≡ name_good job 0
  unfolding name_good
  name_good_in = all_same 40 (λ k. name_byte_good k (u32_at s (at + 76)) (get_or s (at + 88 + k) 0)) (λ k. name_byte_good k (u32_at job 76) (get_or job (88 + k) 0)) each
    where
      each : (k : ℕ) → k < 40 → name_byte_good k (u32_at s (at + 76)) (get_or s (at + 88 + k) 0) ≡ name_byte_good k (u32_at job 76) (get_or job (88 + k) 0)
      each k h = rw (u32_in 76 (omega arith), byte_after 88 k (omega (arith, h)))

  pub job_good_in : job_good s at ≡ job_good job 0
  unfolding job_good
  job_good_in = rw (head_good_in, settings_good_in, material_good_in, name_good_in)
