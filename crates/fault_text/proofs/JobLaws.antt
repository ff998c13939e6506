-- The job in the file: where it stands, and what is taken from it.
use mathlib.Core.Path.{◌≡◌, refl, sym, ap, ap₂, ◌∙◌, subst}
use mathlib.Core.Bool.{Bool, true, false, ◌&&◌, cond}
use mathlib.Core.List.{List}
use Prim.Native.Nat.{ℕ, ◌+◌, ◌-◌, ◌≤◌}
use native.Mathlib.Omega.{arith}
use lib.Dec.{lit<}
use lib.ListN.{length, take, drop, length-take}
use lib.Ieee.{Float, of_bits, le, lt, eq}
use Rattle.num_float.specs.Within.{Within}
use Rattle.num_float.proofs.Order.{lt_irrefl, lt_le}
use Rattle.num_text.specs.Put.{bytes}
use Rattle.num_text.specs.Number.{thousandths}
use Rattle.num_text.specs.Decimal.{accepted}
use Rattle.num_text.proofs.NeverRefused.{accepted_at}
use Rattle.math.specs.Vector.{zero}
use Rattle.list_laws.specs.Region.{part}
use Rattle.file_job.specs.declared.Job.{Job}
use Rattle.file_job.specs.Job.{material_at, job_at, name_at}
use Rattle.file_part.specs.Layout.{vertex_count_of, polygon_count_of, entry_at}
use Rattle.file_part.specs.Part.{Part, part_of}
use Rattle.file_part.proofs.PartLaws.{part_job, part_name}
use Rattle.file_ok.proofs.ReadableLaws.{readable_length, readable_job}
use Rattle.solid_faces.specs.Faces.{Checked}
use Rattle.solid_faces.proofs.BodyLaws.{checked_readable}
use Rattle.fault_text.specs.Job.{default_min_wall, min_wall_of, name_or}
use Rattle.fault_text.specs.Sheet.{ratio_text}

-- ---- where it stands
abbrev place : List ℕ → ℕ
place s = entry_at (vertex_count_of s) (polygon_count_of s)

pub checked_length : (s : List ℕ) → Checked s → length s ≡ place s + 144
checked_length s h = readable_length s (checked_readable s h)

pub job_room : (s : List ℕ) (at : ℕ) → Checked s → at ≡ place s → at + 128 ≤ length s
job_room s at h e = omega (arith, checked_length s h)

-- the job that was read is the part's
pub job_is : (s : List ℕ) (at : ℕ) (j : Job) → at ≡ place s → j ≡ job_at s at → j ≡ (part_of s).job
job_is s at j e q = q ∙ ap (job_at s) e ∙ sym (part_job s)

-- ---- the thinnest wall
module _ (s : List ℕ) (j : Job) (q : j ≡ (part_of s).job) where
  abbrev wall : Job → Float
  wall k = cond (k.has_material && lt zero k.material.min_wall) k.material.min_wall default_min_wall

  is_wall : wall j ≡ min_wall_of (part_of s)
  unfolding min_wall_of
  is_wall = ap wall q

  pub wall_of_material : j.has_material ≡ true → lt zero j.material.min_wall ≡ true → j.material.min_wall ≡ min_wall_of (part_of s)
  wall_of_material h w = sym (ap₂ (λ (a b : Bool). cond (a && b) j.material.min_wall default_min_wall) h w) ∙ is_wall

  pub wall_not_above : j.has_material ≡ true → lt zero j.material.min_wall ≡ false → default_min_wall ≡ min_wall_of (part_of s)
  wall_not_above h w = sym (ap₂ (λ (a b : Bool). cond (a && b) j.material.min_wall default_min_wall) h w) ∙ is_wall

  pub wall_no_material : j.has_material ≡ false → default_min_wall ≡ min_wall_of (part_of s)
  wall_no_material h = sym (ap (λ (a : Bool). cond (a && lt zero j.material.min_wall) j.material.min_wall default_min_wall) h) ∙ is_wall

-- ---- the name
module _ (s : List ℕ) (at : ℕ) (j : Job) (e : at ≡ place s) (q : j ≡ job_at s at) where
  name_of_material : (other : List ℕ) → j.has_material ≡ true → take j.material.name_length (drop (at + 88) s) ≡ name_or (part_of s) other
  unfolding name_or job_at material_at name_at
  name_of_material other h =
      ap (λ (k : Job). take k.material.name_length (drop (at + 88) s)) q ∙ ap (name_at s) e ∙ sym (part_name s)
      ∙ sym (ap (λ (b : Bool). cond b (part_of s).name other) (sym (ap (λ (k : Job). k.has_material) (job_is s at j e q)) ∙ h))

  -- the same as the part of the file that is lent
  pub name_lent : (other : List ℕ) → j.has_material ≡ true → part (at + 88) (at + 88 + j.material.name_length) s ≡ name_or (part_of s) other
  name_lent other h =
      let n : at + 88 + j.material.name_length - (at + 88) ≡ j.material.name_length = omega arith in
      ap (λ (k : ℕ). take k (drop (at + 88) s)) n ∙ name_of_material other h

  pub name_no_material : (other : List ℕ) → j.has_material ≡ false → other ≡ name_or (part_of s) other
  unfolding name_or
  name_no_material other h =
      sym (ap (λ (b : Bool). cond b (part_of s).name other) (sym (ap (λ (k : Job). k.has_material) (job_is s at j e q)) ∙ h))

  -- it lies inside the file
  pub name_to : Checked s → j.material.name_length ≤ 40
  name_to h =
      let whole : j ≡ job_at s (place s) = q ∙ ap (job_at s) e in
      subst (λ (k : Job). k.material.name_length ≤ 40) (sym whole) (readable_job s (checked_readable s h)).the_material.length_to

-- ---- the bend ratio
module _ (s : List ℕ) (j : Job) (q : j ≡ (part_of s).job) where
  abbrev ratio : Job → List ℕ
  ratio k = cond k.has_material (thousandths k.material.bend_ratio) (bytes "1")

  is_ratio : ratio j ≡ ratio_text (part_of s)
  unfolding ratio_text
  is_ratio = ap ratio q

  pub ratio_of_material : j.has_material ≡ true → thousandths j.material.bend_ratio ≡ ratio_text (part_of s)
  ratio_of_material h = sym (ap (λ (b : Bool). cond b (thousandths j.material.bend_ratio) (bytes "1")) h) ∙ is_ratio

  pub ratio_no_material : j.has_material ≡ false → bytes "1" ≡ ratio_text (part_of s)
  ratio_no_material h = sym (ap (λ (b : Bool). cond b (thousandths j.material.bend_ratio) (bytes "1")) h) ∙ is_ratio

-- "Material min_wall 0 counts as 0.8", with a material or without
pub min_wall_zero : (t : Part) → t.job.material.min_wall ≡ zero → min_wall_of t ≡ default_min_wall
unfolding min_wall_of
min_wall_zero t e = ap (λ (w : Float). cond (t.job.has_material && lt zero w) w default_min_wall) e ∙ go t.job.has_material
  where
    go : (b : Bool) → cond (b && lt zero zero) zero default_min_wall ≡ default_min_wall
    go true = ap (λ (b : Bool). cond b zero default_min_wall) (lt_irrefl zero)
    go false = refl

pub name_short : (s : List ℕ) → Checked s → length (part_of s).name ≤ 40
unfolding name_at job_at material_at
name_short s h =
    let n = (readable_job s (checked_readable s h)).the_material.length_to in
    rw (part_name s) (simp length-take (omega (arith, n)))

pub ratio_to : (s : List ℕ) → Checked s → (part_of s).job.material.bend_ratio ≤ 100000
ratio_to s h = subst (λ (j : Job). j.material.bend_ratio ≤ 100000) (sym (part_job s)) (readable_job s (checked_readable s h)).the_material.ratio_to

-- ---- the thinnest wall of an accepted file is a number that is printed
default_accepted : accepted default_min_wall 2 ≡ true
unfolding accepted of_bits le lt eq
default_accepted = refl

pub min_wall_accepted : (s : List ℕ) → Checked s → accepted (min_wall_of (part_of s)) 2 ≡ true
unfolding min_wall_of
min_wall_accepted s h =
    let m = (readable_job s (checked_readable s h)).the_material in
    let w : Within (part_of s).job.material.min_wall 10000 =
    subst (λ (j : Job). Within j.material.min_wall 10000) (sym (part_job s)) m.wall_within in
    go (part_of s).job.has_material (part_of s).job.material.min_wall w (lt zero (part_of s).job.material.min_wall) refl
  where
    go : (b : Bool) (w : Float) → Within w 10000 → (c : Bool) → lt zero w ≡ c → accepted (cond (b && c) w default_min_wall) 2 ≡ true
    go true w h true e = accepted_at w 10000 2 (lt_le zero w e) h (lit< tt) (omega arith)
    go true w h false e = default_accepted
    go false w h c e = default_accepted
