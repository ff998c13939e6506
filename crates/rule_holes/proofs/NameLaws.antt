-- Words in a text, and the material's name as a part of the file.
use mathlib.Core.Path.{◌≡◌, refl, sym, ap, ◌∙◌}
use mathlib.Core.Bool.{Bool, true, false, ◌&&◌, ◌||◌, cond}
use mathlib.Core.List.{List, [], ◌∷◌}
use Prim.Native.Nat.{ℕ, suc, ◌+◌, ◌-◌, ◌≤◌, ◌<◌}
use native.Mathlib.Numerals.{add-one}
use native.Mathlib.Omega.{arith}
use lib.Dec.{eqb}
use Rattle.std.specs.Cmp.Lexicographic.{pointwise}
use lib.ListN.{length, take, drop, length-drop, drop_of_length-le}
use lib.Seq.{drop-cons}
use Rattle.list_laws.specs.Region.{part}
use Rattle.file_job.specs.declared.Job.{Job}
use Rattle.file_job.specs.Job.{job_at}
use Rattle.file_part.specs.Layout.{vertex_count_of, polygon_count_of, entry_at}
use Rattle.file_part.specs.Part.{part_of}
use Rattle.file_part.proofs.PartLaws.{part_job}
use Rattle.solid_faces.specs.Faces.{Checked}
use Rattle.fault_text.specs.Job.{name_or}
use Rattle.fault_text.proofs.JobLaws.{checked_length, name_lent, name_to}
use Rattle.rule_holes.specs.Name.{starts_with, contains, is_named}
use Rattle.rule_holes.specs.Work.{starts_at}

-- ---- whether a text begins with a word
-- as std compares the word with as many bytes of the text
pub start_is : (word text : List ℕ) → pointwise eqb word (take (length word) text) ≡ starts_with word text
unfolding starts_with
start_is [] text = refl
start_is (w ∷ ws) [] = refl
start_is (w ∷ ws) (b ∷ text) = ap (λ (c : Bool). eqb w b && c) (start_is ws text)

-- it does not where it is shorter
short : (word text : List ℕ) → length text < length word → starts_with word text ≡ false
unfolding starts_with
short [] text h = absurd (omega (arith, h))
short (w ∷ ws) [] h = refl
short (w ∷ ws) (b ∷ text) h = go (eqb w b) (short ws text (omega (arith, h)))
  where
    go : (c : Bool) → starts_with ws text ≡ false → (c && starts_with ws text) ≡ false
    go true e = e
    go false e = refl

pub start_short : (word text : List ℕ) (at : ℕ) → length text - at < length word → false ≡ starts_at word text at
unfolding starts_at
start_short word text at h = sym (short word (drop at text) (simp length-drop (h)))

-- ---- whether it has the word in it
-- it does not start before place `at`
unfoldable pub NoneTo : List ℕ → List ℕ → ℕ → Type 0
NoneTo word text at = contains word text ≡ contains word (drop at text)

pub none_start : (word text : List ℕ) → NoneTo word text 0
unfolding NoneTo
none_start word text = refl

module _ (word text : List ℕ) (at : ℕ) where
  place : at < length text → contains word (drop at text) ≡ (starts_at word text at || contains word (drop (suc at) text))
  unfolding contains starts_at
  place h =
      ap (contains word) (drop-cons text at 0 h)
      ∙ ap (λ (l : List ℕ). starts_with word l || contains word (drop (suc at) text)) (sym (drop-cons text at 0 h))

  pub none_found : at < length text → NoneTo word text at → starts_at word text at ≡ true → true ≡ contains word text
  unfolding NoneTo
  none_found h e f = sym (e ∙ place h ∙ ap (λ (b : Bool). b || contains word (drop (suc at) text)) f)

  pub none_more : at < length text → NoneTo word text at → starts_at word text at ≡ false → NoneTo word text (at + 1)
  unfolding NoneTo
  none_more h e f = e ∙ place h ∙ ap (λ (b : Bool). b || contains word (drop (suc at) text)) f ∙ ap (λ (k : ℕ). contains word (drop k text)) (sym (add-one at))

  -- what is left is the end
  pub none_end : length text ≤ at → NoneTo word text at → starts_at word text (length text) ≡ contains word text
  unfolding NoneTo contains starts_at
  none_end h e =
      ap (starts_with word) (drop_of_length-le text {i = length text} (omega arith))
      ∙ ap (contains word) (sym (drop_of_length-le text h)) ∙ sym e

-- ---- the material's name
module _ (s : List ℕ) (j : Job) (at : ℕ) (job : j ≡ (part_of s).job) (here : at ≡ entry_at (vertex_count_of s) (polygon_count_of s)) where
  read : j ≡ job_at s at
  read = job ∙ part_job s ∙ ap (job_at s) (sym here)

  -- it lies inside the file
  pub named_room : Checked s → (j.material.name_length ≤ 40) × (at + 144 ≡ length s)
  named_room h = (name_to s at j here read h, omega (arith, here, checked_length s h))

  same : (b : Bool) (x : List ℕ) → cond b x x ≡ x
  same true x = refl
  same false x = refl

  name_is : j.has_material ≡ true → part (at + 88) (at + 88 + j.material.name_length) s ≡ (part_of s).name
  unfolding name_or
  name_is h = name_lent s at j here read (part_of s).name h ∙ same (part_of s).job.has_material (part_of s).name

  pub named_is : (word : List ℕ) (r : Bool) → j.has_material ≡ true → r ≡ contains word (part (at + 88) (at + 88 + j.material.name_length) s) → r ≡ is_named (part_of s) word
  unfolding is_named
  named_is word r h e =
      e ∙ ap (contains word) (name_is h)
      ∙ ap (λ (b : Bool). b && contains word (part_of s).name) (sym (sym (ap (λ (k : Job). k.has_material) job) ∙ h))

-- there is none without a material
pub named_none : (s : List ℕ) (j : Job) (word : List ℕ) → j ≡ (part_of s).job → j.has_material ≡ false → false ≡ is_named (part_of s) word
unfolding is_named
named_none s j word job h = sym (ap (λ (b : Bool). b && contains word (part_of s).name) (sym (ap (λ (k : Job). k.has_material) job) ∙ h))
