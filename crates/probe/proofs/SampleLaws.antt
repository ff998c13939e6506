-- The readings in the lists: one reading more, and the answer, return by return.
use mathlib.Core.Path.{◌≡◌, refl, sym, ap, ◌∙◌, subst}
use mathlib.Core.Bool.{Bool, true, false, ◌||◌, cond}
use mathlib.Core.List.{List, [], ◌∷◌}
use Prim.Native.Nat.{ℕ, ◌+◌, ◌*◌, ◌≤◌, ◌<◌}
use native.Mathlib.Omega.{arith}
use lib.Dec.{ltb}
use lib.ListN.{length, set}
use lib.Ieee.{Float, nan}
use borrow.Author.Tests.{ltb-false}
use Rattle.num_float.proofs.Tests.{or_false_left, or_false_right}
use Rattle.file_part.specs.Layout.{polygon_count_of}
use Rattle.file_part.specs.Part.{Part, part_of}
use Rattle.file_part.proofs.PartLaws.{part_polygons}
use Rattle.refusal.specs.Numbers.{too_little_scratch}
use Rattle.file_ok.proofs.RefusalLaws.{earlier_is, earlier_none}
use Rattle.solid_faces.specs.Faces.{Checked}
use Rattle.solid_faces.proofs.BodyLaws.{checked_number}
use Rattle.scratch.specs.declared.regions.Regions.{Regions}
use Rattle.scratch.specs.Standing.{Placed}
use Rattle.scratch.specs.Refusal.{body_refusal_of}
use Rattle.scratch.proofs.StandingLaws.{placed_polygons}
use Rattle.wall_samples.specs.declared.sample.Sample.{Sample}
use Rattle.wall_samples.specs.Samples.{readings_of, sample_of}
use Rattle.wall_samples.specs.Stored.{reading}
use Rattle.wall_samples.proofs.ReadingLaws.{readings_inside, readings_most}
use Rattle.probe.specs.Scratch.{ReadingsPut}
use Rattle.probe.specs.SampleList.{face_cells_of, number_cells_of, sample, SampleList, samples_refusal, SamplesListed}
use Rattle.probe.specs.Work.{Row}
use Rattle.probe.proofs.RowLaws.{row_put, row_begun, Places, Rows, rows_none, rows_more, rows_all, rows_headed}

-- ---- a reading in its cells, as the code stores them
pub faces_row : (faces : List ℕ) (k : ℕ) (x : Sample) → 2 * k + 3 ≤ length faces → Row 0 (2 * k + 1) (face_cells_of x) faces (set (set faces (2 * k + 1) x.face) (2 * k + 2) x.hit)
unfolding face_cells_of
faces_row faces k x room = row_put 0 faces (2 * k) 1 (face_cells_of x) (omega (arith, room))

pub numbers_row : (numbers : List Float) (k : ℕ) (x : Sample) → 8 * k + 8 ≤ length numbers → Row nan (8 * k) (number_cells_of x) numbers
    (set (set (set (set (set (set (set (set numbers
    (8 * k) x.thickness) (8 * k + 1) x.area)
    (8 * k + 2) x.point.x) (8 * k + 3) x.point.y) (8 * k + 4) x.point.z)
    (8 * k + 5) x.normal.x) (8 * k + 6) x.normal.y) (8 * k + 7) x.normal.z)
unfolding number_cells_of
numbers_row numbers k x room =
    row_begun nan numbers (8 * k) x.thickness (x.area ∷ x.point.x ∷ x.point.y ∷ x.point.z ∷ x.normal.x ∷ x.normal.y ∷ x.normal.z ∷ []) (omega (arith, room))

-- ---- the first n readings
-- the places of reading k
face_places : Places 2 (λ k. 2 * k + 1) (λ k. 2 * k + 3)
face_places = record { ends = λ k. omega arith; next = λ k. omega arith; far = λ k n h. omega (arith, h) }

number_places : Places 8 (λ k. 8 * k) (λ k. 8 * k + 8)
number_places = record { ends = λ k. omega arith; next = λ k. omega arith; far = λ k n h. omega (arith, h) }

pub record Listed (t : Part) (n : ℕ) (faces faces' : List ℕ) (numbers numbers' : List Float) : Type 0 where
  pub face_rows : Rows 0 (λ k. 2 * k + 1) (λ k. 2 * k + 3) (λ k. face_cells_of (sample t k)) n faces faces'
  pub number_rows : Rows nan (λ k. 8 * k) (λ k. 8 * k + 8) (λ k. number_cells_of (sample t k)) n numbers numbers'

pub list_none : (t : Part) (faces : List ℕ) (numbers : List Float) → Listed t 0 faces faces numbers numbers
list_none t faces numbers = record { face_rows = rows_none 0 _ _ _ faces; number_rows = rows_none nan _ _ _ numbers }

-- one more
pub list_more : (t : Part) (k : ℕ) (x : Sample) (faces faces₁ faces₂ : List ℕ) (numbers numbers₁ numbers₂ : List Float) → 2 * k + 3 ≤ length faces₁ → 8 * k + 8 ≤ length numbers₁ →
    x ≡ sample t k → Row 0 (2 * k + 1) (face_cells_of x) faces₁ faces₂ → Row nan (8 * k) (number_cells_of x) numbers₁ numbers₂ → Listed t k faces faces₁ numbers numbers₁ →
    Listed t (k + 1) faces faces₂ numbers numbers₂
unfolding face_cells_of number_cells_of
list_more t k x faces faces₁ faces₂ numbers numbers₁ numbers₂ few room is f n h =
    record {
      face_rows =
          rows_more 0 2 _ _ face_places (λ i. face_cells_of (sample t i)) k faces faces₁ faces₂ refl few h.face_rows
          (subst (λ (y : Sample). Row 0 (2 * k + 1) (face_cells_of y) faces₁ faces₂) is f);
      number_rows =
          rows_more nan 8 _ _ number_places (λ i. number_cells_of (sample t i)) k numbers numbers₁ numbers₂ refl room h.number_rows
          (subst (λ (y : Sample). Row nan (8 * k) (number_cells_of y) numbers₁ numbers₂) is n);
    }

-- all, and their number
pub list_all : (t : Part) (k n : ℕ) (faces faces' : List ℕ) (numbers numbers' : List Float) → n ≡ length (readings_of t) → k ≤ n → n ≤ k → 2 * n + 1 ≤ length faces →
    Listed t k faces faces' numbers numbers' → SampleList t faces (set faces' 0 n) numbers numbers'
list_all t k n faces faces' numbers numbers' en a b room h =
    let face = rows_headed 2 _ _ face_places _ n faces faces' (λ i. omega arith) room (rows_all 0 _ _ _ k n faces faces' a b h.face_rows) in
    let number = rows_all nan _ _ _ k n numbers numbers' a b h.number_rows in
    record {
      count = face.count ∙ en;
      face_cells = λ i low. face.each i (omega (arith, low, en));
      number_cells = λ i low. number.each i (omega (arith, low, en));
      faces_kept = rw (← en) face.kept;
      numbers_kept = rw (← en) number.kept;
    }

-- the numbers of both faces of a reading are small
pub faces_small : (s : List ℕ) (k : ℕ) (x : Sample) → Checked s → k < length (readings_of (part_of s)) → x ≡ sample (part_of s) k → (x.face < 4294967296) × (x.hit < 4294967296)
unfolding sample_of
faces_small s k x h low e =
    let r = reading (readings_of (part_of s)) k in
    let i = readings_inside (part_of s) k low in
    let face : x.face < 1024 =
    checked_number s (polygon_count_of s) r.polygon x.face h refl (omega (arith, i.polygon, part_polygons s)) (ap (λ (y : Sample). y.face) e) in
    let hit : x.hit < 1024 = checked_number s (polygon_count_of s) r.hit x.hit h refl (omega (arith, i.hit, part_polygons s)) (ap (λ (y : Sample). y.hit) e) in
    (omega (arith, face), omega (arith, hit))

-- ---- the answer
-- the test of 10, of the lengths: p polygons
abbrev Short : ℕ → ℕ → ℕ → Bool
Short p faces numbers = ltb faces (2 * p + 1) || ltb numbers (8 * p)

-- what it leaves: cells for all n readings
pub record Few (n faces numbers : ℕ) : Type 0 where
  pub small : n ≤ 4096
  pub face_room : 2 * n + 1 ≤ faces
  pub number_room : 8 * n ≤ numbers

pub readings_few : (s : List ℕ) (at : Regions) (n faces numbers : ℕ) → Placed s at → n ≡ length (readings_of (part_of s)) → Short at.polygons faces numbers ≡ false → Few n faces numbers
readings_few s at n faces numbers h en t =
    let p = at.polygons in
    let most : n ≤ p = omega (arith, en, readings_most (part_of s), placed_polygons s at h) in
    record {
      small = omega (arith, most, h.laid.few);
      face_room = omega (arith, most, ltb-false faces (2 * p + 1) (or_false_left (ltb faces (2 * p + 1)) (ltb numbers (8 * p)) t));
      number_room = omega (arith, most, ltb-false numbers (8 * p) (or_false_right (ltb faces (2 * p + 1)) (ltb numbers (8 * p)) t));
    }

module _ (s words : List ℕ) (reals : List Float) (faces : List ℕ) (numbers : List Float) (r : ℕ) (e : r ≡ body_refusal_of s (length words) (length reals)) where
  -- nothing is changed
  unchanged : (q : ℕ) → (q ≡ 0 → ⊥) → q ≡ samples_refusal s (length words) (length reals) (length faces) (length numbers) →
      SamplesListed s words words reals reals faces faces numbers numbers q
  unchanged q other is = record { answer = is; refused = λ _. (refl, refl, refl, refl); scratch = λ z. absurd (other z); lists = λ z. absurd (other z) }

  pub samples_refused : (r ≡ 0 → ⊥) → SamplesListed s words words reals reals faces faces numbers numbers r
  unfolding samples_refusal
  samples_refused other = unchanged r other (earlier_is r _ _ e other)

  module _ (z : r ≡ 0) (p : ℕ) (ep : p ≡ polygon_count_of s) where
    answer_short : (b : Bool) → Short p (length faces) (length numbers) ≡ b → cond b too_little_scratch 0 ≡ samples_refusal s (length words) (length reals) (length faces) (length numbers)
    unfolding samples_refusal
    answer_short b t = earlier_none _ _ b (sym e ∙ z) (rw (← ep, t))

    pub samples_short : Short p (length faces) (length numbers) ≡ true → SamplesListed s words words reals reals faces faces numbers numbers too_little_scratch
    samples_short t = unchanged too_little_scratch (λ q. omega (arith, q)) (answer_short true t)

    pub samples_listed : Short p (length faces) (length numbers) ≡ false → (words' : List ℕ) (reals' : List Float) (faces' : List ℕ) (numbers' : List Float) →
        ReadingsPut s words words' reals reals' → SampleList (part_of s) faces faces' numbers numbers' → SamplesListed s words words' reals reals' faces faces' numbers numbers' 0
    samples_listed t words' reals' faces' numbers' h l = record { answer = answer_short false t; refused = λ other. absurd (other refl); scratch = λ _. h; lists = λ _. l }
