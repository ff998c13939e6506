-- Fields of a part file, read from what is left of a list, and read back from the bytes that were written.
use mathlib.Core.Path.{◌≡◌, refl, sym, ap, ◌∙◌}
use mathlib.Core.Bool.{true}
use mathlib.Core.List.{List, ◌++◌}
use Prim.Native.Nat.{ℕ, ◌+◌, ◌-◌, ◌*◌, ◌/◌, ◌%◌, ◌^◌, ◌<◌}
use native.Mathlib.Nat.{add-zero, add_assoc}
use native.Mathlib.Omega.{arith}
use lib.Dec.{T, eqb}
use lib.ListN.{length, drop}
use lib.Seq.{get_or-drop}
use lib.Ieee.{Float, binary64, fits, of_bits, to_bits}
use lib.Ieee.Bits.{of_bits-to_bits, to_bits-lt}
use Rattle.math.specs.declared.Vec3.{Vec3}
use Rattle.list_laws.specs.Below.{all_below}
use Rattle.list_laws.proofs.Below.{all_each, all_by}
use Rattle.file_field.specs.Field.{u32_at, u64_at, f64_at, vec_at_of}
use Rattle.file_field.specs.Test.{zero_words}
use Rattle.file_part.specs.declared.read.SurfaceKind.TheVariants.{Plane}
use Rattle.file_part.specs.Layout.{edition, vertex_count_of, polygon_count_of, back}
use Rattle.file_part.specs.Part.{face_at, surface_of, surface_at, first_at, count_at_of}
use Rattle.obj_text.proofs.BoundLaws.{Held}
use Rattle.obj_part.specs.Bytes.{le32, le64, f64_bytes, vec_bytes, entry_bytes, trailer_bytes}

-- ---- a field further on is a field of what is left
pub u32_drop : (s : List ℕ) (i k : ℕ) → u32_at s (i + k) ≡ u32_at (drop i s) k
unfolding u32_at
u32_drop s i k = simp (get_or-drop, add_assoc)

pub u64_drop : (s : List ℕ) (i k : ℕ) → u64_at s (i + k) ≡ u64_at (drop i s) k
unfolding u64_at
u64_drop s i k = rw (u32_drop s i k, add_assoc i k 4, u32_drop s i (k + 4))

pub f64_drop : (s : List ℕ) (i k : ℕ) → f64_at s (i + k) ≡ f64_at (drop i s) k
unfolding f64_at
f64_drop s i k = ap (of_bits binary64) (u64_drop s i k)

f64_here : (s : List ℕ) (i : ℕ) → f64_at s i ≡ f64_at (drop i s) 0
f64_here s i = ap (f64_at s) (sym (add-zero i)) ∙ f64_drop s i 0

pub vec_drop : (s : List ℕ) (i : ℕ) → vec_at_of s i ≡ vec_at_of (drop i s) 0
unfolding vec_at_of
vec_drop s i = rw (f64_here s i, f64_drop s i 8, f64_drop s i 16)

pub zero_words_drop : (s : List ℕ) (i k n : ℕ) → zero_words (drop i s) k n ≡ true → zero_words s (i + k) n ≡ true
unfolding zero_words
zero_words_drop s i k n h = all_by n (λ j. eqb (u64_at s (i + k + 8 * j)) 0) each
  where
    each : (j : ℕ) → j < n → eqb (u64_at s (i + k + 8 * j)) 0 ≡ true
    each j l =
        ap (λ (a : ℕ). eqb (u64_at s a) 0) (add_assoc i k (8 * j))
        ∙ ap (λ (a : ℕ). eqb a 0) (u64_drop s i (k + 8 * j))
        ∙ all_each n (λ a. eqb (u64_at (drop i s) (k + 8 * a)) 0) h j l

-- ---- what four bytes give
pub le32_back : (n : ℕ) → n < 2 ^ 32 → n % 0x100 + n / 0x100 % 0x100 * 0x100 + n / 0x1_0000 % 0x100 * 0x1_0000 + n / 0x100_0000 % 0x100 * 0x100_0000 ≡ n
le32_back n h =
    let b : n / 0x1_0000 ≡ n / 0x100 / 0x100 = omega arith in
    let c : n / 0x100_0000 ≡ n / 0x1_0000 / 0x100 = omega arith in
    sum n (n % 0x100) (n / 0x100) (n / 0x100 % 0x100) (n / 0x1_0000) (n / 0x1_0000 % 0x100) (n / 0x100_0000) (n / 0x100_0000 % 0x100) (omega arith) (omega (arith, b)) (omega (arith, c)) (omega arith)
  where
    sum : (n i a j b k c l : ℕ) → n ≡ i + a * 0x100 → a ≡ j + b * 0x100 → b ≡ k + c * 0x100 → c ≡ l → i + j * 0x100 + k * 0x1_0000 + l * 0x100_0000 ≡ n
    sum n i a j b k c l e f g h = omega arith

pub u32_back : (n : ℕ) (rest : List ℕ) → n < 2 ^ 32 → u32_at (le32 n ++ rest) 0 ≡ n
unfolding u32_at le32
u32_back n rest h = le32_back n h

-- eight
pub u64_back : (n : ℕ) (rest : List ℕ) → n < 2 ^ 64 → u64_at (le64 n ++ rest) 0 ≡ n
unfolding u64_at u32_at le64 le32
u64_back n rest h =
    let low : n % 0x1_0000_0000 < 2 ^ 32 = omega arith in
    let high : n / 0x1_0000_0000 < 2 ^ 32 = omega arith in
    ap (λ (a : ℕ). a + u32_at (le32 (n / 0x1_0000_0000) ++ rest) 0 * 0x1_0000_0000) (le32_back (n % 0x1_0000_0000) low)
    ∙ ap (λ (a : ℕ). n % 0x1_0000_0000 + a * 0x1_0000_0000) (le32_back (n / 0x1_0000_0000) high)
    ∙ omega arith

-- an f64, whatever its sign: a zero keeps it
pub f64_back : (x : Float) (rest : List ℕ) → T (fits binary64 x) → f64_at (f64_bytes x ++ rest) 0 ≡ x
unfolding f64_at f64_bytes
f64_back x rest h = ap (of_bits binary64) (u64_back (to_bits binary64 x) rest (to_bits-lt binary64 x h)) ∙ of_bits-to_bits binary64 x h

-- a vertex
vec_x : (v : Vec3) (rest : List ℕ) → f64_at (vec_bytes v ++ rest) 0 ≡ f64_at (f64_bytes v.x ++ rest) 0
unfolding f64_at u64_at u32_at vec_bytes f64_bytes le64 le32
vec_x v rest = refl

vec_y : (v : Vec3) (rest : List ℕ) → f64_at (vec_bytes v ++ rest) 8 ≡ f64_at (f64_bytes v.y ++ rest) 0
unfolding f64_at u64_at u32_at vec_bytes f64_bytes le64 le32
vec_y v rest = refl

vec_z : (v : Vec3) (rest : List ℕ) → f64_at (vec_bytes v ++ rest) 16 ≡ f64_at (f64_bytes v.z ++ rest) 0
unfolding f64_at u64_at u32_at vec_bytes f64_bytes le64 le32
vec_z v rest = refl

pub vec_back : (v : Vec3) (rest : List ℕ) → Held v → vec_at_of (vec_bytes v ++ rest) 0 ≡ v
unfolding vec_at_of
vec_back v rest h = same (vec_x v rest ∙ f64_back v.x rest h.x_held) (vec_y v rest ∙ f64_back v.y rest h.y_held) (vec_z v rest ∙ f64_back v.z rest h.z_held)
  where
    same : {a b c : Float} → a ≡ v.x → b ≡ v.y → c ≡ v.z → ◌≡◌ {A = Vec3} (record { x = a; y = b; z = c }) v
    same p q r = rw (p, q, r)

-- ---- an entry at a place
module _ (s rest : List ℕ) (at index first count : ℕ) (E : drop at s ≡ entry_bytes index first count ++ rest) where
  field : (k : ℕ) → u32_at s (at + k) ≡ u32_at (entry_bytes index first count ++ rest) k
  field k = u32_drop s at k ∙ ap (λ (l : List ℕ). u32_at l k) E

  pub entry_feature : (face_at s at).feature ≡ 1
  unfolding face_at u32_at entry_bytes le32
  entry_feature = ap (u32_at s) (sym (add-zero at)) ∙ field 0

  pub entry_index : index < 2 ^ 32 → (face_at s at).index ≡ index
  unfolding face_at u32_at entry_bytes le32
  entry_index h = field 4 ∙ le32_back index h

  pub entry_first : first < 2 ^ 32 → first_at s at ≡ first
  unfolding first_at u32_at entry_bytes le32
  entry_first h = field 8 ∙ le32_back first h

  pub entry_count : count < 2 ^ 32 → count_at_of s at ≡ count
  unfolding count_at_of u32_at entry_bytes le32
  entry_count h = field 12 ∙ le32_back count h

  pub entry_kind : u32_at s (at + 16) ≡ 0
  unfolding u32_at entry_bytes le32
  entry_kind = field 16

  pub entry_zero : u32_at s (at + 20) ≡ 0
  unfolding u32_at entry_bytes le32
  entry_zero = field 20

  pub entry_surface : surface_at s at ≡ Plane
  unfolding surface_at surface_of
  entry_surface = rw entry_kind

  pub entry_unused : zero_words s (at + 24) 7 ≡ true
  entry_unused = zero_words_drop s at 24 7 (ap (λ (l : List ℕ). zero_words l 24 7) E ∙ all_zero)
    where
      all_zero : zero_words (entry_bytes index first count ++ rest) 24 7 ≡ true
      all_zero = unfold zero_words all_below u64_at u32_at entry_bytes le32 in refl

-- ---- the trailer
module _ (s : List ℕ) (at v p : ℕ) (L : length s ≡ at + 16) (E : drop at s ≡ trailer_bytes v p) where
  last : (k i : ℕ) → i ≡ at + k → u32_at s i ≡ u32_at (trailer_bytes v p) k
  last k i e = ap (u32_at s) e ∙ u32_drop s at k ∙ ap (λ (l : List ℕ). u32_at l k) E

  pub trailer_edition : edition s ≡ 1
  unfolding edition u32_at trailer_bytes le32
  trailer_edition = last 0 (length s - 16) (omega arith)

  pub trailer_vertices : v < 2 ^ 32 → vertex_count_of s ≡ v
  unfolding vertex_count_of u32_at trailer_bytes le32
  trailer_vertices h = last 4 (length s - 12) (omega arith) ∙ le32_back v h

  pub trailer_polygons : p < 2 ^ 32 → polygon_count_of s ≡ p
  unfolding polygon_count_of u32_at trailer_bytes le32
  trailer_polygons h = last 8 (length s - 8) (omega arith) ∙ le32_back p h

  pub trailer_back : 80 * p + 144 < 2 ^ 32 → back s ≡ 80 * p + 144
  unfolding back u32_at trailer_bytes le32
  trailer_back h = last 12 (length s - 4) (omega arith) ∙ le32_back (80 * p + 144) h
