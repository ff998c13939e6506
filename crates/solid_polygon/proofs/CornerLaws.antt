-- The loops over a polygon's corners, one step each, in the words of what the code calls.
use mathlib.Core.Path.{◌≡◌, refl, sym, ap, ◌∙◌, subst}
use mathlib.Core.Bool.{true, false}
use mathlib.Core.List.{List}
use Prim.Native.Nat.{ℕ, ◌+◌, ◌-◌, ◌*◌, ◌^◌, ◌≤◌, ◌<◌}
use native.Mathlib.Omega.{arith}
use native.Mathlib.Numerals.{add-one}
use native.Mathlib.Nat.{le_antisymm, add-zero}
use native.Mathlib.Nat as nat
use lib.Dec.{T, lit≤}
use lib.ListN.{length}
use lib.IntN.{pos}
use borrow.Author.Tests.{eq-eqb, ne_eqb, le-leb}
use lib.Ieee.{Float, binary64, add, mul, le, lt, eq, of_bits, of_fields, odd, in_float}
use Rattle.num_float.specs.Sign.{NonNeg}
use Rattle.num_float.proofs.Tests.{holds}
use Rattle.num_float.proofs.Order.{le_trans, le_not_lt}
use Rattle.num_root.specs.Root.{root}
use Rattle.num_norm.proofs.RootOrder.{root_mono}
use Rattle.file_part.specs.math.specs.declared.Vec3.{Vec3}
use Rattle.file_part.specs.math.specs.Vector.{zero_vec, plus, minus, cross_of, length_sq_of, length_of}
use Rattle.file_part.specs.math.specs.Vector as vector
use Rattle.file_part.specs.math.specs.Size.{VecWithin}
use Rattle.file_part.specs.file_field.specs.Field.{vec_at_of}
use Rattle.solid_polygon.specs.Polygon.{half, after, newell_step, newell_to, newell_of, corners_to, triangle_area, area_to, area_of_word}
use Rattle.solid_polygon.specs.Plane.{e_14, is_flat}
use Rattle.solid_polygon.specs.Work.{corner_at, Corners}

-- ---- the corner after a corner
pub after_last : (n k : ℕ) → k + 1 ≡ n → 0 ≡ after n k
unfolding after
after_last n k e = rw (eq-eqb _ _ e)

pub after_next : (n k : ℕ) → (k + 1 ≡ n → ⊥) → k + 1 ≡ after n k
unfolding after
after_next n k e = rw (ne_eqb _ _ e)

-- ---- the first corners of a run
pub fewer : (s : List ℕ) (first n m : ℕ) → m ≤ n → Corners s first n → Corners s first m
fewer s first n m l h = record { inside = omega (arith, l, h.inside); each = λ k b. h.each k (omega (arith, l, b)) }

-- what `corner` asks for
pub readable_corner : (s : List ℕ) (first n k : ℕ) → Corners s first n → k < n → (24 * (first + k) + 24 ≤ length s) × VecWithin (vec_at_of s (24 * (first + k))) 10000
readable_corner s first n k h l = (omega (arith, l, h.inside), h.each k l)

pub first_corner : (s : List ℕ) (first n : ℕ) → Corners s first n → 0 < n → (24 * first + 24 ≤ length s) × VecWithin (vec_at_of s (24 * first)) 10000
first_corner s first n h l = (omega (arith, l, h.inside), subst (λ (j : ℕ). VecWithin (vec_at_of s (24 * j)) 10000) (add-zero first) (h.each 0 l))

pub corner_zero : (s : List ℕ) (first : ℕ) (a : Vec3) → a ≡ vec_at_of s (24 * first) → a ≡ vec_at_of s (24 * (first + 0))
corner_zero s first a e = e ∙ ap (λ (j : ℕ). vec_at_of s (24 * j)) (sym (add-zero first))

-- ---- Newell's sum
pub newell_none : (s : List ℕ) (first n : ℕ) → zero_vec ≡ newell_to (corner_at s first) n 0
unfolding newell_to
newell_none s first n = refl

pub newell_more : (s : List ℕ) (first n k j : ℕ) (m a b r : Vec3) → m ≡ newell_to (corner_at s first) n k → a ≡ vec_at_of s (24 * (first + k)) → j ≡ after n k →
    b ≡ vec_at_of s (24 * (first + j)) → r ≡ newell_step m a b → r ≡ newell_to (corner_at s first) n (k + 1)
unfolding newell_to corner_at
newell_more s first n k j m a b r e p q w h = h ∙ rw (e, p, w, q, add-one)

-- the side that ends at corner k, of which none is the first
pub newell_next : (s : List ℕ) (first n k : ℕ) (m a b r : Vec3) → 1 ≤ k → k < n → a ≡ vec_at_of s (24 * (first + (k - 1))) →
    m ≡ newell_to (corner_at s first) n (k - 1) → b ≡ vec_at_of s (24 * (first + k)) → r ≡ newell_step m a b →
    (b ≡ vec_at_of s (24 * (first + (k + 1 - 1)))) × (r ≡ newell_to (corner_at s first) n (k + 1 - 1))
newell_next s first n k m a b r low l p e w h =
    let here : k ≡ k - 1 + 1 = omega arith in
    let up : k - 1 + 1 ≡ k + 1 - 1 = omega arith in
    let stays : k ≡ k + 1 - 1 = omega arith in
    let to : k ≡ after n (k - 1) = here ∙ after_next n (k - 1) (λ q. omega (arith, q)) in (
      subst (λ (j : ℕ). b ≡ vec_at_of s (24 * (first + j))) stays w,
      subst (λ (j : ℕ). r ≡ newell_to (corner_at s first) n j) up (newell_more s first n (k - 1) k m a b r e p to w h),
    )

-- the last side ends at the first corner
pub newell_last : (s : List ℕ) (first n k : ℕ) (m a b r : Vec3) → k < n → n ≤ k + 1 → m ≡ newell_to (corner_at s first) n k → a ≡ vec_at_of s (24 * (first + k)) →
    b ≡ vec_at_of s (24 * first) → r ≡ newell_step m a b → r ≡ newell_of (corner_at s first) n
unfolding newell_of
newell_last s first n k m a b r l g e p w h =
    let end : k + 1 ≡ n = omega (arith, l, g) in
    subst (λ (j : ℕ). r ≡ newell_to (corner_at s first) n j) end
    (newell_more s first n k 0 m a b r e p (after_last n k end) (corner_zero s first b w) h)

-- ---- the corners' sum
pub corners_none : (s : List ℕ) (first : ℕ) → zero_vec ≡ corners_to (corner_at s first) 0
unfolding corners_to
corners_none s first = refl

pub corners_more : (s : List ℕ) (first k : ℕ) (m a r : Vec3) → m ≡ corners_to (corner_at s first) k → a ≡ vec_at_of s (24 * (first + k)) → r ≡ plus m a →
    r ≡ corners_to (corner_at s first) (k + 1)
unfolding corners_to corner_at
corners_more s first k m a r e p h = h ∙ rw (e, p, add-one)

-- ---- the area
pub area_none : (s : List ℕ) (first : ℕ) → vector.zero ≡ area_to (corner_at s first) 0
unfolding area_to
area_none s first = refl

pub area_more : (s : List ℕ) (first k : ℕ) (m a : Float) → m ≡ area_to (corner_at s first) k → a ≡ triangle_area (corner_at s first) k →
    add binary64 m a ≡ area_to (corner_at s first) (k + 1)
unfolding area_to
area_more s first k m a e p = rw (e, p, add-one)

pub area_all : (s : List ℕ) (first n k : ℕ) (m : Float) → k ≤ n - 2 → n - 2 ≤ k → m ≡ area_to (corner_at s first) k → m ≡ area_of_word (corner_at s first) n
unfolding area_of_word
area_all s first n k m a b e = subst (λ (j : ℕ). m ≡ area_to (corner_at s first) j) (le_antisymm a b) e

-- the triangle of corners 0, k + 1 and k + 2
pub triangle : (s : List ℕ) (first k : ℕ) (o x y a b v : Vec3) (l : Float) → o ≡ vec_at_of s (24 * first) → x ≡ vec_at_of s (24 * (first + (k + 1))) → a ≡ minus x o →
    y ≡ vec_at_of s (24 * (first + (k + 2))) → b ≡ minus y o → v ≡ cross_of a b → l ≡ length_of v → mul binary64 l half ≡ triangle_area (corner_at s first) k
unfolding triangle_area corner_at
triangle s first k o x y a b v l e f g h i j z = rw (z, j, g, i, e, f, h, add-zero first)

-- ---- a sum that is long by its square
-- the f64 1e-18
abbrev pub e_18 : Float
e_18 = of_bits binary64 0x3c32_725d_d1d2_43ac

e_14_le : le e_14 (root e_18) ≡ true
unfolding root le lt eq of_bits of_fields odd
e_14_le = refl

e_18_up : NonNeg e_18
unfolding le lt eq of_bits of_fields odd
e_18_up = refl

pub not_flat : (s : List ℕ) (first n : ℕ) (m : Vec3) (q : Float) → m ≡ newell_of (corner_at s first) n → q ≡ length_sq_of m → le e_18 q ≡ true →
    false ≡ is_flat (corner_at s first) n
unfolding is_flat length_of length_sq_of
not_flat s first n m q e f h =
    let long : le e_18 (length_sq_of (newell_of (corner_at s first) n)) ≡ true = rw (sym e, sym f) h in
    sym (le_not_lt e_14 _ (le_trans e_14 (root e_18) _ e_14_le (root_mono e_18 _ e_18_up long)))

-- a number of corners as f64
pub few_cast : (n : ℕ) → n ≤ 64 → T (in_float binary64 (pos n))
unfolding in_float
few_cast n h = holds (le-leb n (2 ^ 53) (nat.le_trans h (lit≤ tt)))
