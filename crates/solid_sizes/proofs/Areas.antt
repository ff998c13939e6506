-- The areas of polygons and faces: finite, not negative, and their bounds.
use mathlib.Core.Path.{◌≡◌, refl, sym, subst}
use mathlib.Core.Bool.{false}
use mathlib.Core.List.{List}
use Prim.Native.Nat.{ℕ, zero, suc, ◌+◌, ◌-◌, ◌*◌, ◌^◌, ◌≤◌, ◌<◌, zero-le}
use native.Mathlib.Nat.{le_refl, le_of_eq, suc-mul}
use native.Mathlib.Omega.{arith}
use lib.Dec.{eqb, lit<, lit≤}
use lib.Ieee.{Float, binary64, add, is_nan, of_bits, le, lt, eq}
use Rattle.num_float.specs.Sign.{NonNeg}
use Rattle.num_float.specs.Within.{Within}
use Rattle.num_float.proofs.Tests.{cond_has}
use Rattle.num_float.proofs.NonNegative.{finite_number}
use Rattle.num_float.proofs.Within.{held_small, held_pow, add_within, mul_within, wider}
use Rattle.num_float.proofs.Sign.{add_nonneg, mul_nonneg}
use Rattle.math.specs.declared.Vec3.{Vec3}
use Rattle.math.specs.Vector.{minus, cross_of, length_of}
use Rattle.math.specs.Vector as vector
use Rattle.math.specs.Size.{VecWithin}
use Rattle.file_part.specs.Layout.{vertex_count_of, polygon_count_of, entry_at}
use Rattle.file_part.specs.Part.{part_of, polygon_at, first_at, count_at_of}
use Rattle.file_ok.specs.Work.{Readable}
use Rattle.file_ok.proofs.ReadableLaws.{readable_counts, readable_run, readable_vertex, readable_index}
use Rattle.solid_polygon.specs.Polygon.{half, triangle_area, area_to, area_of_word}
use Rattle.solid_faces.specs.Faces.{face_number, polygon_corner, polygon_area, face_area_to, face_area}
use Rattle.solid_sizes.specs.Sizes.{Area}
use Rattle.solid_sizes.specs.Work.{Near}
use Rattle.solid_sizes.proofs.Vectors.{minus_within, cross_within, vec_length_within, vec_length_nonneg}

-- ---- sums of areas
pub zero_area : (b : ℕ) → Area vector.zero b
unfolding of_bits
zero_area b = record { within = record { is_finite = tt; size = zero-le }; nonneg = unfold le in unfold lt in unfold eq in refl }

half_area : Area half 1
unfolding of_bits
half_area = record { within = record { is_finite = tt; size = lit≤ tt }; nonneg = unfold le in unfold lt in unfold eq in refl }

-- i terms of at most 2 ^ k, and one more
pub add_area : (x y : Float) (i k : ℕ) → suc i < 2 ^ 53 → k ≤ 971 → Area x (i * 2 ^ k) → Area y (2 ^ k) → Area (add binary64 x y) (suc i * 2 ^ k)
add_area x y i k I K p q = record {
  within = add_within x y (i * 2 ^ k) (2 ^ k) (suc i * 2 ^ k) p.within q.within (le_of_eq (sym (suc-mul i (2 ^ k)))) (held_pow (suc i) k I K);
  nonneg = add_nonneg x y p.nonneg q.nonneg;
}

pub wider_area : (x : Float) (a b : ℕ) → a ≤ b → Area x a → Area x b
wider_area x a b h p = record { within = wider b h p.within; nonneg = p.nonneg }

-- ---- a polygon near the origin
-- sides of a triangle have components of at most 20,000, so their cross product has components of at most 800,000,000
triangle_area_lem : (c : ℕ → Vec3) (n k : ℕ) → Near c n → k + 2 < n → Area (triangle_area c k) (2 ^ 31)
unfolding triangle_area Near
triangle_area_lem c n k near h =
    let side : (i : ℕ) → i < n → VecWithin (minus (c i) (c 0)) 20000 =
    λ i l. minus_within (c i) (c 0) 10000 10000 20000 (near i l) (near 0 (omega (arith, h))) (lit≤ tt) (held_small 20000 (lit< tt)) in
    let x = cross_of (minus (c (k + 1)) (c 0)) (minus (c (k + 2)) (c 0)) in
    let w : VecWithin x (2 ^ 30) =
    cross_within (minus (c (k + 1)) (c 0)) (minus (c (k + 2)) (c 0)) 20000 20000 400000000 (side (k + 1) (omega (arith, h))) (side (k + 2) h)
    (lit≤ tt) (held_small 400000000 (lit< tt)) (2 ^ 30) (lit≤ tt) (held_small (2 ^ 30) (lit< tt)) in
    let l = vec_length_within x 30 (lit≤ tt) w in
    record {
      within = mul_within (length_of x) half (2 ^ 31) 1 (2 ^ 31) l half_area.within (lit≤ tt) (held_small (2 ^ 31) (lit< tt));
      nonneg = mul_nonneg (length_of x) half l.is_finite half_area.within.is_finite (vec_length_nonneg x 30 (lit≤ tt) w) half_area.nonneg;
    }

area_to_lem : (c : ℕ → Vec3) (n k : ℕ) → Near c n → n ≤ 64 → k + 2 ≤ n → Area (area_to c k) (k * 2 ^ 31)
unfolding area_to
area_to_lem c n zero near most h = zero_area (0 * 2 ^ 31)
area_to_lem c n (suc k) near most h =
    add_area (area_to c k) (triangle_area c k) k 31 (omega (arith, h, most)) (lit≤ tt)
    (area_to_lem c n k near most (omega (arith, h))) (triangle_area_lem c n k near (omega (arith, h)))

pub near_area : (c : ℕ → Vec3) (n : ℕ) → Near c n → 3 ≤ n → n ≤ 64 → Area (area_of_word c n) (2 ^ 37)
unfolding area_of_word
near_area c n near least most =
    wider_area (area_to c (n - 2)) ((n - 2) * 2 ^ 31) (2 ^ 37) (few (n - 2) (omega (arith, most))) (area_to_lem c n (n - 2) near most (omega (arith, least)))
  where
    few : (k : ℕ) → k ≤ 62 → k * 2 ^ 31 ≤ 2 ^ 37
    few k h = omega (arith, h)

-- ---- the polygons of a readable file
pub readable_near : (s : List ℕ) → Readable s → (p : ℕ) → p < polygon_count_of s → Near (polygon_corner (part_of s) p) ((part_of s).polygon p).count
unfolding Near polygon_corner part_of polygon_at
readable_near s h p l k m =
    readable_vertex s h (first_at s (entry_at (vertex_count_of s) p) + k) (readable_index s h p l k m)

pub readable_area : (s : List ℕ) → Readable s → (p : ℕ) → p < polygon_count_of s → Area (polygon_area (part_of s) p) (2 ^ 37)
unfolding polygon_area part_of polygon_at
readable_area s h p l =
    let r = readable_run s h p l in
    near_area (polygon_corner (part_of s) p) (count_at_of s (entry_at (vertex_count_of s) p)) (readable_near s h p l) r.least r.most

pub area_number : (s : List ℕ) → Readable s → (p : ℕ) → p < polygon_count_of s → is_nan (polygon_area (part_of s) p) ≡ false
area_number s h p l = finite_number _ (readable_area s h p l).within.is_finite

pub area_within : (s : List ℕ) → Readable s → (p : ℕ) → p < polygon_count_of s → Within (polygon_area (part_of s) p) (2 ^ 37)
area_within s h p l = (readable_area s h p l).within

pub area_nonneg : (s : List ℕ) → Readable s → (p : ℕ) → p < polygon_count_of s → NonNeg (polygon_area (part_of s) p)
area_nonneg s h p l = (readable_area s h p l).nonneg

-- ---- the faces of a readable file
-- some of the first n polygons' areas, added
face_area_to_lem : (s : List ℕ) → Readable s → (f n : ℕ) → n ≤ polygon_count_of s → Area (face_area_to (part_of s) f n) (n * 2 ^ 37)
unfolding face_area_to
face_area_to_lem s h f zero l = zero_area (0 * 2 ^ 37)
face_area_to_lem s h f (suc n) l =
    let rest = face_area_to_lem s h f n (omega (arith, l)) in
    let few = (readable_counts s h).1 in
    cond_has (λ (x : Float). Area x (suc n * 2 ^ 37)) (eqb (face_number (part_of s) n) f)
    (add_area (face_area_to (part_of s) f n) (polygon_area (part_of s) n) n 37 (omega (arith, l, few)) (lit≤ tt) rest (readable_area s h n l))
    (wider_area (face_area_to (part_of s) f n) (n * 2 ^ 37) (suc n * 2 ^ 37) (more n) rest)
  where
    more : (n : ℕ) → n * 2 ^ 37 ≤ suc n * 2 ^ 37
    more n = omega arith

pub face_area_lem : (s : List ℕ) → Readable s → (f : ℕ) → Area (face_area (part_of s) f) (2 ^ 49)
unfolding face_area part_of
face_area_lem s h f =
    wider_area (face_area_to (part_of s) f (polygon_count_of s)) (polygon_count_of s * 2 ^ 37) (2 ^ 49) (few (polygon_count_of s) (readable_counts s h).1)
    (face_area_to_lem s h f (polygon_count_of s) (le_refl (polygon_count_of s)))
  where
    few : (n : ℕ) → n ≤ 4096 → n * 2 ^ 37 ≤ 2 ^ 49
    few n h = omega (arith, h)

pub face_area_number : (s : List ℕ) → Readable s → (f : ℕ) → is_nan (face_area (part_of s) f) ≡ false
face_area_number s h f = finite_number _ (face_area_lem s h f).within.is_finite

-- ---- areas of faces, added: at most 1,024 of them
-- `sums n` is the sum of the first n
pub areas_added : (s : List ℕ) → Readable s → (sums : ℕ → Float) (n : ℕ) → sums 0 ≡ vector.zero →
    ((i : ℕ) → i < n → sums (suc i) ≡ add binary64 (sums i) (face_area (part_of s) i)) → n ≤ 1024 → Area (sums n) (2 ^ 59)
areas_added s h sums n start step most =
    wider_area (sums n) (n * 2 ^ 49) (2 ^ 59) (few n most) (go n (le_refl n))
  where
    few : (n : ℕ) → n ≤ 1024 → n * 2 ^ 49 ≤ 2 ^ 59
    few n h = omega (arith, h)

    go : (i : ℕ) → i ≤ n → Area (sums i) (i * 2 ^ 49)
    go zero l = subst (λ (x : Float). Area x (0 * 2 ^ 49)) (sym start) (zero_area (0 * 2 ^ 49))
    go (suc i) l =
        subst (λ (x : Float). Area x (suc i * 2 ^ 49)) (sym (step i l))
        (add_area (sums i) (face_area (part_of s) i) i 49 (omega (arith, l, most)) (lit≤ tt) (go i (omega (arith, l))) (face_area_lem s h i))
