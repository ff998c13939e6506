-- The volume of a body of a readable file: at most 2^58 in size.
use mathlib.Core.Path.{◌≡◌, sym, subst}
use mathlib.Core.Bool.{Bool, true, false, cond}
use mathlib.Core.List.{List}
use Prim.Native.Nat.{ℕ, zero, suc, ◌+◌, ◌-◌, ◌*◌, ◌^◌, ◌≤◌, ◌<◌, zero-le}
use native.Mathlib.Nat.{le_refl, add-zero}
use native.Mathlib.Omega.{arith}
use lib.Dec.{T, eqb, lit<, lit≤}
use lib.Ieee.{Float, of_bits}
use lib.Ieee.Scale.{finite}
use lib.Ieee.Positive.{num, den}
use Rattle.num_float.specs.Within.{Within}
use Rattle.num_float.proofs.Within.{held_small, held_pow, wider, add_within}
use Rattle.math.specs.declared.Vec3.{Vec3}
use Rattle.math.specs.Vector.{dot_of, cross_of}
use Rattle.math.specs.Size.{VecWithin}
use Rattle.file_field.specs.Field.{vec_at_of}
use Rattle.file_part.specs.Layout.{vertex_count_of, polygon_count_of, entry_at}
use Rattle.file_part.specs.Part.{part_of, polygon_at, first_at, count_at_of}
use Rattle.file_ok.specs.Work.{Readable}
use Rattle.file_ok.proofs.ReadableLaws.{readable_counts, readable_run, readable_vertex, readable_index}
use Rattle.solid_bodies.specs.Body.{body_of}
use Rattle.solid_volumes.specs.Volume.{six, pyramid, fan, fan_from, volume_to, volume_of}
use Rattle.solid_sizes.proofs.Vectors.{cross_within, dot_within}
use Rattle.solid_sizes.proofs.Means.{over_within}

-- ---- one pyramid, of points with coordinates of at most 10,000
six_finite : T (finite six)
unfolding of_bits
six_finite = tt

six_size : 6 * den six ≤ num six
unfolding of_bits
six_size = lit≤ tt

pyramid_within : (a b c : Vec3) → VecWithin a 10000 → VecWithin b 10000 → VecWithin c 10000 → Within (pyramid a b c) (2 ^ 40)
unfolding pyramid
pyramid_within a b c A B C =
    let base = cross_within b c 10000 10000 100000000 B C (lit≤ tt) (held_small 100000000 (lit< tt)) 200000000 (lit≤ tt) (held_small 200000000 (lit< tt)) in
    let d : Within (dot_of a (cross_of b c)) (6 * 2 ^ 40) =
    dot_within a (cross_of b c) 10000 200000000 (2 * 2 ^ 40) A base (lit≤ tt) (held_small (2 * 2 ^ 40) (lit< tt))
    (4 * 2 ^ 40) (6 * 2 ^ 40) (lit≤ tt) (held_small (4 * 2 ^ 40) (lit< tt)) (lit≤ tt) (held_small (6 * 2 ^ 40) (lit< tt)) in
    over_within (dot_of a (cross_of b c)) six 6 (2 ^ 40) (lit< tt) d six_finite six_size (held_small (2 ^ 40) (lit< tt))

-- ---- the fan of a polygon
-- k pyramids, added to i of them
fan_within : (vertex : ℕ → Vec3) (first : ℕ) (a : Float) (i k : ℕ) → i + k < 2 ^ 53 → Within a (i * 2 ^ 40) →
    ((j : ℕ) → j < k + 2 → VecWithin (vertex (first + j)) 10000) → Within (fan vertex first a k) ((i + k) * 2 ^ 40)
unfolding fan
fan_within vertex first a i zero h w near = subst (λ (n : ℕ). Within a (n * 2 ^ 40)) (sym (add-zero i)) w
fan_within vertex first a i (suc k) h w near =
    let at : (j m : ℕ) → m ≡ first + j → j < suc k + 2 → VecWithin (vertex m) 10000 =
    λ j m e l. subst (λ (n : ℕ). VecWithin (vertex n) 10000) (sym e) (near j l) in
    let rest = fan_within vertex first a i k (omega (arith, h)) w (λ j l. near j (omega (arith, l))) in
    let next = pyramid_within (vertex first) (vertex (first + k + 1)) (vertex (first + k + 2))
    (at 0 first (omega arith) (omega arith)) (at (k + 1) (first + k + 1) (omega arith) (omega arith)) (at (k + 2) (first + k + 2) (omega arith) (omega arith)) in
    add_within (fan vertex first a k) (pyramid (vertex first) (vertex (first + k + 1)) (vertex (first + k + 2)))
    ((i + k) * 2 ^ 40) (2 ^ 40) ((i + suc k) * 2 ^ 40) rest next (one_more i k) (held_pow (i + suc k) 40 h (lit≤ tt))
  where
    one_more : (i k : ℕ) → (i + k) * 2 ^ 40 + 2 ^ 40 ≤ (i + suc k) * 2 ^ 40
    one_more i k = omega arith

-- those of a polygon, or none
polygon_within : (vertex : ℕ → Vec3) (first count : ℕ) (a : Float) (n : ℕ) (mine : Bool) → n ≤ 4096 → 3 ≤ count → count ≤ 64 → Within a (n * 62 * 2 ^ 40) →
    ((j : ℕ) → j < count → VecWithin (vertex (first + j)) 10000) → Within (fan vertex first a (cond mine (count - 2) 0)) (suc n * 62 * 2 ^ 40)
polygon_within vertex first count a n true few least most w near =
    wider (suc n * 62 * 2 ^ 40) (room n (count - 2) (omega (arith, most)))
    (fan_within vertex first a (n * 62) (count - 2) (omega (arith, few, most)) w (λ j l. near j (omega (arith, l, least))))
  where
    room : (n k : ℕ) → k ≤ 62 → (n * 62 + k) * 2 ^ 40 ≤ suc n * 62 * 2 ^ 40
    room n k h = omega (arith, h)
polygon_within vertex first count a n false few least most w near = unfold fan in wider (suc n * 62 * 2 ^ 40) (room n) w
  where
    room : (n : ℕ) → n * 62 * 2 ^ 40 ≤ suc n * 62 * 2 ^ 40
    room n = omega arith

-- ---- the polygons of a body: at most 62 pyramids each
volume_to_lem : (s : List ℕ) → Readable s → (b n : ℕ) → n ≤ polygon_count_of s → Within (volume_to (part_of s) b n) (n * 62 * 2 ^ 40)
unfolding volume_to fan_from part_of polygon_at
volume_to_lem s h b zero l = unfold of_bits in record { is_finite = tt; size = zero-le }
volume_to_lem s h b (suc n) l =
    let run = readable_run s h n l in
    let at = entry_at (vertex_count_of s) n in
    polygon_within (λ i. vec_at_of s (24 * i)) (first_at s at) (count_at_of s at) (volume_to (part_of s) b n) n (eqb (body_of (part_of s) n) b) (omega (arith, l, (readable_counts s h).1))
    run.least run.most (volume_to_lem s h b n (omega (arith, l)))
    (λ j m. readable_vertex s h (first_at s at + j) (readable_index s h n l j m))

pub volume_within : (s : List ℕ) → Readable s → (b : ℕ) → Within (volume_of (part_of s) b) (2 ^ 58)
unfolding volume_of part_of
volume_within s h b =
    wider (2 ^ 58) (few (polygon_count_of s) (readable_counts s h).1) (volume_to_lem s h b (polygon_count_of s) (le_refl (polygon_count_of s)))
  where
    few : (n : ℕ) → n ≤ 4096 → n * 62 * 2 ^ 40 ≤ 2 ^ 58
    few n h = omega (arith, h)
