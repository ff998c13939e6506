-- How many faces of a checked file hang over at most, and that their area can be printed.
use mathlib.Core.Path.{◌≡◌, ap, ◌∙◌}
use mathlib.Core.Bool.{true, false, ◌&&◌}
use mathlib.Core.List.{List}
use Prim.Native.Nat.{ℕ, zero, suc, ◌*◌, ◌^◌, ◌≤◌, ◌<◌}
use native.Mathlib.Omega.{arith}
use lib.Dec.{eqb, lit≤}
use lib.Ieee.{Float}
use Rattle.num_float.specs.Sign.{NonNeg}
use Rattle.num_float.specs.Within.{Within}
use Rattle.num_float.proofs.Tests.{refuted, cond_has}
use Rattle.list_laws.proofs.Count.{count_le, count_less}
use Rattle.file_part.specs.Layout.{polygon_count_of}
use Rattle.file_part.specs.Part.{Part, part_of}
use Rattle.file_part.proofs.PartLaws.{part_polygons}
use Rattle.file_ok.proofs.ReadableLaws.{readable_counts}
use Rattle.solid_faces.specs.Faces.{faces_of, face_number, polygon_area, Checked}
use Rattle.solid_faces.proofs.BodyLaws.{checked_readable, checked_faces}
use Rattle.solid_sizes.specs.Sizes.{Area}
use Rattle.solid_sizes.proofs.Areas.{readable_area, zero_area, add_area, wider_area}
use Rattle.solid_ranks.specs.Ranks.{rank_of, face_of_rank}
use Rattle.solid_ranks.proofs.RankLaws.{rank_below, face_of_rank_lem}
use Rattle.print_overhang.specs.declared.Lean.{Lean}
use Rattle.print_overhang.specs.Overhang.{hangs_over, overhang_to_of, overhang_of, is_kept, overhang_count, overhang_sum, overhang_area}

-- ---- whether some face hangs over: what the count says
module _ (t : Part) (lean : Lean) (f : ℕ) (l : f < faces_of t) where
  pub overhang_some : is_kept t lean f ≡ true → 1 ≤ overhang_count t lean
  unfolding overhang_count
  overhang_some kept =
      omega (arith, count_less (rank_of t f) (faces_of t) (λ r. is_kept t lean (face_of_rank t r)) (rank_below t f l) (ap (is_kept t lean) (face_of_rank_lem t f l) ∙ kept))

  pub overhang_none : overhang_count t lean ≡ 0 → is_kept t lean f ≡ false
  overhang_none none = refuted (is_kept t lean f) (λ kept. omega (arith, overhang_some kept, none))

-- ---- sizes
module _ (s : List ℕ) (h : Checked s) (lean : Lean) where
  pub overhang_few : overhang_count (part_of s) lean ≤ 1024
  unfolding overhang_count
  overhang_few = omega (arith, count_le (faces_of (part_of s)) (λ r. is_kept (part_of s) lean (face_of_rank (part_of s) r)), checked_faces s h)

  -- some of the first n polygons' areas, added
  area_to_lem : (f n : ℕ) → n ≤ polygon_count_of s → Area (overhang_to_of (part_of s) lean f n) (n * 2 ^ 37)
  unfolding overhang_to_of
  area_to_lem f zero l = zero_area (0 * 2 ^ 37)
  area_to_lem f (suc n) l =
      let rest = area_to_lem f n (omega (arith, l)) in
      let few = (readable_counts s (checked_readable s h)).1 in
      cond_has (λ (x : Float). Area x (suc n * 2 ^ 37)) (eqb (face_number (part_of s) n) f && hangs_over (part_of s) lean n)
      (add_area (overhang_to_of (part_of s) lean f n) (polygon_area (part_of s) n) n 37 (omega (arith, l, few)) (lit≤ tt) rest (readable_area s (checked_readable s h) n l))
      (wider_area (overhang_to_of (part_of s) lean f n) (n * 2 ^ 37) (suc n * 2 ^ 37) (more n) rest)
    where
      more : (n : ℕ) → n * 2 ^ 37 ≤ suc n * 2 ^ 37
      more n = omega arith

  area_of : (f : ℕ) → Area (overhang_of (part_of s) lean f) (2 ^ 49)
  unfolding overhang_of
  area_of f =
      wider_area (overhang_to_of (part_of s) lean f (part_of s).polygons) ((part_of s).polygons * 2 ^ 37) (2 ^ 49) (few (part_of s).polygons (omega (arith, part_polygons s, (readable_counts s (checked_readable s h)).1)))
      (area_to_lem f (part_of s).polygons (omega (arith, part_polygons s)))
    where
      few : (n : ℕ) → n ≤ 4096 → n * 2 ^ 37 ≤ 2 ^ 49
      few n m = omega (arith, m)

  -- of the faces of the first n ranks
  sum_to : (n : ℕ) → n ≤ 1024 → Area (overhang_sum (part_of s) lean n) (n * 2 ^ 49)
  unfolding overhang_sum
  sum_to zero l = zero_area (0 * 2 ^ 49)
  sum_to (suc n) l =
      let rest = sum_to n (omega (arith, l)) in
      cond_has (λ (x : Float). Area x (suc n * 2 ^ 49)) (is_kept (part_of s) lean (face_of_rank (part_of s) n))
      (add_area (overhang_sum (part_of s) lean n) (overhang_of (part_of s) lean (face_of_rank (part_of s) n)) n 49 (omega (arith, l)) (lit≤ tt) rest (area_of (face_of_rank (part_of s) n)))
      (wider_area (overhang_sum (part_of s) lean n) (n * 2 ^ 49) (suc n * 2 ^ 49) (more n) rest)
    where
      more : (n : ℕ) → n * 2 ^ 49 ≤ suc n * 2 ^ 49
      more n = omega arith

  area_all : Area (overhang_area (part_of s) lean) (2 ^ 59)
  unfolding overhang_area
  area_all =
      wider_area (overhang_sum (part_of s) lean (faces_of (part_of s))) (faces_of (part_of s) * 2 ^ 49) (2 ^ 59) (few (faces_of (part_of s)) (checked_faces s h))
      (sum_to (faces_of (part_of s)) (checked_faces s h))
    where
      few : (n : ℕ) → n ≤ 1024 → n * 2 ^ 49 ≤ 2 ^ 59
      few n m = omega (arith, m)

  pub overhang_within : Within (overhang_area (part_of s) lean) (2 ^ 59)
  overhang_within = area_all.within

  pub overhang_nonneg : NonNeg (overhang_area (part_of s) lean)
  overhang_nonneg = area_all.nonneg
