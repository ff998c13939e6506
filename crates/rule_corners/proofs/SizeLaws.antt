-- The numbers that a sharp corner's message prints: finite, not negative, below 2^60.
use mathlib.Core.Path.{◌≡◌, refl, sym, subst}
use mathlib.Core.Bool.{true}
use mathlib.Core.Logic.{◌⊎◌, inl, inr}
use mathlib.Core.List.{List, [], ◌∷◌, Memᴰ}
use Prim.Native.Nat.{ℕ, suc, ◌+◌, ◌*◌, ◌^◌, ◌≤◌, ◌<◌}
use native.Mathlib.Nat.{add-zero, suc-mul, le_of_eq}
use native.Mathlib.Omega.{arith}
use lib.Dec.{lit<, lit≤}
use lib.ListN.{length}
use lib.Ieee.{Float, binary64, add, div, of_bits, le, lt, eq}
use Rattle.num_float.specs.Sign.{NonNeg}
use Rattle.num_float.specs.Within.{Within, Beyond}
use Rattle.num_float.proofs.Within.{wider, held_pow, held_small, add_within, div_within}
use Rattle.num_float.proofs.Sign.{add_nonneg, div_nonneg}
use Rattle.num_real.specs.Select.{max_of}
use Rattle.num_real.proofs.SelectLaws.{max_either, max_within}
use Rattle.num_text.specs.Decimal.{accepted}
use Rattle.num_text.proofs.NeverRefused.{accepted_at}
use Rattle.math.specs.Vector.{zero, distance_of}
use Rattle.math.specs.Size.{VecWithin}
use Rattle.file_part.specs.Layout.{vertex_count_of}
use Rattle.file_part.specs.Part.{Part, part_of}
use Rattle.file_part.proofs.PartLaws.{part_vertices, part_vertex}
use Rattle.file_ok.proofs.ReadableLaws.{readable_vertex}
use Rattle.solid_faces.specs.Faces.{Checked}
use Rattle.solid_faces.proofs.BodyLaws.{checked_readable}
use Rattle.solid_edges.proofs.ScanLaws.{end_below}
use Rattle.solid_sizes.proofs.Vectors.{distance_within, distance_nonneg}
use Rattle.solid_segments.specs.Sides.{to_of}
use Rattle.fault_text.specs.Machining.{min_mill_radius}
use Rattle.rule_corners.specs.Corners.{corner_count, corner_side, segment_length, length_from_of}
use Rattle.rule_corners.specs.Sharp.{six, fillet_of}
use Rattle.rule_corners.proofs.CornerLaws.{corner_side_lem}

-- ---- the constants
zero_nonneg : NonNeg zero
unfolding of_bits le lt eq
zero_nonneg = refl

zero_within : Within zero (0 * 2 ^ 16)
unfolding of_bits
zero_within = record { is_finite = tt; size = lit≤ tt }

six_beyond : Beyond six 1
unfolding of_bits
six_beyond = record { is_finite = tt; size = lit≤ tt }

six_above : lt zero six ≡ true
unfolding of_bits lt
six_above = refl

half_nonneg : NonNeg min_mill_radius
unfolding of_bits le lt eq
half_nonneg = refl

half_within : Within min_mill_radius (2 ^ 30)
unfolding of_bits
half_within = record { is_finite = tt; size = lit≤ tt }

-- ---- one segment is at most 2^16 long
module _ (s : List ℕ) (h : Checked s) where
  abbrev t : Part
  t = part_of s

  vertex_within : (i : ℕ) → i < vertex_count_of s → VecWithin (t.vertex i) 10000
  vertex_within i l = subst (λ v. VecWithin v 10000) (sym (part_vertex s i)) (readable_vertex s (checked_readable s h) i l)

  segment_sized : (i : ℕ) → i < vertex_count_of s → NonNeg (segment_length t i) × Within (segment_length t i) (2 ^ 16)
  unfolding segment_length distance_of
  segment_sized i l =
      let a = vertex_within (to_of t i) (end_below s (checked_readable s h) i l) in
      let b = vertex_within i l in
      (distance_nonneg (t.vertex (to_of t i)) (t.vertex i) a b, distance_within (t.vertex (to_of t i)) (t.vertex i) a b)

  -- ---- and so each corner, and their sum at most 2^16 times their number
  lengths_sized : (l : List ℕ) (x : Float) (i : ℕ) → ((z : ℕ) → Memᴰ z l → z < corner_count t) → i + length l < 2 ^ 53 → NonNeg x → Within x (i * 2 ^ 16) →
      NonNeg (length_from_of t x l) × Within (length_from_of t x l) ((i + length l) * 2 ^ 16)
  unfolding length_from_of
  lengths_sized [] x i inside few n w = (n, subst (λ (k : ℕ). Within x (k * 2 ^ 16)) (sym (add-zero i)) w)
  lengths_sized (k ∷ l) x i inside few n w =
      let side = corner_side_lem t k (inside k (Memᴰ.head refl)) in
      let one = segment_sized (corner_side t k) (omega (arith, side.0, part_vertices s)) in
      let y = segment_length t (corner_side t k) in
      let shift : suc i + length l ≡ i + suc (length l) = omega arith in
      let more = lengths_sized l (add binary64 x y) (suc i) (λ z m. inside z (Memᴰ.tail m)) (omega (arith, few)) (add_nonneg x y n one.0)
      (add_within x y (i * 2 ^ 16) (2 ^ 16) (suc i * 2 ^ 16) w one.1 (le_of_eq (sym (suc-mul i (2 ^ 16)))) (held_pow (suc i) 16 (omega (arith, few)) (lit≤ tt))) in
      (more.0, subst (λ (n : ℕ). Within (length_from_of t (add binary64 x y) l) (n * 2 ^ 16)) shift more.1)

  module _ (l : List ℕ) (inside : (z : ℕ) → Memᴰ z l → z < corner_count t) (few : length l ≤ 16384) where
    sized : NonNeg (length_from_of t zero l) × Within (length_from_of t zero l) (2 ^ 30)
    sized =
        let s = lengths_sized l zero 0 inside (omega (arith, few)) zero_nonneg zero_within in
        (s.0, wider (2 ^ 30) (omega (arith, few)) s.1)

    pub length_accepted : accepted (length_from_of t zero l) 2 ≡ true
    length_accepted = accepted_at (length_from_of t zero l) (2 ^ 30) 2 sized.0 sized.1 (lit< tt) (lit≤ tt)

    pub fillet_accepted : accepted (fillet_of (length_from_of t zero l)) 2 ≡ true
    unfolding fillet_of
    fillet_accepted =
        let x = length_from_of t zero l in
        let within = div_within x six (2 ^ 30) 1 (2 ^ 30) sized.1 six_beyond (lit≤ tt) (held_small (2 ^ 30) (lit< tt)) in
        let nonneg = div_nonneg x six sized.1.is_finite six_beyond.is_finite sized.0 six_above in
        accepted_at (max_of min_mill_radius (div binary64 x six)) (2 ^ 30) 2 (either nonneg (max_either min_mill_radius (div binary64 x six)))
        (max_within min_mill_radius (div binary64 x six) (2 ^ 30) half_within within) (lit< tt) (lit≤ tt)
      where
        either : {y : Float} → NonNeg y → (max_of min_mill_radius y ≡ min_mill_radius) ⊎ (max_of min_mill_radius y ≡ y) → NonNeg (max_of min_mill_radius y)
        either n (inl e) = subst NonNeg (sym e) half_nonneg
        either n (inr e) = subst NonNeg (sym e) n
