-- The limits of a sheet: what they are, and that the decimal writer takes them.
use mathlib.Core.Path.{◌≡◌, refl, ap, ap₂, ◌∙◌}
use mathlib.Core.Bool.{Bool, true, false, ◌||◌, cond}
use mathlib.Core.List.{List}
use Prim.Native.Nat.{ℕ, ◌^◌}
use native.Mathlib.Omega.{arith}
use lib.Dec.{lit<, lit≤}
use lib.Ieee.{Float, binary64, add, mul, of_bits, le, lt, eq}
use Rattle.num_float.specs.Sign.{NonNeg}
use Rattle.num_float.specs.Within.{Within}
use Rattle.num_float.proofs.Within.{held_small, add_within, mul_within}
use Rattle.num_float.proofs.Sign.{add_nonneg, mul_nonneg}
use Rattle.num_text.specs.Put.{bytes}
use Rattle.num_text.specs.Decimal.{accepted}
use Rattle.num_text.proofs.NeverRefused.{accepted_at}
use Rattle.file_field.specs.Test.{two}
use Rattle.file_field.proofs.FieldLaws.{two_within}
use Rattle.file_part.specs.Part.{Part, part_of}
use Rattle.solid_faces.specs.Faces.{Checked}
use Rattle.measure_sizes.specs.Reading.{ReadingBounds}
use Rattle.sheet_bends.specs.Bends.{bend_radius}
use Rattle.rule_holes.specs.declared.holes.Limits.{Limits}
use Rattle.rule_holes.specs.Name.{is_named}
use Rattle.sheet_bends.proofs.RadiusLaws.{radius_nonneg, radius_within}
use Rattle.rule_holes.specs.Holes.{six_fifths, five_halves, min_hole_of, need_of}
use Rattle.rule_holes.specs.Work.{LimitsOf}
use Rattle.rule_holes.proofs.ChoiceLaws.{chosen_first, chosen_second}

-- ---- what they are
module _ (t : Part) (thick : Float) (a b : Bool) (ea : a ≡ is_named t (bytes "Stainless")) (eb : b ≡ is_named t (bytes "304")) where
  is_least : cond (a || b) (mul binary64 six_fifths thick) thick ≡ min_hole_of t thick
  unfolding min_hole_of
  is_least = ap₂ (λ (x y : Bool). cond (x || y) (mul binary64 six_fifths thick) thick) ea eb

  pub hardened : (a || b) ≡ true → mul binary64 six_fifths thick ≡ min_hole_of t thick
  hardened h = chosen_first (mul binary64 six_fifths thick) thick refl h ∙ is_least

  pub soft : (a || b) ≡ false → thick ≡ min_hole_of t thick
  soft h = chosen_second (mul binary64 six_fifths thick) thick refl h ∙ is_least

module _ (t : Part) (thick : Float) where
  pub limits_are : (least radius : Float) → least ≡ min_hole_of t thick → radius ≡ bend_radius t thick →
      LimitsOf t thick (record { hole = least; bend = add binary64 (mul binary64 five_halves thick) radius; edge = mul binary64 two thick })
  unfolding need_of
  limits_are least radius e r = record { hole = e; bend = ap (add binary64 (mul binary64 five_halves thick)) r; edge = refl }

  -- the one that is asked for
  pub need_is : (l : Limits) (near : Bool) (need : Float) → LimitsOf t thick l → need ≡ cond near l.bend l.edge → need ≡ need_of t thick near
  need_is l true need h e = e ∙ h.bend
  need_is l false need h e = e ∙ h.edge

-- ---- how large they are
six_fifths_within : Within six_fifths 2
unfolding of_bits
six_fifths_within = record { is_finite = tt; size = lit≤ tt }

six_fifths_nonneg : NonNeg six_fifths
unfolding of_bits le lt eq
six_fifths_nonneg = refl

five_halves_within : Within five_halves 3
unfolding of_bits
five_halves_within = record { is_finite = tt; size = lit≤ tt }

five_halves_nonneg : NonNeg five_halves
unfolding of_bits le lt eq
five_halves_nonneg = refl

two_nonneg : NonNeg two
unfolding of_bits le lt eq
two_nonneg = refl

module _ (thick : Float) (b : ReadingBounds thick) where
  times_nonneg : (x : Float) (c : ℕ) → Within x c → NonNeg x → NonNeg (mul binary64 x thick)
  times_nonneg x c w n = mul_nonneg x thick w.is_finite b.within.is_finite n b.nonneg

  pub least_accepted : (t : Part) → accepted (min_hole_of t thick) 2 ≡ true
  unfolding min_hole_of
  least_accepted t = go (is_named t (bytes "Stainless") || is_named t (bytes "304"))
    where
      go : (c : Bool) → accepted (cond c (mul binary64 six_fifths thick) thick) 2 ≡ true
      go true =
          accepted_at (mul binary64 six_fifths thick) (2 ^ 18) 2 (times_nonneg six_fifths 2 six_fifths_within six_fifths_nonneg)
          (mul_within six_fifths thick 2 (2 ^ 17) (2 ^ 18) six_fifths_within b.within (lit≤ tt) (held_small (2 ^ 18) (lit< tt))) (lit< tt) (omega arith)
      go false = accepted_at thick (2 ^ 17) 2 b.nonneg b.within (lit< tt) (omega arith)

  -- the distance from a bend, and from anything else
  module _ (s : List ℕ) (checked : Checked s) where
    half_within : Within (mul binary64 five_halves thick) (2 ^ 19)
    half_within = mul_within five_halves thick 3 (2 ^ 17) (2 ^ 19) five_halves_within b.within (lit≤ tt) (held_small (2 ^ 19) (lit< tt))

    pub need_within : (near : Bool) → Within (need_of (part_of s) thick near) (2 ^ 20)
    unfolding need_of
    need_within true =
        add_within (mul binary64 five_halves thick) (bend_radius (part_of s) thick) (2 ^ 19) 10000 (2 ^ 20) half_within (radius_within s checked thick) (lit≤ tt)
        (held_small (2 ^ 20) (lit< tt))
    need_within false = mul_within two thick 2 (2 ^ 17) (2 ^ 20) two_within b.within (lit≤ tt) (held_small (2 ^ 20) (lit< tt))

    pub need_nonneg : (near : Bool) → NonNeg (need_of (part_of s) thick near)
    unfolding need_of
    need_nonneg true =
        add_nonneg (mul binary64 five_halves thick) (bend_radius (part_of s) thick) (times_nonneg five_halves 3 five_halves_within five_halves_nonneg)
        (radius_nonneg s checked thick)
    need_nonneg false = times_nonneg two 2 two_within two_nonneg
