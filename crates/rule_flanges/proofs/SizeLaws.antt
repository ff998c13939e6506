-- The numbers that a short flange's message prints are accepted: how far it reaches, which is not negative and below a limit, and that limit.
use mathlib.Core.Path.{◌≡◌, refl}
use mathlib.Core.Bool.{Bool, true, false, true≢false, ◌||◌, cond}
use Prim.Native.Nat.{ℕ, zero, suc, ◌^◌}
use native.Mathlib.Omega.{arith}
use lib.Dec.{lit<, lit≤}
use lib.Ieee.{Float, binary64, add, lt, le, eq, is_nan, of_bits}
use lib.Dec.{eqb}
use Rattle.num_float.specs.Sign.{NonNeg, plus_zero}
use Rattle.num_float.specs.Within.{Within}
use Rattle.num_float.proofs.Order.{lt_le, le_numbers}
use Rattle.num_float.proofs.NonNegative.{nonneg_above}
use Rattle.num_float.proofs.Sign.{mul_nonneg, cond_nonneg}
use Rattle.num_float.proofs.Within.{mul_within, held_small}
use Rattle.num_real.specs.Select.{max_of}
use Rattle.num_text.specs.Decimal.{accepted}
use Rattle.num_text.proofs.NeverRefused.{accepted_at}
use Rattle.math.specs.declared.Vec3.{Vec3}
use Rattle.file_part.specs.Part.{Part}
use Rattle.solid_faces.specs.Faces.{face_number, polygon_corner}
use Rattle.wall_ray.specs.Strike.{e_9}
use Rattle.measure_sizes.specs.Reading.{ReadingBounds}
use Rattle.measure_sizes.proofs.Limits.{limit_accepted}
use Rattle.rule_flanges.specs.declared.legs.Leg.{Leg}
use Rattle.rule_flanges.specs.Flanges.{four, run_reach, reach_with, reach_to, reach_of, min_flange}

-- ---- what a leg reaches is not negative: it is the most of some numbers, from 0.0 on
or_second : (a b : Bool) → a ≡ false → (a || b) ≡ true → b ≡ true
or_second true b e h = absurd (true≢false e)
or_second false b e h = h

max_nonneg : (a b : Float) → NonNeg a → NonNeg (max_of a b)
unfolding max_of
max_nonneg a b p = go (is_nan a || lt a b) refl
  where
    go : (t : Bool) → (is_nan a || lt a b) ≡ t → NonNeg (cond t b a)
    go true e = nonneg_above a b p (lt_le a b (or_second (is_nan a) (lt a b) (le_numbers plus_zero a p).1 e))
    go false e = p

run_nonneg : (along base : Vec3) (corner : ℕ → Vec3) (x : Float) (k : ℕ) → NonNeg x → NonNeg (run_reach along base corner x k)
unfolding run_reach
run_nonneg along base corner x zero p = p
run_nonneg along base corner x (suc k) p = max_nonneg _ _ (run_nonneg along base corner x k p)

reaches_nonneg : (t : Part) (g : ℕ) (along base : Vec3) (q : ℕ) → NonNeg (reach_to t g along base q)
unfolding reach_to reach_with of_bits le lt eq
reaches_nonneg t g along base zero = refl
reaches_nonneg t g along base (suc q) =
    let before = reaches_nonneg t g along base q in
    cond_nonneg (eqb (face_number t q) g) _ _ (run_nonneg along base (polygon_corner t q) (reach_to t g along base q) (t.polygon q).count before) before

pub reach_nonneg : (t : Part) (leg : Leg) → NonNeg (reach_of t leg)
unfolding reach_of
reach_nonneg t leg = reaches_nonneg t leg.face _ _ t.polygons

-- ---- the limit
four_within : Within four 4
unfolding of_bits
four_within = record { is_finite = tt; size = lit≤ tt }

four_nonneg : NonNeg four
unfolding of_bits le lt eq
four_nonneg = refl

module _ (thick : Float) (b : ReadingBounds thick) where
  least_within : Within (min_flange thick) (2 ^ 19)
  unfolding min_flange
  least_within = mul_within four thick 4 (2 ^ 17) (2 ^ 19) four_within b.within (lit≤ tt) (held_small (2 ^ 19) (lit< tt))

  least_nonneg : NonNeg (min_flange thick)
  unfolding min_flange
  least_nonneg = mul_nonneg four thick four_within.is_finite b.within.is_finite four_nonneg b.nonneg

  pub least_accepted : accepted (min_flange thick) 2 ≡ true
  least_accepted = accepted_at (min_flange thick) (2 ^ 19) 2 least_nonneg least_within (lit< tt) (omega arith)

  pub reach_accepted : (x : Float) → NonNeg x → lt (add binary64 x e_9) (min_flange thick) ≡ true → accepted x 2 ≡ true
  reach_accepted x p h = limit_accepted x (min_flange thick) (2 ^ 19) p h least_within (lit< tt)
