-- Laws on how many rays a face gets, and from which of its polygons.
use mathlib.Core.Path.{◌≡◌, sym, ap, ◌∙◌}
use Prim.Native.Nat.{ℕ, ◌/◌, ◌≤◌, ◌<◌}
use native.Mathlib.Nat.{le-max_left, max-eq_left, max-eq_right}
use native.Mathlib.Omega.{arith}
use lib.Ieee.{Float, binary64, mul, div}
use Rattle.num_real.specs.Rounding.{ceil_usize_of}
use Rattle.file_part.specs.Part.{Part}
use Rattle.solid_faces.specs.Faces.{face_area}
use Rattle.wall_starts.specs.Starts.{total_area_of, budget, share, wanted, step_of}

-- at least one
pub share_least : (area total : Float) → 1 ≤ share area total
unfolding share
share_least area total = le-max_left 1 (ceil_usize_of (mul binary64 (div binary64 area total) budget))

pub wanted_least : (t : Part) (f : ℕ) → 1 ≤ wanted t f
unfolding wanted
wanted_least t f = share_least (face_area t f) (total_area_of t)

pub step_least : (n want : ℕ) → 1 ≤ step_of n want
unfolding step_of
step_least n want = le-max_left 1 (n / want)

-- the two arms of `share`
pub share_one : (area total : Float) (n : ℕ) → n ≡ ceil_usize_of (mul binary64 (div binary64 area total) budget) → n < 1 → 1 ≡ share area total
unfolding share
share_one area total n e l = sym (max-eq_left (omega (arith, e, l)))

pub share_more : (area total : Float) (n : ℕ) → n ≡ ceil_usize_of (mul binary64 (div binary64 area total) budget) → 1 ≤ n → n ≡ share area total
unfolding share
share_more area total n e l = e ∙ sym (max-eq_right (omega (arith, e, l)))

-- from areas that were kept
pub wanted_is : (t : Part) (f : ℕ) (area total : Float) (n : ℕ) → area ≡ face_area t f → total ≡ total_area_of t → n ≡ share area total → n ≡ wanted t f
unfolding wanted
wanted_is t f area total n a b e = e ∙ ap (λ (x : Float). share x total) a ∙ ap (share (face_area t f)) b

-- the two arms of a step
pub step_one : (n want k : ℕ) → k ≡ n / want → k < 1 → 1 ≡ step_of n want
unfolding step_of
step_one n want k e l = sym (max-eq_left (omega (arith, e, l)))

pub step_more : (n want k : ℕ) → k ≡ n / want → 1 ≤ k → k ≡ step_of n want
unfolding step_of
step_more n want k e l = e ∙ sym (max-eq_right (omega (arith, e, l)))
