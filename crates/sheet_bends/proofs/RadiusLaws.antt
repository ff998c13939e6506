-- The largest inside radius of a bend of a checked file: finite, not negative, at most 10,000.
use mathlib.Core.Path.{◌≡◌, refl, sym, ◌∙◌, subst}
use mathlib.Core.Bool.{Bool, true, false, cond, ◌||◌}
use mathlib.Core.List.{List}
use Prim.Native.Nat.{ℕ, zero, suc, ◌+◌, ◌≤◌}
use native.Mathlib.Nat.{le_refl}
use native.Mathlib.Omega.{arith}
use native.Mathlib.Numerals.{add-one}
use lib.Dec.{lit≤}
use lib.Ieee.{Float, lt, le, eq, of_bits, is_nan}
use Rattle.num_float.specs.Sign.{NonNeg}
use Rattle.num_float.specs.Within.{Within}
use Rattle.num_float.proofs.Sign.{cond_nonneg}
use Rattle.num_real.specs.Select.{max_of}
use Rattle.num_real.proofs.SelectLaws.{max_within}
use Rattle.math.specs.Vector as vector
use Rattle.file_part.specs.Part.{Part, part_of}
use Rattle.solid_faces.specs.Faces.{faces_of, Checked}
use Rattle.round_all.specs.declared.round.Round.{Round}
use Rattle.round_all.specs.Round.{round_of}
use Rattle.measure_sizes.proofs.Rounds.{round_bounds}
use Rattle.sheet_bends.specs.Bends.{is_bend, bend_radius_to, bend_radius}
use Rattle.sheet_bends.proofs.BendLaws.{bend_faces}

-- ---- one face more
pub radius_none : (t : Part) (thick : Float) → vector.zero ≡ bend_radius_to t thick 0
unfolding bend_radius_to
radius_none t thick = refl

pub radius_more : (t : Part) (thick : Float) (f : ℕ) → is_bend t thick f ≡ true → bend_radius_to t thick (f + 1) ≡ max_of (bend_radius_to t thick f) (round_of t f).radius
unfolding bend_radius_to
radius_more t thick f h = rw (add-one, h)

pub radius_skip : (t : Part) (thick : Float) (f : ℕ) → is_bend t thick f ≡ false → bend_radius_to t thick (f + 1) ≡ bend_radius_to t thick f
unfolding bend_radius_to
radius_skip t thick f h = rw (add-one, h)

pub radius_put : (t : Part) (thick : Float) (f : ℕ) (old new : Float) (round : Round) → is_bend t thick f ≡ true → round ≡ round_of t f → new ≡ max_of old round.radius →
    old ≡ bend_radius_to t thick f → new ≡ bend_radius_to t thick (f + 1)
radius_put t thick f old new round h er e eo = e ∙ rw (eo, er) (sym (radius_more t thick f h))

pub radius_all : (t : Part) (thick : Float) (n f : ℕ) (x : Float) → n ≡ faces_of t → f ≤ n → n ≤ f → x ≡ bend_radius_to t thick f → x ≡ bend_radius t thick
unfolding bend_radius
radius_all t thick n f x all low high e =
    let last : f ≡ faces_of t = omega (arith, all, low, high) in
    subst (λ (i : ℕ). x ≡ bend_radius_to t thick i) last e

-- ---- bounds
record Bounds (x : Float) : Type 0 where
  nonneg : NonNeg x
  within : Within x 10000

zero_bounds : Bounds vector.zero
unfolding of_bits le lt eq
zero_bounds = record { nonneg = refl; within = record { is_finite = tt; size = lit≤ tt } }

max_bounds : (a b : Float) → Bounds a → Bounds b → Bounds (max_of a b)
unfolding max_of
max_bounds a b p q = record { nonneg = cond_nonneg (is_nan a || lt a b) b a q.nonneg p.nonneg; within = max_within a b 10000 p.within q.within }

radius_to : (s : List ℕ) → Checked s → (thick : Float) (n : ℕ) → n ≤ faces_of (part_of s) → Bounds (bend_radius_to (part_of s) thick n)
unfolding bend_radius_to
radius_to s h thick zero l = zero_bounds
radius_to s h thick (suc n) l = go (radius_to s h thick n (omega (arith, l))) (is_bend (part_of s) thick n) refl
  where
    one : is_bend (part_of s) thick n ≡ true → Bounds (round_of (part_of s) n).radius
    one e =
        let b = round_bounds s h n (omega (arith, l)) (bend_faces (part_of s) thick n e).0 in
        record { nonneg = b.radius_nonneg; within = b.radius_within }

    go : Bounds (bend_radius_to (part_of s) thick n) → (b : Bool) → is_bend (part_of s) thick n ≡ b →
        Bounds (cond b (max_of (bend_radius_to (part_of s) thick n) (round_of (part_of s) n).radius) (bend_radius_to (part_of s) thick n))
    go rest true e = max_bounds (bend_radius_to (part_of s) thick n) (round_of (part_of s) n).radius rest (one e)
    go rest false e = rest

pub radius_nonneg : (s : List ℕ) → Checked s → (thick : Float) → NonNeg (bend_radius (part_of s) thick)
unfolding bend_radius
radius_nonneg s h thick = (radius_to s h thick (faces_of (part_of s)) (le_refl (faces_of (part_of s)))).nonneg

pub radius_within : (s : List ℕ) → Checked s → (thick : Float) → Within (bend_radius (part_of s) thick) 10000
unfolding bend_radius
radius_within s h thick = (radius_to s h thick (faces_of (part_of s)) (le_refl (faces_of (part_of s)))).within
