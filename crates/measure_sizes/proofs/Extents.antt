-- How far a face reaches along an axis: from the first polygon of the face on, the lowest height is at most the highest, and both are bounded as
-- each height is.
use mathlib.Core.Path.{◌≡◌, refl, sym, subst}
use mathlib.Core.Logic.{◌⊎◌, inl, inr}
use mathlib.Core.Bool.{Bool, true, false, cond}
use Prim.Native.Nat.{ℕ, zero, suc, ◌≤◌, ◌<◌}
use native.Mathlib.Omega.{arith}
use lib.Dec.{eqb}
use lib.Ieee.{Float, nan, inf, fin, lt, le, is_nan}
use borrow.Author.Tests.{eq-eqb}
use Rattle.num_float.specs.Within.{Within}
use Rattle.num_float.proofs.Tests.{contrary, lt_or_ge}
use Rattle.num_float.proofs.NonNegative.{finite_number}
use Rattle.num_float.proofs.Order.{le_trans, le_refl_number}
use Rattle.num_real.specs.Select.{min_of, max_of}
use Rattle.num_real.proofs.SelectLaws.{min_le, le_max, min_within, max_within}
use Rattle.math.specs.declared.Vec3.{Vec3}
use Rattle.file_part.specs.Part.{Part}
use Rattle.solid_faces.specs.Faces.{face_number, polygon_corner}
use Rattle.round_frame.specs.declared.frame.Frame.{Frame}
use Rattle.round_frame.specs.declared.extent.Extent.{Extent}
use Rattle.round_frame.specs.Frame.{height_of, nowhere, reach, run_extent}
use Rattle.round_frame.specs.Polygons.{extent_to, extent_with}

-- two heights of at most b in size, the lower first
pub record Spread (e : Extent) (b : ℕ) : Type 0 where
  pub lo_within : Within e.lo b
  pub hi_within : Within e.hi b
  pub rising : le e.lo e.hi ≡ true

-- ---- one height more
reach_first : (h : Float) (b : ℕ) → Within h b → Spread (reach nowhere h) b
unfolding reach nowhere min_of max_of is_nan lt
reach_first nan b w = absurd w.is_finite
reach_first (inf s) b w = absurd w.is_finite
reach_first (fin s m e) b w = record { lo_within = w; hi_within = w; rising = le_refl_number (fin s m e) (finite_number (fin s m e) tt) }

reach_more : (e : Extent) (h : Float) (b : ℕ) → Spread e b → Within h b → Spread (reach e h) b
unfolding reach
reach_more e h b s w =
    let nl = finite_number e.lo s.lo_within.is_finite in
    let nh = finite_number e.hi s.hi_within.is_finite in
    let n = finite_number h w.is_finite in
    record {
      lo_within = min_within e.lo h b s.lo_within w;
      hi_within = max_within e.hi h b s.hi_within w;
      rising = le_trans (min_of e.lo h) e.lo (max_of e.hi h) (min_le e.lo h nl n).0
          (le_trans e.lo e.hi (max_of e.hi h) s.rising (le_max e.hi h nh n).0);
    }

-- either nothing so far, or spread
abbrev Reached : Extent → ℕ → Type 0
Reached e b = (e ≡ nowhere) ⊎ Spread e b

reach_any : (e : Extent) (h : Float) (b : ℕ) → Reached e b → Within h b → Spread (reach e h) b
reach_any e h b (inl z) w = subst (λ (x : Extent). Spread (reach x h) b) (sym z) (reach_first h b w)
reach_any e h b (inr s) w = reach_more e h b s w

-- ---- a polygon's corners more
run_more : (a : Frame) (c : ℕ → Vec3) (e : Extent) (b k : ℕ) → Reached e b → ((i : ℕ) → i < suc k → Within (height_of a (c i)) b) →
    Spread (run_extent a c e (suc k)) b
unfolding run_extent
run_more a c e b zero r w = reach_any e (height_of a (c 0)) b r (w 0 (omega arith))
run_more a c e b (suc k) r w =
    reach_more (run_extent a c e (suc k)) (height_of a (c (suc k))) b (run_more a c e b k r (λ i l. w i (omega (arith, l)))) (w (suc k) (omega arith))

run_all : (a : Frame) (c : ℕ → Vec3) (e : Extent) (b n : ℕ) → 3 ≤ n → Reached e b → ((i : ℕ) → i < n → Within (height_of a (c i)) b) →
    Spread (run_extent a c e n) b
run_all a c e b zero l r w = absurd (omega (arith, l))
run_all a c e b (suc n) l r w = run_more a c e b n r w

-- ---- the polygons of face f
module _ (t : Part) (f : ℕ) (a : Frame) (b : ℕ) (long : (q : ℕ) → q < t.polygons → 3 ≤ (t.polygon q).count)
    (heights : (q : ℕ) → q < t.polygons → (i : ℕ) → i < (t.polygon q).count → Within (height_of a (polygon_corner t q i)) b) where
  polygon_spread : (n : ℕ) → n < t.polygons → Reached (extent_to t f a n) b → Spread (run_extent a (polygon_corner t n) (extent_to t f a n) (t.polygon n).count) b
  polygon_spread n l r = run_all a (polygon_corner t n) (extent_to t f a n) b (t.polygon n).count (long n l) r (heights n l)

  reached : (n : ℕ) → n ≤ t.polygons → Reached (extent_to t f a n) b
  unfolding extent_to extent_with
  reached zero l = inl refl
  reached (suc n) l = go (reached n (omega (arith, l))) (eqb (face_number t n) f)
    where
      go : Reached (extent_to t f a n) b → (v : Bool) →
          Reached (cond v (run_extent a (polygon_corner t n) (extent_to t f a n) (t.polygon n).count) (extent_to t f a n)) b
      go r true = inr (polygon_spread n l r)
      go r false = r

  -- from a polygon of the face on
  pub extent_spread : (p n : ℕ) → face_number t p ≡ f → p < n → n ≤ t.polygons → Spread (extent_to t f a n) b
  unfolding extent_to extent_with
  extent_spread p zero e h l = absurd (omega (arith, h))
  extent_spread p (suc n) e h l = go (lt_or_ge p n) (eqb (face_number t n) f) (λ same. eq-eqb (face_number t n) f same) (λ k. extent_spread p n e k (omega (arith, l)))
    where
      go : (p < n) ⊎ (n ≤ p) → (v : Bool) → (face_number t n ≡ f → v ≡ true) → (p < n → Spread (extent_to t f a n) b) →
          Spread (cond v (run_extent a (polygon_corner t n) (extent_to t f a n) (t.polygon n).count) (extent_to t f a n)) b
      go o true k rest = polygon_spread n l (reached n (omega (arith, l)))
      go (inl m) false k rest = rest m
      go (inr m) false k rest = absurd (contrary (k (subst (λ (i : ℕ). face_number t i ≡ f) (here m h) e)) refl)
        where
          here : n ≤ p → p < suc n → p ≡ n
          here a b = omega (arith, a, b)
