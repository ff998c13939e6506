-- The scan over the polygons, one turn each.
use mathlib.Core.Path.{◌≡◌, refl, sym, ap, ◌∙◌}
use mathlib.Core.Bool.{Bool, true, false, ◌&&◌, cond}
use Prim.Native.Nat.{ℕ, zero, suc, ◌+◌, ◌-◌, ◌≤◌, ◌<◌}
use native.Mathlib.Omega.{arith}
use native.Mathlib.Numerals.{add-one}
use native.Mathlib.Nat.{le_antisymm, add-zero, add-suc}
use lib.Ieee.{Float}
use Rattle.num_float.proofs.Tests.{contrary}
use Rattle.math.specs.declared.Vec3.{Vec3}
use Rattle.math.specs.Vector.{plus, times}
use Rattle.file_part.specs.Part.{Part}
use Rattle.wall_ray.specs.declared.strike.Ray.{Ray}
use Rattle.wall_ray.specs.declared.strike.Hit.{Hit}
use Rattle.std.specs.Prelude.{Option, Some, None}
use Rattle.wall_ray.specs.Strike.{hit_time, struck}
use Rattle.wall_ray.specs.Nearest.{strike_at, improves, best, hit_of, Answer, e_4, ray_from, is_nothing_of, is_open}
use Rattle.wall_ray.proofs.NearestLaws.{hit_answer}

-- ---- the best of the polygons below p
-- what a ray strikes first of them
abbrev pub Scanned : Part → Ray → ℕ → Option Hit → Type 0
Scanned t r p h = h ≡ best (struck t r) (hit_time t r) p

pub scan_none : (t : Part) (r : Ray) → Scanned t r 0 None
unfolding best
scan_none t r = refl

pub scan_all : (t : Part) (r : Ray) (p P : ℕ) (h : Option Hit) → P ≡ t.polygons → p ≤ P → P ≤ p → Scanned t r p h → Answer t r h
unfolding hit_of
scan_all t r p P h e a b w = hit_answer t r h (w ∙ ap (best (struck t r) (hit_time t r)) (le_antisymm a b ∙ e))

module _ (is : ℕ → Bool) (time : ℕ → Float) (p : ℕ) (h : Option Hit) (w : h ≡ best is time p) where
  pub best_skip : (is p && improves h (time p)) ≡ false → h ≡ best is time (p + 1)
  unfolding best
  best_skip f = rw (add-one, ← w, f)

  pub best_take : (u : Float) → u ≡ time p → (is p && improves h (time p)) ≡ true → Some (strike_at p u) ≡ best is time (p + 1)
  unfolding best
  best_take u e f = ap (λ (s : Float). Some (strike_at p s)) e ∙ rw (add-one, ← w, f)

-- ---- whether any polygon is struck
-- none below p
abbrev pub Missed : Part → Ray → ℕ → Type 0
Missed t r p = is_nothing_of (best (struck t r) (hit_time t r) p) ≡ true

module _ (is : ℕ → Bool) (time : ℕ → Float) where
  pub none_yet : is_nothing_of (best is time 0) ≡ true
  unfolding best is_nothing_of
  none_yet = refl

  pub none_more : (p : ℕ) (b : Bool) → is_nothing_of (best is time p) ≡ true → b ≡ is p → b ≡ false → is_nothing_of (best is time (p + 1)) ≡ true
  unfolding best
  none_more p b h e f = rw (add-one, ← e, f) h

  -- what is struck stays so, whatever comes after it
  later : (p k : ℕ) → is_nothing_of (best is time p) ≡ false → is_nothing_of (best is time (p + k)) ≡ false
  unfolding best is_nothing_of
  later p zero h = rw add-zero h
  later p (suc k) h = ap (λ (n : ℕ). is_nothing_of (best is time n)) (add-suc p k) ∙ further (p + k) (later p k h)
    where
      chosen : (b : Bool) (g h : Option Hit) → is_nothing_of g ≡ false → is_nothing_of h ≡ false → is_nothing_of (cond b g h) ≡ false
      chosen true g h x y = x
      chosen false g h x y = y

      further : (n : ℕ) → is_nothing_of (best is time n) ≡ false → is_nothing_of (best is time (suc n)) ≡ false
      further n h = chosen (is n && improves (best is time n) (time n)) (Some (strike_at n (time n))) (best is time n) refl h

  pub some_struck : (p n : ℕ) (b : Bool) → p < n → is_nothing_of (best is time p) ≡ true → b ≡ is p → b ≡ true → false ≡ is_nothing_of (best is time n)
  unfolding best is_nothing_of improves
  some_struck p n b l h e f =
      let far : (p + 1) + (n - (p + 1)) ≡ n = omega (arith, l) in
      sym (ap (λ (k : ℕ). is_nothing_of (best is time k)) (sym far) ∙ later (p + 1) (n - (p + 1)) (first (best is time p) refl h))
    where
      first : (g : Option Hit) → best is time p ≡ g → is_nothing_of g ≡ true → is_nothing_of (best is time (p + 1)) ≡ false
      first None q x = rw (add-one, ← e, f, q)
      first (Some g) q x = absurd (contrary x refl)

-- none is left to try
pub none_left : (t : Part) (r : Ray) (p P : ℕ) → P ≡ t.polygons → p ≤ P → P ≤ p → Missed t r p → true ≡ is_nothing_of (hit_of t r)
unfolding hit_of
none_left t r p P e a b w = sym (ap (λ (k : ℕ). is_nothing_of (best (struck t r) (hit_time t r) k)) (sym (le_antisymm a b ∙ e)) ∙ w)

-- ---- `open_towards`: the ray m = dir * 1e-4 further on
pub open_is : (t : Part) (p dir m o : Vec3) (b : Bool) → m ≡ times dir e_4 → o ≡ plus p m → b ≡ is_nothing_of (hit_of t (record { origin = o; dir = dir })) →
    b ≡ is_open t p dir
unfolding is_open ray_from
open_is t p dir m o b em eo eb = eb ∙ rw (eo, em)
