-- What is kept after one polygon is tried, by whether it is struck and comes before what is kept.
use mathlib.Core.Path.{◌≡◌, refl, sym, ap, ◌∙◌}
use mathlib.Core.Bool.{Bool, true, false, ◌&&◌, cond}
use Prim.Native.Nat.{ℕ}
use lib.Ieee.{Float}
use Rattle.num_float.proofs.Tests.{contrary}
use Rattle.wall_ray.specs.declared.strike.Hit.{Hit}
use Rattle.std.specs.Prelude.{Option, Some, None, is_some}
use Rattle.wall_ray.specs.Nearest.{strike_at}
use Rattle.wall_ray.specs.Work.{comes, tried}

module _ (is : ℕ → Bool) (time : ℕ → Float) (h : Option Hit) (p : ℕ) where
  pub try_leaves : (is p && comes h p (time p)) ≡ false → h ≡ tried is time h p
  unfolding tried
  try_leaves e = rw e

  pub try_takes : (u : Float) → u ≡ time p → (is p && comes h p (time p)) ≡ true → Some (strike_at p u) ≡ tried is time h p
  unfolding tried
  try_takes u f e = ap (λ (s : Float). Some (strike_at p s)) f ∙ rw e

-- ---- with nothing kept before
module _ (is : ℕ → Bool) (time : ℕ → Float) (p : ℕ) (k : Option Hit) (b : Bool) (ek : k ≡ tried is time None p) (eb : b ≡ is_some k) where
  pub tried_nothing : b ≡ false → is p ≡ false
  unfolding tried comes
  tried_nothing e = go (is p) (sym (eb ∙ ap is_some ek) ∙ e)
    where
      go : (v : Bool) → is_some (cond (v && true) (Some (strike_at p (time p))) None) ≡ false → v ≡ false
      go true f = absurd (contrary refl f)
      go false f = refl

  pub tried_struck : b ≡ true → is p ≡ true
  unfolding tried comes
  tried_struck e = go (is p) (sym (eb ∙ ap is_some ek) ∙ e)
    where
      go : (v : Bool) → is_some (cond (v && true) (Some (strike_at p (time p))) None) ≡ true → v ≡ true
      go true f = refl
      go false f = absurd (contrary f refl)
