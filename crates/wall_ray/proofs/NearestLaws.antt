-- What trying every number finds: the nearest of those that pass the test, and it alone; and what that says of a ray's hit.
use mathlib.Core.Path.{◌≡◌, refl, sym, ap, ◌∙◌, subst}
use mathlib.Core.Bool.{Bool, true, false, ◌&&◌, cond}
use mathlib.Core.Logic.{◌⊎◌, inl, inr}
use Prim.Native.Nat.{ℕ, zero, suc, ◌≤◌, ◌<◌}
use native.Mathlib.Omega.{arith}
use lib.Ieee.{Float, lt, eq, is_nan}
use Rattle.num_float.proofs.Tests.{refuted, contrary, lt_or_ge}
use Rattle.num_float.proofs.Order.{lt_trans, lt_irrefl, eq_lt_trans, eq_of_neither}
use Rattle.file_part.specs.Part.{Part}
use Rattle.wall_ray.specs.declared.strike.Ray.{Ray}
use Rattle.wall_ray.specs.declared.strike.Hit.{Hit}
use Rattle.std.specs.Prelude.{Option, Some, None}
use Rattle.wall_ray.specs.Strike.{hit_time, struck}
use Rattle.wall_ray.specs.Nearest.{strike_at, improves, best, NearestAt, Nearest, hit_of, Answer}
use Rattle.wall_ray.proofs.StruckLaws.{struck_number}

-- ---- any test and any times
last : (q n : ℕ) → q < suc n → (q ≡ n) ⊎ (q < n)
last q n h = go (lt_or_ge q n)
  where
    go : (q < n) ⊎ (n ≤ q) → (q ≡ n) ⊎ (q < n)
    go (inl below) = inr below
    go (inr above) = inl (omega (arith, h, above))

module _ (is : ℕ → Bool) (time : ℕ → Float) where
  -- n is the nearest where it comes before all that pass below it
  new : (n : ℕ) → is n ≡ true → ((q : ℕ) → q < n → is q ≡ true → (lt (time q) (time n) ≡ false) × (eq (time q) (time n) ≡ false)) →
      NearestAt is time (suc n) n (time n)
  new n h before =
      record {
        below = omega arith;
        passes = h;
        at = refl;
        none_nearer = λ q l g. nearer q g (last q n l);
        none_lower = λ q l g. (before q l g).1;
      }
    where
      nearer : (q : ℕ) → is q ≡ true → (q ≡ n) ⊎ (q < n) → lt (time q) (time n) ≡ false
      nearer q g (inl e) = ap (λ (k : ℕ). lt (time k) (time n)) e ∙ lt_irrefl (time n)
      nearer q g (inr l) = (before q l g).0

  -- it stays the nearest where n passes no sooner
  stays : (n p : ℕ) (t : Float) → NearestAt is time n p t → (is n ≡ true → lt (time n) t ≡ false) → NearestAt is time (suc n) p t
  stays n p t h later =
      record {
        below = omega (arith, h.below);
        passes = h.passes;
        at = h.at;
        none_nearer = λ q l g. nearer q g (last q n l);
        none_lower = h.none_lower;
      }
    where
      nearer : (q : ℕ) → is q ≡ true → (q ≡ n) ⊎ (q < n) → lt (time q) t ≡ false
      nearer q g (inl e) = ap (λ (k : ℕ). lt (time k) t) e ∙ later (ap is (sym e) ∙ g)
      nearer q g (inr l) = h.none_nearer q l g

  -- one number more
  step : (n : ℕ) (h : Option Hit) (b c : Bool) → Nearest is time n h → is n ≡ b → improves h (time n) ≡ c →
      Nearest is time (suc n) (cond (b && c) (Some (strike_at n (time n))) h)
  unfolding Nearest improves
  step n None true true w x y = new n x (λ q l g. absurd (contrary g (w q l)))
  step n None true false w x y = absurd (contrary refl y)
  step n None false c w x y = λ q l. none q (last q n l)
    where
      none : (q : ℕ) → (q ≡ n) ⊎ (q < n) → is q ≡ false
      none q (inl e) = ap is e ∙ x
      none q (inr m) = w q m
  step n (Some h) true true w x y =
      new n x (λ q l g. (
        refuted (lt (time q) (time n)) (λ u. contrary (lt_trans (time q) (time n) h.t u y) (w.none_nearer q l g)),
        refuted (eq (time q) (time n)) (λ u. contrary (eq_lt_trans (time q) (time n) h.t u y) (w.none_nearer q l g)),
      ))
  step n (Some h) true false w x y = stays n h.polygon h.t w (λ g. y)
  step n (Some h) false c w x y = stays n h.polygon h.t w (λ g. absurd (contrary g x))

  -- what is found is the nearest
  pub best_is_nearest : (n : ℕ) → Nearest is time n (best is time n)
  unfolding best Nearest
  best_is_nearest zero = λ q l. absurd (omega (arith, l))
  best_is_nearest (suc n) = step n (best is time n) (is n) (improves (best is time n) (time n)) (best_is_nearest n) refl refl

  -- and nothing else is, where no time is a NaN. (Two that pass at a NaN would both be.)
  module _ (n : ℕ) (numbers : (q : ℕ) → q < n → is q ≡ true → is_nan (time q) ≡ false) where
    not_lower : (p q : ℕ) (t u : Float) → NearestAt is time n p t → NearestAt is time n q u → p < q → ⊥
    not_lower p q t u a b l =
        contrary
        (eq_of_neither (time p) (time q) (numbers p a.below a.passes) (numbers q b.below b.passes)
        (ap (lt (time p)) (sym b.at) ∙ b.none_nearer p a.below a.passes)
        (ap (lt (time q)) (sym a.at) ∙ a.none_nearer q b.below b.passes))
        (ap (eq (time p)) (sym b.at) ∙ b.none_lower p l a.passes)

    pub nearest_fixes : (g h : Option Hit) → Nearest is time n g → Nearest is time n h → g ≡ h
    unfolding Nearest
    nearest_fixes None None a b = refl
    nearest_fixes None (Some h) a b = absurd (contrary b.passes (a h.polygon b.below))
    nearest_fixes (Some g) None a b = absurd (contrary a.passes (b g.polygon a.below))
    nearest_fixes (Some g) (Some h) a b =
        let same : g.polygon ≡ h.polygon = omega (arith, not_lower g.polygon h.polygon g.t h.t a b, not_lower h.polygon g.polygon h.t g.t b a) in
        let level : g.t ≡ h.t = a.at ∙ ap time same ∙ sym b.at in
        ap (λ (k : ℕ). Some (strike_at k g.t)) same ∙ ap (λ (s : Float). Some (strike_at h.polygon s)) level

-- ---- a ray's hit
module _ (t : Part) (r : Ray) where
  pub hit_is_nearest : Nearest (struck t r) (hit_time t r) t.polygons (hit_of t r)
  unfolding hit_of
  hit_is_nearest = best_is_nearest (struck t r) (hit_time t r) t.polygons

  pub hit_answer : (h : Option Hit) → h ≡ hit_of t r → Answer t r h
  hit_answer h e = record { scanned = e; nearest = subst (Nearest (struck t r) (hit_time t r) t.polygons) (sym e) hit_is_nearest }

  pub hit_struck : (h : Hit) → hit_of t r ≡ Some h → (h.polygon < t.polygons) × (struck t r h.polygon ≡ true) × (h.t ≡ hit_time t r h.polygon)
  unfolding Nearest
  hit_struck h e =
      let w : NearestAt (struck t r) (hit_time t r) t.polygons h.polygon h.t = subst (Nearest (struck t r) (hit_time t r) t.polygons) e hit_is_nearest in
      (w.below, w.passes, w.at)

  pub hit_nothing : hit_of t r ≡ None → (q : ℕ) → q < t.polygons → struck t r q ≡ false
  unfolding Nearest
  hit_nothing e = subst (Nearest (struck t r) (hit_time t r) t.polygons) e hit_is_nearest

  -- nothing else is the nearest
  pub only_hit : (h : Option Hit) → Nearest (struck t r) (hit_time t r) t.polygons h → h ≡ hit_of t r
  only_hit h w = nearest_fixes (struck t r) (hit_time t r) t.polygons (λ q l g. struck_number t r q g) h (hit_of t r) w hit_is_nearest
