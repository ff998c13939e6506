-- How each axis moves the ends of the stretch within a box: `low` and `high` are infinities where it is passed.
use mathlib.Core.Path.{◌≡◌, refl}
use mathlib.Core.Bool.{Bool, true, false, ◌||◌, cond}
use lib.Ieee.{Float, nan, inf, fin, lt, le, is_nan}
use Rattle.num_real.specs.Select.{min_of, max_of}
use Rattle.num_real.proofs.SelectLaws.{min_le, le_max}
use Rattle.wall_ray.specs.declared.slab.Span.{Span}
use Rattle.wall_ray.specs.Slab.{nearer, farther, moved}
use Rattle.wall_tree.proofs.AxisLaws.{low, high}

not_later : (t : Float) → lt t (inf true) ≡ false
unfolding lt
not_later nan = refl
not_later (inf true) = refl
not_later (inf false) = refl
not_later (fin s m e) = refl

not_sooner : (t : Float) → lt (inf false) t ≡ false
unfolding lt
not_sooner nan = refl
not_sooner (inf true) = refl
not_sooner (inf false) = refl
not_sooner (fin s m e) = refl

pick_number : (v : Bool) (a b : Float) → is_nan a ≡ false → is_nan b ≡ false → is_nan (cond v a b) ≡ false
pick_number true a b p q = p
pick_number false a b p q = q

low_number : (a b : Float) → is_nan (low a b) ≡ false
low_number a b = go (is_nan a) (is_nan b) refl refl
  where
    go : (v w : Bool) → is_nan a ≡ v → is_nan b ≡ w → is_nan (cond (v || w) (inf true) (nearer a b)) ≡ false
    go true w e f = unfold is_nan in refl
    go false true e f = unfold is_nan in refl
    go false false e f = pick_number (le a b) a b e f

high_number : (a b : Float) → is_nan (high a b) ≡ false
high_number a b = go (is_nan a) (is_nan b) refl refl
  where
    go : (v w : Bool) → is_nan a ≡ v → is_nan b ≡ w → is_nan (cond (v || w) (inf false) (farther a b)) ≡ false
    go true w e f = unfold is_nan in refl
    go false true e f = unfold is_nan in refl
    go false false e f = pick_number (le a b) b a f e

module _ (s : Span) (a b : Float) where
  t0_is : is_nan s.t0 ≡ false → (moved s a b).t0 ≡ max_of s.t0 (low a b)
  unfolding moved max_of
  t0_is n = go (is_nan a || is_nan b)
    where
      go : (v : Bool) → (cond v s (record { t0 = max_of s.t0 (nearer a b); t1 = min_of s.t1 (farther a b) })).t0 ≡ max_of s.t0 (cond v (inf true) (nearer a b))
      go true = rw (n, not_later s.t0)
      go false = refl

  t1_is : is_nan s.t1 ≡ false → (moved s a b).t1 ≡ min_of s.t1 (high a b)
  unfolding moved min_of
  t1_is n = go (is_nan a || is_nan b)
    where
      go : (v : Bool) → (cond v s (record { t0 = max_of s.t0 (nearer a b); t1 = min_of s.t1 (farther a b) })).t1 ≡ min_of s.t1 (cond v (inf false) (farther a b))
      go true = rw (n, not_sooner s.t1)
      go false = refl

  pub later : is_nan s.t0 ≡ false → (le s.t0 (moved s a b).t0 ≡ true) × (le (low a b) (moved s a b).t0 ≡ true)
  later n = rw (t0_is n) (le_max s.t0 (low a b) n (low_number a b))

  pub sooner : is_nan s.t1 ≡ false → (le (moved s a b).t1 s.t1 ≡ true) × (le (moved s a b).t1 (high a b) ≡ true)
  sooner n = rw (t1_is n) (min_le s.t1 (high a b) n (high_number a b))
