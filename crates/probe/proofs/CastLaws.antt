-- What many rays strike: the loop over them, and the answer, return by return.
use mathlib.Core.Path.{◌≡◌, refl, sym, ap, ◌∙◌}
use mathlib.Core.Bool.{true, false, ◌||◌}
use mathlib.Core.List.{List}
use Prim.Native.Nat.{ℕ, ◌+◌, ◌≤◌, ◌<◌}
use native.Mathlib.Omega.{arith}
use lib.Dec.{ltb}
use lib.ListN.{length, set}
use lib.Ieee.{Float, nan}
use borrow.Author.Tests.{ltb-false}
use Rattle.num_float.proofs.Tests.{or_false_left, or_false_right}
use Rattle.file_part.specs.Part.{Part, part_of}
use Rattle.refusal.specs.Numbers.{too_little_scratch}
use Rattle.file_ok.proofs.RefusalLaws.{earlier_is, earlier_none}
use Rattle.scratch.specs.declared.regions.Regions.{Regions}
use Rattle.scratch.specs.Standing.{Placed}
use Rattle.scratch.specs.Refusal.{body_refusal_of}
use Rattle.scratch.proofs.StandingLaws.{placed_polygons}
use Rattle.wall_ray.specs.declared.strike.Ray.{Ray}
use Rattle.wall_ray.specs.declared.strike.Hit.{Hit}
use Rattle.std.specs.Prelude.{Option, Some, None}
use Rattle.wall_ray.specs.Nearest.{hit_of, polygon_or, time_or_zero}
use Rattle.wall_ray.proofs.NearestLaws.{hit_struck}
use Rattle.probe.specs.Scratch.{BodyPut}
use Rattle.probe.specs.Rays.{ray_at, rays_in}
use Rattle.probe.specs.Cast.{Cast, RaysCast}
use Rattle.probe.proofs.RaysLaws.{answered_none, answered_more, answered_all}

-- ---- one ray more
pub cast_none : (t : Part) (rays : List Float) (polygons : List ℕ) (times : List Float) → Cast t rays 0 polygons polygons times times
cast_none t rays polygons times = record { struck = answered_none 0 _ polygons; along = answered_none nan _ times }

pub cast_more : (t : Part) (rays : List Float) (k : ℕ) (polygons polygons' : List ℕ) (times times' : List Float) (none a : ℕ) (r : Ray) (h : Option Hit) (z : Float) →
    k < length polygons → k < length times → none ≡ t.polygons → r ≡ ray_at rays k → h ≡ hit_of t r → a ≡ polygon_or none h → z ≡ time_or_zero h →
    Cast t rays k polygons polygons' times times' → Cast t rays (k + 1) polygons (set polygons' k a) times (set times' k z)
cast_more t rays k polygons polygons' times times' none a r h z lp lt en er eh ea ez w =
    let hit : h ≡ hit_of t (ray_at rays k) = eh ∙ ap (hit_of t) er in
    record {
      struck = answered_more 0 (λ j. polygon_or t.polygons (hit_of t (ray_at rays j))) k polygons polygons' a lp
          (ea ∙ ap (λ (n : ℕ). polygon_or n h) en ∙ ap (polygon_or t.polygons) hit) w.struck;
      along = answered_more nan (λ j. time_or_zero (hit_of t (ray_at rays j))) k times times' z lt (ez ∙ ap time_or_zero hit) w.along;
    }

-- the number of a polygon, or that for none, is small
pub polygon_small : (s : List ℕ) (at : Regions) (r : Ray) (h : Option Hit) (a : ℕ) → Placed s at → h ≡ hit_of (part_of s) r → a ≡ polygon_or at.polygons h → a ≤ 4096
unfolding polygon_or
polygon_small s at r None a p eh ea = omega (arith, ea, p.laid.few)
polygon_small s at r (Some h) a p eh ea = omega (arith, ea, p.laid.few, placed_polygons s at p, (hit_struck (part_of s) r h (sym eh)).0)

-- ---- the answer
-- what the test of 10 leaves
pub enough : (n polygons times : ℕ) → (ltb polygons n || ltb times n) ≡ false → (n ≤ polygons) × (n ≤ times)
enough n polygons times t = (ltb-false _ _ (or_false_left (ltb polygons n) (ltb times n) t), ltb-false _ _ (or_false_right (ltb polygons n) (ltb times n) t))

module _ (s words : List ℕ) (reals rays : List Float) (polygons : List ℕ) (times : List Float) (r : ℕ) (e : r ≡ body_refusal_of s (length words) (length reals)) where
  pub cast_refused : (r ≡ 0 → ⊥) → RaysCast s words words reals reals rays polygons polygons times times r
  cast_refused other =
      record { answer = earlier_is r _ _ e other; refused = λ _. (refl, refl, refl, refl); body = λ z. absurd (other z); cast = λ z. absurd (other z) }

  pub cast_short : r ≡ 0 → (ltb (length polygons) (rays_in (length rays)) || ltb (length times) (rays_in (length rays))) ≡ true →
      RaysCast s words words reals reals rays polygons polygons times times too_little_scratch
  cast_short none t =
      record {
        answer = earlier_none _ _ true (sym e ∙ none) t;
        refused = λ _. (refl, refl, refl, refl);
        body = λ z. absurd (omega (arith, z));
        cast = λ z. absurd (omega (arith, z));
      }

  pub cast_answered : (words' : List ℕ) (reals' : List Float) (polygons' : List ℕ) (times' : List Float) (k : ℕ) → r ≡ 0 →
      (ltb (length polygons) (rays_in (length rays)) || ltb (length times) (rays_in (length rays))) ≡ false → BodyPut s words words' reals reals' →
      k ≤ rays_in (length rays) → rays_in (length rays) ≤ k → Cast (part_of s) rays k polygons polygons' times times' →
      RaysCast s words words' reals reals' rays polygons polygons' times times' 0
  cast_answered words' reals' polygons' times' k none t put below above w =
      record {
        answer = earlier_none _ _ false (sym e ∙ none) t;
        refused = λ other. absurd (other refl);
        body = λ _. put;
        cast = λ _. record { struck = answered_all 0 _ k _ _ _ below above w.struck; along = answered_all nan _ k _ _ _ below above w.along };
      }
