-- What many rays strike first, answered in numbers. Definitions only.
use Rattle.std.specs.Prelude.{◌≡◌, ◌||◌, List, ℕ, ltb, length, Float}
use Rattle.std.specs.Float.{nan}
use Rattle.file_part.specs.Part.{Part, part_of}
use Rattle.file_ok.specs.Verdict.{or_too_little}
use Rattle.scratch.specs.Refusal.{body_refusal_of}
use Rattle.wall_ray.specs.Nearest.{hit_of, polygon_or, time_or_zero}
use Rattle.probe.specs.Scratch.{BodyPut}
use Rattle.probe.specs.Rays.{ray_at, rays_in, Answered}

-- what two slices hold once the first n rays are cast: the polygon that is struck, or the number of polygons, and how far along, or 0.0
pub record Cast (t : Part) (rays : List Float) (n : ℕ) (polygons polygons' : List ℕ) (times times' : List Float) : Type 0 where
  pub struck : Answered 0 (λ k. polygon_or t.polygons (hit_of t (ray_at rays k))) n polygons polygons'
  pub along : Answered nan (λ k. time_or_zero (hit_of t (ray_at rays k))) n times times'

-- "1 to 10 .. change no buffer", 10 also where a ray has no cell in one of the two; else the scratch holds the body, and every ray is cast
pub record RaysCast (s words words' : List ℕ) (reals reals' rays : List Float) (polygons polygons' : List ℕ) (times times' : List Float) (r : ℕ) : Type 0 where
  pub answer : r ≡ or_too_little (body_refusal_of s (length words) (length reals)) (ltb (length polygons) (rays_in (length rays)) || ltb (length times) (rays_in (length rays)))
  pub refused : (r ≡ 0 → ⊥) → (words' ≡ words) × (reals' ≡ reals) × (polygons' ≡ polygons) × (times' ≡ times)
  pub body : r ≡ 0 → BodyPut s words words' reals reals'
  pub cast : r ≡ 0 → Cast (part_of s) rays (rays_in (length rays)) polygons polygons' times times'
