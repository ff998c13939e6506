-- Whether lines leave the part, answered in numbers. Definitions only.
use Rattle.std.specs.Prelude.{◌≡◌, cond, List, ℕ, ltb, length, Float}
use Rattle.file_part.specs.Part.{Part, part_of}
use Rattle.file_ok.specs.Verdict.{or_too_little}
use Rattle.scratch.specs.Refusal.{body_refusal_of}
use Rattle.wall_ray.specs.declared.strike.Ray.{Ray}
use Rattle.wall_ray.specs.Nearest.{is_open}
use Rattle.probe.specs.Scratch.{BodyPut}
use Rattle.probe.specs.Rays.{ray_at, rays_in, Answered}

-- `open_towards` from the ray's origin along its direction: 1 where it is true, else 0
unfoldable pub open_number : Part → Ray → ℕ
open_number t r = cond (is_open t r.origin r.dir) 1 0

-- what a slice holds once the first n rays are looked at
abbrev pub Open : Part → List Float → ℕ → List ℕ → List ℕ → Type 0
Open t rays n cells cells' = Answered 0 (λ k. open_number t (ray_at rays k)) n cells cells'

-- "1 to 10 .. change no buffer", 10 also where a ray has no cell; else the scratch holds the body, and every ray is looked at
pub record RaysOpen (s words words' : List ℕ) (reals reals' rays : List Float) (cells cells' : List ℕ) (r : ℕ) : Type 0 where
  pub answer : r ≡ or_too_little (body_refusal_of s (length words) (length reals)) (ltb (length cells) (rays_in (length rays)))
  pub refused : (r ≡ 0 → ⊥) → (words' ≡ words) × (reals' ≡ reals) × (cells' ≡ cells)
  pub body : r ≡ 0 → BodyPut s words words' reals reals'
  pub opened : r ≡ 0 → Open (part_of s) rays (rays_in (length rays)) cells cells'
