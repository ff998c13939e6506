-- What the functions of this crate leave on the way. A reader may pass over it.
use Rattle.std.specs.Prelude.{Bool, true, ◌&&◌, ◌||◌, cond, ℕ, ltb, Float, Option, Some, None}
use Rattle.std.specs.Float.Ieee.{lt, eq}
use Rattle.wall_ray.specs.declared.strike.Hit.{Hit}
use Rattle.wall_ray.specs.Nearest.{strike_at}

-- ---- trying polygons in any order
-- p at t comes before what is kept: sooner, or as soon and of a lower number
unfoldable pub comes : Option Hit → ℕ → Float → Bool
comes (Some h) p t = lt t h.t || (eq t h.t && ltb p h.polygon)
comes None p t = true

unfoldable pub tried : (ℕ → Bool) → (ℕ → Float) → Option Hit → ℕ → Option Hit
tried is time h p = cond (is p && comes h p (time p)) (Some (strike_at p (time p))) h
