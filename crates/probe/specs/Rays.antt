-- What every answer to many rays has: the rays, and the cells of the answers. Definitions only.
use Rattle.std.specs.Prelude.{◌≡◌, List, ℕ, ◌+◌, ◌*◌, ◌/◌, ◌<◌, get_or, Float}
use Rattle.std.specs.Float.{nan}
use Rattle.list_laws.specs.Region.{Outside}
use Rattle.math.specs.Vector.{vec}
use Rattle.wall_ray.specs.declared.strike.Ray.{Ray}

-- ---- rays: six numbers each, origin and direction; numbers left over are not looked at
unfoldable pub ray_at : List Float → ℕ → Ray
ray_at l k =
    record {
      origin = vec (get_or l (6 * k) nan) (get_or l (6 * k + 1) nan) (get_or l (6 * k + 2) nan);
      dir = vec (get_or l (6 * k + 3) nan) (get_or l (6 * k + 4) nan) (get_or l (6 * k + 5) nan);
    }

-- how many n numbers are
abbrev pub rays_in : ℕ → ℕ
rays_in n = n / 6

-- ---- the first n cells hold the answers to the first n rays, and those past them are as they were; d is what is read past the end
pub record Answered {X : Type 0} (d : X) (answer : ℕ → X) (n : ℕ) (old new : List X) : Type 0 where
  pub each : (k : ℕ) → k < n → get_or new k d ≡ answer k
  pub rest : Outside d 0 n old new
