-- Of what a ray strikes, the nearest: "the smallest t wins, the lowest number on equal t". Definitions only. The test and the times are
-- parameters, so that a change of the test changes nothing here.
use Rattle.std.specs.Prelude.{◌≡◌, Bool, true, false, ◌&&◌, cond, ℕ, zero, suc, ◌<◌, Float, Option, Some, None}
use Rattle.std.specs.Float.{binary64}
use Rattle.std.specs.Float.Ieee.{lt, eq, of_bits}
use Rattle.math.specs.declared.Vec3.{Vec3}
use Rattle.math.specs.Vector.{plus, times}
use Rattle.math.specs.Vector as vector
use Rattle.file_part.specs.Part.{Part}
use Rattle.wall_ray.specs.declared.strike.Ray.{Ray}
use Rattle.wall_ray.specs.declared.strike.Hit.{Hit}
use Rattle.wall_ray.specs.Strike.{struck, hit_time}

-- a strike of p at t
abbrev pub strike_at : ℕ → Float → Hit
strike_at p t = record { polygon = p; t = t }

-- ---- by trying every number from 0 up
-- a strike at t comes before what is kept
unfoldable pub improves : Option Hit → Float → Bool
improves (Some h) t = lt t h.t
improves None t = true

-- of the numbers below n that pass the test
unfoldable pub best : (ℕ → Bool) → (ℕ → Float) → ℕ → Option Hit
best is time zero = None
best is time (suc n) = cond (is n && improves (best is time n) (time n)) (Some (strike_at n (time n))) (best is time n)

-- ---- the same with no order of trying: "of all polygons that it strikes by `raycast`'s test, each tried alone, the one of smallest t,
-- then of lowest number; none if it strikes none"
pub record NearestAt (is : ℕ → Bool) (time : ℕ → Float) (n p : ℕ) (t : Float) : Type 0 where
  pub below : p < n
  pub passes : is p ≡ true
  pub at : t ≡ time p
  pub none_nearer : (q : ℕ) → q < n → is q ≡ true → lt (time q) t ≡ false
  pub none_lower : (q : ℕ) → q < p → is q ≡ true → eq (time q) t ≡ false

unfoldable pub Nearest : (ℕ → Bool) → (ℕ → Float) → ℕ → Option Hit → Type 0
Nearest is time n (Some h) = NearestAt is time n h.polygon h.t
Nearest is time n None = (q : ℕ) → q < n → is q ≡ false

-- ---- a ray's hit
unfoldable pub hit_of : Part → Ray → Option Hit
hit_of t r = best (struck t r) (hit_time t r) t.polygons

-- both ways of saying it
pub record Answer (t : Part) (r : Ray) (h : Option Hit) : Type 0 where
  pub scanned : h ≡ hit_of t r
  pub nearest : Nearest (struck t r) (hit_time t r) t.polygons h

-- ---- `open_towards`: from 1e-4 along the direction on, nothing is struck
abbrev pub e_4 : Float
e_4 = of_bits binary64 0x3f1a_36e2_eb1c_432d

unfoldable pub ray_from : Vec3 → Vec3 → Ray
ray_from p dir = record { origin = plus p (times dir e_4); dir = dir }

unfoldable pub is_nothing_of : Option Hit → Bool
is_nothing_of (Some h) = false
is_nothing_of None = true

unfoldable pub is_open : Part → Vec3 → Vec3 → Bool
is_open t p dir = is_nothing_of (hit_of t (ray_from p dir))

-- ---- "For every answer that is an enum, a definition states this paper's number and values for each of the enum's cases"
-- the polygon, and `none`, one more than the highest, where nothing is struck
unfoldable pub polygon_or : ℕ → Option Hit → ℕ
polygon_or none (Some h) = h.polygon
polygon_or none None = none

-- t, and 0.0 where nothing is struck
unfoldable pub time_or_zero : Option Hit → Float
time_or_zero (Some h) = h.t
time_or_zero None = vector.zero
