-- What the functions of this crate leave on the way. A reader may pass over it.
use Rattle.std.specs.Prelude.{◌≡◌, Bool, true, false, cond, List, ℕ, ◌+◌, ◌-◌, ◌*◌, ◌≤◌, ◌<◌, get_or, Float, Option, Some, None}
use Rattle.std.specs.Float.{nan}
use Rattle.std.specs.Float.Ieee.{lt, eq, le, is_nan}
use Rattle.num_float.specs.Order.{lesser}
use Rattle.num_float.specs.Work.{greater}
use Rattle.math.specs.Vector.{zero}
use Rattle.file_part.specs.Part.{Part}
use Rattle.solid_boxes.specs.Tree.{at}
use Rattle.wall_ray.specs.declared.strike.Ray.{Ray}
use Rattle.wall_ray.specs.declared.strike.Hit.{Hit}
use Rattle.wall_ray.specs.Slab.{meets, endless}
use Rattle.wall_ray.specs.Strike.{hit_time, inverse_of, struck}
use Rattle.wall_tree.specs.declared.aim.Aim.{Aim}

-- ---- a ray as the boxes of a tree are tried
-- the start on an axis, where the inverse direction i has a sign; else a NaN, by which the axis tells nothing
unfoldable pub start_of : Float → Float → Float
start_of o i = cond (lt i zero) o (cond (lt zero i) o nan)

-- an axis whose bounds are the numbers `base` and `base + 3` of a box: start and number of the bound that is met first, where the ray runs up, or
-- down, or the axis tells nothing
pub data Axis (o i : Float) (base : ℕ) : Float → ℕ → Type 0 where
  up : lt zero i ≡ true → Axis o i base o base
  down : lt i zero ≡ true → Axis o i base o (base + 3)
  blind : (s : Float) → is_nan s ≡ true → Axis o i base s base

pub record Aimed (r : Ray) (a : Aim) : Type 0 where
  pub inverse : a.inv ≡ inverse_of r
  pub x_axis : Axis r.origin.x (inverse_of r).x 0 a.origin.x a.x
  pub y_axis : Axis r.origin.y (inverse_of r).y 1 a.origin.y a.y
  pub z_axis : Axis r.origin.z (inverse_of r).z 2 a.origin.z a.z

-- the bounds that are met first are among a box's six numbers
pub record Sides (a : Aim) : Type 0 where
  pub x : a.x ≤ 3
  pub y : a.y ≤ 4
  pub z : a.z ≤ 5
  pub y_least : 1 ≤ a.y
  pub z_least : 2 ≤ a.z

-- the test of box j, with `limit` for the best t so far
unfoldable pub opens_at : List Float → ℕ → Aim → Float → Bool
opens_at l j a limit =
    le
    (greater
    (greater (greater zero (meets (get_or l (6 * j + a.x) nan) a.origin.x a.inv.x)) (meets (get_or l (6 * j + a.y) nan) a.origin.y a.inv.y))
    (meets (get_or l (6 * j + a.z) nan) a.origin.z a.inv.z))
    (lesser
    (lesser (lesser limit (meets (get_or l (6 * j + (3 - a.x)) nan) a.origin.x a.inv.x))
    (meets (get_or l (6 * j + (5 - a.y)) nan) a.origin.y a.inv.y))
    (meets (get_or l (6 * j + (7 - a.z)) nan) a.origin.z a.inv.z))

-- ---- what is kept
-- how far along the ray something can still come first
unfoldable pub limit_of : Option Hit → Float
limit_of (Some h) = h.t
limit_of None = endless

-- q at u does not come before what is kept
abbrev pub After : Option Hit → ℕ → Float → Type 0
After (Some h) q u = (lt u h.t ≡ false) × (eq u h.t ≡ true → h.polygon ≤ q)
After None q u = ⊥

-- what is kept was struck
abbrev pub Real : (ℕ → Bool) → (ℕ → Float) → ℕ → Option Hit → Type 0
Real is time n (Some h) = (h.polygon < n) × ((is h.polygon ≡ true) × (h.t ≡ time h.polygon))
Real is time n None = 0 ≤ n

-- h is the nearest of those at the first c places
pub record Best (is : ℕ → Bool) (time : ℕ → Float) (ord : ℕ → ℕ) (n c : ℕ) (h : Option Hit) : Type 0 where
  pub real : Real is time n h
  pub all : (x : ℕ) → x < c → is (ord x) ≡ true → After h (ord x) (time (ord x))

-- of what a ray strikes, with the polygons in the order of a tree
unfoldable pub Kept : Part → Ray → List ℕ → ℕ → Option Hit → Type 0
Kept t r words c h = Best (struck t r) (hit_time t r) (at words) t.polygons c h

-- what is kept of the places before a becomes what is kept of those before e
pub record Tried (t : Part) (r : Ray) (words : List ℕ) (h : Option Hit) (a e : ℕ) (k : Option Hit) : Type 0 where
  pub step : Kept t r words a h → Kept t r words e k
