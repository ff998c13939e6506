-- What private functions leave on the way; a reader may pass over it. Definitions only.
use Rattle.std.specs.Prelude.{◌≡◌, Bool, true, false, List, [], ◌∷◌, ◌++◌, ℕ, zero, suc, ◌+◌, ◌-◌, ◌*◌, ◌/◌, ◌%◌, ◌≤◌, ◌<◌, ℤ, pos, negsuc, nat_abs, ◌-ℤ◌, Float, get_or}
use Rattle.std.specs.Float.{nan, binary64}
use Rattle.std.specs.Float.Ieee.{of_bits, to_bits}
use Rattle.round_hole.specs.declared.direction.Direction.{Direction}
use Rattle.round_hole.specs.Direction.{follows}

-- ---- directions in the cells of a slice of f64
-- u and v lie from -2^20 to 2^20, as those of a vertex do
pub record Packable (d : Direction) : Type 0 where
  pub u_within : nat_abs d.u ≤ 1048576
  pub v_within : nat_abs d.v ≤ 1048576

-- u and v are below 2^22 in size, so that their products fit an i64
pub record Near (d : Direction) : Type 0 where
  pub u_below : nat_abs d.u < 4194304
  pub v_below : nat_abs d.v < 4194304

-- a whole number from -2^20 on, counted from there
unfoldable pub from_lowest : ℤ → ℕ
from_lowest (pos n) = 1048576 + n
from_lowest (negsuc n) = 1048576 - suc n

-- u in the upper half of the bits, v in the lower
unfoldable pub pack_of : Direction → Float
pack_of d = of_bits binary64 (from_lowest d.u * 4294967296 + from_lowest d.v)

-- 22 bits of each half; every f64 has a direction
unfoldable pub unpack_of : Float → Direction
unpack_of x = record {
  u = pos (to_bits binary64 x / 4294967296 % 4194304) -ℤ pos 1048576;
  v = pos (to_bits binary64 x % 4194304) -ℤ pos 1048576;
}

-- the direction in cell k
unfoldable pub direction_at : List Float → ℕ → Direction
direction_at cells k = unpack_of (get_or cells k nan)

-- the directions in the first n cells
unfoldable pub directions_in : ℕ → List Float → List Direction
directions_in zero cells = []
directions_in (suc n) cells = directions_in n cells ++ (direction_at cells n ∷ [])

-- a direction from cell lo to before cell hi that follows a
pub record Found (cells : List Float) (a : Direction) (lo hi : ℕ) : Type 0 where
  pub place : ℕ
  pub from : lo ≤ place
  pub before : place < hi
  pub is : follows a (direction_at cells place) ≡ true

-- there is none
pub record None (cells : List Float) (a : Direction) (lo hi : ℕ) : Type 0 where
  pub fails : (i : ℕ) → lo ≤ i → i < hi → follows a (direction_at cells i) ≡ false

-- the answer r to whether there is one
pub record SomeBetween (r : Bool) (cells : List Float) (a : Direction) (lo hi : ℕ) : Type 0 where
  pub found : r ≡ true → Found cells a lo hi
  pub none : r ≡ false → None cells a lo hi

-- an answer of true is right: some direction of the first n cells follows a. Of false nothing is said.
pub record TrueIfFound (r : Bool) (cells : List Float) (a : Direction) (n : ℕ) : Type 0 where
  pub found : r ≡ true → Found cells a 0 n
