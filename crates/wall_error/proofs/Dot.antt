-- A rounded dot product beside the exact one, for a vector n with components of at most 1 in size and a vector v with components of at most k.
use mathlib.Core.Path.{◌≡◌}
use Prim.Native.Nat.{ℕ, ◌+◌, ◌*◌, ◌/◌, ◌%◌, ◌^◌, ◌≤◌, ◌<◌}
use native.Mathlib.Nat.{le_trans, le_of_eq, lt_of_le_of_lt, add_assoc, add-mul, one-mul, mul-le-mul, div-add-mod', mod-lt}
use native.Mathlib.Omega.{arith}
use lib.Dec.{lit<, lit≤}
use lib.Pow.{pow_pos}
use lib.IntN.{◌+ℤ◌, ◌*ℤ◌}
use lib.Ieee.{Float, binary64, add, mul}
use lib.Ieee.Fits.{add-fits, mul-fits}
use Rattle.num_float.specs.Units.{units}
use Rattle.num_float.specs.Work.{above, below, Close, Bounded, Held}
use Rattle.num_float.proofs.Units.{bounded_units}
use Rattle.num_float.proofs.Within.{held_small, add_within, mul_within}
use Rattle.num_error.specs.Exact.{scale, exact}
use Rattle.num_error.specs.Work.{Is, product_above, product_below}
use Rattle.num_error.proofs.Whole.{is_add, is_mul, exact_is}
use Rattle.num_error.proofs.Terms.{close_scaled, mul_close, add_close, add_closer}
use Rattle.math.specs.declared.Vec3.{Vec3}
use Rattle.math.specs.Vector.{dot_of}
use Rattle.wall_error.specs.Error.{exact_dot}
use Rattle.wall_error.specs.Work.{VecBounded, dot_above, dot_below, product_error, first_error, last_error, dot_error, DotRoom}

-- ---- the exact one as a difference
pub dot_is : (a b : Vec3) → Is (exact_dot a b) (dot_above a b) (dot_below a b)
unfolding exact_dot
dot_is a b =
    is_add (exact a.x *ℤ exact b.x +ℤ exact a.y *ℤ exact b.y) (exact a.z *ℤ exact b.z) _ _ _ _
    (is_add (exact a.x *ℤ exact b.x) (exact a.y *ℤ exact b.y) _ _ _ _ (term a.x b.x) (term a.y b.y)) (term a.z b.z)
  where
    term : (x y : Float) → Is (exact x *ℤ exact y) (product_above x y) (product_below x y)
    term x y = is_mul (exact x) (exact y) (above x) (below x) (above y) (below y) (exact_is x) (exact_is y)

-- ---- two terms and their sum, each off
joined : (p m q n a b c d s u l e f g : ℕ) → Close (p * l) (m * l) a b e → Close (q * l) (n * l) c d f → Close s u (p + q) (m + n) g →
    Close (s * l) (u * l) (a + c) (b + d) (e + f + g * l)
joined p m q n a b c d s u l e f g h1 h2 k =
    let scaled = close_scaled s u (p + q) (m + n) g l k in
    let above : (p + q) * l ≡ p * l + q * l = add-mul p q l in
    let below : (m + n) * l ≡ m * l + n * l = add-mul m n l in
    (omega arith, omega arith)

-- a size n, and its part n / z that an error grows with
part_room : (n z b k : ℕ) → 0 < z → b + z ≤ k * z → n + b ≤ (n / z + k) * z
part_room n z b k positive h = go (n / z * z) (n % z) (k * z) ((n / z + k) * z) (div-add-mod' n z) (mod-lt n positive) h (add-mul (n / z) k z)
  where
    go : (q r m s : ℕ) → q + r ≡ n → r < z → b + z ≤ m → s ≡ q + m → n + b ≤ s
    go q r m s e l h w = omega arith

module _ (n v : Vec3) (k : ℕ) (N : VecBounded n 1) (K : VecBounded v k) (room : DotRoom k) where
  -- ---- its three products and two sums
  abbrev px : Float
  px = mul binary64 n.x v.x

  abbrev py : Float
  py = mul binary64 n.y v.y

  abbrev pz : Float
  pz = mul binary64 n.z v.z

  abbrev pxy : Float
  pxy = add binary64 px py

  held : Held k
  held = held_small k (lt_of_le_of_lt (go k) room.short)
    where
      go : (k : ℕ) → k ≤ 3 * k
      go k = omega arith

  held_two : Held (2 * k)
  held_two = held_small (2 * k) (lt_of_le_of_lt (go k) room.short)
    where
      go : (k : ℕ) → 2 * k ≤ 3 * k
      go k = omega arith

  product_bounded : (x y : Float) → Bounded x 1 → Bounded y k → Bounded (mul binary64 x y) k
  product_bounded x y X Y = record { fit = mul-fits binary64 x y; within = mul_within x y 1 k k X.within Y.within (le_of_eq (one-mul k)) held }

  bounded_x : Bounded px k
  bounded_x = product_bounded n.x v.x N.at_x K.at_x

  bounded_y : Bounded py k
  bounded_y = product_bounded n.y v.y N.at_y K.at_y

  bounded_z : Bounded pz k
  bounded_z = product_bounded n.z v.z N.at_z K.at_z

  bounded_xy : Bounded pxy (2 * k)
  bounded_xy = record { fit = add-fits binary64 px py; within = add_within px py k k (2 * k) bounded_x.within bounded_y.within (go k) held_two }
    where
      go : (k : ℕ) → k + k ≤ 2 * k
      go k = omega arith

  pub dot_bounded : Bounded (dot_of n v) (3 * k)
  unfolding dot_of
  dot_bounded = record {
    fit = add-fits binary64 pxy pz;
    within = add_within pxy pz (2 * k) k (3 * k) bounded_xy.within bounded_z.within (go k) (held_small (3 * k) room.short);
  }
    where
      go : (k : ℕ) → 2 * k + k ≤ 3 * k
      go k = omega arith

  -- ---- the error of its last sum: by the bound of the terms, and by its own size
  last_close : Close (above (dot_of n v)) (below (dot_of n v)) (above pxy + above pz) (below pxy + below pz) (last_error k)
  unfolding dot_of
  last_close =
      add_close pxy pz (2 * k * scale) (k * scale) (last_error k) bounded_xy.fit bounded_z.fit bounded_xy.within.is_finite bounded_z.within.is_finite
      dot_bounded.within.is_finite (bounded_units pxy (2 * k) bounded_xy) (bounded_units pz k bounded_z) room.last

  last_closer : (g : ℕ) → units (dot_of n v) + last_error k + 2 ^ 52 ≤ g * 2 ^ 53 →
      Close (above (dot_of n v)) (below (dot_of n v)) (above pxy + above pz) (below pxy + below pz) g
  unfolding dot_of
  last_closer g h =
      add_closer pxy pz (last_error k) g bounded_xy.fit bounded_z.fit bounded_xy.within.is_finite bounded_z.within.is_finite
      dot_bounded.within.is_finite last_close h

  -- ---- the error of the whole
  product_close : (x y : Float) → Bounded x 1 → Bounded y k →
      Close (above (mul binary64 x y) * scale) (below (mul binary64 x y) * scale) (product_above x y) (product_below x y) (product_error k)
  product_close x y X Y =
      mul_close x y (1 * scale * (k * scale)) (product_error k) X.fit Y.fit X.within.is_finite Y.within.is_finite
      (product_bounded x y X Y).within.is_finite (mul-le-mul (bounded_units x 1 X) (bounded_units y k Y)) room.product

  first_close : Close (above pxy) (below pxy) (above px + above py) (below px + below py) (first_error k)
  first_close =
      add_close px py (k * scale) (k * scale) (first_error k) bounded_x.fit bounded_y.fit bounded_x.within.is_finite bounded_y.within.is_finite
      bounded_xy.within.is_finite (bounded_units px k bounded_x) (bounded_units py k bounded_y) room.first

  by_last : (g : ℕ) → Close (above (dot_of n v)) (below (dot_of n v)) (above pxy + above pz) (below pxy + below pz) g →
      Close (above (dot_of n v) * scale) (below (dot_of n v) * scale) (dot_above n v) (dot_below n v) (dot_error k g)
  by_last g last =
      joined (above pxy) (below pxy) (above pz) (below pz) _ _ (product_above n.z v.z) (product_below n.z v.z)
      (above (dot_of n v)) (below (dot_of n v)) scale (product_error k + product_error k + first_error k * scale) (product_error k) g
      (joined (above px) (below px) (above py) (below py) (product_above n.x v.x) (product_below n.x v.x) (product_above n.y v.y)
      (product_below n.y v.y) (above pxy) (below pxy) scale (product_error k) (product_error k) (first_error k)
      (product_close n.x v.x N.at_x K.at_x) (product_close n.y v.y N.at_y K.at_y) first_close)
      (product_close n.z v.z N.at_z K.at_z) last

  pub dot_close : Close (above (dot_of n v) * scale) (below (dot_of n v) * scale) (dot_above n v) (dot_below n v) (dot_error k (last_error k))
  dot_close = by_last (last_error k) last_close

  -- the last sum is off by a part of its own size
  abbrev pub part : ℕ
  part = units (dot_of n v) / 2 ^ 53

  pub dot_closer : last_error k + 2 ^ 52 + 2 ^ 53 ≤ 2 ^ 970 * 2 ^ 53 →
      Close (above (dot_of n v) * scale) (below (dot_of n v) * scale) (dot_above n v) (dot_below n v) (dot_error k (part + 2 ^ 970))
  dot_closer h =
      by_last (part + 2 ^ 970)
      (last_closer (part + 2 ^ 970)
      (le_trans (le_of_eq (add_assoc (units (dot_of n v)) (last_error k) (2 ^ 52)))
      (part_room (units (dot_of n v)) (2 ^ 53) (last_error k + 2 ^ 52) (2 ^ 970) (pow_pos 53) h)))

-- ---- the two that a ray asks for: with its direction, and with its start
pub dir_room : DotRoom 1
dir_room = record { short = lit< tt; product = lit≤ tt; first = lit≤ tt; last = lit≤ tt }

pub start_room : DotRoom 10002
start_room = record { short = lit< tt; product = lit≤ tt; first = lit≤ tt; last = lit≤ tt }
