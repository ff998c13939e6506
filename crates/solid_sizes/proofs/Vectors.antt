-- Bounds through the operations on vectors.
use Prim.Native.Nat.{ℕ, suc, ◌+◌, ◌*◌, ◌^◌, ◌≤◌}
use lib.Dec.{T, lit<, lit≤}
use lib.Ieee.{Float, binary64, sub, mul}
use lib.Ieee.Scale.{finite}
use Rattle.num_float.specs.Sign.{NonNeg}
use Rattle.num_float.specs.Within.{Within}
use Rattle.num_float.specs.Work.{Held}
use Rattle.num_float.proofs.Within.{held_small, wider, add_within, sub_within, mul_within}
use Rattle.num_norm.specs.Length.{squared}
use Rattle.num_norm.proofs.Length.{length_of_lem, length_within, squared_within}
use Rattle.math.specs.declared.Vec3.{Vec3}
use Rattle.math.specs.Vector.{plus, minus, times, dot_of, cross_of, length_of, distance_of}
use Rattle.math.specs.Size.{VecWithin}

-- ---- component by component
pub wider_vec : (a : Vec3) (A B : ℕ) → A ≤ B → VecWithin a A → VecWithin a B
wider_vec a A B h p = record { x_within = wider B h p.x_within; y_within = wider B h p.y_within; z_within = wider B h p.z_within }

pub plus_within : (a b : Vec3) (A B C : ℕ) → VecWithin a A → VecWithin b B → A + B ≤ C → Held C → VecWithin (plus a b) C
unfolding plus
plus_within a b A B C p q h H = record {
  x_within = add_within a.x b.x A B C p.x_within q.x_within h H;
  y_within = add_within a.y b.y A B C p.y_within q.y_within h H;
  z_within = add_within a.z b.z A B C p.z_within q.z_within h H;
}

pub minus_within : (a b : Vec3) (A B C : ℕ) → VecWithin a A → VecWithin b B → A + B ≤ C → Held C → VecWithin (minus a b) C
unfolding minus
minus_within a b A B C p q h H = record {
  x_within = sub_within a.x b.x A B C p.x_within q.x_within h H;
  y_within = sub_within a.y b.y A B C p.y_within q.y_within h H;
  z_within = sub_within a.z b.z A B C p.z_within q.z_within h H;
}

pub times_within : (a : Vec3) (s : Float) (A B C : ℕ) → VecWithin a A → Within s B → A * B ≤ C → Held C → VecWithin (times a s) C
unfolding times
times_within a s A B C p q h H = record {
  x_within = mul_within a.x s A B C p.x_within q h H;
  y_within = mul_within a.y s A B C p.y_within q h H;
  z_within = mul_within a.z s A B C p.z_within q h H;
}

-- ---- products: P bounds one product of components
module _ (a b : Vec3) (A B P : ℕ) (p : VecWithin a A) (q : VecWithin b B) (h : A * B ≤ P) (H : Held P) where
  product : (x y : Float) → Within x A → Within y B → Within (mul binary64 x y) P
  product x y v w = mul_within x y A B P v w h H

  pub cross_within : (C : ℕ) → P + P ≤ C → Held C → VecWithin (cross_of a b) C
  unfolding cross_of
  cross_within C k K = record {
    x_within = side a.y b.z a.z b.y p.y_within q.z_within p.z_within q.y_within;
    y_within = side a.z b.x a.x b.z p.z_within q.x_within p.x_within q.z_within;
    z_within = side a.x b.y a.y b.x p.x_within q.y_within p.y_within q.x_within;
  }
    where
      side : (x y u v : Float) → Within x A → Within y B → Within u A → Within v B → Within (sub binary64 (mul binary64 x y) (mul binary64 u v)) C
      side x y u v X Y U W = sub_within (mul binary64 x y) (mul binary64 u v) P P C (product x y X Y) (product u v U W) k K

  -- Q bounds the first two terms
  pub dot_within : (Q C : ℕ) → P + P ≤ Q → Held Q → Q + P ≤ C → Held C → Within (dot_of a b) C
  unfolding dot_of
  dot_within Q C k K l L =
      add_within _ _ Q P C
      (add_within _ _ P P Q (product a.x b.x p.x_within q.x_within) (product a.y b.y p.y_within q.y_within) k K)
      (product a.z b.z p.z_within q.z_within) l L

-- ---- lengths
-- of components of at most 2 ^ k
pub vec_length_within : (a : Vec3) (k : ℕ) → k ≤ 480 → VecWithin a (2 ^ k) → Within (length_of a) (2 ^ suc k)
unfolding length_of
vec_length_within a k K p = length_within a.x a.y a.z k K p.x_within p.y_within p.z_within

pub square_finite : (a : Vec3) (k : ℕ) → k ≤ 480 → VecWithin a (2 ^ k) → T (finite (squared a.x a.y a.z))
square_finite a k K p = (squared_within a.x a.y a.z k K p.x_within p.y_within p.z_within).is_finite

pub vec_length_nonneg : (a : Vec3) (k : ℕ) → k ≤ 480 → VecWithin a (2 ^ k) → NonNeg (length_of a)
unfolding length_of
vec_length_nonneg a k K p = (length_of_lem a.x a.y a.z (square_finite a k K p)).nonneg

-- ---- the distance of two points with coordinates of at most 10,000
apart : (a b : Vec3) → VecWithin a 10000 → VecWithin b 10000 → VecWithin (minus a b) (2 ^ 15)
apart a b p q = minus_within a b 10000 10000 (2 ^ 15) p q (lit≤ tt) (held_small (2 ^ 15) (lit< tt))

pub distance_within : (a b : Vec3) → VecWithin a 10000 → VecWithin b 10000 → Within (distance_of a b) (2 ^ 16)
unfolding distance_of
distance_within a b p q = vec_length_within (minus a b) 15 (lit≤ tt) (apart a b p q)

pub distance_nonneg : (a b : Vec3) → VecWithin a 10000 → VecWithin b 10000 → NonNeg (distance_of a b)
unfolding distance_of
distance_nonneg a b p q = vec_length_nonneg (minus a b) 15 (lit≤ tt) (apart a b p q)
