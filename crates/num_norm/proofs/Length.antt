-- The length of a vector: finite and not negative, a bound on it, and the least of many lengths by one root.
use mathlib.Core.Path.{◌≡◌, refl, sym, ap, ◌∙◌, subst}
use mathlib.Core.Bool.{false}
use mathlib.Core.List.{List, [], ◌∷◌}
use Prim.Native.Nat.{ℕ, suc, ◌+◌, ◌*◌, ◌^◌, ◌≤◌}
use native.Mathlib.Nat.{le_of_eq, one-mul, add-mul, pow-succ'}
use native.Mathlib.Omega.{arith}
use lib.Dec.{T, lit<}
use lib.Pow.{pow-add}
use lib.Ieee.{Float, inf, binary64, fits, add, mul}
use lib.Ieee.Scale.{finite}
use Rattle.num_root.specs.Root.{root}
use Rattle.num_root.proofs.Signs.{root_fits}
use Rattle.num_float.specs.Order.{lesser}
use Rattle.num_float.specs.Work.{greater, Held}
use Rattle.num_float.specs.Sign.{plus_zero, NonNeg}
use Rattle.num_float.specs.Within.{Within}
use Rattle.num_float.proofs.NonNegative.{plus_nonneg}
use Rattle.num_float.proofs.Within.{held_pow, add_within, mul_within, wider}
use Rattle.num_norm.specs.Length.{squared, length}
use Rattle.num_norm.specs.Least.{least, roots, Vec, lengths}
use Rattle.num_norm.specs.Work.{greatest, squares}
use Rattle.num_norm.proofs.RootOrder.{root_nonneg, root_within}
use Rattle.num_norm.proofs.RootUnits.{root_finite}
use Rattle.num_norm.proofs.LeastRoot.{Operand, AllOperands, lesser_root, greater_root, least_root_infinity, greatest_root_zero}
use Rattle.num_norm.proofs.Squares.{squared_operand, squared_of}

-- ---- finite and not negative
-- a finite squared length is not negative
pub squared_nonneg : (x y z : Float) → T (finite (squared x y z)) → NonNeg (squared x y z)
squared_nonneg x y z h = plus_nonneg (squared x y z) h (squared_of x y z h).sign

-- the length is an f64, finite, and not negative
pub record IsLength (x y z : Float) : Type 0 where
  pub fit : T (fits binary64 (length x y z))
  pub is_finite : T (finite (length x y z))
  pub nonneg : NonNeg (length x y z)

-- each length is so whose squared length is finite
pub length_of_lem : (x y z : Float) → T (finite (squared x y z)) → IsLength x y z
length_of_lem x y z h =
    let s = squared x y z in
    let f = (squared_operand x y z).fit in
    let p = squared_nonneg x y z h in
    record { fit = root_fits s f; is_finite = root_finite s f h p; nonneg = root_nonneg s p }

-- ---- bounds
-- components of at most 2 ^ k in size: the squared length is at most 3 * 2 ^ (2 k)
pub squared_within : (x y z : Float) (k : ℕ) → k ≤ 480 → Within x (2 ^ k) → Within y (2 ^ k) → Within z (2 ^ k) → Within (squared x y z) (3 * 2 ^ (k + k))
squared_within x y z k K X Y Z =
    let p = 2 ^ (k + k) in
    let xx = mul binary64 x x in
    let yy = mul binary64 y y in
    let zz = mul binary64 z z in
    let h : 2 ^ k * 2 ^ k ≤ 1 * p = le_of_eq (sym (pow-add 2 k k) ∙ sym (one-mul p)) in
    let H : Held (1 * p) = held_pow 1 (k + k) (lit< tt) (omega arith) in
    let square : (c : Float) → Within c (2 ^ k) → Within (mul binary64 c c) (1 * p) = λ c w. mul_within c c (2 ^ k) (2 ^ k) (1 * p) w w h H in
    add_within (add binary64 xx yy) zz (2 * p) (1 * p) (3 * p)
    (add_within xx yy (1 * p) (1 * p) (2 * p) (square x X) (square y Y) (le_of_eq (sym (add-mul 1 1 p))) (held_pow 2 (k + k) (lit< tt) (omega arith)))
    (square z Z) (le_of_eq (sym (add-mul 2 1 p))) (held_pow 3 (k + k) (lit< tt) (omega arith))

-- and the length is at most 2 ^ (k + 1)
pub length_within : (x y z : Float) (k : ℕ) → k ≤ 480 → Within x (2 ^ k) → Within y (2 ^ k) → Within z (2 ^ k) → Within (length x y z) (2 ^ suc k)
length_within x y z k K X Y Z =
    let w = squared_within x y z k K X Y Z in
    root_within (squared x y z) (2 ^ suc k) (squared_nonneg x y z w.is_finite) (subst Held (one-mul (2 ^ suc k)) (held_pow 1 (suc k) (lit< tt) (omega arith)))
    (wider {x = squared x y z} {a = 3 * 2 ^ (k + k)} (2 ^ suc k * 2 ^ suc k) (go (2 ^ k) (2 ^ (k + k)) (2 ^ suc k) (pow-add 2 k k) (pow-succ' 2 k)) w)
  where
    go : (p q r : ℕ) → q ≡ p * p → r ≡ 2 * p → 3 * q ≤ r * r
    go p q r e f = let g : r * r ≡ 2 * p * (2 * p) = ap (λ (i : ℕ). i * i) f in omega arith

-- ---- the least and the greatest of lengths, by one root, whatever the components are
-- one step of a running minimum: a is the least squared length so far
pub lesser_length : (a x y z : Float) → Operand a → lesser (root a) (length x y z) ≡ root (lesser a (squared x y z))
lesser_length a x y z A = lesser_root a (squared x y z) A (squared_operand x y z)

-- one step of a running maximum
pub greater_length : (a x y z : Float) → Operand a → greater (root a) (length x y z) ≡ root (greater a (squared x y z))
greater_length a x y z A = greater_root a (squared x y z) A (squared_operand x y z)

all_operands : (vs : List Vec) → AllOperands (squares vs)
unfolding squares AllOperands
all_operands [] = tt
all_operands (v ∷ vs) = (squared_operand v.x v.y v.z, all_operands vs)

lengths_are : (vs : List Vec) → lengths vs ≡ roots (squares vs)
unfolding squares lengths roots
lengths_are [] = refl
lengths_are (v ∷ vs) = ap (λ (l : List Float). length v.x v.y v.z ∷ l) (lengths_are vs)

-- `.map(length).fold(f64::INFINITY, f64::min)` is the root of the least squared length
pub least_length : (vs : List Vec) → least (inf false) (lengths vs) ≡ root (least (inf false) (squares vs))
least_length vs = ap (λ (l : List Float). least (inf false) l) (lengths_are vs) ∙ least_root_infinity (squares vs) (all_operands vs)

-- `.map(length).fold(0.0, f64::max)` is the root of the greatest squared length
pub greatest_length : (vs : List Vec) → greatest plus_zero (lengths vs) ≡ root (greatest plus_zero (squares vs))
greatest_length vs = ap (λ (l : List Float). greatest plus_zero l) (lengths_are vs) ∙ greatest_root_zero (squares vs) (all_operands vs)
