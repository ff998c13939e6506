-- The sizes of a frame and of the offsets about it, so that the directions of vertices can be packed.
use mathlib.Core.Path.{◌≡◌, sym, ap, ◌∙◌, subst}
use mathlib.Core.Bool.{Bool, true, false, cond}
use Prim.Native.Nat.{ℕ, ◌+◌, ◌*◌, ◌^◌, ◌≤◌, ◌<◌}
use native.Mathlib.Nat.{le_refl}
use native.Mathlib.Omega.{arith}
use lib.Dec.{lit≤, lit<}
use lib.Ieee.{Float, binary64, sub, mul, lt, of_bits}
use lib.Ieee.Fits.{add-fits, sub-fits}
use Rattle.num_float.specs.Within.{Within}
use Rattle.num_float.specs.Work.{Bounded}
use Rattle.num_float.proofs.Within.{held_small, wider, add_within, sub_within, mul_within}
use Rattle.num_norm.proofs.Normalized.{normalized_2}
use Rattle.num_real.specs.Select.{abs_of}
use Rattle.math.specs.declared.Vec3.{Vec3}
use Rattle.math.specs.Size.{VecWithin}
use Rattle.math.specs.Vector.{one, x_vec, y_vec, minus, dot_of, cross_of, normalized_of, nine_tenths, perpendicular_of}
use Rattle.math.specs.Vector as vector
use Rattle.round_hole.specs.declared.direction.Direction.{Direction}
use Rattle.round_hole.specs.Direction.{e_6, length_of, direction_of}
use Rattle.round_hole.specs.Work.{Packable}
use Rattle.round_hole.proofs.DirectionLaws.{direction_packable}
use Rattle.round_frame.specs.declared.frame.Frame.{Frame}
use Rattle.round_frame.specs.Frame.{across_of, frame_of}
use Rattle.round_frame.specs.Work.{Central}

-- each component is an f64 that is finite, and at most b in size
pub record VecBounded (v : Vec3) (b : ℕ) : Type 0 where
  pub at_x : Bounded v.x b
  pub at_y : Bounded v.y b
  pub at_z : Bounded v.z b

within_of : (v : Vec3) (b : ℕ) → VecBounded v b → VecWithin v b
within_of v b h = record { x_within = h.at_x.within; y_within = h.at_y.within; z_within = h.at_z.within }

-- ---- products
-- a difference of two products, as in a cross product
term_bounded : (a b c d : Float) (A B C : ℕ) → Within a A → Within b B → Within c A → Within d B → A * B + A * B ≤ C → C < 2 ^ 53 →
    Bounded (sub binary64 (mul binary64 a b) (mul binary64 c d)) C
term_bounded a b c d A B C wa wb wc wd h small =
    let low : A * B < 2 ^ 53 = omega (arith, h, small) in
    let p = mul_within a b A B (A * B) wa wb (le_refl (A * B)) (held_small (A * B) low) in
    let q = mul_within c d A B (A * B) wc wd (le_refl (A * B)) (held_small (A * B) low) in
    record { fit = sub-fits binary64 _ _; within = sub_within (mul binary64 a b) (mul binary64 c d) (A * B) (A * B) C p q h (held_small C small) }

cross_bounded : (a b : Vec3) (A B C : ℕ) → VecWithin a A → VecWithin b B → A * B + A * B ≤ C → C < 2 ^ 53 → VecBounded (cross_of a b) C
unfolding cross_of
cross_bounded a b A B C wa wb h small =
    record {
      at_x = term_bounded a.y b.z a.z b.y A B C wa.y_within wb.z_within wa.z_within wb.y_within h small;
      at_y = term_bounded a.z b.x a.x b.z A B C wa.z_within wb.x_within wa.x_within wb.z_within h small;
      at_z = term_bounded a.x b.y a.y b.x A B C wa.x_within wb.y_within wa.y_within wb.x_within h small;
    }

-- the sum of three products
dot_bounded : (a b : Vec3) (A B C D : ℕ) → VecWithin a A → VecWithin b B → A * B ≤ C → C + C ≤ D → D + C ≤ 1048576 → Bounded (dot_of a b) 1048576
unfolding dot_of
dot_bounded a b A B C D wa wb h i j =
    let held = held_small 1048576 (lit< tt) in
    let x = mul_within a.x b.x A B C wa.x_within wb.x_within h (held_small C (small C (omega (arith, i, j)))) in
    let y = mul_within a.y b.y A B C wa.y_within wb.y_within h (held_small C (small C (omega (arith, i, j)))) in
    let z = mul_within a.z b.z A B C wa.z_within wb.z_within h (held_small C (small C (omega (arith, i, j)))) in
    let xy = add_within (mul binary64 a.x b.x) (mul binary64 a.y b.y) C C D x y i (held_small D (small D (omega (arith, j)))) in
    record { fit = add-fits binary64 _ _; within = add_within _ (mul binary64 a.z b.z) D C 1048576 xy z j held }
  where
    small : (n : ℕ) → n ≤ 1048576 → n < 2 ^ 53
    small n l = omega (arith, l)

-- ---- `normalized`
normalized_bounded : (a : Vec3) → VecBounded a 4 → VecBounded (normalized_of a) 2
unfolding normalized_of
normalized_bounded a h =
    let sixteen = held_small 16 (lit< tt) in
    let x = mul_within a.x a.x 4 4 16 h.at_x.within h.at_x.within (lit≤ tt) sixteen in
    let y = mul_within a.y a.y 4 4 16 h.at_y.within h.at_y.within (lit≤ tt) sixteen in
    let z = mul_within a.z a.z 4 4 16 h.at_z.within h.at_z.within (lit≤ tt) sixteen in
    let xy = add_within (mul binary64 a.x a.x) (mul binary64 a.y a.y) 16 16 32 x y (lit≤ tt) (held_small 32 (lit< tt)) in
    let all = add_within _ (mul binary64 a.z a.z) 32 16 48 xy z (lit≤ tt) (held_small 48 (lit< tt)) in
    let n = normalized_2 a.x a.y a.z h.at_x.fit h.at_y.fit h.at_z.fit all.is_finite in
    record { at_x = n.at_x; at_y = n.at_y; at_z = n.at_z }

wider_vec : (a : Vec3) → VecBounded a 2 → VecBounded a 4
wider_vec a h =
    record {
      at_x = record { fit = h.at_x.fit; within = wider 4 (lit≤ tt) h.at_x.within };
      at_y = record { fit = h.at_y.fit; within = wider 4 (lit≤ tt) h.at_y.within };
      at_z = record { fit = h.at_z.fit; within = wider 4 (lit≤ tt) h.at_z.within };
    }

-- ---- a direction across
one_within : Within one 1
unfolding of_bits
one_within = record { is_finite = tt; size = lit≤ tt }

zero_within : Within vector.zero 1
unfolding of_bits
zero_within = record { is_finite = tt; size = lit≤ tt }

unit_within : (b : Bool) → VecWithin (cond b x_vec y_vec) 1
unfolding x_vec y_vec
unit_within true = record { x_within = one_within; y_within = zero_within; z_within = zero_within }
unit_within false = record { x_within = zero_within; y_within = one_within; z_within = zero_within }

perpendicular_bounded : (a : Vec3) → VecBounded a 2 → VecBounded (perpendicular_of a) 2
unfolding perpendicular_of
perpendicular_bounded a h =
    normalized_bounded _ (cross_bounded a _ 2 1 4 (within_of a 2 h) (unit_within (lt (abs_of a.x) nine_tenths)) (lit≤ tt) (lit< tt))

pub central : (origin dir : Vec3) → VecWithin origin 10000 → VecBounded dir 2 → Central (frame_of origin dir)
unfolding frame_of across_of
central origin dir near h =
    let axis = normalized_bounded dir (wider_vec dir h) in
    let across = normalized_bounded (perpendicular_of (normalized_of dir)) (wider_vec _ (perpendicular_bounded (normalized_of dir) axis)) in
    record {
      near = near;
      x_short = within_of _ 2 across;
      y_short = within_of _ 8 (cross_bounded (normalized_of dir) _ 2 2 8 (within_of _ 2 axis) (within_of _ 2 across) (lit≤ tt) (lit< tt));
    }

-- ---- the direction of a vertex
-- its offset from the origin
offset_within : (a : Frame) (v : Vec3) → Central a → VecWithin v 10000 → VecWithin (minus v a.origin) 20000
unfolding minus
offset_within a v h w =
    let held = held_small 20000 (lit< tt) in
    record {
      x_within = sub_within v.x a.origin.x 10000 10000 20000 w.x_within h.near.x_within (lit≤ tt) held;
      y_within = sub_within v.y a.origin.y 10000 10000 20000 w.y_within h.near.y_within (lit≤ tt) held;
      z_within = sub_within v.z a.origin.z 10000 10000 20000 w.z_within h.near.z_within (lit≤ tt) held;
    }

-- of a vertex that gives one
pub vertex_packable : (a : Frame) (v : Vec3) (x y length : Float) (d : Direction) → Central a → VecWithin v 10000 → x ≡ dot_of (minus v a.origin) a.x →
    y ≡ dot_of (minus v a.origin) a.y → length ≡ length_of x y → lt length e_6 ≡ false → d ≡ direction_of x y length → Packable d
vertex_packable a v x y length d h w ex ey el far is =
    let o = offset_within a v h w in
    let at_x = dot_bounded (minus v a.origin) a.x 20000 2 40000 80000 o h.x_short (lit≤ tt) (lit≤ tt) (lit≤ tt) in
    let at_y = dot_bounded (minus v a.origin) a.y 20000 8 160000 320000 o h.y_short (lit≤ tt) (lit≤ tt) (lit≤ tt) in
    let bx = subst (λ (z : Float). Bounded z 1048576) (sym ex) at_x in
    let by = subst (λ (z : Float). Bounded z 1048576) (sym ey) at_y in
    let ok = direction_packable x y bx by (ap (λ (z : Float). lt z e_6) (sym el) ∙ far) in
    subst Packable (sym (is ∙ ap (direction_of x y) el)) ok
