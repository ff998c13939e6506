-- The box of some segments: what is inside, what it spares, and the six stores that keep it.
use mathlib.Core.Path.{◌≡◌, refl, ap, ◌∙◌, subst}
use mathlib.Core.Bool.{Bool, true, false, cond}
use mathlib.Core.List.{List, [], ◌∷◌}
use Prim.Native.Nat.{ℕ, ◌+◌, ◌≤◌, ◌<◌}
use native.Mathlib.Omega.{arith}
use lib.Dec.{T}
use lib.ListN.{length, get_or, set, length-set}
use lib.Seq.{get_or-set_same, get_or-set_other}
use lib.Ieee.{Float, nan, inf, fin, binary64, add, sub, mul, div, lt, eq, le, is_nan, of_bits}
use lib.Ieee.Scale.{finite}
use Rattle.num_float.specs.Order.{lesser}
use Rattle.num_float.specs.Work.{greater}
use Rattle.num_float.specs.Sign.{plus_zero}
use Rattle.num_float.proofs.Tests.{refuted, contrary}
use Rattle.num_float.proofs.Order.{lt_trans, lt_irrefl, le_lt_trans, not_lt_le}
use Rattle.num_float.proofs.Sign.{add_nonneg}
use Rattle.num_norm.specs.Length.{squared}
use Rattle.num_norm.proofs.Squares.{squared_operand, squared_of}
use Rattle.list_laws.specs.Region.{Outside}
use Rattle.list_laws.proofs.Stores.{stores, stores_length, stores_below, stores_above, stores_at}
use Rattle.math.specs.declared.Vec3.{Vec3}
use Rattle.math.specs.Vector.{zero, one, plus, minus, times, dot_of, length_sq_of}
use Rattle.solid_distance.specs.declared.kept.Segment.{Segment}
use Rattle.solid_distance.specs.Segment.{clamp_unit, e_18, along}
use Rattle.solid_distance.specs.Kept.{square_to_of}
use Rattle.solid_reach.specs.declared.reach.Reach.{Reach}
use Rattle.solid_reach.specs.Work.{point_on, with_point, with_segment, Spans, HoldsPoint, Holds, gap_of, gap_square, reach_at, put_reach}
use Rattle.solid_reach.proofs.GapLaws.{Under, gap_under, sum_under, add_terms, point_terms, finite_number}

-- ---- a point more
lesser_new : (a x : Float) → lt x (lesser a x) ≡ false
lesser_new a x = go (lt x a) refl
  where
    go : (b : Bool) → lt x a ≡ b → lt x (cond b x a) ≡ false
    go true h = lt_irrefl x
    go false h = h

lesser_old : (a x y : Float) → lt y a ≡ false → lt y (lesser a x) ≡ false
lesser_old a x y k = go (lt x a) refl
  where
    go : (b : Bool) → lt x a ≡ b → lt y (cond b x a) ≡ false
    go true h = refuted (lt y x) (λ w. contrary (lt_trans y x a w h) k)
    go false h = k

greater_new : (a x : Float) → lt (greater a x) x ≡ false
greater_new a x = go (lt a x) refl
  where
    go : (b : Bool) → lt a x ≡ b → lt (cond b x a) x ≡ false
    go true h = lt_irrefl x
    go false h = h

greater_old : (a x y : Float) → lt a y ≡ false → lt (greater a x) y ≡ false
greater_old a x y k = go (lt a x) refl
  where
    go : (b : Bool) → lt a x ≡ b → lt (cond b x a) y ≡ false
    go true h = refuted (lt x y) (λ w. contrary (lt_trans a x y h w) k)
    go false h = k

spans_new : (l h x : Float) → Spans (lesser l x) (greater h x) x
spans_new l h x = record { low = lesser_new l x; high = greater_new h x }

spans_old : (l h x y : Float) → Spans l h y → Spans (lesser l x) (greater h x) y
spans_old l h x y s = record { low = lesser_old l x y s.low; high = greater_old h x y s.high }

point_new : (r : Reach) (v : Vec3) → HoldsPoint (with_point r v) v
unfolding with_point
point_new r v = record { on_x = spans_new _ _ _; on_y = spans_new _ _ _; on_z = spans_new _ _ _ }

point_old : (r : Reach) (v u : Vec3) → HoldsPoint r u → HoldsPoint (with_point r v) u
unfolding with_point
point_old r v u h = record { on_x = spans_old _ _ _ _ h.on_x; on_y = spans_old _ _ _ _ h.on_y; on_z = spans_old _ _ _ _ h.on_z }

-- ---- a segment more
pub with_new : (r : Reach) (s : Segment) → Holds (with_segment r s) s
unfolding with_segment
with_new r s = record { start = point_old _ _ _ (point_new r (point_on s zero)); end = point_new _ (point_on s one) }

pub with_old : (r : Reach) (s q : Segment) → Holds r q → Holds (with_segment r s) q
unfolding with_segment
with_old r s q h = record { start = point_old _ _ _ (point_old _ _ _ h.start); end = point_old _ _ _ (point_old _ _ _ h.end) }

-- ---- the fraction of the way is from 0 to 1
record Unit (t : Float) : Type 0 where
  least : le zero t ≡ true
  most : le t one ≡ true

zero_unit : Unit zero
unfolding le lt eq of_bits
zero_unit = record { least = refl; most = refl }

one_unit : Unit one
unfolding le lt eq of_bits
one_unit = record { least = refl; most = refl }

number_zero : is_nan zero ≡ false
unfolding is_nan of_bits
number_zero = refl

number_one : is_nan one ≡ false
unfolding is_nan of_bits
number_one = refl

clamp_unit_lem : (x : Float) → is_nan (clamp_unit x) ≡ false → Unit (clamp_unit x)
unfolding clamp_unit
clamp_unit_lem x = low (lt x zero) refl
  where
    high : (b : Bool) → lt x zero ≡ false → lt one x ≡ b → is_nan (cond b one x) ≡ false → Unit (cond b one x)
    high true l h n = one_unit
    high false l h n = record { least = not_lt_le x zero n number_zero l; most = not_lt_le one x number_one n h }

    low : (b : Bool) → lt x zero ≡ b → is_nan (cond b zero (cond (lt one x) one x)) ≡ false → Unit (cond b zero (cond (lt one x) one x))
    low true h n = zero_unit
    low false h n = high (lt one x) h refl n

along_unit : (p a ab : Vec3) (q : Float) → is_nan (along p a ab q) ≡ false → Unit (along p a ab q)
unfolding along
along_unit p a ab q = go (lt q e_18) (div binary64 (dot_of (minus p a) ab) q)
  where
    go : (b : Bool) (x : Float) → is_nan (cond b zero (clamp_unit x)) ≡ false → Unit (cond b zero (clamp_unit x))
    go true x n = zero_unit
    go false x n = clamp_unit_lem x n

-- ---- what a box spares
below_zero : lt (inf true) plus_zero ≡ true
unfolding lt of_bits
below_zero = refl

-- a square that is less than something is finite
finite_below : (z x : Float) → lt z plus_zero ≡ false → lt z x ≡ true → T (finite z)
unfolding lt
finite_below nan x h k = absurd (contrary k refl)
finite_below (inf true) x h k = absurd (contrary below_zero h)
finite_below (inf false) nan h k = absurd (contrary k refl)
finite_below (inf false) (inf true) h k = absurd (contrary k refl)
finite_below (inf false) (inf false) h k = absurd (contrary k refl)
finite_below (inf false) (fin s m e) h k = absurd (contrary k refl)
finite_below (fin s m e) x h k = tt

-- the sum of three squares, each at most another
squares_under : (g h k d e f : Float) → Under g d → Under h e → Under k f → T (finite (squared d e f)) → le (squared g h k) (squared d e f) ≡ true
squares_under g h k d e f a b c n =
    let first : T (finite (add binary64 (mul binary64 d d) (mul binary64 e e))) = (add_terms (add binary64 (mul binary64 d d) (mul binary64 e e)) (mul binary64 f f) n).0 in
    let two : le (add binary64 (mul binary64 g g) (mul binary64 h h)) (add binary64 (mul binary64 d d) (mul binary64 e e)) ≡ true
    = sum_under (mul binary64 g g) (mul binary64 d d) (mul binary64 h h) (mul binary64 e e) a.nonneg b.nonneg a.at_most b.at_most first in
    sum_under (add binary64 (mul binary64 g g) (mul binary64 h h)) (add binary64 (mul binary64 d d) (mul binary64 e e)) (mul binary64 k k) (mul binary64 f f)
    (add_nonneg (mul binary64 g g) (mul binary64 h h) a.nonneg b.nonneg) c.nonneg two c.at_most n

module _ (p : Vec3) (s : Segment) (r : Reach) (held : Holds r s) where
  abbrev t : Float
  t = along p s.start s.way s.square

  abbrev dx : Float
  dx = sub binary64 (add binary64 s.start.x (mul binary64 s.way.x t)) p.x

  abbrev dy : Float
  dy = sub binary64 (add binary64 s.start.y (mul binary64 s.way.y t)) p.y

  abbrev dz : Float
  dz = sub binary64 (add binary64 s.start.z (mul binary64 s.way.z t)) p.z

  square_is : square_to_of p s ≡ squared dx dy dz
  unfolding square_to_of length_sq_of minus plus times
  square_is = refl

  -- a finite squared distance is no less than the gap's
  gap_le : T (finite (squared dx dy dz)) → le (gap_square p r) (squared dx dy dz) ≡ true
  unfolding gap_square length_sq_of point_on plus times
  gap_le f =
      let q = squared_of dx dy dz f in
      let n : is_nan t ≡ false = finite_number t (point_terms s.start.x s.way.x t p.x q.at_x.is_finite) in
      let u = along_unit p s.start s.way s.square n in
      squares_under _ _ _ dx dy dz
      (gap_under s.start.x s.way.x t p.x r.lo.x r.hi.x u.least u.most q.at_x.is_finite held.start.on_x held.end.on_x)
      (gap_under s.start.y s.way.y t p.y r.lo.y r.hi.y u.least u.most q.at_y.is_finite held.start.on_y held.end.on_y)
      (gap_under s.start.z s.way.z t p.z r.lo.z r.hi.z u.least u.most q.at_z.is_finite held.start.on_z held.end.on_z) f

  pub no_nearer : (x : Float) → lt (gap_square p r) x ≡ false → lt (square_to_of p s) x ≡ false
  no_nearer x far =
      refuted (lt (square_to_of p s) x) (λ w.
      let less : lt (squared dx dy dz) x ≡ true = subst (λ (z : Float). lt z x ≡ true) square_is w in
      let f : T (finite (squared dx dy dz)) = finite_below (squared dx dy dz) x (squared_operand dx dy dz).not_below less in
      contrary (le_lt_trans (gap_square p r) (squared dx dy dz) x (gap_le f) less) far)

-- ---- six stores, of which the first has the place itself and the others are a run after it
module _ (l : List Float) (i : ℕ) (r : Reach) where
  abbrev begun : List Float
  begun = set l i r.lo.x

  abbrev rest : List Float
  rest = r.lo.y ∷ r.lo.z ∷ r.hi.x ∷ r.hi.y ∷ r.hi.z ∷ []

  run : put_reach l i r ≡ stores begun i 1 rest
  unfolding put_reach
  run = refl

  -- all other numbers are as they were
  pub put_kept : Outside nan i (i + 6) l (put_reach l i r)
  put_kept =
      record {
        below = λ j h.
            ap (λ (k : List Float). get_or k j nan) run ∙ stores_below begun i 1 rest nan j (omega (arith, h))
            ∙ get_or-set_other l i j r.lo.x nan (λ e. omega (arith, e, h));
        above = λ j h.
            ap (λ (k : List Float). get_or k j nan) run ∙ stores_above begun i 1 rest nan j (omega (arith, h))
            ∙ get_or-set_other l i j r.lo.x nan (λ e. omega (arith, e, h));
        long = ap (λ (k : List Float). length k) run ∙ stores_length begun i 1 rest ∙ length-set l i r.lo.x;
      }

  module _ (room : i + 6 ≤ length l) where
    first : get_or (put_reach l i r) i nan ≡ r.lo.x
    first =
        ap (λ (k : List Float). get_or k i nan) run ∙ stores_below begun i 1 rest nan i (omega arith)
        ∙ get_or-set_same l i r.lo.x nan (omega (arith, room))

    later : (n : ℕ) → n < 5 → get_or (put_reach l i r) (i + (1 + n)) nan ≡ get_or rest n nan
    later n h =
        ap (λ (k : List Float). get_or k (i + (1 + n)) nan) run ∙ stores_at begun i 1 rest nan (omega (arith, room, length-set l i r.lo.x)) n h

    pub put_same : reach_at (put_reach l i r) i ≡ r
    unfolding reach_at
    put_same = rw (first, later 0 (omega arith), later 1 (omega arith), later 2 (omega arith), later 3 (omega arith), later 4 (omega arith))

-- a box whose numbers are as they were
pub reach_same : (l m : List Float) (i : ℕ) → ((k : ℕ) → i ≤ k → k < i + 6 → get_or m k nan ≡ get_or l k nan) → reach_at m i ≡ reach_at l i
unfolding reach_at
reach_same l m i h =
    rw (
      h i (omega arith) (omega arith),
      h (i + 1) (omega arith) (omega arith),
      h (i + 2) (omega arith) (omega arith),
      h (i + 3) (omega arith) (omega arith),
      h (i + 4) (omega arith) (omega arith),
      h (i + 5) (omega arith) (omega arith),
    )

pub holds_same : {r r' : Reach} {s s' : Segment} → r ≡ r' → s ≡ s' → Holds r s → Holds r' s'
holds_same {r} {r'} {s} {s'} er es h = subst (λ (x : Reach). Holds x s') er (subst (Holds r) es h)

-- ---- the cases of `gap`, `lower` and `higher`, in the words of their tests
module _ (l h p : Float) where
  pub gap_below : lt zero (sub binary64 l p) ≡ true → sub binary64 l p ≡ gap_of l h p
  unfolding gap_of
  gap_below c = rw c

  pub gap_above : lt zero (sub binary64 l p) ≡ false → lt (sub binary64 h p) zero ≡ true → sub binary64 h p ≡ gap_of l h p
  unfolding gap_of
  gap_above c d = rw (c, d)

  pub gap_none : lt zero (sub binary64 l p) ≡ false → lt (sub binary64 h p) zero ≡ false → zero ≡ gap_of l h p
  unfolding gap_of
  gap_none c d = rw (c, d)

pub lesser_taken : (a x : Float) → lt x a ≡ true → x ≡ lesser a x
lesser_taken a x h = rw h

pub lesser_left : (a x : Float) → lt x a ≡ false → a ≡ lesser a x
lesser_left a x h = rw h

pub greater_taken : (a x : Float) → lt a x ≡ true → x ≡ greater a x
greater_taken a x h = rw h

pub greater_left : (a x : Float) → lt a x ≡ false → a ≡ greater a x
greater_left a x h = rw h
