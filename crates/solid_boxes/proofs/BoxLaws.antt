-- A node's box and skip by those after it; and one node more.
use mathlib.Core.Path.{◌≡◌, refl, sym, ap, ◌∙◌, subst}
use mathlib.Core.List.{List, [], ◌∷◌}
use Prim.Native.Nat.{ℕ, ◌+◌, ◌-◌, ◌*◌, ◌≤◌, ◌<◌}
use native.Mathlib.Omega.{arith}
use lib.ListN.{length, get_or, set, length-set}
use lib.Seq.{get_or-set_same, get_or-set_other}
use lib.Ieee.{Float, nan, le, lt, eq, of_bits, of_fields, odd}
use Rattle.num_float.proofs.Order.{le_trans, le_refl_number, le_numbers}
use Rattle.num_order.proofs.Signed.{by_lt}
use Rattle.num_real.proofs.SelectLaws.{min_le, le_max}
use Rattle.math.specs.Vector.{zero_vec, low_of, high_of}
use Rattle.file_part.specs.Layout.{polygon_count_of}
use Rattle.file_part.specs.Part.{Part, part_of}
use Rattle.file_part.proofs.PartLaws.{part_polygons}
use Rattle.solid_faces.specs.Faces.{Checked}
use Rattle.solid_boxes.specs.declared.bounds.Bounds.{Bounds}
use Rattle.solid_boxes.specs.Bounds.{padded, own_box_of, Holds}
use Rattle.solid_boxes.specs.Work.{joined, Tidy, put_box, Covers, Node, Filled, Started}
use Rattle.solid_boxes.specs.Tree.{at, box_at, Order, Starts, start_at, skip_at, Tree, PartTree}
use Rattle.solid_boxes.proofs.OwnLaws.{own_tidy}

pub holds_trans : (a b c : Bounds) → Holds a b → Holds b c → Holds a c
holds_trans a b c p q =
    record {
      low_x = le_trans _ _ _ p.low_x q.low_x;
      low_y = le_trans _ _ _ p.low_y q.low_y;
      low_z = le_trans _ _ _ p.low_z q.low_z;
      high_x = le_trans _ _ _ q.high_x p.high_x;
      high_y = le_trans _ _ _ q.high_y p.high_y;
      high_z = le_trans _ _ _ q.high_z p.high_z;
    }

module _ (a b : Bounds) (p : Holds a a) (q : Holds b b) where
  pub joined_left : Holds (joined a b) a
  unfolding joined low_of high_of
  joined_left =
      record {
        low_x = (min_le _ _ (le_numbers _ _ p.low_x).0 (le_numbers _ _ q.low_x).0).0;
        low_y = (min_le _ _ (le_numbers _ _ p.low_y).0 (le_numbers _ _ q.low_y).0).0;
        low_z = (min_le _ _ (le_numbers _ _ p.low_z).0 (le_numbers _ _ q.low_z).0).0;
        high_x = (le_max _ _ (le_numbers _ _ p.high_x).0 (le_numbers _ _ q.high_x).0).0;
        high_y = (le_max _ _ (le_numbers _ _ p.high_y).0 (le_numbers _ _ q.high_y).0).0;
        high_z = (le_max _ _ (le_numbers _ _ p.high_z).0 (le_numbers _ _ q.high_z).0).0;
      }

  pub joined_right : Holds (joined a b) b
  unfolding joined low_of high_of
  joined_right =
      record {
        low_x = (min_le _ _ (le_numbers _ _ p.low_x).0 (le_numbers _ _ q.low_x).0).1;
        low_y = (min_le _ _ (le_numbers _ _ p.low_y).0 (le_numbers _ _ q.low_y).0).1;
        low_z = (min_le _ _ (le_numbers _ _ p.low_z).0 (le_numbers _ _ q.low_z).0).1;
        high_x = (le_max _ _ (le_numbers _ _ p.high_x).0 (le_numbers _ _ q.high_x).0).1;
        high_y = (le_max _ _ (le_numbers _ _ p.high_y).0 (le_numbers _ _ q.high_y).0).1;
        high_z = (le_max _ _ (le_numbers _ _ p.high_z).0 (le_numbers _ _ q.high_z).0).1;
      }

-- a box that holds another is made of numbers
pub holds_self : (a b : Bounds) → Holds a b → Holds a a
holds_self a b p =
    record {
      low_x = le_refl_number _ (le_numbers _ _ p.low_x).0;
      low_y = le_refl_number _ (le_numbers _ _ p.low_y).0;
      low_z = le_refl_number _ (le_numbers _ _ p.low_z).0;
      high_x = le_refl_number _ (le_numbers _ _ p.high_x).1;
      high_y = le_refl_number _ (le_numbers _ _ p.high_y).1;
      high_z = le_refl_number _ (le_numbers _ _ p.high_z).1;
    }

pub tidy_self : (a : Bounds) → Tidy a → Holds a a
tidy_self a u =
    record {
      low_x = le_refl_number _ (le_numbers _ _ u.x.order).0;
      low_y = le_refl_number _ (le_numbers _ _ u.y.order).0;
      low_z = le_refl_number _ (le_numbers _ _ u.z.order).0;
      high_x = le_refl_number _ (le_numbers _ _ u.x.order).1;
      high_y = le_refl_number _ (le_numbers _ _ u.y.order).1;
      high_z = le_refl_number _ (le_numbers _ _ u.z.order).1;
    }

-- ---- a leaf, place by place
module _ (own : ℕ → Bounds) (order : ℕ → ℕ) where
  pub covers_one : (a : ℕ) → Tidy (own (order a)) → Covers own order a (a + 1) (own (order a))
  covers_one a u =
      record {
        numbers = tidy_self _ u;
        each = λ x l k. let e : x ≡ a = omega arith in rw e (tidy_self _ u);
      }

  -- two stretches that meet
  pub covers_join : (a c e : ℕ) (b d : Bounds) → Covers own order a c b → Covers own order c e d → Covers own order a e (joined b d)
  covers_join a c e b d p q =
      record {
        numbers = holds_self _ _ (joined_left b d p.numbers q.numbers);
        each = λ x l k. by_lt x c
            (λ m. holds_trans _ _ _ (joined_left b d p.numbers q.numbers) (p.each x l m))
            (λ m. holds_trans _ _ _ (joined_right b d p.numbers q.numbers) (q.each x m k));
      }

-- ---- a stored box
module _ (l : List Float) (i : ℕ) (a b c d e f : Float) where
  abbrev s1 : List Float
  s1 = set l (6 * i) a

  abbrev s2 : List Float
  s2 = set s1 (6 * i + 1) b

  abbrev s3 : List Float
  s3 = set s2 (6 * i + 2) c

  abbrev s4 : List Float
  s4 = set s3 (6 * i + 3) d

  abbrev s5 : List Float
  s5 = set s4 (6 * i + 4) e

  abbrev s6 : List Float
  s6 = set s5 (6 * i + 5) f

  away : (j : ℕ) → 6 * i + 6 ≤ j → get_or s6 j nan ≡ get_or l j nan
  away j h =
      get_or-set_other s5 (6 * i + 5) j f nan (λ e. omega arith)
      ∙ get_or-set_other s4 (6 * i + 4) j e nan (λ e. omega arith)
      ∙ get_or-set_other s3 (6 * i + 3) j d nan (λ e. omega arith)
      ∙ get_or-set_other s2 (6 * i + 2) j c nan (λ e. omega arith)
      ∙ get_or-set_other s1 (6 * i + 1) j b nan (λ e. omega arith)
      ∙ get_or-set_other l (6 * i) j a nan (λ e. omega arith)

  module _ (h : 6 * i + 6 ≤ length l) where
    at5 : get_or s6 (6 * i + 5) nan ≡ f
    at5 = get_or-set_same s5 (6 * i + 5) f nan (simp length-set (omega arith))

    at4 : get_or s6 (6 * i + 4) nan ≡ e
    at4 = get_or-set_other s5 (6 * i + 5) (6 * i + 4) f nan (λ e. omega arith) ∙ get_or-set_same s4 (6 * i + 4) e nan (simp length-set (omega arith))

    at3 : get_or s6 (6 * i + 3) nan ≡ d
    at3 =
        get_or-set_other s5 (6 * i + 5) (6 * i + 3) f nan (λ e. omega arith) ∙ get_or-set_other s4 (6 * i + 4) (6 * i + 3) e nan (λ e. omega arith)
        ∙ get_or-set_same s3 (6 * i + 3) d nan (simp length-set (omega arith))

    at2 : get_or s6 (6 * i + 2) nan ≡ c
    at2 =
        get_or-set_other s5 (6 * i + 5) (6 * i + 2) f nan (λ e. omega arith) ∙ get_or-set_other s4 (6 * i + 4) (6 * i + 2) e nan (λ e. omega arith)
        ∙ get_or-set_other s3 (6 * i + 3) (6 * i + 2) d nan (λ e. omega arith) ∙ get_or-set_same s2 (6 * i + 2) c nan (simp length-set (omega arith))

    at1 : get_or s6 (6 * i + 1) nan ≡ b
    at1 =
        get_or-set_other s5 (6 * i + 5) (6 * i + 1) f nan (λ e. omega arith) ∙ get_or-set_other s4 (6 * i + 4) (6 * i + 1) e nan (λ e. omega arith)
        ∙ get_or-set_other s3 (6 * i + 3) (6 * i + 1) d nan (λ e. omega arith) ∙ get_or-set_other s2 (6 * i + 2) (6 * i + 1) c nan (λ e. omega arith)
        ∙ get_or-set_same s1 (6 * i + 1) b nan (simp length-set (omega arith))

    at0 : get_or s6 (6 * i) nan ≡ a
    at0 =
        get_or-set_other s5 (6 * i + 5) (6 * i) f nan (λ e. omega arith) ∙ get_or-set_other s4 (6 * i + 4) (6 * i) e nan (λ e. omega arith)
        ∙ get_or-set_other s3 (6 * i + 3) (6 * i) d nan (λ e. omega arith) ∙ get_or-set_other s2 (6 * i + 2) (6 * i) c nan (λ e. omega arith)
        ∙ get_or-set_other s1 (6 * i + 1) (6 * i) b nan (λ e. omega arith) ∙ get_or-set_same l (6 * i) a nan (omega arith)

module _ (l : List Float) (i : ℕ) (b : Bounds) where
  pub put_length : length (put_box l i b) ≡ length l
  unfolding put_box
  put_length = simp length-set

  pub put_same : 6 * i + 6 ≤ length l → box_at (put_box l i b) i ≡ b
  unfolding box_at put_box
  put_same h =
      rw (
        at0 l i b.lo.x b.lo.y b.lo.z b.hi.x b.hi.y b.hi.z h,
        at1 l i b.lo.x b.lo.y b.lo.z b.hi.x b.hi.y b.hi.z h,
        at2 l i b.lo.x b.lo.y b.lo.z b.hi.x b.hi.y b.hi.z h,
        at3 l i b.lo.x b.lo.y b.lo.z b.hi.x b.hi.y b.hi.z h,
        at4 l i b.lo.x b.lo.y b.lo.z b.hi.x b.hi.y b.hi.z h,
        at5 l i b.lo.x b.lo.y b.lo.z b.hi.x b.hi.y b.hi.z h,
      )

  pub put_other : (j : ℕ) → i < j → box_at (put_box l i b) j ≡ box_at l j
  unfolding box_at put_box
  put_other j h =
      let o : (k : ℕ) → 6 * i + 6 ≤ k → get_or (s6 l i b.lo.x b.lo.y b.lo.z b.hi.x b.hi.y b.hi.z) k nan ≡ get_or l k nan
      = away l i b.lo.x b.lo.y b.lo.z b.hi.x b.hi.y b.hi.z in
      rw (
        o (6 * j) (omega arith),
        o (6 * j + 1) (omega arith),
        o (6 * j + 2) (omega arith),
        o (6 * j + 3) (omega arith),
        o (6 * j + 4) (omega arith),
        o (6 * j + 5) (omega arith),
      )

-- ---- the kinds of node
-- node k, once put, and the nodes below it
from_self : (own : ℕ → Bounds) (boxes : List Float) (words : List ℕ) (n m k s : ℕ) → Node own boxes words n m k (box_at boxes k) s →
    (j : ℕ) → k ≤ j → j < s → Holds (box_at boxes k) (box_at boxes j)
from_self own boxes words n m k s w j lo hi =
    by_lt k j (λ g. w.above j g hi) (λ g. let e : j ≡ k = omega (arith, g, lo) in rw e w.covers.numbers)

module _ (own : ℕ → Bounds) (boxes : List Float) (words : List ℕ) (n m i : ℕ) (l : i < m) where
  pub node_leaf : (a e : ℕ) (b : Bounds) → a ≡ at words (n + i) → e ≡ at words (n + (i + 1)) → Covers own (at words) a e b →
      Node own boxes words n m i b (i + 1)
  unfolding start_at
  node_leaf a e b p q w =
      record {
        ahead = omega arith;
        within = omega arith;
        above = λ j lo hi. absurd {A = Holds b (box_at boxes j)} (omega (arith, lo, hi));
        covers = rw (← p, ← q) w;
      }

  -- no polygons of its own and nothing after it
  pub node_none : (a e : ℕ) (b : Bounds) → a ≡ at words (n + i) → e ≡ at words (n + (i + 1)) → e ≤ a → Holds b b →
      Node own boxes words n m i b (i + 1)
  unfolding start_at
  node_none a e b p q h w =
      record {
        ahead = omega arith;
        within = omega arith;
        above = λ j lo hi. absurd {A = Holds b (box_at boxes j)} (omega (arith, lo, hi));
        covers = record { numbers = w; each = λ x u v. absurd {A = Holds b (own (at words x))} (omega (arith, u, v, p, q, h)) };
      }

  -- what it holds is what the next node does
  pub node_one : (a e : ℕ) (c : Bounds) (s t : ℕ) → a ≡ at words (n + i) → e ≡ at words (n + (i + 1)) → e ≤ a → c ≡ box_at boxes (i + 1) → t ≡ s →
      Node own boxes words n m (i + 1) (box_at boxes (i + 1)) s → Node own boxes words n m i c t
  unfolding start_at
  node_one a e c s t p q h eb es w =
      rw (eb, es)
      (record {
        ahead = omega (arith, w.ahead);
        within = w.within;
        above = λ j lo hi. from_self own boxes words n m (i + 1) s w j (omega (arith, lo)) hi;
        covers = record { numbers = w.covers.numbers; each = λ x u v. w.covers.each x (omega (arith, u, p, q, h)) v };
      })

  -- two children
  node_two : (a e : ℕ) (f : Bounds) (s t : ℕ) → a ≡ at words (n + i) → e ≡ at words (n + (i + 1)) → e ≤ a →
      f ≡ joined (box_at boxes (i + 1)) (box_at boxes s) → Node own boxes words n m (i + 1) (box_at boxes (i + 1)) s →
      Node own boxes words n m s (box_at boxes s) t → Node own boxes words n m i f t
  unfolding start_at
  node_two a e f s t p q h ef w y =
      let z = covers_join own (at words) (at words (n + (i + 1))) (at words (n + s)) (at words (n + t)) _ _ w.covers y.covers in
      rw ef
      (record {
        ahead = omega (arith, w.ahead, y.ahead);
        within = y.within;
        above = λ j lo hi. by_lt j s
            (λ g. holds_trans _ _ _ (joined_left _ _ w.covers.numbers y.covers.numbers)
            (from_self own boxes words n m (i + 1) s w j (omega (arith, lo)) g))
            (λ g. holds_trans _ _ _ (joined_right _ _ w.covers.numbers y.covers.numbers) (from_self own boxes words n m s t y j g hi));
        covers = record { numbers = z.numbers; each = λ x lo hi. z.each x (omega (arith, lo, p, q, h)) hi };
      })

pub zero_self : Holds (record { lo = zero_vec; hi = zero_vec }) (record { lo = zero_vec; hi = zero_vec })
unfolding le lt eq of_bits of_fields odd zero_vec
zero_self = record { low_x = refl; low_y = refl; low_z = refl; high_x = refl; high_y = refl; high_z = refl }

-- ---- a number past the starts
module _ (words : List ℕ) (n i v : ℕ) where
  abbrev after : List ℕ
  after = set words (2 * n + 1 + i) v

  order_same : (x : ℕ) → x < n → at after x ≡ at words x
  order_same x l = get_or-set_other words (2 * n + 1 + i) x v 0 (λ e. omega (arith, e, l))

  start_same : (k : ℕ) → k ≤ n → start_at after n k ≡ start_at words n k
  unfolding start_at
  start_same k l = get_or-set_other words (2 * n + 1 + i) (n + k) v 0 (λ e. omega (arith, e, l))

  skip_same : (j : ℕ) → (j ≡ i → ⊥) → skip_at after n j ≡ skip_at words n j
  unfolding skip_at
  skip_same j h = get_or-set_other words (2 * n + 1 + i) (2 * n + 1 + j) v 0 (λ e. h (omega (arith, e)))

  skip_new : 2 * n + 1 + i < length words → skip_at after n i ≡ v
  unfolding skip_at
  skip_new h = get_or-set_same words (2 * n + 1 + i) v 0 h

  order_kept : Order words n → Order after n
  order_kept O =
      record {
        room = simp length-set O.room;
        numbers = λ x l. rw (order_same x l) (O.numbers x l);
        onto = λ p l. let z = O.onto p l in record { place = z.place; below = z.below; is = order_same z.place z.below ∙ z.is };
      }

  starts_kept : (m : ℕ) → m ≤ n → Starts (start_at words n) n m → Starts (start_at after n) n m
  starts_kept m f M =
      record {
        first = start_same 0 (omega arith) ∙ M.first;
        last = start_same m f ∙ M.last;
        early = λ j l. rw (start_same j (omega (arith, l, f))) (M.early j l);
        rising = λ j l. rw (start_same j (omega (arith, l, f)), start_same (j + 1) (omega (arith, l, f))) (M.rising j l);
        few = λ j l. rw (start_same j (omega (arith, l, f)), start_same (j + 1) (omega (arith, l, f))) (M.few j l);
        inside = λ j l. rw (start_same j (omega (arith, l, f))) (M.inside j l);
      }

  pub started_kept : (m : ℕ) → Started words n m → Started after n m
  started_kept m M = record { order = order_kept M.order; starts = starts_kept m M.few M.starts; few = M.few; some = M.some }

  node_kept : (own : ℕ → Bounds) (boxes : List Float) (c : Bounds) (m j s : ℕ) (b : Bounds) → Started words n m → i ≤ j → j < m →
      Node own boxes words n m j b s → Node own (put_box boxes i c) after n m j b s
  node_kept own boxes c m j s b M h l w =
      record {
        ahead = w.ahead;
        within = w.within;
        above = λ k lo hi. rw (put_other boxes i c k (omega (arith, h, lo))) (w.above k lo hi);
        covers = record {
          numbers = w.covers.numbers;
          each = λ x lo hi.
              let hi2 : x < start_at words n s = rw (start_same s (omega (arith, w.within, M.few))) at hi in
              let y : x < n = omega (arith, hi2, M.starts.inside s w.within) in
              rw (order_same x y) (w.covers.each x (rw (start_same j (omega (arith, l, M.few))) at lo) hi2);
        };
      }

  pub filled_more : (own : ℕ → Bounds) (boxes : List Float) (m : ℕ) (b : Bounds) → 6 * i + 6 ≤ length boxes → 2 * n + 1 + i < length words →
      Started words n m →
      i < m → Node own boxes words n m i b v → Filled own boxes words n m (i + 1) → Filled own (put_box boxes i b) after n m i
  filled_more own boxes m b R Q M li w F =
      record {
        each = λ j l k. by_lt i j
            (λ g. rw (put_other boxes i b j g, skip_same j (λ e. omega (arith, e, g)))
            (node_kept own boxes b m j (skip_at words n j) (box_at boxes j) M l k (F.each j (omega (arith, g)) k)))
            (λ g. let e : j ≡ i = omega (arith, g, l) in rw (e, put_same boxes i b R, skip_new Q) (node_kept own boxes b m i v b M (omega arith) li w));
      }

pub filled_tree : (t : Part) (boxes : List Float) (words : List ℕ) (n m i : ℕ) → n ≡ t.polygons → 6 * m ≤ length boxes → 3 * n + 1 ≤ length words →
    Started words n m → i ≤ 0 → Filled (λ p. padded (own_box_of t p)) boxes words n m i → PartTree t boxes words
filled_tree t boxes words n m i en R Q M z F =
    record {
      nodes = m;
      tree = subst (λ (k : ℕ). Tree (λ p. padded (own_box_of t p)) boxes words k m) en
          (record {
            ordered = M.order;
            starts = M.starts;
            room_nodes = M.few;
            room_boxes = R;
            room_words = λ l. Q;
            ahead = λ j l. (F.each j (omega (arith, z)) l).ahead;
            within = λ j l. (F.each j (omega (arith, z)) l).within;
            above = λ i j l a b. (F.each i (omega (arith, z)) l).above j a b;
            holds = λ j x l a b. (F.each j (omega (arith, z)) l).covers.each x a b;
          });
    }

-- of no polygons, in no cells
empty_at : (words : List ℕ) (i : ℕ) → length words ≡ 0 → at words i ≡ 0
empty_at [] i e = refl
empty_at (x ∷ words) i e = absurd (omega (arith, e))

pub no_tree : (t : Part) (boxes : List Float) (words : List ℕ) → t.polygons ≡ 0 → length words ≡ 0 → PartTree t boxes words
no_tree t boxes words en e =
    record { nodes = 0; tree = subst (λ (k : ℕ). Tree (λ p. padded (own_box_of t p)) boxes words k 0) (sym en) none }
  where
    start_none : (i : ℕ) → start_at words 0 i ≡ 0
    start_none i = unfold start_at in empty_at words (0 + i) e

    none : Tree (λ p. padded (own_box_of t p)) boxes words 0 0
    none =
        record {
          ordered = record { room = omega arith; numbers = λ x l. absurd (omega (arith, l)); onto = λ p l. absurd (omega (arith, l)) };
          starts = record {
            first = start_none 0;
            last = start_none 0;
            early = λ i l. absurd (omega (arith, l));
            rising = λ i l. absurd (omega (arith, l));
            few = λ i l. absurd (omega (arith, l));
            inside = λ i l. omega (arith, start_none i);
          };
          room_nodes = omega arith;
          room_boxes = omega arith;
          room_words = λ l. absurd (omega (arith, l));
          ahead = λ i l. absurd (omega (arith, l));
          within = λ i l. absurd (omega (arith, l));
          above = λ i j l. absurd (omega (arith, l));
          holds = λ i x l. absurd (omega (arith, l));
        }

-- ---- in the words of the code
module _ (s : List ℕ) (C : Checked s) where
  abbrev own : ℕ → Bounds
  own p = padded (own_box_of (part_of s) p)

  pub cover_one : (words : List ℕ) (a p : ℕ) (b : Bounds) → p ≡ at words a → b ≡ own p → a < polygon_count_of s → Order words (polygon_count_of s) →
      Covers own (at words) a (a + 1) b
  cover_one words a p b ep eb l O =
      let t : at words a < (part_of s).polygons = omega (arith, O.numbers a l, part_polygons s) in
      subst (Covers own (at words) a (a + 1)) (sym (eb ∙ ap own ep)) (covers_one own (at words) a (own_tidy s C (at words a) t))

  pub cover_more : (words : List ℕ) (a x p : ℕ) (b d f : Bounds) → Covers own (at words) a x b → p ≡ at words x → d ≡ own p → x < polygon_count_of s →
      Order words (polygon_count_of s) → f ≡ joined b d → Covers own (at words) a (x + 1) f
  cover_more words a x p b d f w ep ed l O ef =
      subst (Covers own (at words) a (x + 1)) (sym ef) (covers_join own (at words) a x (x + 1) b d w (cover_one words x p d ep ed l O))

pub end_inside : (words : List ℕ) (n m i e : ℕ) → Started words n m → i < m → e ≡ at words (n + (i + 1)) → e ≤ n
unfolding start_at
end_inside words n m i e M l q = omega (arith, q, M.starts.inside (i + 1) (omega (arith, l)))

pub filled_at : (own : ℕ → Bounds) (boxes : List Float) (words : List ℕ) (n m i : ℕ) → Filled own boxes words n m i → i < m →
    Node own boxes words n m i (box_at boxes i) (at words (2 * n + 1 + i))
unfolding skip_at
filled_at own boxes words n m i F l = F.each i (omega arith) l

pub node_last : (own : ℕ → Bounds) (boxes : List Float) (words : List ℕ) (n m i : ℕ) → i < m → (a e : ℕ) (b d f : Bounds) (s u : ℕ) →
    a ≡ at words (n + i) → e ≡ at words (n + (i + 1)) → e ≤ a → b ≡ box_at boxes (i + 1) → s ≡ at words (2 * n + 1 + (i + 1)) →
    d ≡ box_at boxes s → u ≡ at words (2 * n + 1 + s) → f ≡ joined b d → Filled own boxes words n m (i + 1) → i + 1 < m → s < m →
    Node own boxes words n m i f u
unfolding skip_at
node_last own boxes words n m i l a e b d f s u p q h eb es ed eu ef F ls lt =
    let y = filled_at own boxes words n m (i + 1) F ls in
    let z = F.each s (omega (arith, es, y.ahead)) lt in
    node_two own boxes words n m i l a e f s u p q h (ef ∙ rw (eb, ed)) (rw es y) (rw eu z)

pub filled_back : (own : ℕ → Bounds) (boxes : List Float) (words : List ℕ) (n m i : ℕ) → 0 < i → Filled own boxes words n m i →
    Filled own boxes words n m (i - 1 + 1)
filled_back own boxes words n m i l F = let e : i - 1 + 1 ≡ i = omega arith in rw e F

pub fill_step : (own : ℕ → Bounds) (boxes boxes₁ boxes₀ : List Float) (words words₁ words₀ : List ℕ) (n m i : ℕ) (b : Bounds) (v : ℕ) → 0 < i →
    i ≤ m →
    length boxes ≡ length boxes₀ → length words ≡ length words₀ → 6 * m ≤ length boxes₀ → 3 * n + 1 ≤ length words₀ → Started words n m →
    Filled own boxes words n m i → Node own boxes words n m (i - 1) b v → boxes₁ ≡ put_box boxes (i - 1) b → words₁ ≡ set words (2 * n + 1 + (i - 1)) v →
    (i - 1 ≤ m) × ((length boxes₁ ≡ length boxes₀) × ((length words₁ ≡ length words₀) × (Started words₁ n m × Filled own boxes₁ words₁ n m (i - 1))))
fill_step own boxes boxes₁ boxes₀ words words₁ words₀ n m i b v l h eb ew R Q M F w e f = (
  omega (arith, h),
  (
    ap length e ∙ put_length boxes (i - 1) b ∙ eb,
    (
      ap length f ∙ simp length-set ew,
      (
        subst (λ (k : List ℕ). Started k n m) (sym f) (started_kept words n (i - 1) v m M),
        rw (e, f)
            (filled_more words n (i - 1) v own boxes m b (omega (arith, eb, R, h, l)) (omega (arith, ew, Q, h, l, M.few)) M (omega (arith, l, h)) w
            (filled_back own boxes words n m i l F)),
      ),
    ),
  ),
)
