-- The table of slots: keys compared, the walk along a slot, and what a store does.
use Rattle.std.specs.Prelude.{Some}
use Prim.Native.Nat.{ℕ, suc, ◌≤◌, ◌<◌, ◌+◌, ◌-◌, ◌*◌, ◌/◌}
use native.Mathlib.Omega.{arith}
use native.Mathlib.Decide.{ℕ_discrete, dec_lt}
use native.Mathlib.Nat.{mod-lt}
use native.Mathlib.Numerals.{add-one}
use borrow.Author.Count.{below_more}
use mathlib.Core.Path.{◌≡◌, sym, ap, subst, ◌∙◌}
use mathlib.Core.Bool.{Bool, true, false, ◌&&◌}
use mathlib.Core.List.{List}
use lib.Dec.{eqb}
use borrow.Author.Tests.{eqb-true, eq-eqb}
use lib.ListN.{length, get_or, set, length-set}
use lib.Seq.{get_or-set_same, get_or-set_other}
use Rattle.num_float.proofs.Tests.{and_left, and_right, and_true, contrary}
use Rattle.solid_bodies.specs.Work.{KeyNumbers, eq_key, Corners, slot_of, Before, Gap, Hashed}

-- ---- the test of keys
pub key_same : (k l : KeyNumbers) (r : Bool) → r ≡ eq_key k l → r ≡ true → k ≡ l
unfolding eq_key
key_same k l r is e =
    let all = sym is ∙ e in
    let two = and_left (eqb k.x l.x && eqb k.y l.y) (eqb k.z l.z) all in
    let x = eqb-true _ _ (and_left (eqb k.x l.x) (eqb k.y l.y) two) in
    let y = eqb-true _ _ (and_right (eqb k.x l.x) (eqb k.y l.y) two) in
    let z = eqb-true _ _ (and_right (eqb k.x l.x && eqb k.y l.y) (eqb k.z l.z) all) in
    λ i. record { x = x i; y = y i; z = z i }

pub key_other : (k l : KeyNumbers) (r : Bool) → r ≡ eq_key k l → r ≡ false → k ≡ l → ⊥
unfolding eq_key
key_other k l r is e same =
    contrary
    (and_true _ _ (and_true _ _ (eq-eqb _ _ (ap (λ (q : KeyNumbers). q.x) same)) (eq-eqb _ _ (ap (λ (q : KeyNumbers). q.y) same)))
    (eq-eqb _ _ (ap (λ (q : KeyNumbers). q.z) same))) (sym is ∙ e)

-- ---- slots
pub slot_in : (n : ℕ) (k : KeyNumbers) → 0 < n → slot_of n k < n
unfolding slot_of
slot_in n k z = mod-lt ((k.x * 73856093 + k.y * 19349663 + k.z * 83492791) / 16777216) z

pub hashed_none : (m : Corners) (n : ℕ) (tab : List ℕ) → ((h : ℕ) → h < n → get_or tab h 0 ≡ 0) → Hashed m n tab 0
hashed_none m n tab z = record {
  heads = λ h l. record { low = let e = z h l in omega arith; slot = λ s e. absurd (let a = z h l in omega arith); gap = λ w a b e. omega arith };
  nexts = λ u l. absurd (omega arith);
}

-- no corner from t up to v has v's key, and t goes by v's slot
pub record Seek (m : Corners) (n t v : ℕ) : Type 0 where
  pub low : t ≤ v
  pub slot : (s : ℕ) → t ≡ suc s → slot_of n (m.key s) ≡ slot_of n (m.key v)
  pub none : (w : ℕ) → t ≤ w → w < v → m.key w ≡ m.key v → ⊥

seek_start : (m : Corners) (n t v : ℕ) → Gap m n (slot_of n (m.key v)) t v → Seek m n t v
seek_start m n t v g = record { low = g.low; slot = g.slot; none = λ w l h e. g.gap w l h (ap (slot_of n) e) }

-- the walk goes on from corner u, whose key is another, to what stands before u in its slot
seek_more : (m : Corners) (n u t v : ℕ) → Seek m n (u + 1) v → (m.key u ≡ m.key v → ⊥) → Gap m n (slot_of n (m.key u)) t u → Seek m n t v
seek_more m n u t v k ne g = record {
  low = let a = k.low in let b = g.low in omega arith;
  slot = λ s e. g.slot s e ∙ same;
  none = λ w l h e. go w l h e (dec_lt w u) (dec_lt u w);
}
  where
    same : slot_of n (m.key u) ≡ slot_of n (m.key v)
    same = k.slot u (add-one u)

    go : (w : ℕ) → t ≤ w → w < v → m.key w ≡ m.key v → Dec (w < u) → Dec (u < w) → ⊥
    go w l h e (yes a) b = g.gap w l a (ap (slot_of n) e ∙ sym same)
    go w l h e (no a) (yes b) = k.none w (omega arith) h e
    go w l h e (no a) (no b) = let z : u ≡ w = omega arith in ne (ap (λ (x : ℕ). m.key x) z ∙ e)

seek_found : (m : Corners) (n u v : ℕ) → Seek m n (u + 1) v → m.key u ≡ m.key v → Before m v (Some u)
seek_found m n u v k e = (let a = k.low in omega arith, e)

-- the walk in the names of the code
pub seek_begin : (m : Corners) (n : ℕ) (tab : List ℕ) (v h t : ℕ) → Hashed m n tab v → 0 < n → h ≡ slot_of n (m.key v) → t ≡ get_or tab h 0 → Seek m n t v
seek_begin m n tab v h t r z e f =
    seek_start m n t v
    (subst (λ (x : ℕ). Gap m n (slot_of n (m.key v)) x v) (sym (f ∙ ap (λ (x : ℕ). get_or tab x 0) e)) (r.heads (slot_of n (m.key v)) (slot_in n (m.key v) z)))

module _ (m : Corners) (n : ℕ) (tab : List ℕ) (v t : ℕ) (r : Hashed m n tab v) (k : Seek m n t v) (z : 0 < t) where
  one_back : t ≡ t - 1 + 1
  one_back = omega arith

  seek_one : Seek m n (t - 1 + 1) v
  seek_one = subst (λ (x : ℕ). Seek m n x v) one_back k

  gap_one : Gap m n (slot_of n (m.key (t - 1))) (get_or tab (n + (t - 1)) 0) (t - 1)
  gap_one = r.nexts (t - 1) (let l = k.low in omega arith)

  pub seek_turn : (t' : ℕ) → (m.key (t - 1) ≡ m.key v → ⊥) → t' ≡ get_or tab (n + (t - 1)) 0 → Seek m n t' v
  seek_turn t' ne e =
      seek_more m n (t - 1) t' v seek_one ne (subst (λ (x : ℕ). Gap m n (slot_of n (m.key (t - 1))) x (t - 1)) (sym e) gap_one)

  pub seek_falls : (t' : ℕ) → t' ≡ get_or tab (n + (t - 1)) 0 → t' < t
  seek_falls t' e = let l = gap_one.low in omega arith

  pub seek_hit : m.key (t - 1) ≡ m.key v → Before m v (Some (t - 1))
  seek_hit e = seek_found m n (t - 1) v seek_one e

-- corner v is put in front of its slot
module _ (m : Corners) (n : ℕ) (tab : List ℕ) (v h : ℕ) (r : Hashed m n tab v) (hh : h ≡ slot_of n (m.key v)) (hl : h < n) (vl : v < n)
    (tl : length tab ≡ 2 * n) where
  abbrev mid : List ℕ
  mid = set tab (n + v) (get_or tab h 0)

  abbrev tab' : List ℕ
  tab' = set mid h (v + 1)

  -- what stands where
  at_head : get_or tab' h 0 ≡ v + 1
  at_head = get_or-set_same mid h (v + 1) 0 (let e = length-set tab (n + v) (get_or tab h 0) in omega arith)

  at_next : get_or tab' (n + v) 0 ≡ get_or tab h 0
  at_next = get_or-set_other mid h (n + v) (v + 1) 0 (λ e. omega arith) ∙ get_or-set_same tab (n + v) (get_or tab h 0) 0 (omega arith)

  at_other : (k : ℕ) → (k ≡ h → ⊥) → (k ≡ n + v → ⊥) → get_or tab' k 0 ≡ get_or tab k 0
  at_other k a b = get_or-set_other mid h k (v + 1) 0 a ∙ get_or-set_other tab (n + v) k (get_or tab h 0) 0 b

  front : Gap m n h (v + 1) (v + 1)
  front = record {
    low = omega arith;
    slot = λ s e. let z : s ≡ v = omega arith in ap (λ (x : ℕ). slot_of n (m.key x)) z ∙ sym hh;
    gap = λ w a b e. omega arith;
  }

  longer : (g : ℕ) → g < n → (g ≡ h → ⊥) → Gap m n g (get_or tab g 0) (v + 1)
  longer g l ne = record {
    low = let a = (r.heads g l).low in omega arith;
    slot = (r.heads g l).slot;
    gap = λ w a b e. none w b a e;
  }
    where
      none : (w : ℕ) → w < v + 1 → get_or tab g 0 ≤ w → slot_of n (m.key w) ≡ g → ⊥
      none =
          below_more (λ (w : ℕ). get_or tab g 0 ≤ w → slot_of n (m.key w) ≡ g → ⊥) v
          (λ w b a e. (r.heads g l).gap w a b e) (λ a e. ne (sym e ∙ sym hh))

  heads' : (g : ℕ) → g < n → Gap m n g (get_or tab' g 0) (v + 1)
  heads' g l = go (ℕ_discrete g h)
    where
      go : Dec (g ≡ h) → Gap m n g (get_or tab' g 0) (v + 1)
      go (yes e) =
          subst (λ (x : ℕ). Gap m n x (get_or tab' x 0) (v + 1)) (sym e) (subst (λ (t : ℕ). Gap m n h t (v + 1)) (sym at_head) front)
      go (no ne) = subst (λ (t : ℕ). Gap m n g t (v + 1)) (sym (at_other g ne (λ e. omega arith))) (longer g l ne)

  nexts' : (u : ℕ) → u < v + 1 → Gap m n (slot_of n (m.key u)) (get_or tab' (n + u) 0) u
  nexts' =
      below_more (λ (u : ℕ). Gap m n (slot_of n (m.key u)) (get_or tab' (n + u) 0) u) v
      (λ u l. subst (λ (t : ℕ). Gap m n (slot_of n (m.key u)) t u) (sym (at_other (n + u) (λ e. omega arith) (λ e. omega arith))) (r.nexts u l))
      (subst (λ (t : ℕ). Gap m n (slot_of n (m.key v)) t v) (sym at_next) (subst (λ (x : ℕ). Gap m n x (get_or tab h 0) v) hh (r.heads h hl)))

  pub hashed_more : Hashed m n tab' (v + 1)
  hashed_more = record { heads = heads'; nexts = nexts' }
