-- The memory after one turn, and at the end. The labels come back as x, the table as y.
use Prim.Native.Nat.{ℕ, ◌≤◌, ◌<◌, ◌+◌, ◌-◌, ◌*◌}
use native.Mathlib.Omega.{arith}
use Rattle.std.specs.Prelude.{None, Some}
use mathlib.Core.Path.{◌≡◌, refl, sym, ap, subst, subst₂, ◌∙◌}
use mathlib.Core.List.{List, ◌++◌}
use lib.ListN.{length, get_or, set, take, drop, get_or-append}
use borrow.Rule.Slice.PartMut.{put_mid, same_len_mid}
use Rattle.solid_bodies.specs.Body.{Lowest}
use Rattle.solid_bodies.specs.Work.Forest.{Apart, Flat, Linked}
use Rattle.list_laws.specs.Region.{part}
use Rattle.solid_bodies.specs.Work.{Meet, corners_of, corners_in, key_at, slot_of, Before, Made, Hashed, Memory, Kept, Scanned, Step, Labelled}
use Rattle.solid_bodies.proofs.ScanLaws.{made_none, made_new, made_tied, made_all}
use Rattle.solid_bodies.proofs.TableLaws.{slot_in, hashed_none, hashed_more}
use Rattle.list_laws.proofs.Regions.{part_put, part_before, part_length}
use Rattle.solid_bodies.proofs.SliceLaws.{pre_length, pre_take, pre_part, take_before}

pub kept_then : {p n : ℕ} {s s' s'' : List ℕ} → Kept p n s s' → Kept p n s' s'' → Kept p n s s''
kept_then a b = record { long = b.long ∙ a.long; corners = b.corners ∙ a.corners }

pub memory_kept : {p n : ℕ} {s s' : List ℕ} → Memory p n s → Kept p n s s' → Memory p n s'
memory_kept {p} {n} {s} {s'} r k = record {
  few = r.few;
  low = r.low;
  room = let a = r.room in let b = k.long in omega arith;
  owned = λ v h. subst (λ (c : List ℕ). get_or c v 0 < p) (sym k.corners) (r.owned v h);
}

-- the labels are put
module _ (p n : ℕ) (s x : List ℕ) (room : p + 4 * n + 2 * n ≤ length s) (lx : length x ≡ p) where
  p_in : p ≤ length s
  p_in = omega arith

  kept_pre : Kept p n s (x ++ drop p s)
  kept_pre = record { long = pre_length p s x p_in lx; corners = pre_part p s x p_in lx p (p + 4 * n) (omega arith) }

  table_pre : part (p + 4 * n) (p + 4 * n + 2 * n) (x ++ drop p s) ≡ part (p + 4 * n) (p + 4 * n + 2 * n) s
  table_pre = pre_part p s x p_in lx (p + 4 * n) (p + 4 * n + 2 * n) (omega arith)

  pub table_long : length (part (p + 4 * n) (p + 4 * n + 2 * n) (x ++ drop p s)) ≡ p + 4 * n + 2 * n - (p + 4 * n)
  table_long = ap length table_pre ∙ part_length (p + 4 * n) (p + 4 * n + 2 * n) s room

-- the table is put
module _ (p n : ℕ) (s y : List ℕ) (room : p + 4 * n + 2 * n ≤ length s) (ly : length y ≡ p + 4 * n + 2 * n - (p + 4 * n)) where
  abbrev after : List ℕ
  after = put_mid (p + 4 * n) (p + 4 * n + 2 * n - (p + 4 * n)) s y

  q_in : p + 4 * n ≤ length s
  q_in = omega arith

  kept_mid : Kept p n s after
  kept_mid = record {
    long = same_len_mid (p + 4 * n) (p + 4 * n + 2 * n - (p + 4 * n)) s y (ly ∙ sym (part_length (p + 4 * n) (p + 4 * n + 2 * n) s room));
    corners = part_before (p + 4 * n) (p + 4 * n + 2 * n - (p + 4 * n)) p (p + 4 * n) s y q_in (omega arith) (omega arith);
  }

  table_mid : part (p + 4 * n) (p + 4 * n + 2 * n) after ≡ y
  table_mid = part_put (p + 4 * n) (p + 4 * n + 2 * n) s y q_in ly

  labels_mid : take p after ≡ take p s
  labels_mid = take_before (p + 4 * n) (p + 4 * n + 2 * n - (p + 4 * n)) p s y q_in (omega arith)

-- the memory t keeps the corners and the table of s, and its labels join the first v corners
pub record Tied (p n : ℕ) (s t : List ℕ) (v : ℕ) : Type 0 where
  pub made : Made (corners_in p n s) (take p t) v
  pub kept : Kept p n s t
  pub table : part (p + 4 * n) (p + 4 * n + 2 * n) t ≡ part (p + 4 * n) (p + 4 * n + 2 * n) s

-- with other labels
tied_by : (p n : ℕ) (s x : List ℕ) (v : ℕ) → p + 4 * n + 2 * n ≤ length s → length x ≡ p → Made (corners_in p n s) x v → Tied p n s (x ++ drop p s) v
tied_by p n s x v room lx m = record {
  made = subst (λ (l : List ℕ). Made (corners_in p n s) l v) (sym (pre_take p s x (p_in p n s x room lx) lx)) m;
  kept = kept_pre p n s x room lx;
  table = table_pre p n s x room lx;
}

-- no corner before v has v's key
pub tied_none : {p n : ℕ} {s : List ℕ} {v : ℕ} → Scanned p n s v → Before (corners_in p n s) v None → Tied p n s s (v + 1)
tied_none {p} {n} {s} {v} d b = record {
  made = made_new (corners_in p n s) (take p s) v d.made b;
  kept = record { long = refl; corners = refl };
  table = refl;
}

-- the corner u before v has v's key, and the labels x join their owners
pub tied_some : (p n : ℕ) (s x : List ℕ) (u v : ℕ) → p + 4 * n + 2 * n ≤ length s → length x ≡ p → v < n → Scanned p n s v → Before (corners_in p n s) v (Some u)
    → Linked (take p s) x (get_or (part p (p + 4 * n) s) u 0) (get_or (part p (p + 4 * n) s) v 0) → Tied p n s (x ++ drop p s) (v + 1)
tied_some p n s x u v room lx vn d b k =
    tied_by p n s x (v + 1) room lx (made_tied (corners_in p n s) (take p s) x u v d.made b.0 vn b.1 k)

-- and then the table is put
module _ (p n : ℕ) (s t y : List ℕ) (room : p + 4 * n + 2 * n ≤ length s) (ly : length y ≡ p + 4 * n + 2 * n - (p + 4 * n)) where
  abbrev second : List ℕ
  second = put_mid (p + 4 * n) (p + 4 * n + 2 * n - (p + 4 * n)) t y

  both : (v : ℕ) → Tied p n s t v → Hashed (corners_in p n s) n y v → Step p n s second v
  both v d h = record {
    kept = kept;
    scanned = record {
      made =
          subst₂ (λ (c l : List ℕ). Made (corners_of n c) l v) (sym kept.corners)
          (sym (labels_mid p n t y room₁ ly)) d.made;
      table = subst₂ (λ (c t : List ℕ). Hashed (corners_of n c) n t v) (sym kept.corners) (sym (table_mid p n t y room₁ ly)) h;
    };
  }
    where
      room₁ : p + 4 * n + 2 * n ≤ length t
      room₁ = let e = d.kept.long in omega arith

      kept : Kept p n s second
      kept = kept_then d.kept (kept_mid p n t y room₁ ly)

  pub step_turn : (v h : ℕ) → v < n → Scanned p n s v → h ≡ slot_of n (key_at n (part p (p + 4 * n) s) v)
      → Tied p n s t (v + 1)
      → y ≡ set (set (part (p + 4 * n) (p + 4 * n + 2 * n) t) (n + v) (get_or (part (p + 4 * n) (p + 4 * n + 2 * n) t) h 0)) h (v + 1)
      → Step p n s second (v + 1)
  step_turn v h vn d hs w e =
      both (v + 1) w
      (subst (λ (l : List ℕ). Hashed (corners_in p n s) n l (v + 1)) (sym (e ∙ ap push w.table))
      (hashed_more (corners_in p n s) n (part (p + 4 * n) (p + 4 * n + 2 * n) s) v h d.table hs
      (subst (λ (k : ℕ). k < n) (sym hs) (slot_in n (key_at n (part p (p + 4 * n) s) v) (omega arith))) vn
      (part_length (p + 4 * n) (p + 4 * n + 2 * n) s room ∙ omega arith)))
    where
      push : List ℕ → List ℕ
      push l = set (set l (n + v) (get_or l h 0)) h (v + 1)

-- the labels x are each its own, and the table is empty
pub step_ready : (p n : ℕ) (s x y : List ℕ) → p + 4 * n + 2 * n ≤ length s → length x ≡ p → length y ≡ p + 4 * n + 2 * n - (p + 4 * n) → Apart x
    → ((h : ℕ) → h < n → get_or y h 0 ≡ 0) → Step p n s (put_mid (p + 4 * n) (p + 4 * n + 2 * n - (p + 4 * n)) (x ++ drop p s) y) 0
step_ready p n s x y room lx ly a z =
    both p n s (x ++ drop p s) y room ly 0 (tied_by p n s x 0 room lx (made_none (corners_in p n s) x a)) (hashed_none (corners_in p n s) n y z)

-- at the end the labels x are made of the parents
pub step_end : (p n : ℕ) (s₀ s x : List ℕ) (v : ℕ) → Memory p n s → length x ≡ p → Kept p n s₀ s → Scanned p n s v → n ≤ v → Flat (take p s) x
    → Labelled p n s₀ (x ++ drop p s)
step_end p n s₀ s x v r lx k d l f = record {
  labels = λ i h.
      subst₂ (λ (c : List ℕ) (j : ℕ). Lowest (Meet (corners_of n c)) i j) k.corners
      (sym (get_or-append x (drop p s) 0 i (omega arith)))
      (made_all (corners_in p n s) (take p s) x v d.made l f i (omega arith));
  long = pre_length p s x (let a = r.room in omega arith) lx ∙ k.long;
}
