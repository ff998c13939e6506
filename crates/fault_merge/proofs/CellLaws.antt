-- Laws of the four cells of a fault, as they are stored.
use mathlib.Core.Path.{◌≡◌, ap, ◌∙◌}
use mathlib.Core.List.{List}
use mathlib.Core.Logic.{◌⊎◌, inl, inr}
use Prim.Native.Nat.{ℕ, ◌+◌, ◌*◌, ◌≤◌, ◌<◌}
use native.Mathlib.Omega.{arith}
use lib.ListN.{length, get_or, set, length-set}
use lib.Seq.{get_or-set_same, get_or-set_other}
use Rattle.fault_merge.specs.Work.{Opened, Added}

module _ (l : List ℕ) (a : ℕ) where
  -- four cells in a row
  module _ (p q r s : ℕ) (room : a + 4 ≤ length l) where
    abbrev l1 : List ℕ
    l1 = set l a p

    abbrev l2 : List ℕ
    l2 = set l1 (a + 1) q

    abbrev l3 : List ℕ
    l3 = set l2 (a + 2) r

    abbrev l4 : List ℕ
    l4 = set l3 (a + 3) s

    long1 : length l1 ≡ length l
    long1 = length-set l a p

    long2 : length l2 ≡ length l
    long2 = length-set l1 (a + 1) q ∙ long1

    long3 : length l3 ≡ length l
    long3 = length-set l2 (a + 2) r ∙ long2

    pub long4 : length l4 ≡ length l
    long4 = length-set l3 (a + 3) s ∙ long3

    pub four_0 : get_or l4 a 0 ≡ p
    four_0 = get_or-set_other l3 (a + 3) a s 0 (λ e. omega (arith, e)) ∙ get_or-set_other l2 (a + 2) a r 0 (λ e. omega (arith, e))
        ∙ get_or-set_other l1 (a + 1) a q 0 (λ e. omega (arith, e)) ∙ get_or-set_same l a p 0 (omega arith)

    pub four_1 : get_or l4 (a + 1) 0 ≡ q
    four_1 = get_or-set_other l3 (a + 3) (a + 1) s 0 (λ e. omega (arith, e)) ∙ get_or-set_other l2 (a + 2) (a + 1) r 0 (λ e. omega (arith, e))
        ∙ get_or-set_same l1 (a + 1) q 0 (omega (arith, long1))

    pub four_2 : get_or l4 (a + 2) 0 ≡ r
    four_2 = get_or-set_other l3 (a + 3) (a + 2) s 0 (λ e. omega (arith, e)) ∙ get_or-set_same l2 (a + 2) r 0 (omega (arith, long2))

    pub four_3 : get_or l4 (a + 3) 0 ≡ s
    four_3 = get_or-set_same l3 (a + 3) s 0 (omega (arith, long3))

    pub four_others : (k : ℕ) → (k < a) ⊎ (a + 4 ≤ k) → get_or l4 k 0 ≡ get_or l k 0
    four_others k h =
        get_or-set_other l3 (a + 3) k s 0 (λ e. off 3 (omega arith) h e) ∙ get_or-set_other l2 (a + 2) k r 0 (λ e. off 2 (omega arith) h e)
        ∙ get_or-set_other l1 (a + 1) k q 0 (λ e. off 1 (omega arith) h e) ∙ get_or-set_other l a k p 0 (λ e. off 0 (omega arith) h (e ∙ omega arith))
      where
        off : (c : ℕ) → c < 4 → (k < a) ⊎ (a + 4 ≤ k) → k ≡ a + c → ⊥
        off c m (inl h) e = omega arith
        off c m (inr h) e = omega arith

pub opened_by : (l : List ℕ) (i hash lead : ℕ) → 4 * i + 4 ≤ length l
    → Opened l i hash lead (set (set (set (set l (4 * i) hash) (4 * i + 1) lead) (4 * i + 2) 0) (4 * i + 3) 0)
opened_by l i hash lead room = record {
  hash_is = four_0 l (4 * i) hash lead 0 0 room;
  lead_is = four_1 l (4 * i) hash lead 0 0 room;
  total_is = four_2 l (4 * i) hash lead 0 0 room;
  members_is = four_3 l (4 * i) hash lead 0 0 room;
  others = four_others l (4 * i) hash lead 0 0 room;
  long = long4 l (4 * i) hash lead 0 0 room;
}

pub added_by : (l : List ℕ) (lead count : ℕ) → 4 * lead + 4 ≤ length l
    → Added l lead count (set (set l (4 * lead + 2) (get_or l (4 * lead + 2) 0 + count)) (4 * lead + 3) (get_or (set l (4 * lead + 2) (get_or l (4 * lead + 2) 0 + count)) (4 * lead + 3) 0 + 1))
added_by l lead count room =
    record {
      total_is = get_or-set_other m (4 * lead + 3) (4 * lead + 2) y 0 (λ e. omega (arith, e)) ∙ get_or-set_same l (4 * lead + 2) x 0 (omega arith);
      members_is =
          get_or-set_same m (4 * lead + 3) y 0 (omega (arith, long1))
          ∙ ap (λ (n : ℕ). n + 1) (get_or-set_other l (4 * lead + 2) (4 * lead + 3) x 0 (λ e. omega (arith, e)));
      others = λ k h. get_or-set_other m (4 * lead + 3) k y 0 (λ e. off k 3 (omega arith) (omega arith) h e)
          ∙ get_or-set_other l (4 * lead + 2) k x 0 (λ e. off k 2 (omega arith) (omega arith) h e);
      long = length-set m (4 * lead + 3) y ∙ long1;
    }
  where
    x : ℕ
    x = get_or l (4 * lead + 2) 0 + count

    m : List ℕ
    m = set l (4 * lead + 2) x

    y : ℕ
    y = get_or m (4 * lead + 3) 0 + 1

    long1 : length m ≡ length l
    long1 = length-set l (4 * lead + 2) x

    off : (k c : ℕ) → 2 ≤ c → c < 4 → (k < 4 * lead + 2) ⊎ (4 * lead + 4 ≤ k) → k ≡ 4 * lead + c → ⊥
    off k c p q (inl h) e = omega arith
    off k c p q (inr h) e = omega arith
