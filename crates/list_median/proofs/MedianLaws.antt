-- Laws on the weighted median.
use mathlib.Core.Path.{◌≡◌, refl, sym, ap, ◌∙◌, subst}
use mathlib.Core.Bool.{Bool, true, false}
use mathlib.Core.List.{List}
use mathlib.Core.Logic.{◌⊎◌, inl, inr}
use Prim.Native.Nat.{ℕ, zero, suc, ◌+◌, ◌-◌, ◌≤◌, ◌<◌, min}
use native.Mathlib.Omega.{arith}
use native.Mathlib.Numerals.{add-one}
use native.Mathlib.Nat.{min-le_right}
use lib.Dec.{eqb}
use lib.ListN.{length, get_or, take}
use lib.Seq.{get_or-take, length-take-le}
use lib.Ieee.{Float, binary64, add, mul, le, nan}
use borrow.Author.Tests.{eq-eqb, ne_eqb, eqb-true, eqb-false}
use Rattle.num_float.proofs.Tests.{lt_or_ge}
use Rattle.list_laws.specs.Below.{lowest_below}
use Rattle.list_laws.proofs.Count.{lowest_is, lowest_le, lowest_passes, lowest_least}
use Rattle.list_sort.specs.Sorted.{SortedBy, in_order_of}
use Rattle.list_sort.specs.Work.{Numbered}
use Rattle.list_sort.proofs.Counts.{each_first}
use Rattle.list_sort.proofs.InOrder.{sorted_is, in_order_same}
use Rattle.list_median.specs.Median.{nought, half, weight_to, reached_at, halfway, median_of, Median}
use Rattle.list_median.specs.Work.{Pairs}

-- ---- the weights, one more
pub weight_none : (weights : List Float) (xs : List ℕ) → nought ≡ weight_to weights xs 0
unfolding weight_to
weight_none weights xs = refl

weight_suc : (weights : List Float) (xs : List ℕ) (k : ℕ) → weight_to weights xs (suc k) ≡ add binary64 (weight_to weights xs k) (get_or weights (get_or xs k 0) nan)
unfolding weight_to
weight_suc weights xs k = refl

pub weight_more : (weights : List Float) (xs : List ℕ) (k : ℕ) (x y : Float) → x ≡ weight_to weights xs k → y ≡ get_or weights (get_or xs k 0) nan
    → add binary64 x y ≡ weight_to weights xs (k + 1)
weight_more weights xs k x y e f = rw (add-one, weight_suc weights xs k, e, f)

-- by the first numbers only
pub weight_same : (weights : List Float) (xs ys : List ℕ) (n : ℕ) → ((i : ℕ) → i < n → get_or ys i 0 ≡ get_or xs i 0) → weight_to weights ys n ≡ weight_to weights xs n
unfolding weight_to
weight_same weights xs ys zero each = refl
weight_same weights xs ys (suc n) each =
    ap (λ (x : Float). add binary64 x (get_or weights (get_or ys n 0) nan)) (weight_same weights xs ys n (λ i l. each i (omega (arith, l))))
    ∙ ap (λ (i : ℕ). add binary64 (weight_to weights xs n) (get_or weights i nan)) (each n (omega arith))

-- ---- the first pair that comes to the bound
-- none of the first k does
pub record NotReached (weights : List Float) (xs : List ℕ) (bound : Float) (k : ℕ) : Type 0 where
  pub each : (i : ℕ) → i < k → le bound (weight_to weights xs (suc i)) ≡ false

pub not_reached_none : (weights : List Float) (xs : List ℕ) (bound : Float) → NotReached weights xs bound 0
not_reached_none weights xs bound = record { each = λ i l. absurd (omega (arith, l)) }

pub not_reached_more : (weights : List Float) (xs : List ℕ) (bound : Float) (k : ℕ) (acc : Float) → acc ≡ weight_to weights xs (k + 1) → le bound acc ≡ false
    → NotReached weights xs bound k → NotReached weights xs bound (k + 1)
not_reached_more weights xs bound k acc e f h = record { each = λ i l. go i l (lt_or_ge i k) }
  where
    go : (i : ℕ) → i < k + 1 → (i < k) ⊎ (k ≤ i) → le bound (weight_to weights xs (suc i)) ≡ false
    go i l (inl before) = h.each i before
    go i l (inr here) =
        let same : k + 1 ≡ suc i = omega (arith, l, here) in
        ap (λ (j : ℕ). le bound (weight_to weights xs j)) (sym same) ∙ ap (le bound) (sym e) ∙ f

-- pair k does
pub reached_here : (weights : List Float) (xs : List ℕ) (n : ℕ) (bound : Float) (k : ℕ) (acc : Float) → k < n → acc ≡ weight_to weights xs (k + 1)
    → le bound acc ≡ true → NotReached weights xs bound k → k ≡ reached_at weights xs n bound
unfolding reached_at
reached_here weights xs n bound k acc low e f h =
    sym (lowest_is n (λ i. le bound (weight_to weights xs (suc i))) k (omega (arith, low))
    (λ l. ap (λ (j : ℕ). le bound (weight_to weights xs j)) (sym (add-one k)) ∙ ap (le bound) (sym e) ∙ f) h.each)

-- none does
pub reached_none : (weights : List Float) (xs : List ℕ) (n : ℕ) (bound : Float) (k : ℕ) → n ≤ k → NotReached weights xs bound k
    → n ≡ reached_at weights xs n bound
unfolding reached_at
reached_none weights xs n bound k all h =
    sym (lowest_is n (λ i. le bound (weight_to weights xs (suc i))) n (omega arith) (λ l. absurd (omega (arith, l))) (λ i l. h.each i (omega (arith, l, all))))

-- by the first numbers only
lowest_same : (n : ℕ) (a b : ℕ → Bool) → ((i : ℕ) → i < n → a i ≡ b i) → lowest_below n a ≡ lowest_below n b
lowest_same n a b each =
    lowest_is n a (lowest_below n b) (lowest_le n b)
    (λ l. each (lowest_below n b) l ∙ lowest_passes n b l)
    (λ i l. each i (omega (arith, l, lowest_le n b)) ∙ lowest_least n b i l)

reached_same : (weights : List Float) (xs ys : List ℕ) (n : ℕ) (bound : Float) → ((i : ℕ) → i < n → get_or ys i 0 ≡ get_or xs i 0)
    → reached_at weights ys n bound ≡ reached_at weights xs n bound
unfolding reached_at
reached_same weights xs ys n bound each =
    lowest_same n (λ k. le bound (weight_to weights ys (suc k))) (λ k. le bound (weight_to weights xs (suc k)))
    (λ i l. ap (le bound) (weight_same weights xs ys (suc i) (λ j h. each j (omega (arith, l, h)))))

-- ---- the median of pairs in order
pub halfway_none : (values weights : List Float) (xs : List ℕ) (n : ℕ) → n ≡ 0 → nought ≡ halfway values weights xs n
unfolding halfway
halfway_none values weights xs n e = rw (eq-eqb n 0 e)

pub halfway_some : (values weights : List Float) (xs : List ℕ) (n : ℕ) (sum : Float) (k m : ℕ) (r : Float) → (n ≡ 0 → ⊥) → sum ≡ weight_to weights xs n
    → k ≡ reached_at weights xs n (mul binary64 half sum) → m ≡ min k (n - 1) → r ≡ get_or values (get_or xs m 0) nan → r ≡ halfway values weights xs n
unfolding halfway
halfway_some values weights xs n sum k m r some es ek em er = rw (ne_eqb n 0 some, er, em, ek, es)

-- its place is one of the n
pub low_place : (k n m : ℕ) → (n ≡ 0 → ⊥) → m ≡ min k (n - 1) → m < n
low_place k n m some e = omega (arith, min-le_right k (n - 1), some, e)

halfway_same : (values weights : List Float) (xs ys : List ℕ) (n : ℕ) → ((i : ℕ) → i < n → get_or ys i 0 ≡ get_or xs i 0)
    → halfway values weights ys n ≡ halfway values weights xs n
halfway_same values weights xs ys n each = go (eqb n 0) refl
  where
    go : (b : Bool) → eqb n 0 ≡ b → halfway values weights ys n ≡ halfway values weights xs n
    go true e = sym (halfway_none values weights ys n (eqb-true n 0 e)) ∙ halfway_none values weights xs n (eqb-true n 0 e)
    go false e =
        let some = eqb-false n 0 e in
        let sum = weight_to weights ys n in
        let k = reached_at weights ys n (mul binary64 half sum) in
        let place = low_place k n (min k (n - 1)) some refl in
        sym (halfway_some values weights ys n sum k (min k (n - 1)) (get_or values (get_or ys (min k (n - 1)) 0) nan) some refl refl refl refl)
        ∙ halfway_some values weights xs n sum k (min k (n - 1)) (get_or values (get_or ys (min k (n - 1)) 0) nan) some (weight_same weights xs ys n each)
        (reached_same weights xs ys n (mul binary64 half sum) each) refl (ap (λ (i : ℕ). get_or values i nan) (each (min k (n - 1)) place))

-- the first n cells of a slice that is sorted
pub median_is : (values weights : List Float) (n : ℕ) (before after : List ℕ) (r : Float) → Pairs values weights before n → length after ≡ length before
    → SortedBy values n before after → r ≡ halfway values weights after n → Median values weights n before after r
unfolding median_of
median_is values weights n before after r pairs long sorted e =
    record {
      is =
          e ∙ sym (halfway_same values weights after (take n after) n (λ i l. get_or-take n after i 0 l))
          ∙ ap (λ (xs : List ℕ). halfway values weights xs n)
          (sorted_is values n before after sorted pairs.plain (omega (arith, pairs.room)) (omega (arith, pairs.room, long)))
          ∙ ap (halfway values weights (in_order_of values (take n before))) (sym (length-take-le n before (omega (arith, pairs.room))));
      sorted = sorted;
      long = long;
    }

-- sorted numbers are numbers of the same pairs
pub sorted_numbered : (keys list : List Float) (n : ℕ) (before after : List ℕ) → SortedBy keys n before after
    → Numbered list before 0 n → Numbered list after 0 n
sorted_numbered keys list n before after sorted h =
    record { has = λ i a l. each_first (λ x. x < length list) before after n sorted.same (λ k b. h.has k (omega arith) b) i l }

-- ---- what every median has: it is one of the values, or 0.0
-- where there is a pair, what each value has
pub median_some : (P : Float → Type 0) (values weights : List Float) (xs : List ℕ) → (length xs ≡ 0 → ⊥)
    → ((i : ℕ) → i < length xs → P (get_or values (get_or xs i 0) nan)) → P (median_of values weights xs)
unfolding median_of
median_some P values weights xs some each =
    let n = length xs in
    let ys = in_order_of values xs in
    let sum = weight_to weights ys n in
    let k = reached_at weights ys n (mul binary64 half sum) in
    let m = min k (n - 1) in
    subst P (halfway_some values weights ys n sum k m (get_or values (get_or ys m 0) nan) some refl refl refl refl)
    (each_first (λ q. P (get_or values q nan)) xs ys n (in_order_same values xs) each m (low_place k n m some refl))

pub median_each : (P : Float → Type 0) (values weights : List Float) (xs : List ℕ) → P nought
    → ((i : ℕ) → i < length xs → P (get_or values (get_or xs i 0) nan)) → P (median_of values weights xs)
unfolding median_of
median_each P values weights xs none each = go (eqb (length xs) 0) refl
  where
    go : (b : Bool) → eqb (length xs) 0 ≡ b → P (median_of values weights xs)
    go true e = subst P (halfway_none values weights (in_order_of values xs) (length xs) (eqb-true (length xs) 0 e)) none
    go false e = median_some P values weights xs (eqb-false (length xs) 0 e) each
