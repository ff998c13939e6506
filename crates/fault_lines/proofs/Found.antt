-- `lines_of` gives the lines, and how many they are.
use mathlib.Core.Path.{◌≡◌, refl, sym, ap, ap₂, subst, ◌∙◌}
use mathlib.Core.Bool.{Bool, true, false, cond, ◌&&◌}
use mathlib.Core.List.{List, [], ◌∷◌, ◌++◌}
use mathlib.Core.Logic.{◌⊎◌, inl, inr, ⊎_elim}
use Prim.Native.Nat.{ℕ, zero, suc, ◌+◌, ◌<◌, ◌≤◌}
use native.Mathlib.Omega.{arith}
use native.Mathlib.Nat.{le_antisymm}
use lib.Dec.{eqb, ltb}
use lib.ListN.{length, length-append}
use borrow.Author.Tests.{eqb-true, eq-eqb, ne_eqb, lt-ltb, le-ltb}
use Rattle.num_float.proofs.Tests.{and_true, and_left, and_right, lt_or_ge}
use Rattle.list_laws.specs.Below.{sum_below, count_below}
use Rattle.fault_row.specs.Names.{severity_rank, rule_rank}
use Rattle.fault_row.specs.Fault.{Heading, Fault, none}
use Rattle.fault_row.proofs.NameLaws.{severity_rank_lt, rule_rank_lt}
use Rattle.fault_lines.specs.Member.{In, Ordered}
use Rattle.fault_lines.specs.Ids.{Once}
use Rattle.fault_lines.specs.Line.{Line, at, alike, first, total, all_faces}
use Rattle.fault_lines.specs.Listed.{Before, Listed}
use Rattle.fault_lines.specs.Lines.{line_faces, line_for, rank, is_first, leads, line_at, lines_of_rank, lines_to, lines_of}
use Rattle.fault_lines.proofs.MemberLaws.{in_left, in_right, in_cases, ordered_append, in_one, one_in, one_ordered, in_at, at_in}
use Rattle.fault_lines.proofs.IdLaws.{sorted_once_lem}
use Rattle.fault_lines.proofs.HeadingLaws.{heading_same}
use Rattle.fault_lines.proofs.SumLaws.{sum_same, sum_add, sum_zero, count_sum}
use Rattle.fault_lines.proofs.AlikeLaws.{first_passes, first_own_le}
use Rattle.fault_lines.proofs.Unique.{ranks_before, before_apart}

-- ---- ranks
pub rank_lt : (h : Heading) → rank h < 54
unfolding rank
rank_lt h = omega (arith, severity_rank_lt h.severity, rule_rank_lt h.rule)

-- by rank, then by first fault: by severity, rule and first fault
by_rank : (fs : List Fault) (l m : Line) → rank l.heading < rank m.heading → Before fs l m
unfolding rank
by_rank fs l m h = go (lt_or_ge (severity_rank l.heading.severity) (severity_rank m.heading.severity))
  where
    low : rule_rank l.heading.rule < 18
    low = rule_rank_lt l.heading.rule

    high : rule_rank m.heading.rule < 18
    high = rule_rank_lt m.heading.rule

    go : (severity_rank l.heading.severity < severity_rank m.heading.severity) ⊎ (severity_rank m.heading.severity ≤ severity_rank l.heading.severity) →
        Before fs l m
    go (inl k) = ranks_before fs l m (inl k)
    go (inr k) = ranks_before fs l m (inr (omega (arith, h, k, low, high), inl (omega (arith, h, k, low, high))))

by_first : (fs : List Fault) (l m : Line) → rank l.heading ≡ rank m.heading → first fs l.heading < first fs m.heading → Before fs l m
unfolding rank
by_first fs l m h k =
    let low : rule_rank l.heading.rule < 18 = rule_rank_lt l.heading.rule in
    let high : rule_rank m.heading.rule < 18 = rule_rank_lt m.heading.rule in
    ranks_before fs l m (inr (omega (arith, h, low, high), inr (omega (arith, h, low, high), k)))

-- ---- faces
alone_faces : (gs : List Fault) (f : Fault) → gs ≡ f ∷ [] → line_faces gs ≡ f.faces
unfolding line_faces
alone_faces gs f e = ap line_faces e

several_faces : (gs : List Fault) → 2 ≤ length gs → Once (all_faces gs) (line_faces gs)
unfolding line_faces
several_faces [] h = absurd (omega (arith, h))
several_faces (f ∷ []) h = absurd (omega (arith, h))
several_faces (f ∷ g ∷ gs) h = sorted_once_lem (all_faces (f ∷ g ∷ gs))

module _ (fs : List Fault) where
  -- ---- the lines of a rank, and of all ranks
  -- l is the line of fault i, which leads a line of rank r
  record Led (r i : ℕ) (l : Line) : Type 0 where
    rank_is : rank (at fs i).heading ≡ r
    first_is : first fs (at fs i).heading ≡ i
    line_is : l ≡ line_for fs (at fs i).heading

  in_line_at : (r i : ℕ) (l : Line) → In l (line_at fs r i) → Led r i l
  unfolding line_at leads is_first
  in_line_at r i l m =
      let w = in_one l (line_for fs (at fs i).heading) (eqb (rank (at fs i).heading) r && eqb (first fs (at fs i).heading) i) m in
      record {
        rank_is = eqb-true _ _ (and_left (eqb (rank (at fs i).heading) r) (eqb (first fs (at fs i).heading) i) w.0);
        first_is = eqb-true _ _ (and_right (eqb (rank (at fs i).heading) r) (eqb (first fs (at fs i).heading) i) w.0);
        line_is = w.1;
      }

  line_at_ordered : (r i : ℕ) → Ordered (Before fs) (line_at fs r i)
  unfolding line_at
  line_at_ordered r i = one_ordered (Before fs) (leads fs r i) (line_for fs (at fs i).heading)

  in_rank : (r n : ℕ) (l : Line) → In l (lines_of_rank fs r n) → (i : ℕ) × (i < n) × Led r i l
  unfolding lines_of_rank In
  in_rank r zero l m = absurd m
  in_rank r (suc n) l m =
      ⊎_elim (λ (p : In l (lines_of_rank fs r n)). let w = in_rank r n l p in (w.0, omega (arith, w.1), w.2))
      (λ (q : In l (line_at fs r n)). (n, omega arith, in_line_at r n l q)) (in_cases l (lines_of_rank fs r n) (line_at fs r n) m)

  rank_in : (r n i : ℕ) → i < n → leads fs r i ≡ true → In (line_for fs (at fs i).heading) (lines_of_rank fs r n)
  unfolding lines_of_rank line_at
  rank_in r zero i h e = absurd (omega (arith, h))
  rank_in r (suc n) i h e = go (λ z. rank_in r n i z e) (lt_or_ge i n)
    where
      go : (i < n → In (line_for fs (at fs i).heading) (lines_of_rank fs r n)) → (i < n) ⊎ (n ≤ i) →
          In (line_for fs (at fs i).heading) (lines_of_rank fs r n ++ cond (leads fs r n) (line_for fs (at fs n).heading ∷ []) [])
      go before (inl low) = in_left _ (lines_of_rank fs r n) (cond (leads fs r n) (line_for fs (at fs n).heading ∷ []) []) (before low)
      go before (inr high) =
          let same : i ≡ n = omega (arith, h, high) in
          in_right _ (lines_of_rank fs r n) (cond (leads fs r n) (line_for fs (at fs n).heading ∷ []) [])
          (subst (λ (k : ℕ). In (line_for fs (at fs i).heading) (cond (leads fs r k) (line_for fs (at fs k).heading ∷ []) [])) same
          (one_in (line_for fs (at fs i).heading) (leads fs r i) e))

  in_to : (k : ℕ) (l : Line) → In l (lines_to fs k) → (r : ℕ) × (r < k) × In l (lines_of_rank fs r (length fs))
  unfolding lines_to In
  in_to zero l m = absurd m
  in_to (suc k) l m =
      ⊎_elim (λ (p : In l (lines_to fs k)). let w = in_to k l p in (w.0, omega (arith, w.1), w.2))
      (λ (q : In l (lines_of_rank fs k (length fs))). (k, omega arith, q)) (in_cases l (lines_to fs k) (lines_of_rank fs k (length fs)) m)

  to_in : (k r : ℕ) (l : Line) → r < k → In l (lines_of_rank fs r (length fs)) → In l (lines_to fs k)
  unfolding lines_to
  to_in zero r l h m = absurd (omega (arith, h))
  to_in (suc k) r l h m = go (λ z. to_in k r l z m) (lt_or_ge r k)
    where
      go : (r < k → In l (lines_to fs k)) → (r < k) ⊎ (k ≤ r) → In l (lines_to fs k ++ lines_of_rank fs k (length fs))
      go before (inl low) = in_left l (lines_to fs k) (lines_of_rank fs k (length fs)) (before low)
      go before (inr high) =
          let same : r ≡ k = omega (arith, h, high) in
          in_right l (lines_to fs k) (lines_of_rank fs k (length fs)) (subst (λ (x : ℕ). In l (lines_of_rank fs x (length fs))) same m)

  -- ---- a line that is led
  led_heading : (r i : ℕ) (l : Line) → Led r i l → l.heading ≡ (at fs i).heading
  unfolding line_for
  led_heading r i l w = ap (λ (x : Line). x.heading) w.line_is

  led_rank : (r i : ℕ) (l : Line) → Led r i l → rank l.heading ≡ r
  led_rank r i l w = ap rank (led_heading r i l w) ∙ w.rank_is

  led_first : (r i : ℕ) (l : Line) → Led r i l → first fs l.heading ≡ i
  led_first r i l w = ap (first fs) (led_heading r i l w) ∙ w.first_is

  -- ---- in order
  rank_ordered : (r n : ℕ) → Ordered (Before fs) (lines_of_rank fs r n)
  unfolding lines_of_rank Ordered
  rank_ordered r zero = tt
  rank_ordered r (suc n) =
      ordered_append (Before fs) (lines_of_rank fs r n) (line_at fs r n) (rank_ordered r n) (line_at_ordered r n)
      (λ x y p q.
      let u = in_rank r n x p in
      let v = in_line_at r n y q in
      by_first fs x y (led_rank r u.0 x u.2 ∙ sym (led_rank r n y v)) (omega (arith, u.1, led_first r u.0 x u.2, led_first r n y v)))

  to_ordered : (k : ℕ) → Ordered (Before fs) (lines_to fs k)
  unfolding lines_to Ordered
  to_ordered zero = tt
  to_ordered (suc k) =
      ordered_append (Before fs) (lines_to fs k) (lines_of_rank fs k (length fs)) (to_ordered k) (rank_ordered k (length fs))
      (λ x y p q.
      let s = in_to k x p in
      let u = in_rank s.0 (length fs) x s.2 in
      let v = in_rank k (length fs) y q in
      by_rank fs x y (omega (arith, s.1, led_rank s.0 u.0 x u.2, led_rank k v.0 y v.2)))

  lines_ordered : Ordered (Before fs) (lines_of fs)
  unfolding lines_of
  lines_ordered = to_ordered 54

  apart_of : (ls : List Line) → Ordered (Before fs) ls → Ordered (λ l m. l.heading ≡ m.heading → ⊥) ls
  unfolding Ordered
  apart_of [] o = tt
  apart_of (l ∷ ls) o = ((λ m p. before_apart fs l m (o.0 m p)), apart_of ls o.1)

  -- ---- all of them
  line_led : (l : Line) → In l (lines_of fs) → (r : ℕ) × (i : ℕ) × (i < length fs) × Led r i l
  unfolding lines_of
  line_led l m =
      let s = in_to 54 l m in
      let u = in_rank s.0 (length fs) l s.2 in
      (s.0, u.0, u.1, u.2)

  -- the first fault of a line leads it
  first_leads : (i : ℕ) → first fs (at fs i).heading ≡ i → leads fs (rank (at fs i).heading) i ≡ true
  unfolding leads is_first
  first_leads i e = and_true _ _ (eq-eqb (rank (at fs i).heading) _ refl) (eq-eqb _ _ e)

  lines_cover : (f : Fault) → In f fs → (l : Line) × In l (lines_of fs) × (l.heading ≡ f.heading)
  unfolding lines_of line_for at
  lines_cover f m =
      let w = at_in none f fs m in
      let i : ℕ = first fs (at fs w.0).heading in
      let there : i < length fs = omega (arith, first_own_le fs w.0 w.1, w.1) in
      let same : (at fs i).heading ≡ (at fs w.0).heading = heading_same _ _ (first_passes fs (at fs w.0).heading there) in (
        line_for fs (at fs i).heading,
        to_in 54 (rank (at fs i).heading) _ (rank_lt (at fs i).heading) (rank_in (rank (at fs i).heading) (length fs) i there (first_leads i (ap (first fs) same))),
        same ∙ ap (λ (x : Fault). x.heading) (sym w.2),
      )

  lines_owned : (l : Line) → In l (lines_of fs) → (f : Fault) × In f fs × (f.heading ≡ l.heading)
  unfolding at
  lines_owned l m = let w = line_led l m in (at fs w.1, in_at none fs w.1 w.2, sym (led_heading w.0 w.1 l w.3))

  faces_are : (l : Line) → In l (lines_of fs) → l.faces ≡ line_faces (alike fs l.heading)
  unfolding line_for
  faces_are l m =
      let w = line_led l m in
      ap (λ (x : Line). x.faces) w.3.line_is ∙ ap (λ (h : Heading). line_faces (alike fs h)) (sym (led_heading w.0 w.1 l w.3))

  count_is : (l : Line) → In l (lines_of fs) → l.count ≡ total (alike fs l.heading)
  unfolding line_for
  count_is l m =
      let w = line_led l m in
      ap (λ (x : Line). x.count) w.3.line_is ∙ ap (λ (h : Heading). total (alike fs h)) (sym (led_heading w.0 w.1 l w.3))

-- the lines that `lines_of` gives are the lines
pub listed : (fs : List Fault) → Listed fs (lines_of fs)
listed fs =
    record {
      covers = lines_cover fs;
      owned = lines_owned fs;
      apart = apart_of fs (lines_of fs) (lines_ordered fs);
      counts = count_is fs;
      alone = λ l m f e. faces_are fs l m ∙ alone_faces (alike fs l.heading) f e;
      several = λ l m h. subst (Once (all_faces (alike fs l.heading))) (sym (faces_are fs l m)) (several_faces (alike fs l.heading) h);
      ordered = lines_ordered fs;
    }

-- ---- how many lines
-- 1 for true
abbrev bit : Bool → ℕ
bit b = cond b 1 0

and_off : (b : Bool) → (b && false) ≡ false
and_off true = refl
and_off false = refl

and_on : (b : Bool) → (b && true) ≡ b
and_on true = refl
and_on false = refl

length_one : {A : Type 0} (b : Bool) (x : A) → length (cond b (x ∷ []) []) ≡ bit b
length_one true x = refl
length_one false x = refl

rank_count : (fs : List Fault) (r n : ℕ) → length (lines_of_rank fs r n) ≡ sum_below n (λ i. bit (leads fs r i))
unfolding lines_of_rank line_at sum_below
rank_count fs r zero = refl
rank_count fs r (suc n) =
    length-append (lines_of_rank fs r n) (cond (leads fs r n) (line_for fs (at fs n).heading ∷ []) [])
    ∙ ap₂ ◌+◌ (rank_count fs r n) (length_one (leads fs r n) (line_for fs (at fs n).heading))

-- fault i is the first of its line, of a rank below k
low : List Fault → ℕ → ℕ → ℕ
low fs k i = bit (is_first fs i && ltb (rank (at fs i).heading) k)

low_none : (b : Bool) (a : ℕ) → bit (b && ltb a 0) ≡ 0
low_none b a = rw (le-ltb a 0 (omega arith), and_off b)

low_more : (b : Bool) (a k : ℕ) → bit (b && ltb a k) + bit (eqb a k && b) ≡ bit (b && ltb a (suc k))
low_more false a k = rw (and_off (eqb a k))
low_more true a k = go (lt_or_ge a k) (lt_or_ge k a)
  where
    go : (a < k) ⊎ (k ≤ a) → (k < a) ⊎ (a ≤ k) → bit (ltb a k) + bit (eqb a k && true) ≡ bit (ltb a (suc k))
    go (inl h) m = rw (lt-ltb a k h, ne_eqb a k (λ e. omega (arith, e, h)), lt-ltb a (suc k) (omega (arith, h)))
    go (inr h) (inl m) = rw (le-ltb a k h, ne_eqb a k (λ e. omega (arith, e, m)), le-ltb a (suc k) (omega (arith, m)))
    go (inr h) (inr m) = rw (le-ltb a k h, eq-eqb a k (le_antisymm m h), lt-ltb a (suc k) (omega (arith, m)))

to_count : (fs : List Fault) (k : ℕ) → length (lines_to fs k) ≡ sum_below (length fs) (low fs k)
unfolding lines_to low leads
to_count fs zero = sym (sum_same (length fs) _ (λ i. 0) (λ i h. low_none (is_first fs i) (rank (at fs i).heading)) ∙ sum_zero (length fs))
to_count fs (suc k) =
    length-append (lines_to fs k) (lines_of_rank fs k (length fs)) ∙ ap₂ ◌+◌ (to_count fs k) (rank_count fs k (length fs))
    ∙ sum_add (length fs) (low fs k) (λ i. bit (leads fs k i)) ∙ sum_same (length fs) _ _ (λ i h. low_more (is_first fs i) (rank (at fs i).heading) k)

low_all : (b : Bool) (h : Heading) → bit (b && ltb (rank h) 54) ≡ bit b
low_all b h = rw (lt-ltb (rank h) 54 (rank_lt h), and_on b)

-- one for each fault that is the first of its line
pub line_count : (fs : List Fault) → length (lines_of fs) ≡ count_below (length fs) (is_first fs)
unfolding lines_of low
line_count fs =
    to_count fs 54 ∙ sum_same (length fs) _ _ (λ i h. low_all (is_first fs i) (at fs i).heading) ∙ sym (count_sum (length fs) (is_first fs))
