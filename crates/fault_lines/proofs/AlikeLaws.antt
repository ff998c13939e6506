-- Laws of the faults of one line: over one list after another, and by their numbers.
use mathlib.Core.Path.{◌≡◌, refl, sym, ap, subst, ◌∙◌}
use mathlib.Core.Bool.{Bool, true, false, cond}
use mathlib.Core.List.{List, [], ◌∷◌, ◌++◌, append-nil, append_assoc}
use mathlib.Core.Logic.{◌⊎◌, inl, inr, ⊎_elim}
use Prim.Native.Nat.{ℕ, zero, suc, ◌+◌, ◌≤◌, ◌<◌}
use native.Mathlib.Omega.{arith}
use lib.Dec.{eqb}
use lib.ListN.{length, get_or, length-append, get_or-append}
use lib.Seq.{get_or_at}
use Rattle.num_float.proofs.Tests.{lt_or_ge}
use Rattle.list_laws.specs.Below.{sum_below, count_below, lowest_below}
use Rattle.list_laws.proofs.Count.{lowest_is, lowest_le, lowest_passes, lowest_least}
use Rattle.file_part.specs.declared.read.FaceId.{FaceId}
use Rattle.fault_row.specs.Fault.{Heading, Fault, none}
use Rattle.fault_lines.specs.Member.{In}
use Rattle.fault_lines.specs.Ids.{Once, sorted_once}
use Rattle.fault_lines.specs.Line.{at, same_heading_of, alike, first, total, all_faces}
use Rattle.fault_lines.specs.Lines.{line_faces, is_first}
use Rattle.fault_lines.proofs.MemberLaws.{in_left, in_right, in_cases, in_at}
use Rattle.fault_lines.proofs.IdLaws.{sorted_once_lem, once_only}
use Rattle.fault_lines.proofs.HeadingLaws.{heading_same, heading_self, heading_on}
use Rattle.fault_lines.proofs.SumLaws.{sum_front, count_sum}

-- ---- a fault by its number
pub at_before : (fs gs : List Fault) (k : ℕ) → k < length fs → at (fs ++ gs) k ≡ at fs k
unfolding at
at_before fs gs k h = get_or-append fs gs none k h

pub at_last : (fs : List Fault) (f : Fault) → at (fs ++ (f ∷ [])) (length fs) ≡ f
unfolding at
at_last fs f = get_or_at fs f [] none (length fs) refl

-- ---- one list after another
pub alike_append : (fs gs : List Fault) (h : Heading) → alike (fs ++ gs) h ≡ alike fs h ++ alike gs h
unfolding alike
alike_append [] gs h = refl
alike_append (f ∷ fs) gs h = go (same_heading_of f.heading h) (alike_append fs gs h)
  where
    go : (b : Bool) → alike (fs ++ gs) h ≡ alike fs h ++ alike gs h →
        cond b (f ∷ alike (fs ++ gs) h) (alike (fs ++ gs) h) ≡ cond b (f ∷ alike fs h) (alike fs h) ++ alike gs h
    go true e = ap (λ (l : List Fault). f ∷ l) e
    go false e = e

pub total_append : (fs gs : List Fault) → total (fs ++ gs) ≡ total fs + total gs
unfolding total
total_append [] gs = omega arith
total_append (f ∷ fs) gs = omega (arith, total_append fs gs)

pub faces_append : (fs gs : List Fault) → all_faces (fs ++ gs) ≡ all_faces fs ++ all_faces gs
unfolding all_faces
faces_append [] gs = refl
faces_append (f ∷ fs) gs = ap (λ (l : List FaceId). f.faces ++ l) (faces_append fs gs) ∙ sym (append_assoc f.faces (all_faces fs) (all_faces gs))

-- ---- one fault more
pub alike_more : (fs : List Fault) (f : Fault) (h : Heading) → alike (fs ++ (f ∷ [])) h ≡ alike fs h ++ cond (same_heading_of f.heading h) (f ∷ []) []
unfolding alike
alike_more fs f h = alike_append fs (f ∷ []) h

pub alike_on : (fs : List Fault) (f : Fault) (h : Heading) → same_heading_of f.heading h ≡ true → alike (fs ++ (f ∷ [])) h ≡ alike fs h ++ (f ∷ [])
alike_on fs f h e = alike_more fs f h ∙ ap (λ (b : Bool). alike fs h ++ cond b (f ∷ []) []) e

pub alike_off : (fs : List Fault) (f : Fault) (h : Heading) → same_heading_of f.heading h ≡ false → alike (fs ++ (f ∷ [])) h ≡ alike fs h
alike_off fs f h e = alike_more fs f h ∙ ap (λ (b : Bool). alike fs h ++ cond b (f ∷ []) []) e ∙ append-nil (alike fs h)

pub alike_none : (fs : List Fault) (h : Heading) → ((k : ℕ) → k < length fs → same_heading_of (at fs k).heading h ≡ false) → alike fs h ≡ []
unfolding alike at
alike_none [] h b = refl
alike_none (f ∷ fs) h b = rw (b 0 (omega arith)) (alike_none fs h (λ k l. b (suc k) (omega (arith, l))))

pub total_more : (fs : List Fault) (f : Fault) → total (fs ++ (f ∷ [])) ≡ total fs + f.count
unfolding total
total_more fs f = total_append fs (f ∷ []) ∙ omega arith

pub faces_more : (fs : List Fault) (f : Fault) → all_faces (fs ++ (f ∷ [])) ≡ all_faces fs ++ f.faces
unfolding all_faces
faces_more fs f = faces_append fs (f ∷ []) ∙ ap (λ (l : List FaceId). all_faces fs ++ l) (append-nil f.faces)

-- ---- the lowest number of a heading
-- fault k has this heading
abbrev test : List Fault → Heading → ℕ → Bool
test fs h k = same_heading_of (at fs k).heading h

pub first_le : (fs : List Fault) (h : Heading) → first fs h ≤ length fs
unfolding first
first_le [] h = omega arith
first_le (f ∷ fs) h = go (same_heading_of f.heading h) (first_le fs h)
  where
    go : (b : Bool) → first fs h ≤ length fs → cond b 0 (suc (first fs h)) ≤ suc (length fs)
    go true l = omega arith
    go false l = omega (arith, l)

pub first_passes : (fs : List Fault) (h : Heading) → first fs h < length fs → same_heading_of (at fs (first fs h)).heading h ≡ true
unfolding first at
first_passes [] h l = absurd (omega (arith, l))
first_passes (f ∷ fs) h l = go (same_heading_of f.heading h) refl (first_passes fs h) l
  where
    go : (b : Bool) → same_heading_of f.heading h ≡ b → (first fs h < length fs → same_heading_of (at fs (first fs h)).heading h ≡ true) →
        cond b 0 (suc (first fs h)) < suc (length fs) → same_heading_of (get_or (f ∷ fs) (cond b 0 (suc (first fs h))) none).heading h ≡ true
    go true e more l = e
    go false e more l = more (omega (arith, l))

pub first_least : (fs : List Fault) (h : Heading) (k : ℕ) → k < first fs h → same_heading_of (at fs k).heading h ≡ false
unfolding first at
first_least [] h k l = absurd (omega (arith, l))
first_least (f ∷ fs) h k l = go (same_heading_of f.heading h) refl (first_least fs h) k l
  where
    go : (b : Bool) → same_heading_of f.heading h ≡ b → ((k : ℕ) → k < first fs h → same_heading_of (at fs k).heading h ≡ false) → (k : ℕ) →
        k < cond b 0 (suc (first fs h)) → same_heading_of (get_or (f ∷ fs) k none).heading h ≡ false
    go true e more k l = absurd (omega (arith, l))
    go false e more zero l = e
    go false e more (suc k) l = more k (omega (arith, l))

pub first_lowest : (fs : List Fault) (h : Heading) → first fs h ≡ lowest_below (length fs) (λ k. same_heading_of (at fs k).heading h)
first_lowest fs h = sym (lowest_is (length fs) (test fs h) (first fs h) (first_le fs h) (first_passes fs h) (first_least fs h))

-- nothing else is
pub first_is : (fs : List Fault) (h : Heading) (m : ℕ) → m ≤ length fs → (m < length fs → same_heading_of (at fs m).heading h ≡ true) →
    ((k : ℕ) → k < m → same_heading_of (at fs k).heading h ≡ false) → first fs h ≡ m
first_is fs h m l passes least = first_lowest fs h ∙ lowest_is (length fs) (test fs h) m l passes least

-- with more faults: it stays where there is one, and else is looked for among them
pub first_before : (fs gs : List Fault) (h : Heading) → first fs h < length fs → first (fs ++ gs) h ≡ first fs h
first_before fs gs h l =
    first_is (fs ++ gs) h (first fs h) (omega (arith, l, length-append fs gs))
    (λ _. ap (λ (f : Fault). same_heading_of f.heading h) (at_before fs gs (first fs h) l) ∙ first_passes fs h l)
    (λ k b. ap (λ (f : Fault). same_heading_of f.heading h) (at_before fs gs k (omega (arith, b, l))) ∙ first_least fs h k b)

pub first_after : (fs gs : List Fault) (h : Heading) → first fs h ≡ length fs → first (fs ++ gs) h ≡ length fs + first gs h
unfolding first
first_after [] gs h e = omega arith
first_after (f ∷ fs) gs h e = go (first_after fs gs h) (same_heading_of f.heading h) e
  where
    go : (first fs h ≡ length fs → first (fs ++ gs) h ≡ length fs + first gs h) → (b : Bool) → cond b 0 (suc (first fs h)) ≡ suc (length fs) →
        cond b 0 (suc (first (fs ++ gs) h)) ≡ suc (length fs) + first gs h
    go more true e = absurd (omega (arith, e))
    go more false e = omega (arith, more (omega (arith, e)))

-- the first fault on the line of fault i, among those before it; i itself where none is
pub first_own : (fs : List Fault) (i : ℕ) → i < length fs →
    first fs (at fs i).heading ≡ lowest_below i (λ k. same_heading_of (at fs k).heading (at fs i).heading)
first_own fs i h = first_is fs (at fs i).heading m (omega (arith, h, within)) (λ _. passes (lt_or_ge m i)) (lowest_least i (test fs (at fs i).heading))
  where
    m : ℕ
    m = lowest_below i (test fs (at fs i).heading)

    within : m ≤ i
    within = lowest_le i (test fs (at fs i).heading)

    passes : (m < i) ⊎ (i ≤ m) → same_heading_of (at fs m).heading (at fs i).heading ≡ true
    passes (inl below) = lowest_passes i (test fs (at fs i).heading) below
    passes (inr above) =
        let same : i ≡ m = omega (arith, above, within) in
        subst (λ (k : ℕ). same_heading_of (at fs k).heading (at fs i).heading ≡ true) same (heading_self (at fs i).heading)

pub first_own_le : (fs : List Fault) (i : ℕ) → i < length fs → first fs (at fs i).heading ≤ i
first_own_le fs i h = omega (arith, first_own fs i h, lowest_le i (test fs (at fs i).heading))

-- whether fault i is the first of its line
pub is_first_lem : (fs : List Fault) (i : ℕ) → i < length fs →
    is_first fs i ≡ eqb (lowest_below i (λ k. same_heading_of (at fs k).heading (at fs i).heading)) i
unfolding is_first
is_first_lem fs i h = ap (λ (k : ℕ). eqb k i) (first_own fs i h)

-- faults of one line have one first fault, and others have others
pub first_like : (fs : List Fault) (i j : ℕ) → same_heading_of (at fs i).heading (at fs j).heading ≡ true → first fs (at fs i).heading ≡ first fs (at fs j).heading
first_like fs i j e = ap (first fs) (heading_same _ _ e)

pub like_first : (fs : List Fault) (i j : ℕ) → i < length fs → j < length fs → first fs (at fs i).heading ≡ first fs (at fs j).heading →
    same_heading_of (at fs i).heading (at fs j).heading ≡ true
like_first fs i j hi hj e = heading_on _ _ (sym (leader i hi) ∙ ap (λ (k : ℕ). (at fs k).heading) e ∙ leader j hj)
  where
    leader : (k : ℕ) → k < length fs → (at fs (first fs (at fs k).heading)).heading ≡ (at fs k).heading
    leader k h =
        heading_same _ _ (first_passes fs (at fs k).heading (omega (arith, h, first_own_le fs k h)))

-- ---- count, and how many faults
pub total_sum : (fs : List Fault) (h : Heading) → total (alike fs h) ≡ sum_below (length fs) (λ k. cond (same_heading_of (at fs k).heading h) (at fs k).count 0)
unfolding alike total at sum_below
total_sum [] h = refl
total_sum (f ∷ fs) h =
    go (same_heading_of f.heading h) ∙ ap (λ (z : ℕ). cond (same_heading_of f.heading h) f.count 0 + z) (total_sum fs h)
    ∙ sym (sum_front (length fs) (λ k. cond (same_heading_of (get_or (f ∷ fs) k none).heading h) (get_or (f ∷ fs) k none).count 0))
  where
    go : (b : Bool) → total (cond b (f ∷ alike fs h) (alike fs h)) ≡ cond b f.count 0 + total (alike fs h)
    go true = refl
    go false = omega arith

pub length_sum : (fs : List Fault) (h : Heading) → length (alike fs h) ≡ sum_below (length fs) (λ k. cond (same_heading_of (at fs k).heading h) 1 0)
unfolding alike at sum_below
length_sum [] h = refl
length_sum (f ∷ fs) h =
    go (same_heading_of f.heading h) ∙ ap (λ (z : ℕ). cond (same_heading_of f.heading h) 1 0 + z) (length_sum fs h)
    ∙ sym (sum_front (length fs) (λ k. cond (same_heading_of (get_or (f ∷ fs) k none).heading h) 1 0))
  where
    go : (b : Bool) → length (cond b (f ∷ alike fs h) (alike fs h)) ≡ cond b 1 0 + length (alike fs h)
    go true = omega arith
    go false = omega arith

pub length_count : (fs : List Fault) (h : Heading) → length (alike fs h) ≡ count_below (length fs) (λ k. same_heading_of (at fs k).heading h)
length_count fs h = length_sum fs h ∙ sym (count_sum (length fs) (test fs h))

-- ---- members
pub alike_in : (fs : List Fault) (f : Fault) → In f fs → In f (alike fs f.heading)
unfolding In alike
alike_in [] f m = absurd m
alike_in (g ∷ fs) f (inl e) = rw (heading_on g.heading f.heading (ap (λ (y : Fault). y.heading) (sym e))) (inl e)
alike_in (g ∷ fs) f (inr m) = go (same_heading_of g.heading f.heading) (alike_in fs f m)
  where
    go : (b : Bool) → In f (alike fs f.heading) → In f (cond b (g ∷ alike fs f.heading) (alike fs f.heading))
    go true n = inr n
    go false n = n

pub alike_own : (fs : List Fault) (i : ℕ) → i < length fs → In (at fs i) (alike fs (at fs i).heading)
unfolding at
alike_own fs i h = alike_in fs (get_or fs i none) (in_at none fs i h)

-- some fault with this heading names the face
abbrev pub Named : List Fault → Heading → FaceId → Type 0
Named fs h a = (k : ℕ) × (k < length fs) × (same_heading_of (at fs k).heading h ≡ true) × In a (at fs k).faces

-- a face of the faults of a heading is one of a fault that has it
pub in_faces : (fs : List Fault) (h : Heading) (a : FaceId) → In a (all_faces (alike fs h)) → Named fs h a
unfolding In alike all_faces at
in_faces [] h a m = absurd m
in_faces (f ∷ fs) h a m = go (λ n. later (in_faces fs h a n)) (same_heading_of f.heading h) refl m
  where
    later : Named fs h a → Named (f ∷ fs) h a
    later w = (suc w.0, omega (arith, w.1), w.2, w.3)

    go : (In a (all_faces (alike fs h)) → Named (f ∷ fs) h a) → (b : Bool) → same_heading_of f.heading h ≡ b →
        In a (all_faces (cond b (f ∷ alike fs h) (alike fs h))) → Named (f ∷ fs) h a
    go more true e n = ⊎_elim (λ (p : In a f.faces). (0, omega arith, e, p)) more (in_cases a f.faces (all_faces (alike fs h)) n)
    go more false e n = more n

-- and each face of such a fault is one
pub faces_in : (fs : List Fault) (h : Heading) (a : FaceId) (k : ℕ) → k < length fs → same_heading_of (at fs k).heading h ≡ true → In a (at fs k).faces →
    In a (all_faces (alike fs h))
unfolding alike all_faces at
faces_in [] h a k l e m = absurd (omega (arith, l))
faces_in (f ∷ fs) h a zero l e m = rw e (in_left a f.faces (all_faces (alike fs h)) m)
faces_in (f ∷ fs) h a (suc k) l e m = go (same_heading_of f.heading h) (faces_in fs h a k (omega (arith, l)) e m)
  where
    go : (b : Bool) → In a (all_faces (alike fs h)) → In a (all_faces (cond b (f ∷ alike fs h) (alike fs h)))
    go true n = in_right a f.faces (all_faces (alike fs h)) n
    go false n = n

-- ---- the faces of a line
-- of its only fault
pub faces_alone : (gs : List Fault) (f : Fault) → In f gs → length gs ≡ 1 → line_faces gs ≡ f.faces
unfolding In line_faces
faces_alone [] f m e = absurd m
faces_alone (g ∷ []) f (inl p) e = ap (λ (x : Fault). x.faces) (sym p)
faces_alone (g ∷ []) f (inr m) e = absurd m
faces_alone (g ∷ h ∷ gs) f m e = absurd (omega (arith, e))

-- of several
pub faces_several : (gs : List Fault) (f : Fault) → In f gs → (length gs ≡ 1 → ⊥) → line_faces gs ≡ sorted_once (all_faces gs)
unfolding In line_faces
faces_several [] f m e = absurd m
faces_several (g ∷ []) f m e = absurd (e refl)
faces_several (g ∷ h ∷ gs) f m e = refl

pub faces_once : (gs : List Fault) (f : Fault) (ys : List FaceId) → In f gs → (length gs ≡ 1 → ⊥) → Once (all_faces gs) ys → line_faces gs ≡ ys
faces_once gs f ys m e o = faces_several gs f m e ∙ once_only (all_faces gs) (sorted_once (all_faces gs)) ys (sorted_once_lem (all_faces gs)) o
