-- The cells of the bends, put face by face.
use mathlib.Core.Path.{◌≡◌, refl, sym, ap, ◌∙◌, subst}
use mathlib.Core.Bool.{Bool, true, false, ◌||◌, cond}
use mathlib.Core.Logic.{◌⊎◌, inl, inr}
use mathlib.Core.List.{List, [], ◌∷◌}
use Prim.Native.Nat.{ℕ, zero, suc, ◌+◌, ◌-◌, ◌≤◌, ◌<◌}
use native.Mathlib.Omega.{arith}
use lib.Dec.{eqb}
use lib.Ieee.{Float}
use lib.ListN.{length, get_or, set, length-set, length-append, replicate, length-replicate}
use lib.Seq.{get_or-set_same, get_or-set_other}
use borrow.Author.Tests.{eqb-true, eqb-false, eq-eqb, ne_eqb}
use borrow.Rule.Slice.PartMut.{put_mid}
use Rattle.num_float.proofs.Tests.{lt_or_ge, and_false_left}
use Rattle.list_laws.specs.Region.{part, Outside}
use Rattle.list_laws.proofs.Fill.{filled_at}
use Rattle.list_laws.proofs.Outside.{outside_none, outside_then, outside_set, outside_put}
use Rattle.list_laws.proofs.Regions.{part_length, put_inside}
use Rattle.list_groups.specs.Groups.{passing}
use Rattle.file_part.specs.Part.{Part, part_of}
use Rattle.solid_faces.specs.Faces.{faces_of}
use Rattle.solid_faces.proofs.CountLaws.{few_faces}
use Rattle.solid_bodies.specs.Body.{some_below}
use Rattle.solid_bodies.proofs.SomeLaws.{some_none, some_more}
use Rattle.scratch.specs.declared.regions.Regions.{Regions}
use Rattle.scratch.specs.Regions.{Laid}
use Rattle.scratch.specs.Standing.{Standing}
use Rattle.scratch.proofs.StandingLaws.{placed_polygons}
use Rattle.solid_tours.proofs.Passing.{passing_more, passing_past, passing_step, passing_zero}
use Rattle.sheet_bends.specs.Bends.{outside_of, is_bend, bends_of, bend_count, is_bend_face}
use Rattle.sheet_bends.specs.Kept.{bend_of, bend_cell, BendsPut}
use Rattle.sheet_bends.specs.Work.{bend_stored, is_of_bend, BendsTo}
use Rattle.std.specs.Prelude.{Some, None}
use Rattle.sheet_bends.proofs.BendLaws.{no_bend, some_bend, outside_below, none_cell, some_cell}

-- ---- how many there are
pub count_none : (t : Part) (thick : Float) → 0 ≡ length (passing (is_bend t thick) 0)
unfolding passing
count_none t thick = refl

pub count_skip : (t : Part) (thick : Float) (f n : ℕ) → None ≡ bend_of t thick f → n ≡ length (passing (is_bend t thick) f) → n ≡ length (passing (is_bend t thick) (f + 1))
count_skip t thick f n e h = h ∙ sym (ap (λ (l : List ℕ). length l) (passing_past (is_bend t thick) f (no_bend t thick f e)))

pub count_more : (t : Part) (thick : Float) (f n g : ℕ) → Some g ≡ bend_of t thick f → n ≡ length (passing (is_bend t thick) f) →
    n + 1 ≡ length (passing (is_bend t thick) (f + 1))
count_more t thick f n g e h =
    let more = passing_more (is_bend t thick) f (some_bend t thick f g e).0 in
    ap (λ (k : ℕ). k + 1) h ∙ sym (ap (λ (l : List ℕ). length l) more ∙ length-append (passing (is_bend t thick) f) (f ∷ []))

-- no more than the faces below f
most_one : (b : Bool) (s : ℕ) → length (cond b (s ∷ []) []) ≤ 1
most_one true s = omega arith
most_one false s = omega arith

passing_few : (test : ℕ → Bool) (n : ℕ) → length (passing test n) ≤ n
passing_few test zero = omega (arith, ap (λ (l : List ℕ). length l) (passing_zero test))
passing_few test (suc n) =
    let step = ap (λ (l : List ℕ). length l) (passing_step test n) ∙ length-append (passing test n) (cond (test n) (n ∷ []) []) in
    omega (arith, step, passing_few test n, most_one (test n) n)

pub count_few : (t : Part) (thick : Float) (f n : ℕ) → n ≡ length (passing (is_bend t thick) f) → n ≤ f
count_few t thick f n e = omega (arith, e, passing_few (is_bend t thick) f)

-- ---- marks: ones at n and at k
marked : (l : List ℕ) (m n k g : ℕ) (b : Bool) → m + n < length l → m + k < length l → get_or l (m + g) 0 ≡ cond b 1 0 →
    get_or (set (set l (m + n) 1) (m + k) 1) (m + g) 0 ≡ cond (b || (eqb n g || eqb k g)) 1 0
marked l m n k g b nl kl h = last (eqb k g) refl
  where
    some : (a c : Bool) → ◌≡◌ {A = ℕ} 1 (cond (a || (c || true)) 1 0)
    some true c = refl
    some false true = refl
    some false false = refl

    one : (a : Bool) → ◌≡◌ {A = ℕ} 1 (cond (a || (true || false)) 1 0)
    one true = refl
    one false = refl

    old : (a : Bool) → ◌≡◌ {A = ℕ} (cond a 1 0) (cond (a || (false || false)) 1 0)
    old true = refl
    old false = refl

    first : (x : Bool) → eqb n g ≡ x → get_or (set l (m + n) 1) (m + g) 0 ≡ cond (b || (x || false)) 1 0
    first true e =
        let same : m + g ≡ m + n = omega (arith, eqb-true n g e) in
        ap (λ (i : ℕ). get_or (set l (m + n) 1) i 0) same ∙ get_or-set_same l (m + n) 1 0 nl ∙ one b
    first false e = get_or-set_other l (m + n) (m + g) 1 0 (λ q. eqb-false n g e (omega (arith, q))) ∙ h ∙ old b

    last : (y : Bool) → eqb k g ≡ y → get_or (set (set l (m + n) 1) (m + k) 1) (m + g) 0 ≡ cond (b || (eqb n g || y)) 1 0
    last true e =
        let same : m + g ≡ m + k = omega (arith, eqb-true k g e) in
        ap (λ (i : ℕ). get_or (set (set l (m + n) 1) (m + k) 1) i 0) same ∙ get_or-set_same (set l (m + n) 1) (m + k) 1 0 (omega (arith, kl, length-set l (m + n) 1))
        ∙ some b (eqb n g)
    last false e = get_or-set_other (set l (m + n) 1) (m + k) (m + g) 1 0 (λ q. eqb-false k g e (omega (arith, q))) ∙ first (eqb n g) refl

of_none : (t : Part) (thick : Float) (g f : ℕ) → is_bend t thick f ≡ false → is_of_bend t thick g f ≡ false
unfolding is_of_bend
of_none t thick g f h = and_false_left _ _ h

of_bend : (t : Part) (thick : Float) (g f : ℕ) → is_bend t thick f ≡ true → is_of_bend t thick g f ≡ (eqb f g || eqb (outside_of t thick f) g)
unfolding is_of_bend
of_bend t thick g f h = rw (h)

or_false : (b : Bool) → (b || false) ≡ b
or_false true = refl
or_false false = refl

-- a mark read back
pub mark_is : (x : ℕ) (b : Bool) → x ≡ cond b 1 0 → eqb x 1 ≡ b
mark_is x true e = eq-eqb x 1 e
mark_is x false e = ne_eqb x 1 (λ q. omega (arith, q, e))

-- ---- the bends of the faces below f
module _ (s : List ℕ) (at : Regions) (words : List ℕ) (reals : List Float) (g : Standing s at words reals) where
  abbrev t : Part
  t = part_of s

  abbrev laid : Laid at
  laid = g.placed.laid

  pub few : faces_of t ≤ at.polygons
  few = omega (arith, few_faces t, placed_polygons s at g.placed)

  abbrev room : at.words ≤ length words
  room = g.words_room

  -- none yet: every cell holds 0
  module _ (x : List ℕ) (fill : x ≡ replicate (length (part at.order at.kinds words)) 0) where
    abbrev cleared : List ℕ
    cleared = put_mid at.order (at.kinds - at.order) words x

    cells : length (part at.order at.kinds words) ≡ at.kinds - at.order
    cells = part_length at.order at.kinds words (omega (arith, laid, room))

    cleared_long : length x ≡ at.kinds - at.order
    cleared_long = ap (λ (l : List ℕ). length l) fill ∙ length-replicate (length (part at.order at.kinds words)) 0 ∙ cells

    zero_at : (i : ℕ) → at.order ≤ i → i < at.kinds → get_or cleared i 0 ≡ 0
    zero_at i l m =
        put_inside at.order (at.kinds - at.order) words x 0 (omega (arith, laid, room)) i l (omega (arith, m, l, cleared_long))
        ∙ filled_at x (length (part at.order at.kinds words)) 0 0 fill (i - at.order) (omega (arith, l, m, cells))

    pub cleared_kept : Outside 0 at.order at.kinds words cleared
    cleared_kept = outside_put 0 at.order at.kinds words x (omega (arith, laid)) (omega (arith, laid, room)) cleared_long

    pub bends_none : (thick : Float) → BendsTo t thick at 0 cleared cleared
    bends_none thick =
        record {
          outside = λ f l. absurd (omega (arith, l));
          left = λ f l m. zero_at (at.order + f) (omega arith) (omega (arith, m, few, laid));
          marks = λ g m. zero_at (at.order + at.polygons + g) (omega arith) (omega (arith, m, few, laid)) ∙ ap (λ (b : Bool). cond b 1 0) (sym (some_none (is_of_bend t thick g)));
          kept = outside_none 0 at.order at.kinds cleared;
        }

  module _ (thick : Float) (words' : List ℕ) (n : ℕ) (low : n < faces_of t) (h : BendsTo t thick at n words words') where
    pub bends_skip : None ≡ bend_of t thick n → BendsTo t thick at (n + 1) words words'
    bends_skip z =
        record {
          outside = λ f l. go f l (lt_or_ge f n);
          left = λ f l m. h.left f (omega (arith, l)) m;
          marks = λ g m. h.marks g m ∙ ap (λ (b : Bool). cond b 1 0) (sym (same g));
          kept = h.kept;
        }
      where
        go : (f : ℕ) → f < n + 1 → (f < n) ⊎ (n ≤ f) → get_or words' (at.order + f) 0 ≡ bend_cell t thick f
        go f l (inl below) = h.outside f below
        go f l (inr above) =
            let here : n ≡ f = omega (arith, l, above) in
            subst (λ (k : ℕ). get_or words' (at.order + k) 0 ≡ bend_cell t thick k) here (h.left n (omega arith) low ∙ none_cell t thick n z)

        same : (g : ℕ) → some_below (n + 1) (is_of_bend t thick g) ≡ some_below n (is_of_bend t thick g)
        same g =
            some_more n (is_of_bend t thick g)
            ∙ ap (λ (b : Bool). some_below n (is_of_bend t thick g) || b) (of_none t thick g n (no_bend t thick n z))
            ∙ or_false (some_below n (is_of_bend t thick g))

    module _ (o : ℕ) (e : Some o ≡ bend_of t thick n) (words'' : List ℕ) (put : words'' ≡ bend_stored at n o words') where
      abbrev P : ℕ
      P = at.polygons

      most : o < faces_of t
      most = outside_below t thick n o e

      abbrev first : List ℕ
      first = set words' (at.order + n) (o + 1)

      abbrev stored : List ℕ
      stored = set (set first (at.order + P + n) 1) (at.order + P + o) 1

      is_stored : words'' ≡ stored
      unfolding bend_stored
      is_stored = put

      long : length first ≡ length words
      long = length-set words' (at.order + n) (o + 1) ∙ h.kept.long

      -- a cell before the marks
      before : (f : ℕ) → f < P → get_or words'' (at.order + f) 0 ≡ get_or first (at.order + f) 0
      before f l =
          ap (λ (k : List ℕ). get_or k (at.order + f) 0) is_stored
          ∙ get_or-set_other (set first (at.order + P + n) 1) (at.order + P + o) (at.order + f) 1 0 (λ q. omega (arith, q, l))
          ∙ get_or-set_other first (at.order + P + n) (at.order + f) 1 0 (λ q. omega (arith, q, l))

      other : (f : ℕ) → f < P → (f ≡ n → ⊥) → get_or words'' (at.order + f) 0 ≡ get_or words' (at.order + f) 0
      other f l ne = before f l ∙ get_or-set_other words' (at.order + n) (at.order + f) (o + 1) 0 (λ q. ne (omega (arith, q)))

      here : get_or words'' (at.order + n) 0 ≡ o + 1
      here = before n (omega (arith, low, few)) ∙ get_or-set_same words' (at.order + n) (o + 1) 0 (omega (arith, low, few, laid, room, h.kept.long))

      outside_go : (f : ℕ) → f < n + 1 → (f < n) ⊎ (n ≤ f) → get_or words'' (at.order + f) 0 ≡ bend_cell t thick f
      outside_go f l (inl below) = other f (omega (arith, below, low, few)) (λ q. omega (arith, q, below)) ∙ h.outside f below
      outside_go f l (inr above) =
          let same : n ≡ f = omega (arith, l, above) in
          subst (λ (k : ℕ). get_or words'' (at.order + k) 0 ≡ bend_cell t thick k) same (here ∙ some_cell t thick n o e)

      left_go : (f : ℕ) → n + 1 ≤ f → f < faces_of t → get_or words'' (at.order + f) 0 ≡ 0
      left_go f l m = other f (omega (arith, m, few)) (λ q. omega (arith, q, l)) ∙ h.left f (omega (arith, l)) m

      -- the mark of face g
      mark_old : (g : ℕ) → g < faces_of t → get_or first (at.order + P + g) 0 ≡ cond (some_below n (is_of_bend t thick g)) 1 0
      mark_old g m = get_or-set_other words' (at.order + n) (at.order + P + g) (o + 1) 0 (λ q. omega (arith, q, low, few)) ∙ h.marks g m

      mark_new : (g : ℕ) → some_below (n + 1) (is_of_bend t thick g) ≡ (some_below n (is_of_bend t thick g) || (eqb n g || eqb o g))
      mark_new g =
          let b = some_bend t thick n o e in
          let out : outside_of t thick n ≡ o = sym b.1 in
          some_more n (is_of_bend t thick g)
          ∙ ap (λ (b : Bool). some_below n (is_of_bend t thick g) || b) (of_bend t thick g n b.0 ∙ ap (λ (k : ℕ). eqb n g || eqb k g) out)

      mark_go : (g : ℕ) → g < faces_of t → get_or words'' (at.order + P + g) 0 ≡ cond (some_below (n + 1) (is_of_bend t thick g)) 1 0
      mark_go g m =
          ap (λ (k : List ℕ). get_or k (at.order + P + g) 0) is_stored
          ∙ marked first (at.order + P) n o g (some_below n (is_of_bend t thick g)) (omega (arith, low, few, laid, room, long))
          (omega (arith, most, few, laid, room, long, low)) (mark_old g m)
          ∙ ap (λ (b : Bool). cond b 1 0) (sym (mark_new g))

      kept_go : Outside 0 at.order at.kinds words stored
      kept_go =
          outside_then 0 _ _ words words' stored h.kept
          (outside_then 0 _ _ words' first stored (outside_set 0 _ _ words' (at.order + n) (o + 1) (omega arith) (omega (arith, low, few, laid)))
          (outside_then 0 _ _ first (set first (at.order + P + n) 1) stored (outside_set 0 _ _ first (at.order + P + n) 1 (omega arith) (omega (arith, low, few, laid)))
          (outside_set 0 _ _ (set first (at.order + P + n) 1) (at.order + P + o) 1 (omega arith) (omega (arith, most, low, few, laid)))))

      pub bends_more : BendsTo t thick at (n + 1) words words''
      bends_more =
          record {
            outside = λ f l. outside_go f l (lt_or_ge f n);
            left = left_go;
            marks = mark_go;
            kept = subst (Outside 0 at.order at.kinds words) (sym is_stored) kept_go;
          }

-- all of them; `begun` is how the scratch was before the first
pub bends_all : (t : Part) (thick : Float) (at : Regions) (words begun words' : List ℕ) (n f count : ℕ) → n ≡ faces_of t → f ≤ n → n ≤ f →
    Outside 0 at.order at.kinds words begun → BendsTo t thick at f begun words' → count ≡ length (passing (is_bend t thick) f) → BendsPut t thick at words words' count
unfolding bend_count bends_of is_bend_face is_of_bend
bends_all t thick at words begun words' n f count all low high before h c =
    let last : f ≡ faces_of t = omega (arith, all, low, high) in
    let k : BendsTo t thick at (faces_of t) begun words' = subst (λ (i : ℕ). BendsTo t thick at i begun words') last h in
    record {
      count = subst (λ (i : ℕ). count ≡ length (passing (is_bend t thick) i)) last c;
      bends = record { outside = k.outside; marks = k.marks };
      kept = outside_then 0 at.order at.kinds words begun words' before k.kept;
    }
