-- The chains of the bodies' polygons: how they are made from the last polygon down, and how they are read.
use mathlib.Core.Path.{◌≡◌, refl, sym, ap, subst, ◌∙◌}
use mathlib.Core.Bool.{Bool, true, false}
use mathlib.Core.List.{List}
use mathlib.Core.Logic.{◌⊎◌, inl, inr}
use Prim.Native.Nat.{ℕ, ◌+◌, ◌-◌, ◌≤◌, ◌<◌}
use native.Mathlib.Nat.{zero-add}
use native.Mathlib.Omega.{arith}
use lib.Dec.{eqb}
use lib.ListN.{length, get_or, set, take, length-set}
use lib.Seq.{get_or-set_same, get_or-set_other}
use lib.Ieee.{Float}
use borrow.Author.Tests.{eqb-true, eq-eqb, ne_eqb}
use Rattle.num_float.proofs.Tests.{contrary, lt_or_ge}
use Rattle.list_laws.specs.Region.{part}
use Rattle.list_laws.proofs.Regions.{part_length, part_place}
use Rattle.file_part.specs.Part.{part_of}
use Rattle.solid_bodies.proofs.BodyLaws.{body_low}
use Rattle.scratch.specs.declared.regions.Regions.{Regions}
use Rattle.scratch.proofs.StandingLaws.{placed_polygons}
use Rattle.fault_merge.specs.Work.{Front}
use Rattle.report_faces.specs.declared.marks.Listing.{Listing}
use Rattle.report_faces.specs.Work.Search.{Next}
use Rattle.report_faces.specs.Work.{Low, LinkedAt, Linked, Linking, Links, Cells, Kept}
use Rattle.report_faces.proofs.SearchLaws.{passed_none, next_end, next_hit}

pub label_low : (labels : List ℕ) → Low labels → (p : ℕ) → p < length labels → get_or labels p 0 ≤ p
unfolding Low
label_low labels low p h = low p h

-- ---- reading
module _ (labels : List ℕ) where
  -- a body goes by its lowest polygon
  pub own_first : Low labels → (b p c : ℕ) → p ≡ b → c ≡ get_or labels p 0 → c ≡ p → p < length labels → Next (λ q. eqb (get_or labels q 0) b) 0 (length labels) p
  unfolding Low
  own_first low b p c e d f l =
      let own : get_or labels p 0 ≡ b = sym d ∙ f ∙ e in
      record {
        passed = record { from = omega arith; to = omega (arith, l); none = λ q x y. ne_eqb (get_or labels q 0) b (λ k. absurd (omega (arith, k, e, y, low q (omega (arith, y, l))))) };
        hit = λ h. eq-eqb (get_or labels p 0) b own;
      }

  pub linked_next : (links : List ℕ) → Linked labels links → (b p r : ℕ) → eqb (get_or labels p 0) b ≡ true → p < length labels → r ≡ get_or links p 0 →
      Next (λ q. eqb (get_or labels q 0) b) (p + 1) (length labels) r
  unfolding Linked LinkedAt
  linked_next links all b p r e l d =
      subst (λ (k : ℕ). Next (λ q. eqb (get_or labels q 0) b) (p + 1) (length labels) k) (sym d)
      (subst (λ (k : ℕ). Next (λ q. eqb (get_or labels q 0) k) (p + 1) (length labels) (get_or links p 0)) (eqb-true _ _ e) (all p l))

-- ---- making
one_before : (test : ℕ → Bool) (p n r : ℕ) → Next test (p + 1) n r → test p ≡ false → Next test p n r
one_before test p n r m e =
    record {
      passed = record { from = omega (arith, m.passed.from); to = m.passed.to; none = λ q a b. go q a b (lt_or_ge p q) };
      hit = m.hit;
    }
  where
    go : (q : ℕ) → p ≤ q → q < r → (p < q) ⊎ (q ≤ p) → test q ≡ false
    go q a b (inl h) = m.passed.none q (omega (arith, h)) b
    go q a b (inr h) = let same : q ≡ p = omega (arith, a, h) in ap test same ∙ e

-- what stands at the body of p before p is linked
open_linked : (labels : List ℕ) (b p r : ℕ) → b ≡ get_or labels p 0 → Next (λ q. eqb (get_or labels q 0) b) (p + 1) (length labels) r → LinkedAt labels p r
unfolding LinkedAt
open_linked labels b p r e m = subst (λ (k : ℕ). Next (λ q. eqb (get_or labels q 0) k) (p + 1) (length labels) r) e m

pub open_more : (from n b : ℕ) (old work : List ℕ) → Front from old work → from + b < length old → ((q : ℕ) → q < b → get_or work (from + q) 0 ≡ n) → (q : ℕ) → q < b + 1 →
    get_or (set work (from + b) n) (from + q) 0 ≡ n
open_more from n b old work f l each q h = go (lt_or_ge q b)
  where
    go : (q < b) ⊎ (b ≤ q) → get_or (set work (from + b) n) (from + q) 0 ≡ n
    go (inl k) = get_or-set_other work (from + b) (from + q) n 0 (λ e. absurd (omega (arith, e, k))) ∙ each q k
    go (inr k) = let same : from + q ≡ from + b = omega (arith, h, k) in ap (λ (i : ℕ). get_or (set work (from + b) n) i 0) same ∙ get_or-set_same work (from + b) n 0 (omega (arith, l, f.long))

pub linking_at : (labels : List ℕ) (from p q : ℕ) (work : List ℕ) → p ≡ q → Linking labels from p work → Linking labels from q work
linking_at labels from p q work e m = subst (λ (k : ℕ). Linking labels from k work) e m

module _ (labels : List ℕ) (from : ℕ) where
  -- none is linked
  pub all_open : (work : List ℕ) (n b : ℕ) → n ≡ length labels → n ≤ b → ((q : ℕ) → q < b → get_or work (from + q) 0 ≡ n) → Linking labels from (length labels) work
  all_open work n b e l each =
      record {
        linked = λ q a h. absurd (omega (arith, a, h));
        open_at = λ q h. subst (λ (k : ℕ). Next (λ i. eqb (get_or labels i 0) q) (length labels) (length labels) k) (sym (each q (omega (arith, h, e, l)) ∙ e))
            (next_end (λ i. eqb (get_or labels i 0) q) (length labels) (length labels) (length labels)
            (passed_none (λ i. eqb (get_or labels i 0) q) (length labels) (length labels) (omega arith)) (omega arith));
      }

  module _ (p : ℕ) (there : p < length labels) (work : List ℕ) (so_far : Linking labels from (p + 1) work) where
    -- polygon p is the lowest of its body
    pub link_own : (b : ℕ) → b ≡ get_or labels p 0 → b ≡ p → Linking labels from p work
    link_own b e d = record {
      linked = λ q a h. go q a h (lt_or_ge p q);
      open_at = λ c h. one_before (λ q. eqb (get_or labels q 0) c) p (length labels) (get_or work (from + c) 0)
          (so_far.open_at c (omega (arith, h))) (ne_eqb (get_or labels p 0) c (λ k. absurd (omega (arith, k, e, d, h))));
    }
      where
        own : p ≡ get_or labels p 0
        own = sym d ∙ e

        go : (q : ℕ) → p ≤ q → q < length labels → (p < q) ⊎ (q ≤ p) → LinkedAt labels q (get_or work (from + q) 0)
        go q a h (inl k) = so_far.linked q (omega (arith, k)) h
        go q a h (inr k) =
            let same : p ≡ q = omega (arith, a, k) in
            subst (λ (z : ℕ). LinkedAt labels z (get_or work (from + z) 0)) same
            (open_linked labels p p (get_or work (from + p) 0) own (so_far.open_at p (omega arith)))

    -- or it comes before those that are linked
    pub link_other : Low labels → (b : ℕ) → b ≡ get_or labels p 0 → (b ≡ p → ⊥) → from + length labels ≤ length work →
        Linking labels from p (set (set work (from + p) (get_or work (from + b) 0)) (from + b) p)
    unfolding Low
    link_other low b e d room =
        record { linked = λ q a h. later q a h (lt_or_ge p q); open_at = λ c h. earlier c h (eqb c b) refl }
      where
        mid : List ℕ
        mid = set work (from + p) (get_or work (from + b) 0)

        new : List ℕ
        new = set mid (from + b) p

        before : b < p
        before = let most : get_or labels p 0 ≤ p = low p there in omega (arith, e, most, d)

        at_own : get_or new (from + p) 0 ≡ get_or work (from + b) 0
        at_own =
            get_or-set_other mid (from + b) (from + p) p 0 (λ k. absurd (omega (arith, k, before)))
            ∙ get_or-set_same work (from + p) (get_or work (from + b) 0) 0 (omega (arith, room, there))

        at_body : get_or new (from + b) 0 ≡ p
        at_body = get_or-set_same mid (from + b) p 0 (omega (arith, room, there, before, length-set work (from + p) (get_or work (from + b) 0)))

        others : (k : ℕ) → (k ≡ p → ⊥) → (k ≡ b → ⊥) → get_or new (from + k) 0 ≡ get_or work (from + k) 0
        others k x y =
            get_or-set_other mid (from + b) (from + k) p 0 (λ z. y (omega (arith, z)))
            ∙ get_or-set_other work (from + p) (from + k) (get_or work (from + b) 0) 0 (λ z. x (omega (arith, z)))

        later : (q : ℕ) → p ≤ q → q < length labels → (p < q) ⊎ (q ≤ p) → LinkedAt labels q (get_or new (from + q) 0)
        later q a h (inl k) =
            subst (LinkedAt labels q) (sym (others q (λ z. absurd (omega (arith, z, k))) (λ z. absurd (omega (arith, z, k, before))))) (so_far.linked q (omega (arith, k)) h)
        later q a h (inr k) =
            let same : p ≡ q = omega (arith, a, k) in
            subst (λ (z : ℕ). LinkedAt labels z (get_or new (from + z) 0)) same
            (subst (LinkedAt labels p) (sym at_own) (open_linked labels b p (get_or work (from + b) 0) e (so_far.open_at b (omega (arith, before)))))

        earlier : (c : ℕ) → c < p → (t : Bool) → eqb c b ≡ t → Next (λ q. eqb (get_or labels q 0) c) p (length labels) (get_or new (from + c) 0)
        earlier c h true k =
            let same : b ≡ c = sym (eqb-true c b k) in
            subst (λ (z : ℕ). Next (λ q. eqb (get_or labels q 0) z) p (length labels) (get_or new (from + z) 0)) same
            (subst (λ (z : ℕ). Next (λ q. eqb (get_or labels q 0) b) p (length labels) z) (sym at_body)
            (next_hit (λ q. eqb (get_or labels q 0) b) p (length labels) p (passed_none (λ q. eqb (get_or labels q 0) b) p (length labels) (omega (arith, there))) (eq-eqb _ _ (sym e))))
        earlier c h false k =
            let off : c ≡ b → ⊥ = (λ z. contrary (eq-eqb c b z) k) in
            subst (λ (z : ℕ). Next (λ q. eqb (get_or labels q 0) c) p (length labels) z) (sym (others c (λ z. absurd (omega (arith, z, h))) off))
            (one_before (λ q. eqb (get_or labels q 0) c) p (length labels) (get_or work (from + c) 0) (so_far.open_at c (omega (arith, h))) (ne_eqb (get_or labels p 0) c (λ z. off (sym z ∙ sym e))))

-- ---- the links of a part
-- a part from the front on
pub front_part : (n : ℕ) (words : List ℕ) → take n words ≡ part 0 n words
front_part n words = let same : n ≡ n - 0 = omega arith in ap (λ (k : ℕ). take k words) same

pub labels_long : (n : ℕ) (words : List ℕ) → n ≤ length words → length (part 0 n words) ≡ n
labels_long n words l = part_length 0 n words l ∙ omega arith

pub links_long : (from n : ℕ) (work : List ℕ) → from + n ≤ length work → length (part from (from + n) work) ≡ n
links_long from n work l = part_length from (from + n) work l ∙ omega arith

pub links_as_long : (at : Regions) (m : ℕ) (words : List ℕ) → Cells at m words → (from : ℕ) (work : List ℕ) → Links at words from work →
    length (part from (from + at.polygons) work) ≡ length (part 0 at.polygons words)
links_as_long at m words cells from work l =
    links_long from at.polygons work l.room ∙ sym (labels_long at.polygons words (omega (arith, cells.laid, cells.room)))

module _ (at : Regions) (words : List ℕ) (from : ℕ) (work : List ℕ) (room : from + at.polygons ≤ length work) where
  pub links_none : at.bodies ≡ false → Links at words from work
  links_none off = record { room = room; low = λ on. absurd (contrary on off); linked = λ on. absurd (contrary on off) }

  pub links_made : at.polygons ≤ length words → Low (part 0 at.polygons words) → Linking (part 0 at.polygons words) from 0 work → Links at words from work
  unfolding Linked
  links_made l low made =
      record {
        room = room;
        low = λ on. low;
        linked = λ on p h. subst (LinkedAt (part 0 at.polygons words) p)
            (sym (part_place from (from + at.polygons) work 0 p (omega (arith, h, labels_long at.polygons words l)))) (made.linked p (omega arith) h);
      }

-- ---- what a report starts from
pub kept_low : (s words : List ℕ) (given : Listing) (cells : List ℕ) (numbers : List Float) → Kept s words given cells numbers → given.at.bodies ≡ true →
    Low (part 0 given.at.polygons words)
unfolding Low
kept_low s words given cells numbers kept on p h =
    let n : length (part 0 given.at.polygons words) ≡ given.at.polygons = labels_long given.at.polygons words (omega (arith, kept.room, kept.placed.laid)) in
    let same : get_or (part 0 given.at.polygons words) p 0 ≡ get_or words p 0 = part_place 0 given.at.polygons words 0 p (omega (arith, h, n)) ∙ ap (λ (k : ℕ). get_or words k 0) (zero-add p) in
    let body = (kept.body.labels on).each p (omega (arith, h, n, placed_polygons s given.at kept.placed)) in
    omega (arith, same, body, body_low (part_of s) p)
