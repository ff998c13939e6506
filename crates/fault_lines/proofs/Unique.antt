-- The order of lines by ranks, and that the faults determine the lines.
use mathlib.Core.Path.{◌≡◌, refl, sym, ap, subst, ◌∙◌}
use mathlib.Core.Bool.{true}
use mathlib.Core.List.{List, [], ◌∷◌}
use mathlib.Core.Logic.{◌⊎◌, inl, inr}
use Prim.Native.Nat.{◌<◌, ◌≤◌}
use native.Mathlib.Omega.{arith}
use lib.ListN.{length}
use borrow.Author.Tests.{ltb-true, lt-ltb}
use Rattle.fault_row.specs.declared.fault.Rule.{Rule}
use Rattle.fault_row.specs.Names.{severity_rank, rule_rank, rule_name, bytes_before}
use Rattle.fault_row.specs.Fault.{Heading, Fault}
use Rattle.fault_row.proofs.NameLaws.{severity_rank_same, rule_rank_same, names_by_bytes}
use Rattle.fault_lines.specs.Member.{In}
use Rattle.fault_lines.specs.Ids.{Once}
use Rattle.fault_lines.specs.Line.{Line, alike, first, total, all_faces}
use Rattle.fault_lines.specs.Listed.{Before, Listed}
use Rattle.fault_lines.proofs.MemberLaws.{same_list}
use Rattle.fault_lines.proofs.IdLaws.{once_only}
use Rattle.fault_lines.proofs.AlikeLaws.{alike_in}

-- ---- the order of lines, in numbers
abbrev pub ByRanks : List Fault → Heading → Heading → Type 0
ByRanks fs a b =
    (severity_rank a.severity < severity_rank b.severity)
    ⊎ ((severity_rank a.severity ≡ severity_rank b.severity)
    × ((rule_rank a.rule < rule_rank b.rule) ⊎ ((rule_rank a.rule ≡ rule_rank b.rule) × (first fs a < first fs b))))

pub name_rank : (r s : Rule) → bytes_before (rule_name r) (rule_name s) ≡ true → rule_rank r < rule_rank s
name_rank r s h = ltb-true _ _ (names_by_bytes r s ∙ h)

pub rank_name : (r s : Rule) → rule_rank r < rule_rank s → bytes_before (rule_name r) (rule_name s) ≡ true
rank_name r s h = sym (names_by_bytes r s) ∙ lt-ltb _ _ h

pub before_ranks : (fs : List Fault) (l m : Line) → Before fs l m → ByRanks fs l.heading m.heading
unfolding Before
before_ranks fs l m (inl h) = inl h
before_ranks fs l m (inr (e, inl h)) = inr (ap severity_rank e, inl (name_rank _ _ h))
before_ranks fs l m (inr (e, inr (f, h))) = inr (ap severity_rank e, inr (ap rule_rank f, h))

pub ranks_before : (fs : List Fault) (l m : Line) → ByRanks fs l.heading m.heading → Before fs l m
unfolding Before
ranks_before fs l m (inl h) = inl h
ranks_before fs l m (inr (e, inl h)) = inr (severity_rank_same _ _ e, inl (rank_name _ _ h))
ranks_before fs l m (inr (e, inr (f, h))) = inr (severity_rank_same _ _ e, inr (rule_rank_same _ _ f, h))

-- no heading is before itself
ranks_irreflexive : (fs : List Fault) (a : Heading) → ByRanks fs a a → ⊥
ranks_irreflexive fs a (inl h) = omega (arith, h)
ranks_irreflexive fs a (inr (e, inl h)) = omega (arith, h)
ranks_irreflexive fs a (inr (e, inr (f, h))) = omega (arith, h)

ranks_transitive : (fs : List Fault) (a b c : Heading) → ByRanks fs a b → ByRanks fs b c → ByRanks fs a c
ranks_transitive fs a b c (inl h) (inl k) = inl (omega (arith, h, k))
ranks_transitive fs a b c (inl h) (inr k) = inl (omega (arith, h, k.0))
ranks_transitive fs a b c (inr h) (inl k) = inl (omega (arith, h.0, k))
ranks_transitive fs a b c (inr (e, inl h)) (inr (f, inl k)) = inr (e ∙ f, inl (omega (arith, h, k)))
ranks_transitive fs a b c (inr (e, inl h)) (inr (f, inr k)) = inr (e ∙ f, inl (omega (arith, h, k.0)))
ranks_transitive fs a b c (inr (e, inr h)) (inr (f, inl k)) = inr (e ∙ f, inl (omega (arith, h.0, k)))
ranks_transitive fs a b c (inr (e, inr h)) (inr (f, inr k)) = inr (e ∙ f, inr (h.0 ∙ k.0, omega (arith, h.1, k.1)))

-- a line before another has another heading
pub before_apart : (fs : List Fault) (l m : Line) → Before fs l m → l.heading ≡ m.heading → ⊥
before_apart fs l m h e = ranks_irreflexive fs m.heading (subst (λ (x : Heading). ByRanks fs x m.heading) e (before_ranks fs l m h))

pub before_irreflexive : (fs : List Fault) (l : Line) → Before fs l l → ⊥
before_irreflexive fs l h = before_apart fs l l h refl

pub before_transitive : (fs : List Fault) (l m n : Line) → Before fs l m → Before fs m n → Before fs l n
before_transitive fs l m n h k = ranks_before fs l n (ranks_transitive fs l.heading m.heading n.heading (before_ranks fs l m h) (before_ranks fs m n k))

-- ---- one list of lines
-- a heading that some fault has is not without faults
alike_some : (fs : List Fault) (f : Fault) (h : Heading) → In f fs → f.heading ≡ h → alike fs h ≡ [] → ⊥
unfolding In
alike_some fs f h m e n = subst (In f) n (subst (λ (x : Heading). In f (alike fs x)) e (alike_in fs f m))

line_path : (l m : Line) → l.heading ≡ m.heading → l.count ≡ m.count → l.faces ≡ m.faces → l ≡ m
line_path l m e c k = λ i. record { heading = e i; count = c i; faces = k i }

module _ (fs : List Fault) (ls ms : List Line) (a : Listed fs ls) (b : Listed fs ms) where
  same_faces : (l m : Line) → In l ls → In m ms → l.heading ≡ m.heading → l.faces ≡ m.faces
  same_faces l m p q e = go (alike fs l.heading) refl
    where
      go : (gs : List Fault) → alike fs l.heading ≡ gs → l.faces ≡ m.faces
      go [] n = let w = a.owned l p in absurd (alike_some fs w.0 l.heading w.1 w.2 n)
      go (f ∷ []) n = a.alone l p f n ∙ sym (b.alone m q f (ap (alike fs) (sym e) ∙ n))
      go (f ∷ g ∷ gs) n =
          let two : 2 ≤ length (alike fs l.heading) = subst (λ (x : List Fault). 2 ≤ length x) (sym n) (omega arith) in
          once_only (all_faces (alike fs l.heading)) l.faces m.faces (a.several l p two)
          (subst (λ (h : Heading). Once (all_faces (alike fs h)) m.faces) (sym e) (b.several m q (subst (λ (h : Heading). 2 ≤ length (alike fs h)) e two)))

  one_line : (l m : Line) → In l ls → In m ms → l.heading ≡ m.heading → l ≡ m
  one_line l m p q e = line_path l m e (a.counts l p ∙ ap (λ (h : Heading). total (alike fs h)) e ∙ sym (b.counts m q)) (same_faces l m p q e)

moved : (fs : List Fault) (ls ms : List Line) → Listed fs ls → Listed fs ms → (l : Line) → In l ls → In l ms
moved fs ls ms a b l p =
    let f = a.owned l p in
    let m = b.covers f.0 f.1 in
    subst (λ (x : Line). In x ms) (sym (one_line fs ls ms a b l m.0 p m.1 (sym f.2 ∙ sym m.2))) m.1

-- the faults determine the lines
pub determined : (fs : List Fault) (ls ms : List Line) → Listed fs ls → Listed fs ms → ls ≡ ms
determined fs ls ms a b =
    same_list (Before fs) (before_irreflexive fs) (before_transitive fs) ls ms a.ordered b.ordered (moved fs ls ms a b) (moved fs ms ls b a)
