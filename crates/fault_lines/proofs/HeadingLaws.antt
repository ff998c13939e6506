-- Laws of headings: the test of two headings says that they are one. No two severities share a rank, and no two rules.
use mathlib.Core.Path.{◌≡◌, refl, sym, ap, ap₂, subst, ◌∙◌}
use mathlib.Core.Bool.{true, false, ◌&&◌}
use mathlib.Core.List.{List, [], ◌∷◌}
use Prim.Native.Nat.{ℕ}
use lib.Dec.{eqb}
use borrow.Author.Tests.{eqb-true, eq-eqb}
use Rattle.num_float.proofs.Tests.{refuted, contrary, same_test, and_true, and_left, and_right}
use Rattle.fault_row.specs.Names.{severity_rank, rule_rank}
use Rattle.fault_row.specs.Fault.{Heading}
use Rattle.fault_row.proofs.NameLaws.{severity_rank_same, rule_rank_same}
use Rattle.fault_lines.specs.Line.{same_text, same_heading_of}

-- ---- texts
pub text_same : (s t : List ℕ) → same_text s t ≡ true → s ≡ t
unfolding same_text
text_same [] [] h = refl
text_same [] (b ∷ t) h = absurd (contrary h refl)
text_same (a ∷ s) [] h = absurd (contrary h refl)
text_same (a ∷ s) (b ∷ t) h =
    ap₂ ◌∷◌ (eqb-true a b (and_left (eqb a b) (same_text s t) h)) (text_same s t (and_right (eqb a b) (same_text s t) h))

pub text_self : (s : List ℕ) → same_text s s ≡ true
unfolding same_text
text_self [] = refl
text_self (a ∷ s) = and_true _ _ (eq-eqb a a refl) (text_self s)

pub text_on : (s t : List ℕ) → s ≡ t → same_text s t ≡ true
text_on s t e = subst (λ (x : List ℕ). same_text s x ≡ true) e (text_self s)

pub text_off : (s t : List ℕ) → (s ≡ t → ⊥) → same_text s t ≡ false
text_off s t h = refuted (same_text s t) (λ e. h (text_same s t e))

-- ---- headings
heading_path : (a b : Heading) → a.severity ≡ b.severity → a.rule ≡ b.rule → a.text ≡ b.text → a ≡ b
heading_path a b s r t = λ i. record { severity = s i; rule = r i; text = t i }

pub heading_same : (a b : Heading) → same_heading_of a b ≡ true → a ≡ b
unfolding same_heading_of
heading_same a b h =
    let s = eqb (severity_rank a.severity) (severity_rank b.severity) in
    let r = eqb (rule_rank a.rule) (rule_rank b.rule) in
    let t = same_text a.text b.text in
    let rest = and_right s (r && t) h in
    heading_path a b (severity_rank_same _ _ (eqb-true _ _ (and_left s (r && t) h))) (rule_rank_same _ _ (eqb-true _ _ (and_left r t rest)))
    (text_same _ _ (and_right r t rest))

pub heading_self : (a : Heading) → same_heading_of a a ≡ true
unfolding same_heading_of
heading_self a =
    and_true _ _ (eq-eqb (severity_rank a.severity) _ refl) (and_true _ _ (eq-eqb (rule_rank a.rule) _ refl) (text_self a.text))

pub heading_on : (a b : Heading) → a ≡ b → same_heading_of a b ≡ true
heading_on a b e = subst (λ (x : Heading). same_heading_of a x ≡ true) e (heading_self a)

pub heading_off : (a b : Heading) → (a ≡ b → ⊥) → same_heading_of a b ≡ false
heading_off a b h = refuted (same_heading_of a b) (λ e. h (heading_same a b e))

pub heading_symmetric : (a b : Heading) → same_heading_of a b ≡ same_heading_of b a
heading_symmetric a b =
    same_test (same_heading_of a b) (same_heading_of b a) (λ h. heading_on b a (sym (heading_same a b h))) (λ h. heading_on a b (sym (heading_same b a h)))

pub heading_transitive : (a b c : Heading) → same_heading_of a b ≡ true → same_heading_of b c ≡ true → same_heading_of a c ≡ true
heading_transitive a b c h k = heading_on a c (heading_same a b h ∙ heading_same b c k)

-- what is on one line, is on the same lines
pub heading_like : (a b c : Heading) → same_heading_of a b ≡ true → same_heading_of a c ≡ same_heading_of b c
heading_like a b c h = ap (λ (x : Heading). same_heading_of x c) (heading_same a b h)
