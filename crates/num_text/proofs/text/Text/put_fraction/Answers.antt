-- `num_text::text::Text::put_fraction` meets its contract: what is left of the fraction is the front of its bytes.
use mathlib.Core.Path.{◌≡◌, sym, ap, ◌∙◌, subst}
use mathlib.Core.List.{List, [], ◌∷◌}
use Prim.Native.Nat.{ℕ, ◌+◌, ◌/◌, ◌%◌, ◌≤◌}
use native.Mathlib.Nat.{div-div-eq-div-mul}
use lib.ListN.{take}
use lib.Seq.{length-take-le}
use borrow.Author.Rules.{rules}
use Rattle.num_text.specs.Number.{positional, digits, after_point, trim}
use Rattle.num_text.proofs.NumberLaws.{fraction_front, fraction_le}
use Rattle.num_text.proofs.TextLaws.{adds_same}
use Rattle.num_text.proofs.text.Text.put_fraction.Goals as goal

-- the digits, as the code finds them
abbrev three : ℕ → List ℕ
three n = (48 + n / 100 % 10) ∷ (48 + n / 10 % 10) ∷ (48 + n % 10) ∷ []

three_is : (n : ℕ) → three n ≡ digits 3 n
unfolding positional
three_is n = ap (λ (k : ℕ). (48 + k % 10) ∷ (48 + n / 10 % 10) ∷ (48 + n % 10) ∷ []) (sym (div-div-eq-div-mul n 10 10))

pub slice_bounds-text-end : goal.slice_bounds-text-end
slice_bounds-text-end c =
    let room : c.fraction_length.result ≤ 4 = subst (λ (k : ℕ). k ≤ 4) (sym c.fraction_length.ensures) (fraction_le (three c.args.n)) in room

pub slice_bounds-put_bytes-end : goal.slice_bounds-put_bytes-end
slice_bounds-put_bytes-end c =
    let room : c.fraction_length.result ≤ 4 = subst (λ (k : ℕ). k ≤ 4) (sym c.fraction_length.ensures) (fraction_le (three c.args.n)) in sym (length-take-le _ _ room)

pub returns : goal.returns
returns c =
    let n = c.args.n in
    adds_same _ _
    (ap (λ (k : ℕ). take k (46 ∷ three n)) c.fraction_length.ensures
    ∙ fraction_front (three n)
    ∙ ap (λ (l : List ℕ). after_point (trim l)) (three_is n))
    c.put_bytes.ensures
