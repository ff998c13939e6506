-- Laws of `Adds`: how writers of a text compose.
use mathlib.Core.Path.{◌≡◌, refl, ◌∙◌, subst}
use mathlib.Core.List.{List, [], ◌∷◌, ◌++◌}
use Prim.Native.Nat.{ℕ, ◌+◌, ◌<◌, ◌^◌}
use native.Mathlib.Numerals.{add-one}
use lib.ListN.{length, take, get_or}
use Rattle.num_text.specs.Put.{Put}
use Rattle.num_text.specs.Text.{Adds}
use Rattle.num_text.specs.declared.text.Text.{Text}
use Rattle.num_text.proofs.PutLaws.{put_none, put_then, put_same, put_more}

-- nothing
pub adds_none : (a : Text) → Adds a [] a
adds_none a = record { put = put_none _ _ a.room; same_slice = refl }

-- one writer after another
pub adds_then : {a b c : Text} (p q : List ℕ) → Adds a p b → Adds b q c → Adds a (p ++ q) c
adds_then p q x y = record { put = put_then p q x.put y.put; same_slice = y.same_slice ∙ x.same_slice }

-- the same bytes in other words
pub adds_same : {a b : Text} (p q : List ℕ) → p ≡ q → Adds a p b → Adds a q b
adds_same {a} {b} p q e x = subst (λ (l : List ℕ). Adds a l b) e x

-- one turn of a loop that writes s from its front
pub adds_more : {a b c : Text} (s : List ℕ) (i : ℕ) → i < length s → Adds a (take i s) b → Adds b (get_or s i 0 ∷ []) c → Adds a (take (i + 1) s) c
adds_more s i h x y = record { put = put_more s i h x.put y.put; same_slice = y.same_slice ∙ x.same_slice }
