-- Laws of `unpacked`: a byte alone, the bytes one by one, and writing them so.
use mathlib.Core.Path.{◌≡◌, refl, sym, ap, ◌∙◌}
use mathlib.Core.Bool.{Bool, true, false, not, ◌&&◌, cond}
use mathlib.Core.List.{List, [], ◌∷◌, ◌++◌, append-nil}
use Prim.Native.Nat.{ℕ, zero, suc, ◌+◌, ◌≤◌, ◌<◌, ◌^◌}
use native.Mathlib.Numerals.{add-one}
use lib.Dec.{eqb, eqb-suc-zero}
use lib.ListN.{length, drop, get_or, replicate, drop_of_length-le}
use lib.Seq.{drop-cons}
use Rattle.num_text.specs.Put.{Put}
use Rattle.num_text.specs.Text.{Adds}
use Rattle.num_text.specs.declared.text.Text.{Text}
use Rattle.num_text.proofs.TextLaws.{adds_none, adds_same, adds_then}
use Rattle.replay_packed.specs.Packed.{unpacked}

-- ---- a byte alone
pub alone_count : (z : Bool) (b : ℕ) → z ≡ true → replicate b 0 ≡ unpacked z (b ∷ [])
alone_count z b e = rw e (sym (append-nil (replicate b 0)))

pub alone_zero : (z : Bool) (b : ℕ) → z ≡ false → b ≡ 0 → [] ≡ unpacked z (b ∷ [])
alone_zero z b e h = rw (e, h)

pub alone_other : (z : Bool) (b : ℕ) → z ≡ false → (b ≡ 0 → ⊥) → b ∷ [] ≡ unpacked z (b ∷ [])
alone_other z zero e h = absurd (h refl)
alone_other z (suc b) e h = rw (e, eqb-suc-zero b)

-- ---- a byte, then the others
unpacked_cons : (z : Bool) (b : ℕ) (bs : List ℕ) → unpacked z (b ∷ bs) ≡ unpacked z (b ∷ []) ++ unpacked (not z && eqb b 0) bs
unpacked_cons true b bs = ap (λ (l : List ℕ). l ++ unpacked false bs) (sym (append-nil (replicate b 0)))
unpacked_cons false b bs = go (eqb b 0)
  where
    go : (t : Bool) → cond t (unpacked true bs) (b ∷ unpacked false bs) ≡ cond t [] (b ∷ []) ++ unpacked t bs
    go true = refl
    go false = refl

unpacked_drop : (z : Bool) (l : List ℕ) (i : ℕ) → i < length l
    → unpacked z (get_or l i 0 ∷ []) ++ unpacked (not z && eqb (get_or l i 0) 0) (drop (i + 1) l) ≡ unpacked z (drop i l)
unpacked_drop z l i h = rw add-one (sym (ap (unpacked z) (drop-cons l i 0 h) ∙ unpacked_cons z (get_or l i 0) (drop (suc i) l)))

-- ---- writing
-- one turn of a loop over the bytes: byte i, then those after it
pub adds_turn : {d e f : Text} (z : Bool) (l : List ℕ) (i : ℕ) → i < length l
    → Adds d (unpacked z (get_or l i 0 ∷ [])) e
    → Adds e (unpacked (not z && eqb (get_or l i 0) 0) (drop (i + 1) l)) f
    → Adds d (unpacked z (drop i l)) f
adds_turn z l i h a b = adds_same _ _ (unpacked_drop z l i h) (adds_then _ _ a b)

-- after the last byte nothing is left to write
pub adds_end : {d : Text} (z : Bool) (l : List ℕ) (i : ℕ) → length l ≤ i → Adds d (unpacked z (drop i l)) d
adds_end {d} z l i h = adds_same [] (unpacked z (drop i l)) (sym (ap (unpacked z) (drop_of_length-le l h))) (adds_none d)
