-- Laws of `Put`: how writers compose, and what the slice and the position then are.
use mathlib.Core.Path.{◌≡◌, refl, sym, ap, ◌∙◌, subst}
use mathlib.Core.List.{List, [], ◌∷◌, ◌++◌, append_assoc}
use Prim.Native.Nat.{ℕ, suc, ◌+◌, ◌-◌, ◌≤◌, ◌<◌, ◌^◌, min}
use native.Mathlib.Nat.{add-zero, zero-add}
use native.Mathlib.Numerals.{add-one}
use native.Mathlib.Decide.{dec_le}
use native.Mathlib.Omega.{arith}
use lib.ListN.{length, take, drop, set, get_or, length-append}
use lib.Seq.{sets, length-sets, sets-eq, set_out, take-suc, take-append_seam}
use borrow.Rule.Slice.PartMut.{put_mid, Post-is}
use Rattle.num_text.specs.Put.{over, advance, Put}

-- ---- the slice
pub over_append : (d : List ℕ) (at : ℕ) (p q : List ℕ) → over d at (p ++ q) ≡ over (over d at p) (at + length p) q
unfolding over
over_append d at [] q = ap (λ (k : ℕ). sets d k q) (sym (add-zero at))
over_append d at (b ∷ p) q = over_append (set d at b) (suc at) p q ∙ ap (λ (k : ℕ). sets (sets (set d at b) (suc at) p) k q) (omega arith)

-- past the end nothing is written
over_past : (d : List ℕ) (at : ℕ) (p : List ℕ) → length d ≤ at → over d at p ≡ d
unfolding over
over_past d at [] h = refl
over_past d at (b ∷ p) h =
    ap (λ (l : List ℕ). sets l (suc at) p) (set_out d at b h) ∙ over_past d (suc at) p (omega arith)

-- a position that has stopped is as good as the one that has not
over_advance : (d q : List ℕ) (at n : ℕ) → length d < 2 ^ 63 → over d (advance at n) q ≡ over d (at + n) q
unfolding advance
over_advance d q at n h = go (dec_le (at + n) (2 ^ 63))
  where
    go : Dec (at + n ≤ 2 ^ 63) → over d (at + min n (2 ^ 63 - at)) q ≡ over d (at + n) q
    go (yes k) = ap (λ (i : ℕ). over d i q) (omega arith)
    go (no k) = over_past d (at + min n (2 ^ 63 - at)) q (omega arith) ∙ sym (over_past d (at + n) q (omega arith))

-- ---- the position
advance_add : (at m n : ℕ) → advance (advance at m) n ≡ advance at (m + n)
unfolding advance
advance_add at m n = omega arith

-- ---- nothing, and one byte
pub put_none : (d : List ℕ) (at : ℕ) → length d < 2 ^ 63 → Put d at [] d at
unfolding over advance
put_none d at h = record { room = h; slice = refl; next = omega arith }

pub put_within : (d : List ℕ) (at b : ℕ) → length d < 2 ^ 63 → at < length d → Put d at (b ∷ []) (set d at b) (at + 1)
unfolding over advance
put_within d at b h i = record { room = h; slice = refl; next = omega arith }

pub put_beyond : (d : List ℕ) (at b r : ℕ) → length d < 2 ^ 63 → length d ≤ at → r ≡ advance at 1 → Put d at (b ∷ []) d r
unfolding over
put_beyond d at b r h i e = record { room = h; slice = sym (set_out d at b i); next = e }

-- ---- one writer after another
pub put_then : {d e f : List ℕ} {at r s : ℕ} (p q : List ℕ) → Put d at p e r → Put e r q f s → Put d at (p ++ q) f s
put_then {d} {e} {f} {at} {r} {s} p q a b =
    record {
      room = a.room;
      slice =
          b.slice
          ∙ ap (λ (i : ℕ). over e i q) a.next
          ∙ over_advance e q at (length p) b.room
          ∙ ap (λ (l : List ℕ). over l (at + length p) q) a.slice
          ∙ sym (over_append d at p q);
      next =
          b.next
          ∙ ap (λ (i : ℕ). advance i (length q)) a.next
          ∙ advance_add at (length p) (length q)
          ∙ ap (advance at) (sym (length-append p q));
    }

-- bytes that fit, copied
pub put_copied : (d s : List ℕ) (at : ℕ) → length d < 2 ^ 63 → at + length s ≤ length d → Put d at s (put_mid at (at + length s - at) d s) (at + length s)
unfolding over advance
put_copied d s at h k =
    record {
      room = h;
      slice =
          ap (λ (l : List ℕ). take at d ++ (s ++ l)) (Post-is at (at + length s) d (omega arith))
          ∙ sym (append_assoc (take at d) s (drop (at + length s) d))
          ∙ sym (sets-eq s d at k);
      next = omega arith;
    }

-- the same bytes in other words
pub put_same : {d e : List ℕ} {at r : ℕ} (p q : List ℕ) → p ≡ q → Put d at p e r → Put d at q e r
put_same {d} {e} {at} {r} p q x h = subst (λ (l : List ℕ). Put d at l e r) x h

-- one turn of a loop that writes s from its front
pub put_more : {d e f : List ℕ} {at r t : ℕ} (s : List ℕ) (i : ℕ) → i < length s → Put d at (take i s) e r → Put e r (get_or s i 0 ∷ []) f t
    → Put d at (take (i + 1) s) f t
put_more s i h a b = put_same _ _ (rw (add-one, take-suc s i 0 h)) (put_then (take i s) (get_or s i 0 ∷ []) a b)

-- ---- what a writer's caller learns
pub put_length : {d e : List ℕ} {at r : ℕ} (p : List ℕ) → Put d at p e r → length e ≡ length d
unfolding over
put_length {d} {e} {at} {r} p h = ap length h.slice ∙ length-sets d at p

-- the position counts the bytes, whatever the slice: writing into an empty one measures
pub put_measures_lem : {d e : List ℕ} {at r : ℕ} (p : List ℕ) → Put d at p e r → at + length p ≤ 2 ^ 63 → r ≡ at + length p
unfolding advance
put_measures_lem {d} {e} {at} {r} p h k = h.next ∙ go at (length p) k
  where
    go : (at n : ℕ) → at + n ≤ 2 ^ 63 → at + min n (2 ^ 63 - at) ≡ at + n
    go at n k = omega arith

-- a position that has not stopped has counted all bytes, and one that has is not past them
pub put_counted : {d e : List ℕ} {at r : ℕ} (p : List ℕ) → Put d at p e r → r < 2 ^ 63 → r ≡ at + length p
unfolding advance
put_counted {d} {e} {at} {r} p h k = go (length p) h.next
  where
    go : (n : ℕ) → r ≡ at + min n (2 ^ 63 - at) → r ≡ at + n
    go n e = omega arith

pub put_le : {d e : List ℕ} {at r : ℕ} (p : List ℕ) → Put d at p e r → r ≤ at + length p
unfolding advance
put_le {d} {e} {at} {r} p h = go (length p) h.next
  where
    go : (n : ℕ) → r ≡ at + min n (2 ^ 63 - at) → r ≤ at + n
    go n e = omega arith

-- where the bytes fit, they stand there, and all others are as before
pub put_fits : {d e : List ℕ} {at r : ℕ} (p : List ℕ) → Put d at p e r → at + length p ≤ length d → e ≡ take at d ++ p ++ drop (at + length p) d
unfolding over
put_fits {d} {e} {at} {r} p h k = h.slice ∙ sets-eq p d at k

-- the same from the start of the slice
pub put_front : {d e : List ℕ} {r : ℕ} (p : List ℕ) → Put d 0 p e r → length p ≤ length d → e ≡ p ++ drop (length p) d
put_front {d} {e} {r} p h k = put_fits p h (omega arith) ∙ ap (λ (i : ℕ). p ++ drop i d) (zero-add (length p))

-- and those first bytes, read back
pub put_taken : {d e : List ℕ} {r : ℕ} (p : List ℕ) → Put d 0 p e r → length p ≤ length d → take (length p) e ≡ p
put_taken {d} {e} {r} p h k = ap (take (length p)) (put_front p h k) ∙ take-append_seam p (drop (length p) d)
