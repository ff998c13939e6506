-- Prefixes of a list when a part of it is put back.
use Prim.Native.Nat.{ℕ, ◌≤◌, ◌+◌, ◌-◌}
use native.Mathlib.Omega.{arith}
use mathlib.Core.Path.{◌≡◌, sym, ap, ◌∙◌}
use mathlib.Core.List.{List, ◌++◌}
use lib.ListN.{length, take, drop, length-append, length-drop}
use lib.Seq.{take_at, drop_at, drop-drop, take-take}
use borrow.Rule.Slice.PartMut.{put_mid, take_put}
use Rattle.list_laws.specs.Region.{part}

-- ---- a prefix that was put
module _ (p : ℕ) (s x : List ℕ) (h : p ≤ length s) (l : length x ≡ p) where
  pub pre_length : length (x ++ drop p s) ≡ length s
  pre_length = length-append x (drop p s) ∙ (let e = length-drop p s in omega arith)

  pub pre_take : take p (x ++ drop p s) ≡ x
  pre_take = take_at x (drop p s) p l

  pre_drop : (b : ℕ) → p ≤ b → drop b (x ++ drop p s) ≡ drop b s
  pre_drop b g = split (x ++ drop p s) ∙ ap (drop (b - p)) (drop_at x (drop p s) p l) ∙ sym (split s)
    where
      split : (t : List ℕ) → drop b t ≡ drop (b - p) (drop p t)
      split t = let q : b ≡ p + (b - p) = omega arith in ap (λ (k : ℕ). drop k t) q ∙ sym (drop-drop (b - p) p t)

  pub pre_part : (b f : ℕ) → p ≤ b → part b f (x ++ drop p s) ≡ part b f s
  pre_part b f g = ap (take (f - b)) (pre_drop b g)

-- a prefix before the put
pub take_before : (a k p : ℕ) (s x : List ℕ) → a ≤ length s → p ≤ a → take p (put_mid a k s x) ≡ take p s
take_before a k p s x h g =
    sym (take-take p a (put_mid a k s x) g) ∙ ap (take p) (take_put a k s x h) ∙ take-take p a s g
