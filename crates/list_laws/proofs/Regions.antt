-- The parts of a list when one of them is put back: what a slice holds after one of its parts was lent and changed.
use Prim.Native.Nat.{ℕ, suc, ◌≤◌, ◌<◌, ◌+◌, ◌-◌}
use native.Mathlib.Numerals.{add-one}
use native.Mathlib.Omega.{arith}
use mathlib.Core.Path.{◌≡◌, sym, ap, ◌∙◌, subst}
use mathlib.Core.Logic.{◌⊎◌, inl, inr}
use mathlib.Core.List.{List, [], ◌∷◌, ◌++◌}
use lib.ListN.{length, get_or, set, length-set, take, drop, length-drop, take-append-drop, get_or-append}
use lib.Seq.{drop-cons, take-suc, ext_get_or, get_or-set_same, get_or-set_other, length-take-le, take_at, drop_at, take-append-le, drop-append-le, drop-drop, get_or-take, get_or-drop, get_or-append-add}
use borrow.Rule.Slice.PartMut.{put_mid, drop_put, mid_len, same_len_mid}
use Rattle.num_float.proofs.Tests.{lt_or_ge}
use Rattle.list_laws.specs.Region.{part}

pub part_length : {X : Type 0} (a e : ℕ) (s : List X) → e ≤ length s → length (part a e s) ≡ e - a
part_length a e s h = mid_len a e s h

-- the whole is as long as it was
pub put_length : {X : Type 0} (a e : ℕ) (s x : List X) → e ≤ length s → length x ≡ e - a → length (put_mid a (e - a) s x) ≡ length s
put_length a e s x h l = same_len_mid a (e - a) s x (l ∙ sym (part_length a e s h))

-- the part that was put
pub part_put : {X : Type 0} (a e : ℕ) (s x : List X) → a ≤ length s → length x ≡ e - a → part a e (put_mid a (e - a) s x) ≡ x
part_put a e s x h l =
    ap (take (e - a)) (drop_at (take a s) (x ++ drop (e - a) (drop a s)) a (length-take-le a s h)) ∙ take_at x (drop (e - a) (drop a s)) (e - a) l

-- a part of the front
front : {X : Type 0} (b f : ℕ) (u z : List X) → b ≤ f → f ≤ length u → part b f (u ++ z) ≡ part b f u
front b f u z g h =
    ap (take (f - b)) (drop-append-le b u z (omega (arith, g, h))) ∙ take-append-le (f - b) (drop b u) z (let e = length-drop b u in omega (arith, e, g, h))

-- a part that ends before the put
pub part_before : {X : Type 0} (a k b f : ℕ) (s x : List X) → a ≤ length s → b ≤ f → f ≤ a → part b f (put_mid a k s x) ≡ part b f s
part_before a k b f s x h g l =
    let t : f ≤ length (take a s) = let e = length-take-le a s h in omega (arith, e, l) in
    front b f (take a s) (x ++ drop k (drop a s)) g t ∙ sym (front b f (take a s) (drop a s) g t) ∙ ap (part b f) (take-append-drop a s)

-- a part that starts after it
pub part_after : {X : Type 0} (a e b f : ℕ) (s x : List X) → a ≤ e → e ≤ length s → length x ≡ e - a → e ≤ b → part b f (put_mid a (e - a) s x) ≡ part b f s
part_after a e b f s x g h l eb = ap (take (f - b)) (split a e b (put_mid a (e - a) s x) eb ∙ ap (drop (b - e)) (drop_put a e s x g h l) ∙ sym (split a e b s eb))
  where
    split : {X : Type 0} (a e b : ℕ) (t : List X) → e ≤ b → drop b t ≡ drop (b - e) (drop e t)
    split a e b t h = let q : b ≡ e + (b - e) = omega (arith, h) in ap (λ (k : ℕ). drop k t) q ∙ sym (drop-drop (b - e) e t)

-- ---- single places
pub put_before : {X : Type 0} (a k : ℕ) (s x : List X) (d : X) → a ≤ length s → (i : ℕ) → i < a → get_or (put_mid a k s x) i d ≡ get_or s i d
put_before a k s x d h i l =
    get_or-append (take a s) (x ++ drop k (drop a s)) d i (let e = length-take-le a s h in omega (arith, e, l)) ∙ get_or-take a s i d l

pub put_inside : {X : Type 0} (a k : ℕ) (s x : List X) (d : X) → a ≤ length s → (i : ℕ) → a ≤ i → i < a + length x → get_or (put_mid a k s x) i d ≡ get_or x (i - a) d
put_inside a k s x d h i g l =
    let place : i ≡ length (take a s) + (i - a) = (let e = length-take-le a s h in omega (arith, e, g)) in
    ap (λ (j : ℕ). get_or (put_mid a k s x) j d) place
    ∙ get_or-append-add (take a s) (x ++ drop k (drop a s)) (i - a) d
    ∙ get_or-append x (drop k (drop a s)) d (i - a) (omega (arith, g, l))

pub put_after : {X : Type 0} (a e : ℕ) (s x : List X) (d : X) → a ≤ e → e ≤ length s → length x ≡ e - a → (i : ℕ) → e ≤ i → get_or (put_mid a (e - a) s x) i d ≡ get_or s i d
put_after {X} a e s x d g h l i r =
    let place : i ≡ e + (i - e) = omega (arith, r) in
    let new = put_mid a (e - a) s x in
    ap (λ (k : ℕ). get_or new k d) place
    ∙ sym (get_or-drop e new (i - e) d)
    ∙ ap (λ (z : List X). get_or z (i - e) d) (drop_put a e s x g h l)
    ∙ get_or-drop e s (i - e) d
    ∙ ap (λ (k : ℕ). get_or s k d) (sym place)

-- a place of a part
pub part_place : {X : Type 0} (a e : ℕ) (s : List X) (d : X) (i : ℕ) → i < e - a → get_or (part a e s) i d ≡ get_or s (a + i) d
part_place a e s d i l = get_or-take (e - a) (drop a s) i d l ∙ get_or-drop a s i d

-- one store into a part
pub part_set : {X : Type 0} (a e : ℕ) (s : List X) (i : ℕ) (x : X) → i < e - a → e ≤ length s → part a e (set s (a + i) x) ≡ set (part a e s) i x
part_set a e s i x low room =
    let long : length (part a e (set s (a + i) x)) ≡ e - a = part_length a e (set s (a + i) x) (omega (arith, room, length-set s (a + i) x)) in
    let same : length (set (part a e s) i x) ≡ e - a = length-set (part a e s) i x ∙ part_length a e s room in
    ext_get_or x (part a e (set s (a + i) x)) (set (part a e s) i x) (long ∙ sym same)
    (λ j h. part_place a e (set s (a + i) x) x j (omega (arith, h, long)) ∙ go j (omega (arith, h, long)) (lt_or_ge j i) (lt_or_ge i j))
  where
    other : (j : ℕ) → j < e - a → (j ≡ i → ⊥) → get_or (set s (a + i) x) (a + j) x ≡ get_or (set (part a e s) i x) j x
    other j h ne =
        get_or-set_other s (a + i) (a + j) x x (λ q. ne (omega (arith, q))) ∙ sym (part_place a e s x j h) ∙ sym (get_or-set_other (part a e s) i j x x ne)

    go : (j : ℕ) → j < e - a → (j < i) ⊎ (i ≤ j) → (i < j) ⊎ (j ≤ i) → get_or (set s (a + i) x) (a + j) x ≡ get_or (set (part a e s) i x) j x
    go j h (inl below) k = other j h (λ q. omega (arith, q, below))
    go j h (inr l) (inl above) = other j h (λ q. omega (arith, q, above))
    go j h (inr l) (inr g) =
        let here : i ≡ j = omega (arith, l, g) in
        subst (λ (k : ℕ). get_or (set s (a + i) x) (a + k) x ≡ get_or (set (part a e s) i x) k x) here
        (get_or-set_same s (a + i) x x (omega (arith, low, room)) ∙ sym (get_or-set_same (part a e s) i x x (omega (arith, low, part_length a e s room))))

-- one element more
pub part_more : {X : Type 0} (s : List X) (d : X) (a e : ℕ) → a ≤ e → e < length s → part a (e + 1) s ≡ part a e s ++ (get_or s e d ∷ [])
part_more {X} s d a e l h =
    let next : e + 1 - a ≡ suc (e - a) = omega (arith, l) in
    let here : a + (e - a) ≡ e = omega (arith, l) in
    ap (λ (k : ℕ). take k (drop a s)) next
    ∙ take-suc (drop a s) (e - a) d (omega (arith, length-drop a s, l, h))
    ∙ ap (λ (x : X). part a e s ++ (x ∷ [])) (get_or-drop a s (e - a) d ∙ ap (λ (k : ℕ). get_or s k d) here)

-- the first element, and the rest
pub part_first : {X : Type 0} (s : List X) (d : X) (a e : ℕ) → a < e → e ≤ length s → part a e s ≡ get_or s a d ∷ part (a + 1) e s
part_first s d a e l h =
    let size : e - a ≡ suc (e - (a + 1)) = omega (arith, l) in
    ap (λ (k : ℕ). take k (drop a s)) size
    ∙ ap (take (suc (e - (a + 1)))) (drop-cons s a d (omega (arith, l, h)))
    ∙ ap (λ (k : ℕ). get_or s a d ∷ take (e - (a + 1)) (drop k s)) (sym (add-one a))
