-- Face ids sorted, each once: `sorted_once` gives them, and no other list has them.
use mathlib.Core.Path.{◌≡◌, refl, sym, subst, ◌∙◌}
use mathlib.Core.Bool.{Bool, true, false, cond}
use mathlib.Core.List.{List, [], ◌∷◌}
use mathlib.Core.Logic.{◌⊎◌, inl, inr, ⊎_elim}
use Rattle.num_float.proofs.Tests.{contrary}
use Rattle.file_part.specs.declared.read.FaceId.{FaceId}
use Rattle.solid_ids.specs.Ids.{id_before}
use Rattle.solid_ids.proofs.IdLaws.{id_irreflexive, id_transitive, id_total}
use Rattle.fault_lines.specs.Member.{In, Ordered}
use Rattle.fault_lines.specs.Ids.{Lower, Once, insert, sorted_once}
use Rattle.fault_lines.proofs.MemberLaws.{same_list}

-- no id is lower than itself
pub lower_irreflexive : (a : FaceId) → Lower a a → ⊥
lower_irreflexive a h = contrary h (id_irreflexive a)

-- ---- insert
insert_in : (k a : FaceId) (bs : List FaceId) → In k (insert a bs) → (k ≡ a) ⊎ In k bs
unfolding In insert
insert_in k a [] m = m
insert_in k a (b ∷ bs) m = go (insert_in k a bs) (id_before a b) (id_before b a) m
  where
    go : (In k (insert a bs) → (k ≡ a) ⊎ In k bs) → (p q : Bool) → In k (cond p (a ∷ b ∷ bs) (cond q (b ∷ insert a bs) (b ∷ bs))) →
        (k ≡ a) ⊎ ((k ≡ b) ⊎ In k bs)
    go more true q m = m
    go more false true (inl e) = inr (inl e)
    go more false true (inr n) = ⊎_elim (λ (e : k ≡ a). inl e) (λ (x : In k bs). inr (inr x)) (more n)
    go more false false m = inr m

in_insert : (k a : FaceId) (bs : List FaceId) → (k ≡ a) ⊎ In k bs → In k (insert a bs)
unfolding In insert
in_insert k a [] m = m
in_insert k a (b ∷ bs) m = go (in_insert k a bs) (id_before a b) refl (id_before b a) refl m
  where
    go : ((k ≡ a) ⊎ In k bs → In k (insert a bs)) → (p : Bool) → id_before a b ≡ p → (q : Bool) → id_before b a ≡ q → (k ≡ a) ⊎ ((k ≡ b) ⊎ In k bs) →
        In k (cond p (a ∷ b ∷ bs) (cond q (b ∷ insert a bs) (b ∷ bs)))
    go more true e q f m = m
    go more false e true f (inl x) = inr (more (inl x))
    go more false e true f (inr (inl x)) = inl x
    go more false e true f (inr (inr x)) = inr (more (inr x))
    go more false e false f (inl x) = inl (x ∙ id_total a b e f)
    go more false e false f (inr x) = x

insert_rising : (a : FaceId) (bs : List FaceId) → Ordered Lower bs → Ordered Lower (insert a bs)
unfolding In Ordered insert
insert_rising a [] o = ((λ y m. absurd m), tt)
insert_rising a (b ∷ bs) o = go (insert_rising a bs o.1) (id_before a b) refl (id_before b a) refl
  where
    go : Ordered Lower (insert a bs) → (p : Bool) → id_before a b ≡ p → (q : Bool) → id_before b a ≡ q →
        Ordered Lower (cond p (a ∷ b ∷ bs) (cond q (b ∷ insert a bs) (b ∷ bs)))
    go more true e q f = ((λ y m. ⊎_elim (λ (x : y ≡ b). subst (Lower a) (sym x) e) (λ (x : In y bs). id_transitive a b y e (o.0 y x)) m), o)
    go more false e true f =
        ((λ y m. ⊎_elim (λ (x : y ≡ a). subst (Lower b) (sym x) f) (λ (x : In y bs). o.0 y x) (insert_in y a bs m)), more)
    go more false e false f = o

-- ---- sorted_once
sorted_rising : (xs : List FaceId) → Ordered Lower (sorted_once xs)
unfolding sorted_once Ordered
sorted_rising [] = tt
sorted_rising (x ∷ xs) = insert_rising x (sorted_once xs) (sorted_rising xs)

sorted_sound : (xs : List FaceId) (k : FaceId) → In k (sorted_once xs) → In k xs
unfolding sorted_once In
sorted_sound [] k m = m
sorted_sound (x ∷ xs) k m = ⊎_elim (λ (e : k ≡ x). inl e) (λ (n : In k (sorted_once xs)). inr (sorted_sound xs k n)) (insert_in k x (sorted_once xs) m)

sorted_whole : (xs : List FaceId) (k : FaceId) → In k xs → In k (sorted_once xs)
unfolding sorted_once In
sorted_whole [] k m = m
sorted_whole (x ∷ xs) k (inl e) = in_insert k x (sorted_once xs) (inl e)
sorted_whole (x ∷ xs) k (inr m) = in_insert k x (sorted_once xs) (inr (sorted_whole xs k m))

pub sorted_once_lem : (xs : List FaceId) → Once xs (sorted_once xs)
sorted_once_lem xs = record { rising = sorted_rising xs; sound = sorted_sound xs; whole = sorted_whole xs }

pub once_only : (xs ys zs : List FaceId) → Once xs ys → Once xs zs → ys ≡ zs
once_only xs ys zs a b =
    same_list Lower lower_irreflexive id_transitive ys zs a.rising b.rising (λ k m. b.whole k (a.sound k m)) (λ k m. a.whole k (b.sound k m))
