-- `goes_round_of` by its members: it says that there are some and that each is followed by one, and so depends on which directions there are, and not
-- on their order or on how often each stands in the list.
use mathlib.Core.Path.{◌≡◌, refl, sym, subst}
use mathlib.Core.Bool.{Bool, true, false, ◌||◌}
use mathlib.Core.List.Memᴰ
use mathlib.Core.List.{List, [], ◌∷◌, Memᴰ}
use Rattle.num_float.proofs.Tests.{contrary, same_test, and_true, and_left, and_right}
use Rattle.round_hole.specs.declared.direction.Direction.{Direction}
use Rattle.round_hole.specs.Direction.{follows, some_follows, all_followed, goes_round_of}
use Rattle.round_hole.specs.GoesRound.{Followed, GoesRound}
use Rattle.round_hole.proofs.RoundLaws.{or_left, or_right}

-- ---- some direction follows a
followed_later : {b : Direction} {all : List Direction} {a : Direction} → Followed all a → Followed (b ∷ all) a
followed_later f = record { next = f.next; among = Memᴰ.tail f.among; is = f.is }

pub some_says : (a : Direction) (all : List Direction) → some_follows a all ≡ true → Followed all a
unfolding some_follows
some_says a [] h = absurd (contrary h refl)
some_says a (b ∷ all) h = go (follows a b) refl h (λ k. some_says a all k)
  where
    go : (t : Bool) → follows a b ≡ t → (t || some_follows a all) ≡ true → (some_follows a all ≡ true → Followed all a) → Followed (b ∷ all) a
    go true is h later = record { next = b; among = Memᴰ.head refl; is = is }
    go false is h later = followed_later (later h)

pub says_some : (a : Direction) {b : Direction} {all : List Direction} → Memᴰ b all → follows a b ≡ true → some_follows a all ≡ true
unfolding some_follows
says_some a (Memᴰ.head {x = x} {xs = xs} e) h = or_left (follows a x) (some_follows a xs) (subst (λ (d : Direction). follows a d ≡ true) e h)
says_some a (Memᴰ.tail {x = x} {xs = xs} m) h = or_right (follows a x) (some_follows a xs) (says_some a m h)

-- ---- each direction is followed
all_says : {a : Direction} {l : List Direction} (all : List Direction) → Memᴰ a l → all_followed l all ≡ true → some_follows a all ≡ true
unfolding all_followed
all_says all (Memᴰ.head {x = x} {xs = xs} e) h =
    subst (λ (d : Direction). some_follows d all ≡ true) (sym e) (and_left (some_follows x all) (all_followed xs all) h)
all_says all (Memᴰ.tail {x = x} {xs = xs} m) h = all_says all m (and_right (some_follows x all) (all_followed xs all) h)

says_all : (l all : List Direction) → ((a : Direction) → Memᴰ a l → some_follows a all ≡ true) → all_followed l all ≡ true
unfolding all_followed
says_all [] all each = refl
says_all (a ∷ l) all each =
    and_true (some_follows a all) (all_followed l all) (each a (Memᴰ.head refl)) (says_all l all (λ b m. each b (Memᴰ.tail m)))

-- ---- the laws
pub round_says : (all : List Direction) → goes_round_of all ≡ true → GoesRound all
unfolding goes_round_of
round_says [] h = absurd (contrary h refl)
round_says (b ∷ l) h = record { one = b; there = Memᴰ.head refl; each = λ a m. some_says a (b ∷ l) (all_says (b ∷ l) m h) }

pub says_round : (all : List Direction) → GoesRound all → goes_round_of all ≡ true
unfolding goes_round_of
says_round [] g = absurd (Memᴰ.not-nil g.there)
says_round (b ∷ l) g = says_all (b ∷ l) (b ∷ l) (λ a m. let f = g.each a m in says_some a f.among f.is)

-- the same directions in another order, or more often, give the same answer
pub round_same : (l m : List Direction) → ((a : Direction) → Memᴰ a l → Memᴰ a m) → ((a : Direction) → Memᴰ a m → Memᴰ a l)
    → goes_round_of l ≡ goes_round_of m
round_same l m to back =
    same_test (goes_round_of l) (goes_round_of m) (λ h. says_round m (move l m to back (round_says l h))) (λ h. says_round l (move m l back to (round_says m h)))
  where
    move : (l m : List Direction) → ((a : Direction) → Memᴰ a l → Memᴰ a m) → ((a : Direction) → Memᴰ a m → Memᴰ a l)
        → GoesRound l → GoesRound m
    move l m to back g = record {
      one = g.one;
      there = to g.one g.there;
      each = λ a h. let f = g.each a (back a h) in record { next = f.next; among = to f.next f.among; is = f.is };
    }
