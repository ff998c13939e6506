-- Directions that go round: the directions of cells, the search for a follower in any order, and what `goes_round_of` says.
use mathlib.Core.Path.{◌≡◌, refl, sym, ap, ◌∙◌, subst}
use mathlib.Core.Bool.{Bool, true, false, ◌&&◌, ◌||◌}
use mathlib.Core.List.{List, [], ◌∷◌, ◌++◌}
use mathlib.Core.Logic.{◌⊎◌, inl, inr}
use Prim.Native.Nat.{ℕ, zero, suc, ◌+◌, ◌≤◌, ◌<◌}
use native.Mathlib.Numerals.{add-one}
use native.Mathlib.Omega.{arith}
use lib.Ieee.{Float, nan}
use lib.ListN.{get_or}
use Rattle.num_float.proofs.Tests.{contrary, and_true, and_false_left, and_false_right, lt_or_ge}
use Rattle.round_hole.specs.declared.direction.Direction.{Direction}
use Rattle.round_hole.specs.Direction.{follows, some_follows, all_followed, goes_round_of}
use Rattle.round_hole.specs.Work.{Packable, pack_of, unpack_of, direction_at, directions_in, Found, None, SomeBetween, TrueIfFound}
use Rattle.round_hole.proofs.CellLaws.{unpack_pack}

-- ---- one direction more at the end of a list
or_assoc : (a b c : Bool) → ((a || b) || c) ≡ (a || (b || c))
or_assoc true b c = refl
or_assoc false b c = refl

and_assoc : (a b c : Bool) → ((a && b) && c) ≡ (a && (b && c))
and_assoc true b c = refl
and_assoc false b c = refl

or_none : (a : Bool) → (a || false) ≡ a
or_none true = refl
or_none false = refl

and_all : (a : Bool) → (a && true) ≡ a
and_all true = refl
and_all false = refl

some_last : (a : Direction) (l : List Direction) (b : Direction) → some_follows a (l ++ (b ∷ [])) ≡ (some_follows a l || follows a b)
unfolding some_follows
some_last a [] b = or_none (follows a b)
some_last a (x ∷ l) b = ap (λ (t : Bool). follows a x || t) (some_last a l b) ∙ sym (or_assoc (follows a x) (some_follows a l) (follows a b))

all_last : (l : List Direction) (a : Direction) (all : List Direction) → all_followed (l ++ (a ∷ [])) all ≡ (all_followed l all && some_follows a all)
unfolding all_followed
all_last [] a all = and_all (some_follows a all)
all_last (x ∷ l) a all =
    ap (λ (t : Bool). some_follows x all && t) (all_last l a all)
    ∙ sym (and_assoc (some_follows x all) (all_followed l all) (some_follows a all))

pub or_left : (a b : Bool) → a ≡ true → (a || b) ≡ true
or_left true b h = refl
or_left false b h = absurd (contrary h refl)

pub or_right : (a b : Bool) → b ≡ true → (a || b) ≡ true
or_right true b h = refl
or_right false b h = h

or_false : (a b : Bool) → a ≡ false → b ≡ false → (a || b) ≡ false
or_false true b h k = h
or_false false b h k = k

-- ---- the directions of the first n cells
module _ (cells : List Float) where
  pub directions_none : directions_in 0 cells ≡ []
  unfolding directions_in
  directions_none = refl

  directions_suc : (n : ℕ) → directions_in (suc n) cells ≡ directions_in n cells ++ (direction_at cells n ∷ [])
  unfolding directions_in
  directions_suc n = refl

  pub directions_more : (n : ℕ) → directions_in (n + 1) cells ≡ directions_in n cells ++ (direction_at cells n ∷ [])
  directions_more n = rw (add-one, directions_suc n)

  -- after a direction was packed into the next cell
  pub directions_packed : (n : ℕ) (d : Direction) → Packable d → get_or cells n nan ≡ pack_of d → directions_in (n + 1) cells ≡ directions_in n cells ++ (d ∷ [])
  unfolding direction_at
  directions_packed n d p is =
      directions_more n ∙ ap (λ (x : Direction). directions_in n cells ++ (x ∷ [])) (ap unpack_of is ∙ unpack_pack d p)

-- they depend on these cells alone
pub directions_same : (n : ℕ) (xs ys : List Float) → ((i : ℕ) → i < n → get_or xs i nan ≡ get_or ys i nan) → directions_in n xs ≡ directions_in n ys
unfolding directions_in direction_at
directions_same zero xs ys h = refl
directions_same (suc n) xs ys h =
    ap (λ (l : List Direction). l ++ (unpack_of (get_or xs n nan) ∷ [])) (directions_same n xs ys (λ i l. h i (omega (arith, l))))
    ∙ ap (λ (x : Float). directions_in n ys ++ (unpack_of x ∷ [])) (h n (omega arith))

-- ---- some direction of the first n cells follows a: found at any place, or at none
module _ (cells : List Float) (a : Direction) where
  pub some_found : (n i : ℕ) → i < n → follows a (direction_at cells i) ≡ true → some_follows a (directions_in n cells) ≡ true
  some_found zero i l h = absurd (omega (arith, l))
  some_found (suc n) i l h =
      ap (some_follows a) (directions_suc cells n) ∙ some_last a (directions_in n cells) (direction_at cells n)
      ∙ go (λ below. some_found n i below h) (lt_or_ge i n)
    where
      go : (i < n → some_follows a (directions_in n cells) ≡ true) → (i < n) ⊎ (n ≤ i)
          → (some_follows a (directions_in n cells) || follows a (direction_at cells n)) ≡ true
      go before (inl below) = or_left _ _ (before below)
      go before (inr above) =
          let same : i ≡ n = omega (arith, l, above) in
          or_right (some_follows a (directions_in n cells)) _ (subst (λ (k : ℕ). follows a (direction_at cells k) ≡ true) same h)

  pub some_none : (n : ℕ) → ((i : ℕ) → i < n → follows a (direction_at cells i) ≡ false) → some_follows a (directions_in n cells) ≡ false
  unfolding some_follows directions_in
  some_none zero h = refl
  some_none (suc n) h =
      some_last a (directions_in n cells) (direction_at cells n)
      ∙ or_false _ _ (some_none n (λ i l. h i (omega (arith, l)))) (h n (omega arith))

  -- ---- the turns of `some_between`
  pub none_start : (lo : ℕ) → None cells a lo lo
  none_start lo = record { fails = λ i from before. absurd (omega (arith, from, before)) }

  -- b is the direction in cell i, and t tells whether it follows a
  module _ (i : ℕ) (b : Direction) (is : b ≡ unpack_of (get_or cells i nan)) (t : Bool) (tells : t ≡ follows a b) where
    test : t ≡ follows a (direction_at cells i)
    unfolding direction_at
    test = tells ∙ ap (follows a) is

    pub none_more : (lo : ℕ) → t ≡ false → None cells a lo i → None cells a lo (i + 1)
    none_more lo h none = record { fails = λ j from before. go j from before (lt_or_ge j i) }
      where
        go : (j : ℕ) → lo ≤ j → j < i + 1 → (j < i) ⊎ (i ≤ j) → follows a (direction_at cells j) ≡ false
        go j from before (inl below) = none.fails j from below
        go j from before (inr above) =
            let same : i ≡ j = omega (arith, before, above) in
            subst (λ (k : ℕ). follows a (direction_at cells k) ≡ false) same (sym test ∙ h)

    pub some_here : (lo hi : ℕ) → lo ≤ i → i < hi → t ≡ true → SomeBetween true cells a lo hi
    some_here lo hi from before h = record {
      found = λ e. record { place = i; from = from; before = before; is = sym test ∙ h };
      none = λ e. absurd (contrary refl e);
    }

  pub none_all : (lo hi i : ℕ) → hi ≤ i → None cells a lo i → SomeBetween false cells a lo hi
  none_all lo hi i end none = record {
    found = λ e. absurd (contrary e refl);
    none = λ e. record { fails = λ j from before. none.fails j from (omega (arith, before, end)) };
  }

  -- ---- the places near one: a direction found among some of the first n cells is one of them
  pub found_among : (r : Bool) (lo hi n : ℕ) → hi ≤ n → SomeBetween r cells a lo hi → TrueIfFound r cells a n
  found_among r lo hi n inside some = record {
    found = λ e. let f = some.found e in record { place = f.place; from = omega arith; before = omega (arith, f.before, inside); is = f.is };
  }

  pub found_true : (t : Bool) (n : ℕ) → t ≡ true → TrueIfFound t cells a n → TrueIfFound true cells a n
  found_true t n h some = record { found = λ e. some.found h }

-- ---- `some_follows`: one found near by, or all cells tried
module _ (cells : List Float) (k : ℕ) (a : Direction) (is : a ≡ unpack_of (get_or cells k nan)) (n : ℕ) where
  own : a ≡ direction_at cells k
  unfolding direction_at
  own = is

  followed_found : Found cells a 0 n → true ≡ some_follows (direction_at cells k) (directions_in n cells)
  followed_found f = sym (subst (λ (d : Direction). some_follows d (directions_in n cells) ≡ true) own (some_found cells a n f.place f.before f.is))

  pub followed_near : (t : Bool) → TrueIfFound t cells a n → t ≡ true → true ≡ some_follows (direction_at cells k) (directions_in n cells)
  followed_near t some h = followed_found (some.found h)

  pub followed_all : (r : Bool) → SomeBetween r cells a 0 n → r ≡ some_follows (direction_at cells k) (directions_in n cells)
  followed_all true some = followed_found (some.found refl)
  followed_all false some =
      sym (subst (λ (d : Direction). some_follows d (directions_in n cells) ≡ false) own
      (some_none cells a n (λ i l. (some.none refl).fails i (omega arith) l)))

-- ---- the turns of `goes_round`
module _ (cells : List Float) (all : List Direction) where
  pub round_none : all_followed (directions_in 0 cells) all ≡ true
  unfolding directions_in all_followed
  round_none = refl

  pub round_more : (k : ℕ) (t : Bool) → t ≡ some_follows (direction_at cells k) all → t ≡ true → all_followed (directions_in k cells) all ≡ true
      → all_followed (directions_in (k + 1) cells) all ≡ true
  round_more k t is h before =
      ap (λ (l : List Direction). all_followed l all) (directions_more cells k) ∙ all_last (directions_in k cells) (direction_at cells k) all
      ∙ and_true _ _ before (sym is ∙ h)

  round_fails_at : (n k : ℕ) → k < n → some_follows (direction_at cells k) all ≡ false → all_followed (directions_in n cells) all ≡ false
  round_fails_at zero k l h = absurd (omega (arith, l))
  round_fails_at (suc n) k l h =
      ap (λ (l : List Direction). all_followed l all) (directions_suc cells n) ∙ all_last (directions_in n cells) (direction_at cells n) all
      ∙ go (λ below. round_fails_at n k below h) (lt_or_ge k n)
    where
      go : (k < n → all_followed (directions_in n cells) all ≡ false) → (k < n) ⊎ (n ≤ k)
          → (all_followed (directions_in n cells) all && some_follows (direction_at cells n) all) ≡ false
      go before (inl below) = and_false_left _ _ (before below)
      go before (inr above) =
          let same : k ≡ n = omega (arith, l, above) in
          and_false_right (all_followed (directions_in n cells) all) _ (subst (λ (j : ℕ). some_follows (direction_at cells j) all ≡ false) same h)

-- no direction, and one that is not followed
pub round_empty : (cells : List Float) (n : ℕ) → n ≡ 0 → false ≡ goes_round_of (directions_in n cells)
unfolding goes_round_of directions_in
round_empty cells n h = rw (h)

not_round : (all : List Direction) → all_followed all all ≡ false → false ≡ goes_round_of all
unfolding goes_round_of
not_round [] h = refl
not_round (a ∷ l) h = sym h

pub round_fails : (cells : List Float) (n k : ℕ) (t : Bool) → k < n → t ≡ some_follows (direction_at cells k) (directions_in n cells) → t ≡ false
    → false ≡ goes_round_of (directions_in n cells)
round_fails cells n k t l is h = not_round (directions_in n cells) (round_fails_at cells (directions_in n cells) n k l (sym is ∙ h))

-- each is followed, and there is one
round_last : (l : List Direction) (d : Direction) → all_followed (l ++ (d ∷ [])) (l ++ (d ∷ [])) ≡ true → true ≡ goes_round_of (l ++ (d ∷ []))
unfolding goes_round_of
round_last [] d h = sym h
round_last (a ∷ l) d h = sym h

all_round : (cells : List Float) (n : ℕ) → (n ≡ 0 → ⊥) → all_followed (directions_in n cells) (directions_in n cells) ≡ true
    → true ≡ goes_round_of (directions_in n cells)
unfolding directions_in
all_round cells zero some h = absurd (some refl)
all_round cells (suc n) some h = round_last (directions_in n cells) (direction_at cells n) h

pub round_all : (cells : List Float) (n k : ℕ) → (n ≡ 0 → ⊥) → k ≤ n → n ≤ k → all_followed (directions_in k cells) (directions_in n cells) ≡ true
    → true ≡ goes_round_of (directions_in n cells)
round_all cells n k some l m h =
    let same : k ≡ n = omega (arith, l, m) in
    all_round cells n some (subst (λ (j : ℕ). all_followed (directions_in j cells) (directions_in n cells) ≡ true) same h)
