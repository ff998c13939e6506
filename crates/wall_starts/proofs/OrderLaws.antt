-- The polygons of a face and their order by falling area.
use mathlib.Core.Path.{◌≡◌, refl, sym, ap, ◌∙◌, subst}
use mathlib.Core.Bool.{Bool, true, false, not, ◌&&◌, ◌||◌, cond}
use mathlib.Core.List.{List, [], ◌∷◌, ◌++◌}
use mathlib.Core.Logic.{◌⊎◌, inl, inr}
use Prim.Native.Nat.{ℕ, zero, suc, ◌+◌, ◌≤◌, ◌<◌}
use native.Mathlib.Omega.{arith}
use native.Mathlib.Numerals.{add-one}
use lib.Dec.{eqb, ltb}
use lib.ListN.{length, get_or, length-append, get_or-append}
use lib.Seq.{get_or-append_seam}
use lib.Ieee.{Float, nan, neg, lt, is_nan}
use borrow.Author.Tests.{eqb-true, eqb-false, eq-eqb}
use Rattle.num_float.proofs.Tests.{lt_or_ge}
use Rattle.list_laws.specs.Below.{sum_below, count_below}
use Rattle.list_laws.proofs.Below.{sum_none, sum_more}
use Rattle.list_laws.proofs.Count.{count_less}
use Rattle.file_part.specs.Part.{Part}
use Rattle.solid_faces.specs.Faces.{face_number, faces_of, polygon_area, first_polygon}
use Rattle.solid_faces.proofs.FaceLaws.{number_below, first_polygon_begins}
use Rattle.list_sort.specs.Sorted.{key_of, comes, occurs, Rising, put, in_order_of}
use Rattle.list_sort.specs.Work.{NoNan}
use Rattle.list_sort.proofs.Comes.{after}
use Rattle.list_sort.proofs.Counts.{each_first}
use Rattle.list_sort.proofs.Only.{rising_far}
use Rattle.list_sort.proofs.InOrder.{in_order_long, in_order_same, in_order_rising}
use Rattle.list_sort.proofs.Falling.{neg_lt, neg_nan}
use Rattle.wall_starts.specs.Starts.{polygons_to, face_polygons, falling_to, ordered_polygons}
use Rattle.wall_starts.specs.Work.{AreaNumbers, lengths_to}
use Rattle.wall_starts.proofs.PassingLaws.{passing, passing_count, passing_each, passing_rises}

-- ---- keys that agree on the numbers below p give one order
-- all numbers of a list are below p
abbrev Under : ℕ → List ℕ → Type 0
Under p [] = Unit
Under p (x ∷ xs) = (x < p) × Under p xs

under_all : (p : ℕ) (xs : List ℕ) → ((i : ℕ) → i < length xs → get_or xs i 0 < p) → Under p xs
under_all p [] each = tt
under_all p (x ∷ xs) each = (each 0 (omega arith), under_all p xs (λ i h. each (suc i) (omega (arith, h))))

put_under : (p : ℕ) (keys : List Float) (x : ℕ) (ys : List ℕ) → x < p → Under p ys → Under p (put keys x ys)
unfolding put
put_under p keys x [] l under = (l, tt)
put_under p keys x (y ∷ ys) l under = go (comes keys y x) (put_under p keys x ys l under.1)
  where
    go : (b : Bool) → Under p (put keys x ys) → Under p (cond b (y ∷ put keys x ys) (x ∷ y ∷ ys))
    go true rest = (under.0, rest)
    go false rest = (l, under)

order_under : (p : ℕ) (keys : List Float) (xs : List ℕ) → Under p xs → Under p (in_order_of keys xs)
unfolding in_order_of
order_under p keys [] under = tt
order_under p keys (x ∷ xs) under = put_under p keys x (in_order_of keys xs) under.0 (order_under p keys xs under.1)

module _ (p : ℕ) (keys other : List Float) (each : (q : ℕ) → q < p → get_or keys q nan ≡ get_or other q nan) where
  comes_same : (a b : ℕ) → a < p → b < p → comes keys a b ≡ comes other a b
  unfolding comes
  comes_same a b la lb = rw (each a la, each b lb)

  put_same : (x : ℕ) (ys : List ℕ) → x < p → Under p ys → put keys x ys ≡ put other x ys
  unfolding put
  put_same x [] l under = refl
  put_same x (y ∷ ys) l under =
      ap (λ (b : Bool). cond b (y ∷ put keys x ys) (x ∷ y ∷ ys)) (comes_same y x under.0 l)
      ∙ ap (λ (zs : List ℕ). cond (comes other y x) (y ∷ zs) (x ∷ y ∷ ys)) (put_same x ys l under.1)

  order_same : (xs : List ℕ) → Under p xs → in_order_of keys xs ≡ in_order_of other xs
  unfolding in_order_of
  order_same [] under = refl
  order_same (x ∷ xs) under =
      put_same x (in_order_of keys xs) under.0 (order_under p keys xs under.1) ∙ ap (put other x) (order_same xs under.1)

  pub in_order_keys : (xs : List ℕ) → ((i : ℕ) → i < length xs → get_or xs i 0 < p) → in_order_of keys xs ≡ in_order_of other xs
  in_order_keys xs below = order_same xs (under_all p xs below)

-- ---- the keys
falling_length : (t : Part) (n : ℕ) → length (falling_to t n) ≡ n
unfolding falling_to
falling_length t zero = refl
falling_length t (suc n) = length-append (falling_to t n) _ ∙ ap (λ (k : ℕ). k + 1) (falling_length t n) ∙ add-one n

pub falling_at : (t : Part) (n q : ℕ) → q < n → get_or (falling_to t n) q nan ≡ neg (polygon_area t q)
unfolding falling_to
falling_at t zero q l = absurd (omega (arith, l))
falling_at t (suc n) q l = go (falling_at t n q) (lt_or_ge q n)
  where
    x : Float
    x = neg (polygon_area t n)

    go : (q < n → get_or (falling_to t n) q nan ≡ neg (polygon_area t q)) → (q < n) ⊎ (n ≤ q) → get_or (falling_to t n ++ (x ∷ [])) q nan ≡ neg (polygon_area t q)
    go before (inl low) = get_or-append (falling_to t n) (x ∷ []) nan q (omega (arith, low, falling_length t n)) ∙ before low
    go before (inr high) =
        let here : n ≡ q = omega (arith, l, high) in
        let seam : q ≡ length (falling_to t n) = omega (arith, here, falling_length t n) in
        ap (λ (k : ℕ). get_or (falling_to t n ++ (x ∷ [])) k nan) seam ∙ get_or-append_seam (falling_to t n) x [] nan
        ∙ ap (λ (k : ℕ). neg (polygon_area t k)) here

-- the comparison by kept keys is the one that computes both areas anew: a comes before b where its area is greater, or neither is and a is the lower number
pub comes_by_area : (t : Part) (n a b : ℕ) → a < n → b < n →
    comes (falling_to t n) a b ≡ (lt (polygon_area t b) (polygon_area t a) || (not (lt (polygon_area t a) (polygon_area t b)) && ltb a b))
unfolding comes
comes_by_area t n a b la lb =
    rw (falling_at t n a la, falling_at t n b lb, neg_lt (polygon_area t a) (polygon_area t b), neg_lt (polygon_area t b) (polygon_area t a)) refl

-- ---- the polygons of a face
-- polygon q is of face f
abbrev pub is_of : Part → ℕ → ℕ → Bool
is_of t f q = eqb (face_number t q) f

polygons_to_lem : (t : Part) (f n : ℕ) → polygons_to t f n ≡ passing (is_of t f) n
unfolding polygons_to passing
polygons_to_lem t f zero = refl
polygons_to_lem t f (suc n) = ap (λ (xs : List ℕ). cond (is_of t f n) (xs ++ (n ∷ [])) xs) (polygons_to_lem t f n)

pub polygons_are : (t : Part) (f : ℕ) → face_polygons t f ≡ passing (is_of t f) t.polygons
unfolding face_polygons
polygons_are t f = polygons_to_lem t f t.polygons

-- a polygon of face f
pub record OfFace (t : Part) (f q : ℕ) : Type 0 where
  pub below : q < t.polygons
  pub face : face_number t q ≡ f

pub face_each : (t : Part) (f i : ℕ) → i < length (face_polygons t f) → OfFace t f (get_or (face_polygons t f) i 0)
face_each t f i l =
    let passes = passing_each (is_of t f) t.polygons i (omega (arith, l, ap length (polygons_are t f))) in
    subst (λ (xs : List ℕ). OfFace t f (get_or xs i 0)) (sym (polygons_are t f))
    (record { below = passes.below; face = eqb-true _ _ passes.true_of })

pub face_rises : (t : Part) (f i j : ℕ) → i < j → j < length (face_polygons t f) → get_or (face_polygons t f) i 0 < get_or (face_polygons t f) j 0
face_rises t f i j h l =
    subst (λ (xs : List ℕ). get_or xs i 0 < get_or xs j 0) (sym (polygons_are t f))
    (passing_rises (is_of t f) t.polygons i j h (omega (arith, l, ap length (polygons_are t f))))

face_count_lem : (t : Part) (f : ℕ) → length (face_polygons t f) ≡ count_below t.polygons (is_of t f)
face_count_lem t f = ap length (polygons_are t f) ∙ passing_count (is_of t f) t.polygons

-- each face has a polygon
pub face_some : (t : Part) (f : ℕ) → f < faces_of t → 0 < length (face_polygons t f)
face_some t f l =
    let first = first_polygon_begins t f l in
    omega (arith, face_count_lem t f, count_less (first_polygon t f) t.polygons (is_of t f) first.below (eq-eqb _ _ first.number))

-- ---- their order
pub ordered_length : (t : Part) (f : ℕ) → length (ordered_polygons t f) ≡ length (face_polygons t f)
unfolding ordered_polygons
ordered_length t f = in_order_long (falling_to t t.polygons) (face_polygons t f)

-- each number stands there as often
pub ordered_same : (t : Part) (f m : ℕ)
    → occurs m (ordered_polygons t f) 0 (length (face_polygons t f)) ≡ occurs m (face_polygons t f) 0 (length (face_polygons t f))
unfolding ordered_polygons
ordered_same t f m = in_order_same (falling_to t t.polygons) (face_polygons t f) m

pub ordered_each : (t : Part) (f i : ℕ) → i < length (ordered_polygons t f) → OfFace t f (get_or (ordered_polygons t f) i 0)
ordered_each t f i l =
    each_first (OfFace t f) (face_polygons t f) (ordered_polygons t f) (length (face_polygons t f)) (ordered_same t f) (face_each t f) i
    (omega (arith, l, ordered_length t f))

ordered_rising : (t : Part) (f : ℕ) → Rising (falling_to t t.polygons) (ordered_polygons t f) 0 (length (face_polygons t f))
unfolding ordered_polygons
ordered_rising t f = in_order_rising (falling_to t t.polygons) (face_polygons t f)

key_is : (t : Part) (f q : ℕ) → OfFace t f q → key_of (falling_to t t.polygons) q ≡ neg (polygon_area t q)
key_is t f q h = falling_at t t.polygons q h.below

ordered_plain : (t : Part) (f : ℕ) → AreaNumbers t → NoNan (falling_to t t.polygons) (ordered_polygons t f) (length (face_polygons t f))
ordered_plain t f numbers = record { is = go }
  where
    go : (i : ℕ) → i < length (face_polygons t f) → is_nan (key_of (falling_to t t.polygons) (get_or (ordered_polygons t f) i 0)) ≡ false
    go i l =
        let h = ordered_each t f i (omega (arith, l, ordered_length t f)) in
        ap is_nan (key_is t f _ h) ∙ neg_nan _ ∙ numbers.each _ h.below

ordered_after : (t : Part) (f : ℕ) → AreaNumbers t → (i j : ℕ) → i ≤ j → j < length (ordered_polygons t f)
    → comes (falling_to t t.polygons) (get_or (ordered_polygons t f) j 0) (get_or (ordered_polygons t f) i 0) ≡ false
ordered_after t f numbers i j h l =
    rising_far (falling_to t t.polygons) (ordered_polygons t f) (length (face_polygons t f)) (ordered_plain t f numbers) (ordered_rising t f) i j h
    (omega (arith, l, ordered_length t f))

-- of two polygons the one at the right has no greater area
pub ordered_falls : (t : Part) (f : ℕ) → AreaNumbers t → (i j : ℕ) → i ≤ j → j < length (ordered_polygons t f)
    → lt (polygon_area t (get_or (ordered_polygons t f) i 0)) (polygon_area t (get_or (ordered_polygons t f) j 0)) ≡ false
ordered_falls t f numbers i j h l =
    let a = get_or (ordered_polygons t f) i 0 in
    let b = get_or (ordered_polygons t f) j 0 in
    let key = (after (falling_to t t.polygons) a b (ordered_after t f numbers i j h l)).key in
    let ka = key_is t f a (ordered_each t f i (omega (arith, h, l))) in
    let kb = key_is t f b (ordered_each t f j l) in
    sym (neg_lt _ _) ∙ ap (λ (x : Float). lt x (neg (polygon_area t a))) (sym kb)
    ∙ ap (lt (key_of (falling_to t t.polygons) b)) (sym ka) ∙ key

-- and no lower number where the areas are equal: the sort is stable
pub ordered_stable : (t : Part) (f : ℕ) → AreaNumbers t → (i j : ℕ) → i ≤ j → j < length (ordered_polygons t f)
    → lt (polygon_area t (get_or (ordered_polygons t f) j 0)) (polygon_area t (get_or (ordered_polygons t f) i 0)) ≡ false
    → get_or (ordered_polygons t f) i 0 ≤ get_or (ordered_polygons t f) j 0
ordered_stable t f numbers i j h l e =
    let a = get_or (ordered_polygons t f) i 0 in
    let b = get_or (ordered_polygons t f) j 0 in
    let ka = key_is t f a (ordered_each t f i (omega (arith, h, l))) in
    let kb = key_is t f b (ordered_each t f j l) in
    (after (falling_to t t.polygons) a b (ordered_after t f numbers i j h l)).number
    (ap (λ (x : Float). lt x (key_of (falling_to t t.polygons) b)) ka ∙ ap (lt (neg (polygon_area t a))) kb ∙ neg_lt _ _ ∙ e)

-- ---- all faces together have each polygon once
-- 1 where x is below n, and else 0
hits : ℕ → ℕ → ℕ
hits n x = sum_below n (λ f. cond (eqb x f) 1 0)

-- what `hits` comes to
record Hits (n x k : ℕ) : Type 0 where
  pub most : k ≤ 1
  pub here : x < n → k ≡ 1
  pub past : n ≤ x → k ≡ 0

hits_are : (n x : ℕ) → Hits n x (hits n x)
unfolding hits sum_below
hits_are zero x = record { most = omega arith; here = λ l. absurd (omega (arith, l)); past = λ l. refl }
hits_are (suc n) x = go (hits n x) (hits_are n x) (eqb x n) refl
  where
    go : (k : ℕ) → Hits n x k → (b : Bool) → eqb x n ≡ b → Hits (suc n) x (k + cond b 1 0)
    go k h true e =
        let same : x ≡ n = eqb-true x n e in
        let none : k ≡ 0 = h.past (omega (arith, same)) in
        record { most = omega (arith, none); here = λ l. omega (arith, none); past = λ l. absurd (omega (arith, l, same)) }
    go k h false e =
        record {
          most = omega (arith, h.most);
          here = λ l. omega (arith, h.here (omega (arith, l, eqb-false x n e)));
          past = λ l. omega (arith, h.past (omega (arith, l)));
        }

-- the numbers g q of the q below p, counted by what they are
counts : (ℕ → ℕ) → ℕ → ℕ → ℕ
counts g n p = sum_below n (λ f. count_below p (λ q. eqb (g q) f))

counts_none : (g : ℕ → ℕ) (n : ℕ) → counts g n 0 ≡ 0
unfolding counts sum_below count_below
counts_none g zero = refl
counts_none g (suc n) = omega (arith, counts_none g n)

cond_suc : (b : Bool) (k : ℕ) → cond b (suc k) k ≡ k + cond b 1 0
cond_suc true k = omega arith
cond_suc false k = omega arith

counts_more : (g : ℕ → ℕ) (n p : ℕ) → counts g n (suc p) ≡ counts g n p + hits n (g p)
unfolding counts hits sum_below count_below
counts_more g zero p = refl
counts_more g (suc n) p = omega (arith, counts_more g n p, cond_suc (eqb (g p) n) (count_below p (λ q. eqb (g q) n)))

counts_within : (g : ℕ → ℕ) (n p : ℕ) → counts g n p ≤ p
counts_within g n zero = omega (arith, counts_none g n)
counts_within g n (suc p) = omega (arith, counts_within g n p, counts_more g n p, (hits_are n (g p)).most)

counts_all : (g : ℕ → ℕ) (n p : ℕ) → ((q : ℕ) → q < p → g q < n) → counts g n p ≡ p
counts_all g n zero below = counts_none g n
counts_all g n (suc p) below =
    omega (arith, counts_all g n p (λ q l. below q (omega (arith, l))), counts_more g n p, (hits_are n (g p)).here (below p (omega arith)))

lengths_are : (t : Part) (n : ℕ) → lengths_to t n ≡ counts (face_number t) n t.polygons
unfolding lengths_to counts sum_below
lengths_are t zero = refl
lengths_are t (suc n) = omega (arith, lengths_are t n, face_count_lem t n)

pub lengths_none : (t : Part) → lengths_to t 0 ≡ 0
unfolding lengths_to
lengths_none t = sum_none (λ f. length (face_polygons t f))

pub lengths_more : (t : Part) (n : ℕ) → lengths_to t (n + 1) ≡ lengths_to t n + length (face_polygons t n)
unfolding lengths_to
lengths_more t n = sum_more n (λ f. length (face_polygons t f))

-- the first n faces have no more polygons than the part
pub lengths_within : (t : Part) (n : ℕ) → lengths_to t n ≤ t.polygons
lengths_within t n = omega (arith, lengths_are t n, counts_within (face_number t) n t.polygons)

-- all faces have as many
pub lengths_all : (t : Part) → lengths_to t (faces_of t) ≡ t.polygons
lengths_all t = lengths_are t (faces_of t) ∙ counts_all (face_number t) (faces_of t) t.polygons (number_below t)
