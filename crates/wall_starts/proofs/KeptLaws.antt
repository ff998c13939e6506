-- What the lent slices hold: the loops, one step each, and what they come to for a part.
use mathlib.Core.Path.{◌≡◌, refl, sym, ap, ◌∙◌, subst}
use mathlib.Core.Bool.{true}
use mathlib.Core.List.{List, [], ◌∷◌, ◌++◌}
use mathlib.Core.Logic.{◌⊎◌, inl, inr}
use Prim.Native.Nat.{ℕ, suc, ◌+◌, ◌-◌, ◌≤◌, ◌<◌}
use native.Mathlib.Omega.{arith}
use native.Mathlib.Numerals.{add-one}
use native.Mathlib.Nat.{le_antisymm}
use lib.ListN.{length, get_or, set, take, drop, length-set}
use lib.Seq.{get_or-set_same, get_or-set_other}
use lib.Ieee.{Float, binary64, add, nan, neg}
use borrow.Author.Tests.{eq-eqb, ne_eqb}
use Rattle.num_float.proofs.Tests.{lt_or_ge}
use Rattle.list_laws.specs.Region.{part, Outside}
use Rattle.list_laws.proofs.Regions.{part_length, part_place, part_more}
use Rattle.list_laws.proofs.Outside.{outside_none, outside_then, outside_wide, outside_set, outside_part}
use Rattle.math.specs.Vector as vector
use Rattle.file_part.specs.Part.{Part}
use Rattle.solid_faces.specs.Faces.{is_new, face_number, face_area}
use Rattle.solid_faces.specs.Kept.{Chain, KeptAreas, FaceAreas}
use Rattle.solid_faces.proofs.ChainLaws.{fold_first, OnFace, on_first, on_next, on_fold}
use Rattle.wall_starts.specs.Starts.{areas_to, total_area_of, polygons_to, face_polygons, ordered_polygons}
use Rattle.wall_starts.specs.Work.{Total, KeptFalling, Negated, Along, AreaNumbers, Room, Gathered, Ordered}

-- ---- the areas of the faces, added
pub record TotalTo (l : List Float) (n : ℕ) (r : Float) : Type 0 where
  pub is : (t : Part) → FaceAreas t l → r ≡ areas_to t n

pub total_none : (l : List Float) → TotalTo l 0 vector.zero
unfolding areas_to
total_none l = record { is = λ t h. refl }

areas_suc : (t : Part) (n : ℕ) → areas_to t (suc n) ≡ add binary64 (areas_to t n) (face_area t n)
unfolding areas_to
areas_suc t n = refl

pub total_more : (l : List Float) (n : ℕ) (r : Float) → n < length l → TotalTo l n r → TotalTo l (n + 1) (add binary64 r (get_or l n nan))
total_more l n r room h = record { is = go }
  where
    go : (t : Part) → FaceAreas t l → add binary64 r (get_or l n nan) ≡ areas_to t (n + 1)
    go t k =
        ap (λ (x : Float). add binary64 x (get_or l n nan)) (h.is t k) ∙ ap (add binary64 (areas_to t n)) (k.each n room)
        ∙ sym (rw add-one (areas_suc t n))

pub total_all : (l : List Float) (k n : ℕ) (r : Float) → k ≤ n → n ≤ k → TotalTo l k r → Total l n r
unfolding total_area_of
total_all l k n r a b h = record { is = λ t e f. h.is t f ∙ ap (areas_to t) (le_antisymm a b ∙ e) }

-- ---- a store at the end of the cells that changed
outside_more : {X : Type 0} (d : X) (a n : ℕ) (old new : List X) (x : X) → Outside d a (a + n) old new → Outside d a (a + (n + 1)) old (set new (a + n) x)
outside_more d a n old new x h =
    outside_then d _ _ old new (set new (a + n) x) (outside_wide d _ _ a (a + (n + 1)) old new (omega arith) (omega arith) h)
    (outside_set d _ _ new (a + n) x (omega arith) (omega arith))

-- ---- areas, negated
pub negated_none : (l : List Float) (areas falling : ℕ) → Negated l l areas falling 0
negated_none l areas falling = record { each = λ q h. absurd (omega (arith, h)); kept = outside_none nan _ _ l }

pub negated_more : (old new : List Float) (areas falling n q : ℕ) → areas + n ≤ falling → falling + n ≤ length old → q < n → Negated old new areas falling q
    → Negated old (set new (falling + q) (neg (get_or new (areas + q) nan))) areas falling (q + 1)
negated_more old new areas falling n q apart inside low h =
    record {
      each = λ k l. go k l (lt_or_ge k q);
      kept = outside_more nan falling q old new x h.kept;
    }
  where
    x : Float
    x = neg (get_or new (areas + q) nan)

    room : falling + q < length new
    room = omega (arith, inside, low, h.kept.long)

    go : (k : ℕ) → k < q + 1 → (k < q) ⊎ (q ≤ k) → get_or (set new (falling + q) x) (falling + k) nan ≡ neg (get_or old (areas + k) nan)
    go k l (inl before) = get_or-set_other new (falling + q) (falling + k) x nan (λ at. omega (arith, at, before)) ∙ h.each k before
    go k l (inr after) =
        let here : q ≡ k = omega (arith, l, after) in
        subst (λ (j : ℕ). get_or (set new (falling + q) x) (falling + j) nan ≡ neg (get_or old (areas + j) nan)) here
        (get_or-set_same new (falling + q) x nan room ∙ ap neg (h.kept.below (areas + q) (omega (arith, apart, low))))

pub negated_all : (old new : List Float) (areas falling q n : ℕ) → q ≤ n → n ≤ q → Negated old new areas falling q → Negated old new areas falling n
negated_all old new areas falling q n a b h = subst (λ (k : ℕ). Negated old new areas falling k) (le_antisymm a b) h

-- the areas of a part's polygons, from `areas` to before e, stand negated from `falling` to before e'
pub falling_kept : (t : Part) (old new : List Float) (areas falling n e e' : ℕ) → Negated old new areas falling n → n ≤ e - areas → n ≤ e' - falling
    → e' ≤ length old → KeptAreas t n (part areas e old) → KeptFalling t n (part falling e' new)
falling_kept t old new areas falling n e e' h r r' inside k =
    record {
      each = λ q l.
          part_place falling e' new nan q (omega (arith, l, r')) ∙ h.each q l
          ∙ ap neg (sym (part_place areas e old nan q (omega (arith, l, r))) ∙ k.each q l);
      long = omega (arith, r', part_length falling e' new (omega (arith, inside, h.kept.long)));
    }

-- ---- the polygons of a face
-- on the way, at polygon q: the n before it stand from `order` on
pub record GatheredTo (old new : List ℕ) (chain order p first q n : ℕ) : Type 0 where
  pub most : n ≤ p
  pub low : n ≤ q
  pub below : (i : ℕ) → i < n → get_or new (order + i) 0 < p
  pub on : (t : Part) → Along t p old chain first → OnFace t (face_number t first) q
  pub is : (t : Part) → Along t p old chain first → part order (order + n) new ≡ polygons_to t (face_number t first) q
  pub kept : Outside 0 order (order + n) old new

-- a polygon of another face is not put
polygons_still : (t : Part) (f q : ℕ) → (face_number t q ≡ f → ⊥) → polygons_to t f (q + 1) ≡ polygons_to t f q
unfolding polygons_to
polygons_still t f q other = rw (add-one, ne_eqb (face_number t q) f other)

polygons_more : (t : Part) (f q : ℕ) → face_number t q ≡ f → polygons_to t f (q + 1) ≡ polygons_to t f q ++ (q ∷ [])
unfolding polygons_to
polygons_more t f q same = rw (add-one, eq-eqb (face_number t q) f same)

polygons_first : (t : Part) (q : ℕ) → is_new t q ≡ true → polygons_to t (face_number t q) q ≡ []
unfolding polygons_to
polygons_first t q new = fold_first t (face_number t q) (polygons_to t (face_number t q)) (polygons_still t (face_number t q)) q new refl

part_none : (l : List ℕ) (order : ℕ) → part order (order + 0) l ≡ []
part_none l order = let none : order + 0 - order ≡ 0 = omega arith in ap (λ (k : ℕ). take k (drop order l)) none

pub gathered_none : (l : List ℕ) (chain order p first : ℕ) → GatheredTo l l chain order p first first 0
gathered_none l chain order p first =
    record {
      most = omega arith;
      low = omega arith;
      below = λ i h. absurd (omega (arith, h));
      on = λ t a. on_first t first (omega (arith, a.below, a.polygons));
      is = λ t a. part_none l order ∙ sym (polygons_first t first a.new);
      kept = outside_none 0 _ _ l;
    }

module _ (old new : List ℕ) (chain order p first q n : ℕ) (room : Room old chain order p) (low : q < p)
    (h : GatheredTo old new chain order p first q n) where
  abbrev next : List ℕ
  next = set new (order + n) q

  next_place : order + n < length new
  next_place = omega (arith, room.inside, low, h.low, h.kept.long)

  -- the links are as they were
  link_kept : get_or next (chain + q) 0 ≡ get_or old (chain + q) 0
  link_kept =
      get_or-set_other new (order + n) (chain + q) q 0 (λ at. omega (arith, at, room.apart, low))
      ∙ h.kept.below (chain + q) (omega (arith, room.apart, low))

  pub link_rises : q < get_or next (chain + q) 0
  link_rises = omega (arith, link_kept, room.rises q low)

  gathered_below : (i : ℕ) → i < n + 1 → (i < n) ⊎ (n ≤ i) → get_or next (order + i) 0 < p
  gathered_below i l (inl before) =
      omega (arith, get_or-set_other new (order + n) (order + i) q 0 (λ at. omega (arith, at, before)), h.below i before)
  gathered_below i l (inr after) =
      let same : n ≡ i = omega (arith, l, after) in
      subst (λ (j : ℕ). get_or next (order + j) 0 < p) same (omega (arith, get_or-set_same new (order + n) q 0 next_place, low))

  -- the polygons put, and q after them
  put_more : part order (order + (n + 1)) next ≡ part order (order + n) new ++ (q ∷ [])
  put_more =
      let far : order + (n + 1) ≡ (order + n) + 1 = omega arith in
      let long : length next ≡ length new = length-set new (order + n) q in
      ap (λ (k : ℕ). part order k next) far
      ∙ part_more next 0 order (order + n) (omega arith) (omega (arith, next_place, long))
      ∙ ap (λ (x : ℕ). part order (order + n) next ++ (x ∷ [])) (get_or-set_same new (order + n) q 0 next_place)
      ∙ ap (λ (xs : List ℕ). xs ++ (q ∷ []))
      (outside_part 0 (order + n) ((order + n) + 1) order (order + n) new next (omega arith) (omega (arith, next_place))
      (outside_set 0 (order + n) ((order + n) + 1) new (order + n) q (omega arith) (omega arith)))

  module _ (t : Part) (a : Along t p old chain first) where
    -- the chain as it is lent to others
    links : Chain t (part chain (chain + p) old)
    links =
        record {
          each = λ r l. part_place chain (chain + p) old 0 r (omega (arith, l, a.polygons)) ∙ a.each r (omega (arith, l, a.polygons));
          long = omega (arith, a.polygons, part_length chain (chain + p) old (omega (arith, room.apart, room.inside)));
        }

    link_is : get_or next (chain + q) 0 ≡ get_or (part chain (chain + p) old) q 0
    link_is = link_kept ∙ sym (part_place chain (chain + p) old 0 q (omega (arith, low)))

    under : q < t.polygons
    under = omega (arith, low, a.polygons)

    more_on : OnFace t (face_number t first) (get_or next (chain + q) 0)
    more_on = subst (OnFace t (face_number t first)) (sym link_is) (on_next t (face_number t first) q _ links (h.on t a) under)

    more_is : part order (order + (n + 1)) next ≡ polygons_to t (face_number t first) (get_or next (chain + q) 0)
    more_is =
        put_more ∙ ap (λ (xs : List ℕ). xs ++ (q ∷ [])) (h.is t a)
        ∙ sym (polygons_more t (face_number t first) q ((h.on t a).face under))
        ∙ sym (on_fold t (face_number t first) q _ links (h.on t a) under (polygons_to t (face_number t first)) (polygons_still t (face_number t first)))
        ∙ ap (polygons_to t (face_number t first)) (sym link_is)

  pub gathered_more : GatheredTo old next chain order p first (get_or next (chain + q) 0) (n + 1)
  gathered_more =
      record {
        most = omega (arith, h.low, low);
        low = omega (arith, h.low, link_rises);
        below = λ i l. gathered_below i l (lt_or_ge i n);
        on = more_on;
        is = more_is;
        kept = outside_more 0 order n old new q h.kept;
      }

pub gathered_all : (old new : List ℕ) (chain order p first q n : ℕ) → p ≤ q → GatheredTo old new chain order p first q n →
    Gathered old new chain order p first n
unfolding face_polygons
gathered_all old new chain order p first q n done h =
    record {
      most = h.most;
      below = h.below;
      is = λ t a.
          let end : q ≡ t.polygons = omega (arith, done, a.polygons, (h.on t a).low) in
          h.is t a ∙ ap (polygons_to t (face_number t first)) end;
      kept = h.kept;
    }

-- ---- the order of a face, as its callers use it
module _ (keys : List Float) (old new : List ℕ) (chain order p first n : ℕ) (h : Ordered keys old new chain order p first n) where
  -- the polygon at a place
  pub ordered_place : (t : Part) → Along t p old chain first → KeptFalling t p keys → AreaNumbers t → (i : ℕ) → i < n
      → get_or new (order + i) 0 ≡ get_or (ordered_polygons t (face_number t first)) i 0
  ordered_place t along falling areas i l =
      sym (part_place order (order + n) new 0 i (omega (arith, l))) ∙ ap (λ (xs : List ℕ). get_or xs i 0) (h.is t along falling areas)
