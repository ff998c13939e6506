-- Readings in the scratch, one more at a time, and what stays as it was.
use mathlib.Core.Path.{◌≡◌, refl, sym, ap, ◌∙◌, subst}
use mathlib.Core.List.{List, [], ◌∷◌, ◌++◌, append_assoc, append-nil}
use mathlib.Core.Logic.{◌⊎◌, inl, inr}
use Prim.Native.Nat.{ℕ, ◌+◌, ◌≤◌, ◌<◌}
use native.Mathlib.Omega.{arith}
use native.Mathlib.Nat.{add-zero}
use lib.ListN.{length, get_or, set, length-set, length-append, get_or-append}
use lib.Seq.{get_or-set_same, get_or-set_other, get_or_at}
use lib.Ieee.{Float, nan}
use Rattle.num_float.proofs.Tests.{lt_or_ge}
use Rattle.list_laws.specs.Region.{Outside}
use Rattle.list_laws.proofs.Outside.{outside_none, outside_then, outside_wide, outside_two, outside_part}
use Rattle.file_part.specs.Part.{Part, part_of}
use Rattle.solid_faces.specs.Faces.{polygon_area}
use Rattle.scratch.specs.declared.regions.Regions.{Regions}
use Rattle.scratch.specs.Regions.{Laid}
use Rattle.scratch.specs.Standing.{Standing}
use Rattle.scratch.proofs.StandingLaws.{standing_kept}
use Rattle.wall_starts.specs.Work.{KeptFalling}
use Rattle.wall_samples.specs.declared.cast.Reading.{Reading}
use Rattle.wall_samples.specs.Stored.{none, reading, Stored}
use Rattle.wall_samples.specs.Work.{put_polygons, put_measures, Added, Ready}

-- ---- readings, stored
pub stored_none : (t : Part) (at : Regions) (words : List ℕ) (reals : List Float) → Stored t at [] words reals
stored_none t at words reals =
    record {
      polygons = λ k h. absurd (omega (arith, h));
      hits = λ k h. absurd (omega (arith, h));
      thickness = λ k h. absurd (omega (arith, h));
      areas = λ k h. absurd (omega (arith, h));
    }

snoc_before : (l : List Reading) (x : Reading) (k : ℕ) → k < length l → reading (l ++ (x ∷ [])) k ≡ reading l k
snoc_before l x k h = get_or-append l (x ∷ []) none k h

snoc_last : (l : List Reading) (x : Reading) (k : ℕ) → length l ≡ k → reading (l ++ (x ∷ [])) k ≡ x
snoc_last l x k e = get_or_at l x [] none k e

-- two regions, from a and from b on, that hold something of each of n readings: a cell more in both
module _ {X : Type 0} (d : X) (a b n : ℕ) (old : List X) (u v : X) (l : List Reading) (x : Reading) (e : length l ≡ n) (apart : a + n < b) (room : b + n < length old) where
  abbrev both : List X
  both = set (set old (a + n) u) (b + n) v

  region_more : (value : Reading → X) (c : ℕ) → ((k : ℕ) → k < n → get_or both (c + k) d ≡ get_or old (c + k) d) → get_or both (c + n) d ≡ value x →
      ((k : ℕ) → k < length l → get_or old (c + k) d ≡ value (reading l k)) → (k : ℕ) → k < length (l ++ (x ∷ [])) → get_or both (c + k) d ≡ value (reading (l ++ (x ∷ [])) k)
  region_more value c same here h k low = go (lt_or_ge k n)
    where
      go : (k < n) ⊎ (n ≤ k) → get_or both (c + k) d ≡ value (reading (l ++ (x ∷ [])) k)
      go (inl below) = same k below ∙ h k (omega (arith, below, e)) ∙ ap value (sym (snoc_before l x k (omega (arith, below, e))))
      go (inr above) =
          let last : n ≡ k = omega (arith, above, low, length-append l (x ∷ []), e) in
          subst (λ (j : ℕ). get_or both (c + j) d ≡ value (reading (l ++ (x ∷ [])) j)) last (here ∙ ap value (sym (snoc_last l x n e)))

  other : (k : ℕ) → (k ≡ a + n → ⊥) → (k ≡ b + n → ⊥) → get_or both k d ≡ get_or old k d
  other k p q = get_or-set_other (set old (a + n) u) (b + n) k v d q ∙ get_or-set_other old (a + n) k u d p

  first_more : (value : Reading → X) → u ≡ value x → ((k : ℕ) → k < length l → get_or old (a + k) d ≡ value (reading l k)) →
      (k : ℕ) → k < length (l ++ (x ∷ [])) → get_or both (a + k) d ≡ value (reading (l ++ (x ∷ [])) k)
  first_more value is =
      region_more value a (λ k low. other (a + k) (λ q. omega (arith, q, low)) (λ q. omega (arith, q, low, apart)))
      (get_or-set_other (set old (a + n) u) (b + n) (a + n) v d (λ q. omega (arith, q, apart)) ∙ get_or-set_same old (a + n) u d (omega (arith, apart, room)) ∙ is)

  second_more : (value : Reading → X) → v ≡ value x → ((k : ℕ) → k < length l → get_or old (b + k) d ≡ value (reading l k)) →
      (k : ℕ) → k < length (l ++ (x ∷ [])) → get_or both (b + k) d ≡ value (reading (l ++ (x ∷ [])) k)
  second_more value is =
      region_more value b (λ k low. other (b + k) (λ q. omega (arith, q, low, apart)) (λ q. omega (arith, q, low)))
      (get_or-set_same (set old (a + n) u) (b + n) v d (omega (arith, room, length-set old (a + n) u)) ∙ is)

-- changes past the readings, to either side of the work of sorting
pub stored_kept : (t : Part) (at : Regions) (l : List Reading) (words words' : List ℕ) (reals reals' : List Float) → Laid at → length l ≤ at.polygons →
    ((i : ℕ) → i < at.order → get_or words' i 0 ≡ get_or words i 0) → ((i : ℕ) → i < at.rounds → get_or reals' i nan ≡ get_or reals i nan) →
    Stored t at l words reals → Stored t at l words' reals'
stored_kept t at l words words' reals reals' laid few w r h =
    record {
      polygons = λ k low. w (at.readings + k) (omega (arith, low, few, laid)) ∙ h.polygons k low;
      hits = λ k low. w (at.hits + k) (omega (arith, low, few, laid)) ∙ h.hits k low;
      thickness = λ k low. r (at.thickness + k) (omega (arith, low, few, laid)) ∙ h.thickness k low;
      areas = λ k low. r (at.weights + k) (omega (arith, low, few, laid)) ∙ h.areas k low;
    }

-- ---- readings, added
module _ (t : Part) (at : Regions) where
  pub added_none : (e k : ℕ) (words : List ℕ) (reals : List Float) → Added t at e k [] words words reals reals k
  added_none e k words reals =
      record {
        count = sym (add-zero k);
        stored = λ l q h. subst (λ (m : List Reading). Stored t at m words reals) (sym (append-nil l)) h;
        words_kept = outside_none 0 _ _ words;
        reals_kept = outside_none nan _ _ reals;
      }

  pub added_then : (end k m n : ℕ) (x y : List Reading) (a b c : List ℕ) (d e f : List Float) → Added t at end k x a b d e m → Added t at end m y b c e f n →
      Added t at end k (x ++ y) a c d f n
  added_then end k m n x y a b c d e f g h =
      record {
        count = h.count ∙ omega (arith, g.count, length-append x y);
        stored = λ l q z. subst (λ (w : List Reading). Stored t at w c f) (append_assoc l x y) (h.stored (l ++ x) (length-append l x ∙ omega (arith, q, g.count)) (g.stored l q z));
        words_kept = outside_then 0 _ _ a b c g.words_kept h.words_kept;
        reals_kept = outside_then nan _ _ d e f g.reals_kept h.reals_kept;
      }

  module _ (laid : Laid at) where
    pub added_one : (k : ℕ) (x : Reading) (words words' : List ℕ) (reals reals' : List Float) (area : Float) → k < at.polygons →
        at.words ≤ length words → at.reals ≤ length reals → area ≡ polygon_area t x.polygon →
        words' ≡ put_polygons at k x words → reals' ≡ put_measures at k x area reals → Added t at at.order k (x ∷ []) words words' reals reals' (k + 1)
    unfolding put_polygons put_measures
    added_one k x words words' reals reals' area few wr rr ea ew er =
        subst (λ (w : List ℕ). Added t at at.order k (x ∷ []) words w reals reals' (k + 1)) (sym ew)
        (subst (λ (r : List Float). Added t at at.order k (x ∷ []) words (put_polygons at k x words) reals r (k + 1)) (sym er)
        (record {
          count = refl;
          stored = λ l e h. record {
            polygons = first_more 0 at.readings at.hits k words _ _ l x e wa wi (λ (r : Reading). r.polygon) refl h.polygons;
            hits = second_more 0 at.readings at.hits k words _ _ l x e wa wi (λ (r : Reading). r.hit) refl h.hits;
            thickness = first_more nan at.thickness at.weights k reals _ _ l x e ra ri (λ (r : Reading). r.thickness) refl h.thickness;
            areas = second_more nan at.thickness at.weights k reals _ _ l x e ra ri (λ (r : Reading). polygon_area t r.polygon) ea h.areas;
          };
          words_kept = outside_two 0 _ _ words _ _ _ _ (omega arith) (omega (arith, few, laid)) (omega (arith, laid)) (omega (arith, few, laid));
          reals_kept = outside_two nan _ _ reals _ _ _ _ (omega arith) (omega (arith, few, laid)) (omega (arith, laid)) (omega (arith, few, laid));
        }))
      where
        wa : at.readings + k < at.hits
        wa = omega (arith, few, laid)

        wi : at.hits + k < length words
        wi = omega (arith, few, wr, laid)

        ra : at.thickness + k < at.weights
        ra = omega (arith, few, laid)

        ri : at.weights + k < length reals
        ri = omega (arith, few, rr, laid)

    -- the order is put first, after the words of the readings
    pub added_order : (k n : ℕ) (x : List Reading) (a b c : List ℕ) (d e : List Float) → k ≤ at.polygons → Outside 0 at.order at.kinds a b →
        Added t at at.order k x b c d e n → Added t at at.kinds k x a c d e n
    added_order k n x a b c d e few o h =
        record {
          count = h.count;
          stored = λ l q z. h.stored l q (stored_kept t at l a b d d laid (omega (arith, q, few)) o.below (λ i low. refl) z);
          words_kept =
              outside_then 0 _ _ a b c (outside_wide 0 _ _ at.readings at.kinds a b (omega (arith, laid)) (omega arith) o)
              (outside_wide 0 _ _ at.readings at.kinds b c (omega arith) (omega (arith, laid)) h.words_kept);
          reals_kept = h.reals_kept;
        }

-- ---- the body, and the areas negated, still stand when readings were added
module _ (s : List ℕ) (at : Regions) (e : ℕ) (words words' : List ℕ) (reals reals' : List Float) (w : Outside 0 at.readings e words words')
    (r : Outside nan at.thickness at.rounds reals reals') where
  pub standing_still : Standing s at words reals → Standing s at words' reals'
  standing_still h =
      let laid = h.placed.laid in
      standing_kept s at e at.rounds words words' reals reals' h w (outside_wide nan _ _ at.falling at.rounds reals reals' (omega (arith, laid)) (omega arith) r)

  pub ready_still : Ready s at words reals → Ready s at words' reals'
  ready_still h =
      let laid = h.standing.placed.laid in
      record {
        standing = standing_still h.standing;
        falling = subst (KeptFalling (part_of s) at.polygons) (sym (outside_part nan _ _ at.falling at.thickness reals reals' (omega arith) (omega (arith, laid, h.standing.reals_room)) r)) h.falling;
      }
