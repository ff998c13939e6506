-- The legs of a bend: whether a face runs on, the legs that stand in cells, those that are seen, and one list taken after another.
use mathlib.Core.Path.{◌≡◌, refl, sym, ap, ap₂, ◌∙◌, subst}
use mathlib.Core.Bool.{Bool, true, false, not, ◌||◌, cond}
use mathlib.Core.Logic.{◌⊎◌, inl, inr}
use mathlib.Core.List.{List, [], ◌∷◌, ◌++◌}
use Prim.Native.Nat.{ℕ, zero, suc, ◌+◌, ◌*◌, ◌≤◌, ◌<◌}
use native.Mathlib.Numerals.{add-one}
use native.Mathlib.Nat.{le_antisymm}
use native.Mathlib.Omega.{arith}
use lib.ListN.{length, get_or, set, length-set, length-append}
use lib.Seq.{get_or-set_same, get_or-set_other}
use lib.Ieee.{Float, lt}
use Rattle.num_float.proofs.Tests.{lt_or_ge}
use Rattle.num_real.specs.Select.{abs_of}
use Rattle.math.specs.declared.Vec3.{Vec3}
use Rattle.math.specs.Vector.{dot_of}
use Rattle.file_part.specs.Part.{Part}
use Rattle.solid_flat.specs.Flat.{is_flat_face, face_normal}
use Rattle.round_all.specs.Round.{is_round}
use Rattle.sheet_bends.specs.Bends.{is_bend_face}
use Rattle.rule_flanges.specs.declared.legs.Leg.{Leg}
use Rattle.rule_flanges.specs.Flanges.{tenth, ninety_nine, runs_on, group_legs, is_seen, with_leg, taken_from}
use Rattle.rule_flanges.specs.Work.{leg_at, legs_in, LegThere, LegsThere, LegsTaken}

-- what a test on `!` says
pub not_true : (b : Bool) → not b ≡ true → b ≡ false
not_true true e = sym e
not_true false e = refl

pub not_false : (b : Bool) → not b ≡ false → b ≡ true
not_false true e = refl
not_false false e = sym e

-- ---- whether a face runs on
module _ (t : Part) (thick : Float) (axis : Vec3) (g : ℕ) where
  pub runs_not_flat : is_flat_face t g ≡ false → false ≡ runs_on t thick axis g
  unfolding runs_on
  runs_not_flat e = rw e

  pub runs_not_bend : is_flat_face t g ≡ true → is_bend_face t thick g ≡ true → false ≡ runs_on t thick axis g
  unfolding runs_on
  runs_not_bend e h = rw (e, h)

  pub runs_by : is_flat_face t g ≡ true → is_bend_face t thick g ≡ false → (n : Vec3) (d x : Float) → n ≡ face_normal t g → d ≡ dot_of n axis → x ≡ abs_of d →
      not (lt tenth x) ≡ runs_on t thick axis g
  unfolding runs_on
  runs_by e h n d x en ed ex = rw (e, h, ex, ed, en)

-- ---- the legs in cells
leg_path : (u v : Leg) → u.bend ≡ v.bend → u.face ≡ v.face → u.line ≡ v.line → u ≡ v
leg_path u v a b c = λ i. record { bend = a i; face = b i; line = c i }

pub leg_is : (cells : List ℕ) (i a b c : ℕ) → a ≡ get_or cells (3 * i) 0 → b ≡ get_or cells (3 * i + 1) 0 → c ≡ get_or cells (3 * i + 2) 0 →
    record { bend = a; face = b; line = c } ≡ leg_at cells i
unfolding leg_at
leg_is cells i a b c x y z = leg_path _ _ x y z

leg_same : (cells cells' : List ℕ) (i : ℕ) → ((j : ℕ) → j < 3 * i + 3 → get_or cells' j 0 ≡ get_or cells j 0) → leg_at cells' i ≡ leg_at cells i
unfolding leg_at
leg_same cells cells' i h = leg_path _ _ (h (3 * i) (omega arith)) (h (3 * i + 1) (omega arith)) (h (3 * i + 2) (omega arith))

pub legs_none : (cells : List ℕ) → legs_in cells 0 ≡ []
unfolding legs_in
legs_none cells = refl

pub legs_more : (cells : List ℕ) (n : ℕ) → legs_in cells (n + 1) ≡ legs_in cells n ++ (leg_at cells n ∷ [])
unfolding legs_in
legs_more cells n = rw add-one

legs_same : (cells cells' : List ℕ) (n : ℕ) → ((j : ℕ) → j < 3 * n → get_or cells' j 0 ≡ get_or cells j 0) → legs_in cells' n ≡ legs_in cells n
unfolding legs_in
legs_same cells cells' zero h = refl
legs_same cells cells' (suc n) h =
    ap₂ (λ (l : List Leg) (x : Leg). l ++ (x ∷ [])) (legs_same cells cells' n (λ j l. h j (omega (arith, l)))) (leg_same cells cells' n (λ j l. h j (omega (arith, l))))

legs_length : (cells : List ℕ) (n : ℕ) → length (legs_in cells n) ≡ n
unfolding legs_in
legs_length cells zero = refl
legs_length cells (suc n) = length-append (legs_in cells n) (leg_at cells n ∷ []) ∙ (let before = legs_length cells n in omega (arith, before))

-- ---- whether a face's normal is along that of a leg
module _ (t : Part) (g : ℕ) where
  abbrev is_along : Leg → Bool
  is_along m = lt ninety_nine (abs_of (dot_of (face_normal t m.face) (face_normal t g)))

  pub along_by : (cells : List ℕ) (i : ℕ) (leg : Leg) (other normal : Vec3) (d x : Float) (b : Bool) → leg ≡ leg_at cells i → other ≡ face_normal t leg.face →
      normal ≡ face_normal t g → d ≡ dot_of other normal → x ≡ abs_of d → lt ninety_nine x ≡ b → is_along (leg_at cells i) ≡ b
  along_by cells i leg other normal d x b el eo en ed ex e =
      let here : is_along leg ≡ lt ninety_nine x = sym (rw (ex, ed, eo, en)) in
      subst (λ (m : Leg). is_along m ≡ b) el (here ∙ e)

  or_last : (a : Bool) → (a || false) ≡ a
  or_last true = refl
  or_last false = refl

  or_assoc : (a b c : Bool) → (a || (b || c)) ≡ ((a || b) || c)
  or_assoc true b c = refl
  or_assoc false b c = refl

  or_true : (a : Bool) → (a || true) ≡ true
  or_true true = refl
  or_true false = refl

  seen_last : (l : List Leg) (m : Leg) → is_seen t (l ++ (m ∷ [])) g ≡ (is_seen t l g || is_along m)
  unfolding is_seen
  seen_last [] m = or_last (is_along m)
  seen_last (k ∷ l) m = ap (λ (b : Bool). is_along k || b) (seen_last l m) ∙ or_assoc (is_along k) (is_seen t l g) (is_along m)

  pub seen_none : (cells : List ℕ) → is_seen t (legs_in cells 0) g ≡ false
  unfolding is_seen legs_in
  seen_none cells = refl

  seen_next : (cells : List ℕ) (n : ℕ) → is_seen t (legs_in cells (n + 1)) g ≡ (is_seen t (legs_in cells n) g || is_along (leg_at cells n))
  seen_next cells n = ap (λ (l : List Leg). is_seen t l g) (legs_more cells n) ∙ seen_last (legs_in cells n) (leg_at cells n)

  pub seen_more : (cells : List ℕ) (n : ℕ) → is_seen t (legs_in cells n) g ≡ false → is_along (leg_at cells n) ≡ false → is_seen t (legs_in cells (n + 1)) g ≡ false
  seen_more cells n e h = seen_next cells n ∙ rw (e, h)

  pub seen_all : (cells : List ℕ) (i n : ℕ) → i ≤ n → n ≤ i → is_seen t (legs_in cells i) g ≡ false → false ≡ is_seen t (legs_in cells n) g
  seen_all cells i n l m e = sym (subst (λ (k : ℕ). is_seen t (legs_in cells k) g ≡ false) (le_antisymm l m) e)

  pub seen_found : (cells : List ℕ) (i n : ℕ) → i < n → is_along (leg_at cells i) ≡ true → is_seen t (legs_in cells n) g ≡ true
  seen_found cells i zero l e = absurd (omega (arith, l))
  seen_found cells i (suc n) l e = go (λ k. seen_found cells i n k e) (lt_or_ge i n)
    where
      one : is_seen t (legs_in cells (suc n)) g ≡ (is_seen t (legs_in cells n) g || is_along (leg_at cells n))
      one = ap (λ (k : ℕ). is_seen t (legs_in cells k) g) (sym (add-one n)) ∙ seen_next cells n

      go : (i < n → is_seen t (legs_in cells n) g ≡ true) → (i < n) ⊎ (n ≤ i) → is_seen t (legs_in cells (suc n)) g ≡ true
      go before (inl less) = one ∙ rw (before less)
      go before (inr ge) =
          let same : i ≡ n = omega (arith, l, ge) in
          let last : is_along (leg_at cells n) ≡ true = subst (λ (k : ℕ). is_along (leg_at cells k) ≡ true) same e in
          one ∙ ap (λ (b : Bool). is_seen t (legs_in cells n) g || b) last ∙ or_true (is_seen t (legs_in cells n) g)

-- a leg that is there, where it is read
pub leg_there : (t : Part) (cells : List ℕ) (n i : ℕ) (leg : Leg) → LegsThere t cells n → i < n → leg ≡ leg_at cells i → LegThere t leg
leg_there t cells n i leg h l e = subst (LegThere t) (sym e) (h.each i l)

-- ---- legs taken one after another
pub taken_append : (t : Part) (seen xs ys : List Leg) → taken_from t seen (xs ++ ys) ≡ taken_from t (taken_from t seen xs) ys
unfolding taken_from
taken_append t seen [] ys = refl
taken_append t seen (x ∷ xs) ys = taken_append t (with_leg t seen x) xs ys

with_length : (t : Part) (seen : List Leg) (x : Leg) → length (with_leg t seen x) ≤ length seen + 1
unfolding with_leg
with_length t seen x = go (is_seen t seen x.face)
  where
    go : (b : Bool) → length (cond b seen (seen ++ (x ∷ []))) ≤ length seen + 1
    go true = omega arith
    go false = omega (arith, length-append seen (x ∷ []))

taken_length : (t : Part) (seen xs : List Leg) → length (taken_from t seen xs) ≤ length seen + length xs
unfolding taken_from
taken_length t seen [] = omega arith
taken_length t seen (x ∷ xs) = omega (arith, taken_length t (with_leg t seen x) xs, with_length t seen x)

-- so there are no more than before and those
pub taken_few : (t : Part) (legs : List Leg) (n r : ℕ) (cells cells' : List ℕ) → legs_in cells' r ≡ taken_from t (legs_in cells n) legs → r ≤ n + length legs
taken_few t legs n r cells cells' e =
    let size = ap length e in
    omega (arith, size, taken_length t (legs_in cells n) legs, legs_length cells n, legs_length cells' r)

module _ (t : Part) (n : ℕ) (cells : List ℕ) (there : LegsThere t cells n) where
  -- ---- one leg
  pub leg_seen : (leg : Leg) → is_seen t (legs_in cells n) leg.face ≡ true → LegsTaken t (leg ∷ []) 1 n cells cells n
  unfolding taken_from with_leg
  leg_seen leg e = record { taken = rw e; there = there; few = omega arith; long = refl }

  module _ (leg : Leg) (is : LegThere t leg) (room : 3 * n + 3 ≤ length cells) where
    abbrev one : List ℕ
    one = set cells (3 * n) leg.bend

    abbrev two : List ℕ
    two = set one (3 * n + 1) leg.face

    abbrev three : List ℕ
    three = set two (3 * n + 2) leg.line

    pub put_long : length three ≡ length cells
    put_long = length-set two (3 * n + 2) leg.line ∙ length-set one (3 * n + 1) leg.face ∙ length-set cells (3 * n) leg.bend

    -- the places that are written after the first one
    pub second_room : 3 * n + 1 < length one
    second_room = omega (arith, room, length-set cells (3 * n) leg.bend)

    pub third_room : 3 * n + 2 < length two
    third_room = omega (arith, room, length-set cells (3 * n) leg.bend, length-set one (3 * n + 1) leg.face)

    put_before : (j : ℕ) → j < 3 * n → get_or three j 0 ≡ get_or cells j 0
    put_before j l =
        get_or-set_other two (3 * n + 2) j leg.line 0 (λ e. omega (arith, e, l)) ∙ get_or-set_other one (3 * n + 1) j leg.face 0 (λ e. omega (arith, e, l))
        ∙ get_or-set_other cells (3 * n) j leg.bend 0 (λ e. omega (arith, e, l))

    put_leg : leg_at three n ≡ leg
    unfolding leg_at
    put_leg =
        let l1 : length one ≡ length cells = length-set cells (3 * n) leg.bend in
        let l2 : length two ≡ length cells = length-set one (3 * n + 1) leg.face ∙ l1 in
        leg_path _ _
        (get_or-set_other two (3 * n + 2) (3 * n) leg.line 0 (λ e. omega (arith, e)) ∙ get_or-set_other one (3 * n + 1) (3 * n) leg.face 0 (λ e. omega (arith, e))
        ∙ get_or-set_same cells (3 * n) leg.bend 0 (omega (arith, room)))
        (get_or-set_other two (3 * n + 2) (3 * n + 1) leg.line 0 (λ e. omega (arith, e)) ∙ get_or-set_same one (3 * n + 1) leg.face 0 (omega (arith, room, l1)))
        (get_or-set_same two (3 * n + 2) leg.line 0 (omega (arith, room, l2)))

    put_each : (i : ℕ) → (i < n) ⊎ (n ≤ i) → i < n + 1 → LegThere t (leg_at three i)
    put_each i (inl low) l = subst (LegThere t) (sym (leg_same cells three i (λ j k. put_before j (omega (arith, k, low))))) (there.each i low)
    put_each i (inr high) l = let same : n ≡ i = omega (arith, high, l) in subst (λ (k : ℕ). LegThere t (leg_at three k)) same (subst (LegThere t) (sym put_leg) is)

    pub leg_put : is_seen t (legs_in cells n) leg.face ≡ false → LegsTaken t (leg ∷ []) 1 n cells three (n + 1)
    unfolding taken_from with_leg
    leg_put e =
        record {
          taken = legs_more three n ∙ ap₂ (λ (l : List Leg) (x : Leg). l ++ (x ∷ [])) (legs_same cells three n put_before) put_leg ∙ rw e;
          there = record { each = λ i l. put_each i (lt_or_ge i n) l; room = omega (arith, room, put_long) };
          few = omega arith;
          long = put_long;
        }

  -- ---- a neighbour that does not run on, and one that does
  module _ (thick : Float) (axis : Vec3) (h g : ℕ) (segments : List ℕ) where
    pub group_none : runs_on t thick axis g ≡ false → LegsTaken t (group_legs t thick axis h g segments) 1 n cells cells n
    unfolding group_legs taken_from
    group_none e = record { taken = rw e; there = there; few = omega arith; long = refl }

    pub group_one : runs_on t thick axis g ≡ true → (line : ℕ) → line ≡ get_or segments 0 0 → (cells' : List ℕ) (r : ℕ) →
        LegsTaken t (record { bend = h; face = g; line = line } ∷ []) 1 n cells cells' r → LegsTaken t (group_legs t thick axis h g segments) 1 n cells cells' r
    unfolding group_legs
    group_one e line el cells' r p =
        subst (λ (l : List Leg). LegsTaken t l 1 n cells cells' r) (ap (λ (k : ℕ). record { bend = h; face = g; line = k } ∷ []) el ∙ rw e) p

-- the same face in other words
pub round_same : (t : Part) (f g : ℕ) → g ≡ f → is_round t f ≡ true → is_round t g ≡ true
round_same t f g e h = subst (λ (k : ℕ). is_round t k ≡ true) (sym e) h
