-- The legs that a tour of a face's neighbours takes, and those of a bend's two faces.
use mathlib.Core.Path.{◌≡◌, refl, sym, ap, ◌∙◌}
use mathlib.Core.Bool.{Bool, true, false, cond}
use mathlib.Core.Logic.{◌⊎◌, inl, inr}
use mathlib.Core.List.Memᴰ
use mathlib.Core.List.{List, [], ◌∷◌, ◌++◌, Memᴰ}
use Prim.Native.Nat.{ℕ, zero, suc, ◌+◌, ◌*◌, ◌≤◌, ◌<◌}
use native.Mathlib.Omega.{arith}
use lib.ListN.{length, get_or, length-append}
use lib.Ieee.{Float}
use Rattle.num_float.proofs.Tests.{lt_or_ge}
use Rattle.math.specs.declared.Vec3.{Vec3}
use Rattle.list_groups.specs.Groups.{joined, unless_empty}
use Rattle.list_groups.proofs.Flat.{joined_none, joined_suc}
use Rattle.file_part.specs.Part.{Part, part_of}
use Rattle.file_ok.specs.Work.{Readable}
use Rattle.solid_faces.specs.Faces.{faces_of}
use Rattle.scratch.specs.declared.regions.Regions.{Regions}
use Rattle.solid_ranks.specs.Ranks.{rank_of, face_of_rank}
use Rattle.solid_tours.specs.declared.tour.Places.{Places}
use Rattle.solid_tours.specs.declared.tour.Group.{Group}
use Rattle.solid_tours.specs.Tours.{edges_between, over_neighbours}
use Rattle.solid_tours.specs.Work.Kept.{key_start, EdgesOrdered, FacePlaces, RestPlaces, GroupPlaces, NextGroup, TourTo, ItemAt}
use Rattle.solid_tours.proofs.EdgeLaws.{edge_between, first_edge}
use Rattle.solid_tours.proofs.TourLaws.{place_between, group_first, rest_all, tour_start, tour_more, tour_end}
use Rattle.round_all.specs.Round.{round_of}
use Rattle.sheet_bends.specs.Bends.{outside_of}
use Rattle.rule_flanges.specs.declared.legs.Leg.{Leg}
use Rattle.rule_flanges.specs.Flanges.{runs_on, group_legs, legs_beside, legs_of, taken_from}
use Rattle.rule_flanges.specs.Work.{legs_in, LegsThere, LegsTaken}
use Rattle.rule_flanges.proofs.LegLaws.{taken_append, taken_few}

-- ---- the first segment of a group
some_member : (l : List ℕ) {r : ℕ} → Memᴰ r l → 0 < length l
some_member [] m = absurd (Memᴰ.not-nil m)
some_member (x ∷ l) m = omega arith

pub first_line : (s : List ℕ) (at : Regions) (words : List ℕ) (reals : List Float) (o : EdgesOrdered s at words reals) (g : Group) (r : ℕ) → GroupPlaces (part_of s) at words g →
    ItemAt (part_of s) at words g.start r → r ≡ get_or (edges_between (part_of s) g.face g.other) 0 0
first_line s at words reals o g r h item =
    let between = place_between s at words reals o g g.start r h (omega arith) h.some item in
    group_first s at words reals o g r h item
    ∙ sym (first_edge (part_of s) g.face g.other (some_member _ (edge_between (part_of s) g.face g.other r item.below between)))

-- ---- a neighbour gives one leg at most
module _ (t : Part) (thick : Float) (axis : Vec3) (h : ℕ) where
  group_few : (g : ℕ) (l : List ℕ) → length (group_legs t thick axis h g l) ≤ 1
  unfolding group_legs
  group_few g l = go (runs_on t thick axis g)
    where
      go : (b : Bool) → length {A = Leg} (cond b (record { bend = h; face = g; line = get_or l 0 0 } ∷ []) []) ≤ 1
      go true = omega arith
      go false = omega arith

  unless_few : (l : List ℕ) (x : List Leg) → length x ≤ 1 → length (unless_empty l x) ≤ 1
  unfolding unless_empty
  unless_few [] x e = omega arith
  unless_few (y ∷ l) x e = e

  joined_few : (f : ℕ → List Leg) → ((r : ℕ) → length (f r) ≤ 1) → (n : ℕ) → length (joined f n) ≤ n
  joined_few f few zero = let none = ap length (joined_none f) in omega (arith, none)
  joined_few f few (suc n) =
      let more = ap length (joined_suc f n) in
      omega (arith, more, length-append (joined f n) (f n), few n, joined_few f few n)

  met_few : (i : ℕ) (out : List Leg) (w : TourTo t h (group_legs t thick axis h) i out) → length out ≤ w.upto
  met_few i out w =
      let each : ℕ → List Leg = λ r. unless_empty (edges_between t h (face_of_rank t r)) (group_legs t thick axis h (face_of_rank t r) (edges_between t h (face_of_rank t r))) in
      let size = ap length w.met in
      omega (arith, size, joined_few each (λ r. unless_few (edges_between t h (face_of_rank t r)) _ (group_few (face_of_rank t r) (edges_between t h (face_of_rank t r)))) w.upto)

-- A tour of the neighbours of face h that is at place i has met some legs. Of these the taken ones follow the n that were, m then.
pub record LegsTo (t : Part) (thick : Float) (axis : Vec3) (h n : ℕ) (cells : List ℕ) (end : ℕ) (cells' : List ℕ) (m i : ℕ) : Type 0 where
  pub out : List Leg
  pub tour : TourTo t h (group_legs t thick axis h) i out
  pub taken : legs_in cells' m ≡ taken_from t (legs_in cells n) out
  pub there : LegsThere t cells' m
  pub long : length cells' ≡ length cells
  pub left : RestPlaces t h (record { start = i; end = end })

-- ---- the tour
module _ (s : List ℕ) (readable : Readable s) (thick : Float) (axis : Vec3) (h n : ℕ) (cells : List ℕ) where
  pub legs_start : (at : Regions) (words : List ℕ) (r : Places) → FacePlaces (part_of s) at words h r → LegsThere (part_of s) cells n →
      LegsTo (part_of s) thick axis h n cells r.end cells n r.start
  unfolding taken_from
  legs_start at words r places there =
      record {
        out = [];
        tour = tour_start s readable h (group_legs (part_of s) thick axis h) at words r places;
        taken = refl;
        there = there;
        long = refl;
        left = rest_all (part_of s) at words h r places;
      }

  module _ (end : ℕ) (cells' : List ℕ) (m i : ℕ) (w : LegsTo (part_of s) thick axis h n cells end cells' m i) where
    -- while a place is left, so is a neighbour
    not_all : i < end → (w.tour.upto < faces_of (part_of s)) ⊎ (faces_of (part_of s) ≤ w.tour.upto) → w.tour.upto < faces_of (part_of s)
    not_all l (inl less) = less
    not_all l (inr ge) =
        let t = part_of s in
        let all : w.tour.upto ≡ faces_of t = omega (arith, ge, w.tour.low) in
        let same : i ≡ end = w.tour.place ∙ ap (λ (k : ℕ). key_start t (rank_of t h * faces_of t + k)) all ∙ sym w.left.end_is in
        absurd (omega (arith, same, l))

    -- so there is room for its leg
    pub legs_room : i < end → 3 * (n + faces_of (part_of s)) ≤ length cells → 3 * m + 3 ≤ length cells'
    legs_room l room =
        omega (
          arith,
          room,
          w.long,
          not_all l (lt_or_ge w.tour.upto (faces_of (part_of s))),
          met_few (part_of s) thick axis h i w.out w.tour,
          taken_few (part_of s) w.out n m cells cells' w.taken,
        )

    -- one neighbour more
    pub legs_next : (at : Regions) (words : List ℕ) (g : Group) (cells'' : List ℕ) (r : ℕ) → NextGroup (part_of s) at words h (record { start = i; end = end }) g →
        LegsTaken (part_of s) (group_legs (part_of s) thick axis g.face g.other (edges_between (part_of s) g.face g.other)) 1 m cells' cells'' r →
        LegsTo (part_of s) thick axis h n cells end cells'' r g.end
    legs_next at words g cells'' r next p =
        let t = part_of s in
        let legs = group_legs t thick axis h g.other (edges_between t h g.other) in
        record {
          out = w.out ++ legs;
          tour = tour_more s readable h (group_legs t thick axis h) at words (record { start = i; end = end }) g next w.out w.tour;
          taken = p.taken
              ∙ ap (λ (k : ℕ). taken_from t (legs_in cells' m) (group_legs t thick axis k g.other (edges_between t k g.other))) next.face_is
              ∙ ap (λ (l : List Leg). taken_from t l legs) w.taken ∙ sym (taken_append t (legs_in cells n) w.out legs);
          there = p.there;
          long = p.long ∙ w.long;
          left = next.left;
        }

    -- at the end it has met all
    pub legs_end : end ≤ i → h < faces_of (part_of s) → axis ≡ (round_of (part_of s) h).axis →
        LegsTaken (part_of s) (legs_beside (part_of s) thick h) (faces_of (part_of s)) n cells cells' m
    unfolding legs_beside
    legs_end none low e =
        let t = part_of s in
        let all : w.out ≡ over_neighbours t h (group_legs t thick axis h) = tour_end s readable h (group_legs t thick axis h) (record { start = i; end = end }) low w.left none w.out w.tour in
        record {
          taken = w.taken ∙ ap (taken_from t (legs_in cells n)) (all ∙ ap (λ (a : Vec3). over_neighbours t h (group_legs t thick a h)) e);
          there = w.there;
          few = omega (arith, met_few t thick axis h i w.out w.tour, taken_few t w.out n m cells cells' w.taken, w.tour.low);
          long = w.long;
        }

-- ---- the two faces of a bend, one after the other
pub both_taken : (t : Part) (thick : Float) (f g n r : ℕ) (cells cells' cells'' : List ℕ) → g ≡ outside_of t thick f → LegsTaken t (legs_beside t thick f) (faces_of t) 0 cells cells' n →
    LegsTaken t (legs_beside t thick g) (faces_of t) n cells' cells'' r → LegsTaken t (legs_of t thick f) (2 * faces_of t) 0 cells cells'' r
unfolding legs_of
both_taken t thick f g n r cells cells' cells'' e p q =
    record {
      taken = q.taken ∙ ap (λ (k : ℕ). taken_from t (legs_in cells' n) (legs_beside t thick k)) e
          ∙ ap (λ (l : List Leg). taken_from t l (legs_beside t thick (outside_of t thick f))) p.taken
          ∙ sym (taken_append t (legs_in cells 0) (legs_beside t thick f) (legs_beside t thick (outside_of t thick f)));
      there = q.there;
      few = omega (arith, p.few, q.few);
      long = q.long ∙ p.long;
    }

pub none_there : (t : Part) (cells : List ℕ) → LegsThere t cells 0
none_there t cells = record { each = λ i l. absurd (omega (arith, l)); room = omega arith }
