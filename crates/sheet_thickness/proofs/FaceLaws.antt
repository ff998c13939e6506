-- The faces of the readings that are off: marked one reading after the other.
use mathlib.Core.Path.{◌≡◌, refl, sym, ap, ◌∙◌}
use mathlib.Core.Bool.{Bool, true, false, ◌&&◌, ◌||◌, cond}
use mathlib.Core.List.{List}
use Prim.Native.Nat.{ℕ, ◌+◌, ◌-◌, ◌≤◌, ◌<◌}
use native.Mathlib.Omega.{arith}
use native.Mathlib.Nat.{le_antisymm}
use lib.Dec.{eqb}
use lib.ListN.{length, get_or, set, replicate, length-set, length-replicate}
use lib.Seq.{get_or-set_same, get_or-set_other}
use lib.Ieee.{Float, nan}
use borrow.Author.Tests.{eqb-true, eqb-false}
use borrow.Rule.Slice.PartMut.{put_mid}
use Rattle.num_float.proofs.Tests.{contrary}
use Rattle.list_laws.specs.Region.{part, Outside}
use Rattle.list_laws.proofs.Regions.{part_length, put_inside}
use Rattle.list_laws.proofs.Fill.{filled_at}
use Rattle.list_laws.proofs.Outside.{outside_none, outside_then, outside_two, outside_put}
use Rattle.file_part.specs.Part.{Part, part_of}
use Rattle.solid_faces.specs.Faces.{faces_of, face_number}
use Rattle.solid_faces.proofs.CountLaws.{few_faces}
use Rattle.solid_bodies.specs.Body.{some_below}
use Rattle.scratch.specs.declared.regions.Regions.{Regions}
use Rattle.scratch.specs.Standing.{Standing}
use Rattle.scratch.proofs.StandingLaws.{placed_polygons}
use Rattle.scratch.proofs.WordsLaws.{face_at_lem}
use Rattle.wall_samples.specs.Samples.{readings_of}
use Rattle.wall_samples.specs.Stored.{Readings}
use Rattle.wall_samples.proofs.ReadingLaws.{place_below, start_below, hit_below}
use Rattle.wall_pairs.specs.Walls.{face_from, face_hit}
use Rattle.wall_pairs.proofs.WallLaws.{walls_inside}
use Rattle.sheet_thickness.specs.Thickness.{edge_limit, thickness_of, is_off, is_off_face}
use Rattle.sheet_thickness.specs.Kept.{Distances, OffFaces}
use Rattle.sheet_thickness.specs.Work.{is_far_off, FacesMarked}
use Rattle.solid_bodies.proofs.SomeLaws.{some_none, some_more}
use Rattle.sheet_thickness.proofs.KeptLaws.{still_stands, still_read}
use Rattle.sheet_thickness.proofs.ReadingLaws.{off_is}

-- ---- two marks
marked_at : (words : List ℕ) (order f g j : ℕ) → order + f < length words → order + g < length words →
    get_or (set (set words (order + f) 1) (order + g) 1) (order + j) 0 ≡ cond (eqb f j || eqb g j) 1 (get_or words (order + j) 0)
marked_at words order f g j lf lg = go (eqb f j) (eqb g j) refl refl
  where
    once : List ℕ
    once = set words (order + f) 1

    go : (a b : Bool) → eqb f j ≡ a → eqb g j ≡ b → get_or (set once (order + g) 1) (order + j) 0 ≡ cond (eqb f j || eqb g j) 1 (get_or words (order + j) 0)
    go true true ea eb =
        rw (ea) (ap (λ (i : ℕ). get_or (set once (order + g) 1) (order + i) 0) (sym (eqb-true g j eb)) ∙ get_or-set_same once (order + g) 1 0 (omega (arith, lg, length-set words (order + f) 1)))
    go true false ea eb =
        rw (ea)
        (get_or-set_other once (order + g) (order + j) 1 0 (λ e. eqb-false g j eb (omega (arith, e)))
        ∙ ap (λ (i : ℕ). get_or once (order + i) 0) (sym (eqb-true f j ea)) ∙ get_or-set_same words (order + f) 1 0 lf)
    go false true ea eb =
        rw (ea, eb) (ap (λ (i : ℕ). get_or (set once (order + g) 1) (order + i) 0) (sym (eqb-true g j eb)) ∙ get_or-set_same once (order + g) 1 0 (omega (arith, lg, length-set words (order + f) 1)))
    go false false ea eb =
        rw (ea, eb)
        (get_or-set_other once (order + g) (order + j) 1 0 (λ e. eqb-false g j eb (omega (arith, e)))
        ∙ get_or-set_other words (order + f) (order + j) 1 0 (λ e. eqb-false f j ea (omega (arith, e))))

-- a face's cell is one of the order
face_low : (s : List ℕ) (at : Regions) (words : List ℕ) (reals : List Float) → Standing s at words reals → (f : ℕ) → f < faces_of (part_of s) → at.order + f < at.kinds
face_low s at words reals g f l = omega (arith, l, few_faces (part_of s), placed_polygons s at g.placed, g.placed.laid)

-- ---- the two faces of reading k
module _ (s : List ℕ) (at : Regions) (words : List ℕ) (reals : List Float) (g : Standing s at words reals) (h : Readings (part_of s) at words reals)
    (k : ℕ) (low : k < length (readings_of (part_of s))) where
  abbrev t : Part
  t = part_of s

  pub start_room : at.readings + k < length words
  start_room = omega (arith, place_below s at words reals g h k low, g.placed.laid, g.words_room)

  pub hit_room : at.hits + k < length words
  hit_room = omega (arith, place_below s at words reals g h k low, g.placed.laid, g.words_room)

  pub from_room : (q : ℕ) → q ≡ get_or words (at.readings + k) 0 → at.faces + q < length words
  from_room q e = omega (arith, start_below s at words reals g h k low q e, g.placed.laid, g.words_room)

  pub to_room : (q : ℕ) → q ≡ get_or words (at.hits + k) 0 → at.faces + q < length words
  to_room q e = omega (arith, hit_below s at words reals g h k low q e, g.placed.laid, g.words_room)

  face : (q : ℕ) → q < at.polygons → get_or words (at.faces + q) 0 ≡ face_number t q
  face q l = face_at_lem t at words q g.placed.laid g.the_words (placed_polygons s at g.placed) l

  from_is : (q f : ℕ) → q ≡ get_or words (at.readings + k) 0 → f ≡ get_or words (at.faces + q) 0 → f ≡ face_from t k
  unfolding face_from
  from_is q f e d = d ∙ face q (start_below s at words reals g h k low q e) ∙ ap (face_number t) (e ∙ h.stored.polygons k low)

  to_is : (q f : ℕ) → q ≡ get_or words (at.hits + k) 0 → f ≡ get_or words (at.faces + q) 0 → f ≡ face_hit t k
  unfolding face_hit
  to_is q f e d = d ∙ face q (hit_below s at words reals g h k low q e) ∙ ap (face_number t) (e ∙ h.stored.hits k low)

  pub from_low : (q f : ℕ) → q ≡ get_or words (at.readings + k) 0 → f ≡ get_or words (at.faces + q) 0 → (at.order + f < at.kinds) × (at.order + f < length words)
  from_low q f e d =
      let l : at.order + f < at.kinds = face_low s at words reals g f (omega (arith, from_is q f e d, (walls_inside t k low).0)) in
      (l, omega (arith, l, g.placed.laid, g.words_room))

  pub to_low : (q f : ℕ) → q ≡ get_or words (at.hits + k) 0 → f ≡ get_or words (at.faces + q) 0 → (at.order + f < at.kinds) × (at.order + f < length words)
  to_low q f e d =
      let l : at.order + f < at.kinds = face_low s at words reals g f (omega (arith, to_is q f e d, (walls_inside t k low).1)) in
      (l, omega (arith, l, g.placed.laid, g.words_room))

  pub faces_marked : (q f p e : ℕ) → q ≡ get_or words (at.readings + k) 0 → f ≡ get_or words (at.faces + q) 0 → p ≡ get_or words (at.hits + k) 0 → e ≡ get_or words (at.faces + p) 0 →
      FacesMarked t at k words (set (set words (at.order + f) 1) (at.order + e) 1)
  faces_marked q f p e eq ef ep ee =
      let lf = from_low q f eq ef in
      let le = to_low p e ep ee in
      record {
        each = λ j l. marked_at words at.order f e j lf.1 le.1
            ∙ ap (λ (i : ℕ). cond (eqb i j || eqb e j) 1 (get_or words (at.order + j) 0)) (from_is q f eq ef)
            ∙ ap (λ (i : ℕ). cond (eqb (face_from t k) j || eqb i j) 1 (get_or words (at.order + j) 0)) (to_is p e ep ee);
        kept = outside_two 0 at.order at.kinds words (at.order + f) (at.order + e) 1 1 (omega arith) lf.0 (omega arith) le.0;
      }

-- ---- one reading after the other
-- reading k is off, and goes from or to face f
abbrev off_at : Part → ℕ → ℕ → Bool
off_at t f k = is_off t k && (eqb (face_from t k) f || eqb (face_hit t k) f)

-- the faces of the first k readings that are off are marked
pub record MarkedTo (t : Part) (at : Regions) (k : ℕ) (words words' : List ℕ) : Type 0 where
  pub each : (f : ℕ) → f < faces_of t → get_or words' (at.order + f) 0 ≡ cond (some_below k (off_at t f)) 1 0
  pub kept : Outside 0 at.order at.kinds words words'

-- one more, by whether it is off
marked_one : (a b c : Bool) (x y : ℕ) → b ≡ true → y ≡ cond a 1 0 → x ≡ cond c 1 y → x ≡ cond (a || (b && c)) 1 0
marked_one true true true x y eb ey ex = ex
marked_one true true false x y eb ey ex = ex ∙ ey
marked_one false true true x y eb ey ex = ex
marked_one false true false x y eb ey ex = ex ∙ ey
marked_one a false c x y eb ey ex = absurd (contrary eb refl)

marked_same : (a b c : Bool) (x : ℕ) → b ≡ false → x ≡ cond a 1 0 → x ≡ cond (a || (b && c)) 1 0
marked_same true false c x eb ex = ex
marked_same false false c x eb ex = ex
marked_same a true c x eb ex = absurd (contrary refl eb)

-- before the first, all cells of the order are 0
module _ (s : List ℕ) (at : Regions) (words : List ℕ) (reals : List Float) (g : Standing s at words reals) (x : List ℕ)
    (e : x ≡ replicate (length (part at.order at.kinds words)) 0) where
  inside : at.kinds ≤ length words
  inside = omega (arith, g.placed.laid, g.words_room)

  width : length (part at.order at.kinds words) ≡ at.kinds - at.order
  width = part_length at.order at.kinds words inside

  long : length x ≡ length (part at.order at.kinds words)
  long = ap length e ∙ length-replicate (length (part at.order at.kinds words)) 0

  abbrev filled : List ℕ
  filled = put_mid at.order (at.kinds - at.order) words x

  pub filled_kept : Outside 0 at.order at.kinds words filled
  filled_kept = outside_put 0 at.order at.kinds words x (omega (arith, g.placed.laid)) inside (long ∙ width)

  pub filled_stands : Standing s at filled reals
  filled_stands = still_stands s at words filled reals reals filled_kept (outside_none nan _ _ reals) g

  pub filled_read : Readings (part_of s) at words reals → Readings (part_of s) at filled reals
  filled_read h = still_read s at words filled reals reals filled_kept (outside_none nan _ _ reals) g h

  pub filled_marked : MarkedTo (part_of s) at 0 filled filled
  filled_marked =
      record {
        each = λ f l.
            let low : at.order + f < at.kinds = face_low s at words reals g f l in
            let back : at.order + f - at.order ≡ f = omega arith in
            put_inside at.order (at.kinds - at.order) words x 0 (omega (arith, inside, g.placed.laid)) (at.order + f) (omega arith) (omega (arith, long, width, low))
            ∙ ap (λ (i : ℕ). get_or x i 0) back
            ∙ filled_at x (length (part at.order at.kinds words)) 0 0 e f (omega (arith, width, low))
            ∙ sym (ap (λ (b : Bool). cond b 1 0) (some_none (off_at (part_of s) f)));
        kept = outside_none 0 at.order at.kinds filled;
      }

module _ (s : List ℕ) (at : Regions) (words : List ℕ) where
  abbrev u : Part
  u = part_of s

  pub marked_more : (k : ℕ) (words1 words2 : List ℕ) → is_off u k ≡ true → MarkedTo u at k words words1 → FacesMarked u at k words1 words2 → MarkedTo u at (k + 1) words words2
  marked_more k words1 words2 passes h p =
      record {
        each = λ f l.
            marked_one (some_below k (off_at u f)) (is_off u k) (eqb (face_from u k) f || eqb (face_hit u k) f) _ _ passes (h.each f l) (p.each f l)
            ∙ ap (λ (b : Bool). cond b 1 0) (sym (some_more k (off_at u f)));
        kept = outside_then 0 _ _ words words1 words2 h.kept p.kept;
      }

  pub marked_past : (k : ℕ) (words1 : List ℕ) → is_off u k ≡ false → MarkedTo u at k words words1 → MarkedTo u at (k + 1) words words1
  marked_past k words1 fails h =
      record {
        each = λ f l.
            marked_same (some_below k (off_at u f)) (is_off u k) (eqb (face_from u k) f || eqb (face_hit u k) f) _ fails (h.each f l)
            ∙ ap (λ (b : Bool). cond b 1 0) (sym (some_more k (off_at u f)));
        kept = h.kept;
      }

  pub off_faces_lem : (m k : ℕ) (words1 : List ℕ) → m ≡ length (readings_of u) → k ≤ m → m ≤ k → MarkedTo u at k words words1 → OffFaces u at words1
  unfolding is_off_face
  off_faces_lem m k words1 em a b h =
      record { each = λ f l. h.each f l ∙ ap (λ (i : ℕ). cond (some_below i (off_at u f)) 1 0) (le_antisymm a b ∙ em) }

  -- what stands while the marks are put
  module _ (reals : List Float) (g : Standing s at words reals) (h : Readings u at words reals) (k : ℕ) (words1 : List ℕ) (p : MarkedTo u at k words words1) where
    pub marked_stands : Standing s at words1 reals
    marked_stands = still_stands s at words words1 reals reals p.kept (outside_none nan _ _ reals) g

    pub marked_read : Readings u at words1 reals
    marked_read = still_read s at words words1 reals reals p.kept (outside_none nan _ _ reals) g h

  -- whether reading k is off
  pub is_off_lem : (reals : List Float) (h : Readings u at words reals) (d : Distances u at reals) (limit value : Float) → limit ≡ edge_limit u → value ≡ thickness_of u → (k : ℕ) → k < length (readings_of u) →
      (b r : Bool) → r ≡ is_far_off at limit value reals k → r ≡ b → is_off u k ≡ b
  is_off_lem reals h d limit value el ev k low b r er eb = sym (off_is u at reals limit d el words h value ev k low) ∙ sym er ∙ eb
