-- The u32 scratch after its regions have been put: the bodies with their work, the sides over that work, each where it is asked for, the faces after
-- them, and then the chain over the rest of that work.
use mathlib.Core.Path.{◌≡◌, sym, ap, ◌∙◌, subst}
use mathlib.Core.Bool.{true, not}
use mathlib.Core.List.{List}
use mathlib.Core.Logic.{◌⊎◌, inl, inr}
use Prim.Native.Nat.{ℕ, ◌+◌, ◌-◌, ◌*◌, ◌≤◌, ◌<◌}
use native.Mathlib.Omega.{arith}
use native.Mathlib.Nat.{sub-zero, zero-add}
use lib.ListN.{length, get_or, set, take, drop, replicate, length-set, length-replicate}
use lib.Seq.{take-take, get_or-set_same, get_or-set_other}
use borrow.Rule.Slice.PartMut.{put_mid}
use borrow.Author.Tests.{not-true}
use Rattle.num_float.proofs.Tests.{contrary, lt_or_ge}
use Rattle.list_laws.specs.Region.{part, Outside}
use Rattle.list_laws.proofs.Regions.{part_length, put_length, part_put, part_place, put_inside}
use Rattle.list_laws.proofs.Outside.{outside_none, outside_then, outside_wide, outside_put, outside_part, outside_after}
use Rattle.list_laws.proofs.Fill.{filled_at}
use Rattle.file_part.specs.Part.{Part}
use Rattle.solid_volumes.specs.solid_segments.specs.Sides.{SharedSegments}
use Rattle.solid_volumes.specs.solid_segments.proofs.SharedLaws.{shared_front}
use Rattle.solid_volumes.specs.solid_bodies.specs.Body.{Labels, Bodies}
use Rattle.solid_volumes.specs.solid_bodies.proofs.BodyLaws.{labels_as}
use Rattle.solid_faces.specs.Faces.{faces_of, face_number, first_polygon, next_of, next_polygon}
use Rattle.solid_faces.specs.Kept.{Faces, Chain}
use Rattle.solid_faces.proofs.FaceLaws.{Begins, first_polygon_begins}
use Rattle.solid_faces.proofs.ChainLaws.{next_here, next_other, next_end}
use Rattle.scratch.specs.declared.regions.Regions.{Regions}
use Rattle.scratch.specs.Regions.{Laid}
use Rattle.scratch.specs.Standing.{Words}
use Rattle.scratch.specs.Work.{LabelsPut, SidesPut, WordsBefore}

-- ---- the bodies, where they are asked for: x is what their stage leaves
module _ (t : Part) (at : Regions) (laid : Laid at) (s : List ℕ) (room : at.words ≤ length s) where
  pub labels_none : not at.bodies ≡ true → LabelsPut t at s s
  labels_none off = record { labels = λ on. absurd (contrary on (not-true _ off)); kept = outside_none 0 _ _ s }

  pub labels_put : (x : List ℕ) → length x ≡ at.work - 0 → at.polygons ≡ t.polygons → Bodies t x → LabelsPut t at s (put_mid 0 (at.work - 0) s x)
  labels_put x lx e b =
      record {
        labels = λ on. labels_as t x _ b.labels
            (λ q l. put_inside 0 (at.work - 0) s x 0 (omega arith) q (omega arith) (omega (arith, l, e, lx, laid)) ∙ ap (λ (k : ℕ). get_or x k 0) (sub-zero q))
            (omega (arith, room, e, laid, put_length 0 at.work s x (omega (arith, room, laid)) lx));
        kept = outside_put 0 0 at.work s x (omega arith) (omega (arith, room, laid)) lx;
      }

  -- ---- the sides, where they are asked for: y is what their stage leaves
  pub sides_none : not at.segments ≡ true → SidesPut t at s s
  sides_none off = record { sides = λ on. absurd (contrary on (not-true _ off)); kept = outside_none 0 _ _ s }

  pub sides_put : (y : List ℕ) → length y ≡ at.faces - at.sides → at.vertices ≡ t.vertices → SharedSegments t y →
      SidesPut t at s (put_mid at.sides (at.faces - at.sides) s y)
  sides_put y ly v c =
      record {
        sides = λ on. subst (SharedSegments t)
            (sym (sym (take-take (at.items - at.sides) (at.faces - at.sides) (drop at.sides (put_mid at.sides (at.faces - at.sides) s y)) (omega (arith, laid)))
            ∙ ap (take (at.items - at.sides)) (part_put at.sides at.faces s y (omega (arith, room, laid)) ly)))
            (shared_front t y (at.items - at.sides) (omega (arith, v, laid)) c);
        kept = outside_put 0 at.sides at.faces s y (omega (arith, laid)) (omega (arith, room, laid)) ly;
      }

-- ---- the bodies, the sides and the faces z after each other
module _ (t : Part) (at : Regions) (laid : Laid at) (s first second z : List ℕ) (room : at.words ≤ length s) (lz : length z ≡ at.readings - at.faces)
    (b : LabelsPut t at s first) (c : SidesPut t at first second) where
  abbrev pub third : List ℕ
  third = put_mid at.faces (at.readings - at.faces) second z

  second_room : at.words ≤ length second
  second_room = omega (arith, room, b.kept.long, c.kept.long)

  faces_outside : Outside 0 at.faces at.readings second third
  faces_outside = outside_put 0 at.faces at.readings second z (omega (arith, laid)) (omega (arith, second_room, laid)) lz

  all_words : at.polygons ≡ t.polygons → Faces t z → WordsBefore t at third
  all_words e f =
      record {
        labels = λ on. labels_as t first third (b.labels on)
            (λ q l. faces_outside.below q (omega (arith, l, e, laid)) ∙ c.kept.below q (omega (arith, l, e, laid)))
            (omega (arith, second_room, e, laid, faces_outside.long));
        sides = λ on. subst (SharedSegments t)
            (sym (outside_part 0 at.faces at.readings at.sides at.items second third (omega (arith, laid)) (omega (arith, second_room, laid)) faces_outside)) (c.sides on);
        faces = subst (Faces t) (sym (part_put at.faces at.readings second z (omega (arith, second_room, laid)) lz)) f;
      }

  outside : Outside 0 0 at.readings s third
  outside =
      outside_then 0 _ _ s first third (outside_wide 0 _ _ 0 at.readings s first (omega arith) (omega (arith, laid)) b.kept)
      (outside_then 0 _ _ first second third (outside_wide 0 _ _ 0 at.readings first second (omega arith) (omega (arith, laid)) c.kept)
      (outside_wide 0 _ _ 0 at.readings second third (omega arith) (omega arith) faces_outside))

  pub words_put : (at.polygons ≡ t.polygons → Faces t z → WordsBefore t at third) × Outside 0 0 at.readings s third
  words_put = (all_words, outside)

-- then the chain
pub words_chain : (t : Part) (at : Regions) (words words' : List ℕ) → Laid at → at.words ≤ length words → at.polygons ≡ t.polygons → WordsBefore t at words →
    Chain t (part at.chain at.faces words') → Outside 0 at.chain at.faces words words' → Words t at words'
words_chain t at words words' laid room e w chain o =
    record {
      labels = λ on. labels_as t words words' (w.labels on) (λ q l. o.below q (omega (arith, l, e, laid))) (omega (arith, room, e, laid, o.long));
      sides = λ on. subst (SharedSegments t)
          (sym (outside_part 0 at.chain at.faces at.sides at.items words words' (omega (arith, laid)) (omega (arith, room, laid)) o)) (w.sides on);
      chain = chain;
      faces = subst (Faces t)
          (sym (outside_after 0 at.chain at.faces at.faces at.readings words words' (omega arith) (omega (arith, room, laid)) o)) w.faces;
    }

-- ---- the chain, from the last polygon down
-- `next` has the lowest polygon of each face from q on
pub record NextFrom (t : Part) (q : ℕ) (next : List ℕ) : Type 0 where
  pub each : (f : ℕ) → f < 1024 → get_or next f 0 ≡ next_of t f q
  pub long : length next ≡ 1024

pub next_none : (t : Part) (q : ℕ) (next : List ℕ) → q ≡ t.polygons → next ≡ replicate 1024 q → NextFrom t q next
next_none t q next e filled =
    record {
      each = λ f l. filled_at next 1024 q 0 filled f l ∙ e ∙ sym (next_end t f) ∙ ap (next_of t f) (sym e);
      long = ap length filled ∙ length-replicate {A = ℕ} 1024 q;
    }

-- polygon q, of face f, is next
pub next_more : (t : Part) (k q f : ℕ) (next : List ℕ) → k ≡ q + 1 → q < t.polygons → f ≡ face_number t q → f < 1024 → NextFrom t k next →
    NextFrom t q (set next f q)
next_more t k q f next one l e low h =
    record { each = λ g m. go g m (lt_or_ge g f) (lt_or_ge f g); long = length-set next f q ∙ h.long }
  where
    apart : (g : ℕ) → g < 1024 → (g ≡ f → ⊥) → get_or (set next f q) g 0 ≡ next_of t g q
    apart g m other = get_or-set_other next f g q 0 other ∙ h.each g m ∙ ap (next_of t g) one ∙ sym (next_other t g q (λ at. other (sym at ∙ sym e)) l)

    go : (g : ℕ) → g < 1024 → (g < f) ⊎ (f ≤ g) → (f < g) ⊎ (g ≤ f) → get_or (set next f q) g 0 ≡ next_of t g q
    go g m (inl below) b = apart g m (λ at. omega (arith, at, below))
    go g m (inr a) (inl above) = apart g m (λ at. omega (arith, at, above))
    go g m (inr a) (inr b) =
        let same : f ≡ g = omega (arith, a, b) in
        subst (λ (k : ℕ). get_or (set next f q) k 0 ≡ next_of t k q) same
        (get_or-set_same next f q 0 (omega (arith, low, h.long)) ∙ sym (next_here t f q l (sym e)))

-- the chain of the polygons from q on, which stands from `chain` on
pub record ChainFrom (t : Part) (chain q : ℕ) (words : List ℕ) : Type 0 where
  pub each : (p : ℕ) → q ≤ p → p < t.polygons → get_or words (chain + p) 0 ≡ next_polygon t p

pub chain_none : (t : Part) (chain q : ℕ) (words : List ℕ) → q ≡ t.polygons → ChainFrom t chain q words
chain_none t chain q words e = record { each = λ p low high. absurd (omega (arith, low, high, e)) }

pub chain_more : (t : Part) (chain k q f : ℕ) (words next : List ℕ) → k ≡ q + 1 → chain + q < length words → f ≡ face_number t q → f < 1024 → NextFrom t k next →
    ChainFrom t chain k words → ChainFrom t chain q (set words (chain + q) (get_or next f 0))
unfolding next_polygon
chain_more t chain k q f words next one room e few n h = record { each = λ p low high. go p low high (lt_or_ge q p) }
  where
    x : ℕ
    x = get_or next f 0

    go : (p : ℕ) → q ≤ p → p < t.polygons → (q < p) ⊎ (p ≤ q) → get_or (set words (chain + q) x) (chain + p) 0 ≡ next_of t (face_number t p) (p + 1)
    go p low high (inl after) = get_or-set_other words (chain + q) (chain + p) x 0 (λ at. omega (arith, at, after)) ∙ h.each p (omega (arith, after, one)) high
    go p low high (inr here) =
        let same : q ≡ p = omega (arith, low, here) in
        subst (λ (r : ℕ). get_or (set words (chain + q) x) (chain + r) 0 ≡ next_of t (face_number t r) (r + 1)) same
        (get_or-set_same words (chain + q) x 0 room ∙ n.each f few ∙ ap (next_of t f) one ∙ ap (λ (g : ℕ). next_of t g (q + 1)) e)

pub chain_all : (t : Part) (at : Regions) (q : ℕ) (words : List ℕ) → Laid at → at.words ≤ length words → at.polygons ≡ t.polygons →
    3 * at.polygons ≤ at.vertices → q ≤ 0 → ChainFrom t at.chain q words → Chain t (part at.chain at.faces words)
chain_all t at q words laid room e few done h =
    record {
      each = λ p l. part_place at.chain at.faces words 0 p (omega (arith, l, e, few, laid)) ∙ h.each p (omega (arith, done)) l;
      long = omega (arith, e, few, laid, part_length at.chain at.faces words (omega (arith, room, laid)));
    }

-- ---- single cells
-- the face of polygon q
pub number_at : (t : Part) (at : Regions) (words : List ℕ) (q : ℕ) → Laid at → Faces t (part at.faces at.readings words) →
    at.polygons ≡ t.polygons → q < at.polygons → get_or words (at.faces + q) 0 ≡ face_number t q
number_at t at words q laid w e l =
    sym (part_place at.faces at.readings words 0 q (omega (arith, l, laid))) ∙ w.numbers.each q (omega (arith, l, e))

pub face_at_lem : (t : Part) (at : Regions) (words : List ℕ) (q : ℕ) → Laid at → Words t at words → at.polygons ≡ t.polygons → q < at.polygons →
    get_or words (at.faces + q) 0 ≡ face_number t q
face_at_lem t at words q laid w e l = number_at t at words q laid w.faces e l

-- the first polygon of face f
pub first_at_lem : (t : Part) (at : Regions) (words : List ℕ) (f : ℕ) → Laid at → Words t at words → at.polygons ≡ t.polygons → f < faces_of t → faces_of t ≤ 1024 →
    get_or words (at.firsts + f) 0 ≡ first_polygon t f
first_at_lem t at words f laid w e l few =
    let place : at.firsts + f ≡ at.faces + (t.polygons + f) = omega (arith, e, laid) in
    ap (λ (k : ℕ). get_or words k 0) place
    ∙ sym (part_place at.faces at.readings words 0 (t.polygons + f) (omega (arith, l, few, e, laid))) ∙ w.faces.firsts f l

-- the polygon that begins it
pub begins_at : (t : Part) (at : Regions) (words : List ℕ) (f q : ℕ) → Laid at → Words t at words → at.polygons ≡ t.polygons → f < faces_of t → faces_of t ≤ 1024 →
    q ≡ get_or words (at.firsts + f) 0 → Begins t t.polygons f q
begins_at t at words f q laid w e l few is =
    subst (Begins t t.polygons f) (sym (is ∙ first_at_lem t at words f laid w e l few)) (first_polygon_begins t f l)

-- the next polygon of q's face
pub link_at : (t : Part) (at : Regions) (words : List ℕ) (q : ℕ) → Laid at → at.words ≤ length words → Words t at words → at.polygons ≡ t.polygons → q < at.polygons →
    get_or words (at.chain + q) 0 ≡ next_polygon t q
link_at t at words q laid room w e l =
    let long = part_length at.chain at.faces words (omega (arith, room, laid)) in
    sym (part_place at.chain at.faces words 0 q (omega (arith, l, e, w.chain.long, long))) ∙ w.chain.each q (omega (arith, l, e))

-- ---- the bodies as they are lent to the volumes
pub labels_lent : (t : Part) (at : Regions) (words : List ℕ) → Laid at → at.words ≤ length words → at.polygons ≡ t.polygons → Words t at words → at.bodies ≡ true →
    Labels t (part 0 at.polygons words)
labels_lent t at words laid room e w on =
    labels_as t words (part 0 at.polygons words) (w.labels on)
    (λ q l. part_place 0 at.polygons words 0 q (omega (arith, l, e)) ∙ ap (λ (k : ℕ). get_or words k 0) (zero-add q))
    (omega (arith, e, part_length 0 at.polygons words (omega (arith, room, laid))))
