-- What is nearest to a hole: the marks of the flat faces around it, one edge, and a tour of a face's neighbours.
use mathlib.Core.Path.{◌≡◌, refl, sym, ap, ap₂, ◌∙◌, subst}
use Rattle.std.proofs.Common.{Option, Some, None}
use mathlib.Core.Bool.{Bool, true, false, not, ◌&&◌, ◌||◌, cond}
use mathlib.Core.List.{List, [], ◌∷◌, ◌++◌, append-nil}
use Prim.Native.Nat.{ℕ, ◌*◌, ◌^◌, ◌≤◌, ◌<◌}
use native.Mathlib.Omega.{arith}
use borrow.Author.Tests.{eq-eqb, ne_eqb, eqb-true, eqb-false}
use lib.Dec.{eqb}
use lib.ListN.{length, get_or, set, replicate, length-set, length-replicate}
use lib.Seq.{get_or-set_same, get_or-set_other}
use lib.Ieee.{Float, binary64, sub, lt, le}
use Rattle.num_float.specs.Sign.{plus_zero}
use Rattle.num_float.proofs.Tests.{refuted, contrary}
use Rattle.num_float.proofs.Order.{lt_numbers, le_numbers, le_trans, le_not_lt}
use Rattle.num_root.specs.Root.{root}
use Rattle.num_order.proofs.Sums.{sub_le}
use Rattle.list_laws.proofs.Fill.{filled_at}
use Rattle.file_part.specs.Part.{Part, part_of}
use Rattle.solid_faces.specs.Faces.{faces_of}
use Rattle.solid_faces.proofs.BodyLaws.{checked_faces}
use Rattle.scratch.specs.declared.regions.Regions.{Regions}
use Rattle.solid_flat.specs.Flat.{is_flat_face}
use Rattle.solid_edges.specs.Distance.{between_distance}
use Rattle.solid_tours.specs.declared.tour.Places.{Places}
use Rattle.solid_tours.specs.declared.tour.Group.{Group}
use Rattle.solid_tours.specs.Tours.{edges_between, over_neighbours}
use Rattle.solid_tours.specs.Work.{least_square}
use Rattle.solid_tours.specs.Work.Kept.{EdgesOrdered, FacePlaces, RestPlaces, NextGroup, TourTo}
use Rattle.solid_tours.proofs.EdgeLaws.{between_beyond}
use Rattle.solid_tours.proofs.PlaceLaws.{readable}
use Rattle.solid_tours.proofs.TourLaws.{tour_start, tour_more, tour_end, rest_all}
use Rattle.round_all.specs.declared.round.Round.{Round}
use Rattle.rule_holes.specs.declared.nearest.Gap.{Gap}
use Rattle.rule_holes.specs.Nearest.{plates_of, is_among, gap_between, is_left_out, gap_to, gaps_beside, gaps_from, gaps_of, nearer, nearest_from, nearest_of}
use Rattle.rule_holes.specs.Work.{Plates, NearestThere, NoNearer}
use Rattle.rule_holes.proofs.ChoiceLaws.{chosen_second, or_true, or_false}

-- ---- the nearer of two
pub nearer_left : (n g : Gap) → lt g.gap n.gap ≡ false → Some n ≡ nearer (Some n) g
unfolding nearer
nearer_left n g e = chosen_second (Some g) (Some n) refl e

-- one list after another
nearest_then : (best : Option Gap) (xs ys : List Gap) → nearest_from best (xs ++ ys) ≡ nearest_from (nearest_from best xs) ys
unfolding nearest_from
nearest_then best [] ys = refl
nearest_then best (g ∷ xs) ys = nearest_then (nearer best g) xs ys

nearest_none : (best : Option Gap) → nearest_from best [] ≡ best
unfolding nearest_from
nearest_none best = refl

nearest_one : (best : Option Gap) (g : Gap) → nearest_from best (g ∷ []) ≡ nearer best g
unfolding nearest_from
nearest_one best g = refl

-- it is one of the two
one_there : (t : Part) (n g : Gap) (c : Bool) → n.other < faces_of t → g.other < faces_of t → NearestThere t (cond c (Some g) (Some n))
unfolding NearestThere
one_there t n g true b l = l
one_there t n g false b l = b

nearer_there : (t : Part) (best : Option Gap) (g : Gap) → NearestThere t best → g.other < faces_of t → NearestThere t (nearer best g)
unfolding nearer NearestThere
nearer_there t None g b l = l
nearer_there t (Some n) g b l = one_there t n g (lt g.gap n.gap) b l

pub none_there : (t : Part) → NearestThere t None
unfolding NearestThere
none_there t = tt

pub there_below : (t : Part) (n : Gap) → NearestThere t (Some n) → n.other < faces_of t
unfolding NearestThere
there_below t n h = h

-- ---- the marks of the flat faces
among_then : (xs ys : List ℕ) (g : ℕ) → is_among (xs ++ ys) g ≡ (is_among xs g || is_among ys g)
unfolding is_among
among_then [] ys g = refl
among_then (f ∷ xs) ys g = go (eqb f g) (among_then xs ys g)
  where
    go : (b : Bool) → is_among (xs ++ ys) g ≡ (is_among xs g || is_among ys g) → (b || is_among (xs ++ ys) g) ≡ ((b || is_among xs g) || is_among ys g)
    go true e = refl
    go false e = e

-- the faces below n that are among `fs` are marked
pub record Marked (n : ℕ) (fs plates : List ℕ) : Type 0 where
  pub each : (g : ℕ) → g < n → get_or plates g 0 ≡ cond (is_among fs g) 1 0
  pub long : n ≤ length plates

marked_none : (n m : ℕ) (plates : List ℕ) → plates ≡ replicate m 0 → n ≤ m → Marked n [] plates
unfolding is_among
marked_none n m plates e l =
    let size : length plates ≡ m = ap length e ∙ length-replicate m 0 in
    record { each = λ g h. filled_at plates m 0 0 e g (omega (arith, h, l)); long = omega (arith, l, size) }

one_among : (k g : ℕ) → is_among (k ∷ []) g ≡ eqb k g
unfolding is_among
one_among k g = or_false (eqb k g)

marked_set : (n : ℕ) (fs plates : List ℕ) (k : ℕ) → k < n → Marked n fs plates → Marked n (fs ++ (k ∷ [])) (set plates k 1)
marked_set n fs plates k l h =
    record { each = λ g low. go g low (eqb k g) refl; long = omega (arith, h.long, length-set plates k 1) }
  where
    all : (g : ℕ) (b : Bool) → eqb k g ≡ b → is_among (fs ++ (k ∷ [])) g ≡ (is_among fs g || b)
    all g b e = among_then fs (k ∷ []) g ∙ ap (λ (c : Bool). is_among fs g || c) (one_among k g ∙ e)

    go : (g : ℕ) → g < n → (b : Bool) → eqb k g ≡ b → get_or (set plates k 1) g 0 ≡ cond (is_among (fs ++ (k ∷ [])) g) 1 0
    go g low true e =
        let same : g ≡ k = sym (eqb-true k g e) in
        ap (λ (i : ℕ). get_or (set plates k 1) i 0) same ∙ get_or-set_same plates k 1 0 (omega (arith, l, h.long))
        ∙ sym (ap (λ (c : Bool). cond c 1 0) (all g true e ∙ or_true (is_among fs g)))
    go g low false e =
        get_or-set_other plates k g 1 0 (λ q. eqb-false k g e (sym q)) ∙ h.each g low
        ∙ sym (ap (λ (c : Bool). cond c 1 0) (all g false e ∙ or_false (is_among fs g)))

marked_more : (n : ℕ) (fs plates plates' : List ℕ) (k : ℕ) (b : Bool) → k < n → Marked n fs plates → plates' ≡ cond b (set plates k 1) plates →
    Marked n (fs ++ cond b (k ∷ []) []) plates'
marked_more n fs plates plates' k true l h e = subst (Marked n (fs ++ (k ∷ []))) (sym e) (marked_set n fs plates k l h)
marked_more n fs plates plates' k false l h e = subst (Marked n (fs ++ [])) (sym e) (subst (λ (x : List ℕ). Marked n x plates) (sym (append-nil fs)) h)

-- a tour of the hole's neighbours that is at place i of those before e: the flat ones that it has met are marked
pub record PlatesTo (t : Part) (h i e : ℕ) (plates : List ℕ) : Type 0 where
  out : List ℕ
  tour : TourTo t h (λ g l. cond (is_flat_face t g) (g ∷ []) []) i out
  pub left : RestPlaces t h (record { start = i; end = e })
  marked : Marked (faces_of t) out plates

-- a tour of the neighbours of face f that is at place i of those before e: what is nearest after those that it has met
pub record NearestTo (t : Part) (f : ℕ) (h : ℕ → List ℕ → List Gap) (i e : ℕ) (from best : Option Gap) : Type 0 where
  out : List Gap
  tour : TourTo t f h i out
  pub left : RestPlaces t f (record { start = i; end = e })
  is : best ≡ nearest_from from out
  pub there : NearestThere t best

-- ---- the tours
module _ (s : List ℕ) (at : Regions) (words : List ℕ) (reals : List Float) (o : EdgesOrdered s at words reals) (f : ℕ) where
  abbrev t : Part
  t = part_of s

  abbrev flat : ℕ → List ℕ → List ℕ
  flat g l = cond (is_flat_face t g) (g ∷ []) []

  pub plates_start : (r : Places) (m : ℕ) (plates : List ℕ) → FacePlaces t at words f r → plates ≡ replicate m 0 → faces_of t ≤ m → PlatesTo t f r.start r.end plates
  plates_start r m plates places e l =
      record {
        out = [];
        tour = tour_start s (readable s at words reals o) f flat at words r places;
        left = rest_all t at words f r places;
        marked = marked_none (faces_of t) m plates e l;
      }

  module _ {i e : ℕ} {plates : List ℕ} (p : PlatesTo t f i e plates) where
    pub plates_room : (g : ℕ) → g < faces_of t → g < length plates
    plates_room g l = omega (arith, l, p.marked.long)

    pub plates_more : (g : Group) (plates' : List ℕ) → NextGroup t at words f (record { start = i; end = e }) g →
        plates' ≡ cond (is_flat_face t g.other) (set plates g.other 1) plates → PlatesTo t f g.end e plates'
    plates_more g plates' next m =
        record {
          out = p.out ++ flat g.other (edges_between t f g.other);
          tour = tour_more s (readable s at words reals o) f flat at words (record { start = i; end = e }) g next p.out p.tour;
          left = next.left;
          marked = marked_more (faces_of t) p.out plates plates' g.other (is_flat_face t g.other) next.group.other_below p.marked m;
        }

    pub plates_end : f < faces_of t → e ≤ i → Plates t f plates
    unfolding plates_of
    plates_end l none =
        let all = tour_end s (readable s at words reals o) f flat (record { start = i; end = e }) l p.left none p.out p.tour in
        record {
          each = λ g low. p.marked.each g low ∙ ap (λ (x : List ℕ). cond (is_among x g) 1 0) all;
          long = p.marked.long;
        }

  pub nearest_start : (h : ℕ → List ℕ → List Gap) (r : Places) (from : Option Gap) → FacePlaces t at words f r → NearestThere t from → NearestTo t f h r.start r.end from from
  nearest_start h r from places there =
      record {
        out = [];
        tour = tour_start s (readable s at words reals o) f h at words r places;
        left = rest_all t at words f r places;
        is = sym (nearest_none from);
        there = there;
      }

  module _ {h : ℕ → List ℕ → List Gap} {i e : ℕ} {from best : Option Gap} (p : NearestTo t f h i e from best) where
    pub nearest_more : (g : Group) (r : Option Gap) → NextGroup t at words f (record { start = i; end = e }) g → r ≡ nearest_from best (h g.other (edges_between t f g.other)) →
        NearestThere t r → NearestTo t f h g.end e from r
    nearest_more g r next m there =
        let more = h g.other (edges_between t f g.other) in
        record {
          out = p.out ++ more;
          tour = tour_more s (readable s at words reals o) f h at words (record { start = i; end = e }) g next p.out p.tour;
          left = next.left;
          is = m ∙ ap (λ (b : Option Gap). nearest_from b more) p.is ∙ sym (nearest_then from p.out more);
          there = there;
        }

    pub nearest_end : f < faces_of t → e ≤ i → best ≡ nearest_from from (over_neighbours t f h)
    nearest_end l none =
        p.is ∙ ap (nearest_from from) (tour_end s (readable s at words reals o) f h (record { start = i; end = e }) l p.left none p.out p.tour)

-- the same edge, told by the group's own face
pub group_same : (t : Part) (hole : Round) (best r : Option Gap) (f face other : ℕ) → face ≡ f →
    r ≡ nearest_from best (gap_to t hole face other (edges_between t face other)) → r ≡ nearest_from best (gap_to t hole f other (edges_between t f other))
group_same t hole best r f face other same e = e ∙ ap (λ (k : ℕ). nearest_from best (gap_to t hole k other (edges_between t k other))) same

-- ---- one edge of a flat face
module _ (t : Part) (hole : Round) (plates : List ℕ) (marks : Plates t hole.face plates) (face other : ℕ) (low : other < faces_of t) (best : Option Gap) where
  abbrev all : List Gap
  all = gap_to t hole face other (edges_between t face other)

  out : is_left_out t hole.face other ≡ true → best ≡ nearest_from best all
  unfolding gap_to
  out e = sym (ap (λ (b : Bool). nearest_from best (cond b [] (record { gap = gap_between t hole face other; other = other } ∷ []))) e ∙ nearest_none best)

  -- the hole itself
  pub group_own : other ≡ hole.face → best ≡ nearest_from best all
  unfolding is_left_out
  group_own e = out (ap (λ (b : Bool). b || is_among (plates_of t hole.face) other) (eq-eqb other hole.face e))

  marked : (b : Bool) → ◌≡◌ {A = ℕ} (cond b 1 0) 1 → b ≡ true
  marked true e = refl
  marked false e = absurd (omega (arith, e))

  unmarked : (b : Bool) → (◌≡◌ {A = ℕ} (cond b 1 0) 1 → ⊥) → b ≡ false
  unmarked true e = absurd (e refl)
  unmarked false e = refl

  -- one of the flat faces around it
  pub group_marked : get_or plates other 0 ≡ 1 → best ≡ nearest_from best all
  unfolding is_left_out
  group_marked e =
      out (ap (λ (b : Bool). eqb other hole.face || b) (marked (is_among (plates_of t hole.face) other) (sym (marks.each other low) ∙ e)) ∙ or_true (eqb other hole.face))

  -- any other face
  pub group_nearer : (d : Float) (r : Option Gap) → (other ≡ hole.face → ⊥) → (get_or plates other 0 ≡ 1 → ⊥) → d ≡ between_distance t face other hole.centre →
      r ≡ nearer best (record { gap = sub binary64 d hole.radius; other = other }) → r ≡ nearest_from best all
  unfolding gap_to gap_between is_left_out
  group_nearer d r own mark e m =
      let in-none : is_among (plates_of t hole.face) other ≡ false = unmarked (is_among (plates_of t hole.face) other) (λ q. mark (marks.each other low ∙ q)) in
      m ∙ ap (λ (x : Float). nearer best (record { gap = sub binary64 x hole.radius; other = other })) e
      ∙ sym (nearest_one best (record { gap = sub binary64 (between_distance t face other hole.centre) hole.radius; other = other }))
      ∙ sym (ap₂ (λ (a b : Bool). nearest_from best (cond (a || b) [] (record { gap = sub binary64 (between_distance t face other hole.centre) hole.radius; other = other } ∷ [])))
      (ne_eqb other hole.face own) in-none)

  -- and where it is no nearer
  pub group_farther : (g : Group) → g.face ≡ face → g.other ≡ other → (other ≡ hole.face → ⊥) → (get_or plates other 0 ≡ 1 → ⊥) → NoNearer t hole g best → best ≡ nearest_from best all
  unfolding gap_between
  group_farther g ef eo own mark far =
      let gap = sub binary64 (between_distance t face other hole.centre) hole.radius in
      let less : lt gap far.nearest.gap ≡ false
      = subst (λ (k : ℕ). lt (sub binary64 (between_distance t face k hole.centre) hole.radius) far.nearest.gap ≡ false) eo
      (subst (λ (k : ℕ). lt (sub binary64 (between_distance t k g.other hole.centre) hole.radius) far.nearest.gap ≡ false) ef far.not_less) in
      group_nearer (between_distance t face other hole.centre) best own mark refl
      (far.found ∙ nearer_left far.nearest (record { gap = gap; other = other }) less
      ∙ ap (λ (b : Option Gap). nearer b (record { gap = gap; other = other })) (sym far.found))

-- ---- a square that none is below, and the gap of its root
pub no_nearer : (t : Part) (hole : Round) (group : Group) (n : Gap) (x y d : Float) → y ≡ least_square t hole.centre x (edges_between t group.face group.other) → d ≡ root x →
    ((le plus_zero x && not (lt y x)) && le n.gap (sub binary64 d hole.radius)) ≡ true → NoNearer t hole group (Some n)
unfolding gap_between
no_nearer t hole group n x y d ey ed h = go (le plus_zero x) (lt y x) refl refl h
  where
    go : (b c : Bool) → le plus_zero x ≡ b → lt y x ≡ c → ((b && not c) && le n.gap (sub binary64 d hole.radius)) ≡ true → NoNearer t hole group (Some n)
    go false c eb ec k = absurd (contrary k refl)
    go true true eb ec k = absurd (contrary k refl)
    go true false eb ec k =
        let far : le d (between_distance t group.face group.other hole.centre) ≡ true
        = subst (λ (z : Float). le z (between_distance t group.face group.other hole.centre) ≡ true) (sym ed)
        (between_beyond t group.face group.other hole.centre x eb (subst (λ (z : Float). lt z x ≡ false) ey ec)) in
        record { nearest = n; found = refl; not_less = beyond n.gap d (between_distance t group.face group.other hole.centre) hole.radius k far }
      where
        beyond : (g d b r : Float) → le g (sub binary64 d r) ≡ true → le d b ≡ true → lt (sub binary64 b r) g ≡ false
        beyond g d b r k far =
            refuted (lt (sub binary64 b r) g) (λ w.
            let low = sub_le d b r (le_numbers g (sub binary64 d r) k).1 (lt_numbers (sub binary64 b r) g w).0 far in
            contrary w (le_not_lt g (sub binary64 b r) (le_trans g (sub binary64 d r) (sub binary64 b r) k low)))

-- it is a face of the part
pub nearer_kept : (t : Part) (best : Option Gap) (other : ℕ) → other < faces_of t → (d : Float) (r : Option Gap) → r ≡ nearer best (record { gap = d; other = other }) →
    NearestThere t best → NearestThere t r
nearer_kept t best other low d r m b = subst (NearestThere t) (sym m) (nearer_there t best (record { gap = d; other = other }) b low)

-- its place in the marks
pub mark_bytes : (s : List ℕ) (at : Regions) (words : List ℕ) (reals : List Float) → EdgesOrdered s at words reals → (g : ℕ) → g < faces_of (part_of s) → g * 4 < 2 ^ 64
mark_bytes s at words reals o g l = omega (arith, l, checked_faces s o.standing.placed.checked)

-- ---- a neighbour of the hole
module _ (t : Part) (hole : Round) (g : ℕ) (best : Option Gap) where
  pub neighbour_flat : (b : Bool) (r : Option Gap) → b ≡ is_flat_face t g → b ≡ true → r ≡ nearest_from best (gaps_beside t hole g) →
      r ≡ nearest_from best (gaps_from t hole g (edges_between t hole.face g))
  unfolding gaps_from
  neighbour_flat b r e h m = m ∙ sym (ap (λ (c : Bool). nearest_from best (cond c (gaps_beside t hole g) [])) (sym e ∙ h))

  pub neighbour_other : (b : Bool) → b ≡ is_flat_face t g → b ≡ false → best ≡ nearest_from best (gaps_from t hole g (edges_between t hole.face g))
  unfolding gaps_from
  neighbour_other b e h = sym (ap (λ (c : Bool). nearest_from best (cond c (gaps_beside t hole g) [])) (sym e ∙ h) ∙ nearest_none best)

-- ---- the ends of the two tours
pub beside_end : (t : Part) (hole : Round) (f : ℕ) (from best : Option Gap) → best ≡ nearest_from from (over_neighbours t f (gap_to t hole f)) → best ≡ nearest_from from (gaps_beside t hole f)
unfolding gaps_beside
beside_end t hole f from best e = e

pub nearest_of_end : (t : Part) (hole : Round) (best : Option Gap) → best ≡ nearest_from None (over_neighbours t hole.face (gaps_from t hole)) → best ≡ nearest_of t hole
unfolding nearest_of gaps_of
nearest_of_end t hole best e = e
