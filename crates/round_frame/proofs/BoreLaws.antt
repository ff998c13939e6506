-- The directions of a face in the cells, one vertex and one polygon more each.
use mathlib.Core.Path.{◌≡◌, refl, sym, ap, ◌∙◌, subst}
use mathlib.Core.Bool.{true, false}
use mathlib.Core.List.{List, [], ◌∷◌, ◌++◌, append-nil, append_assoc}
use Prim.Native.Nat.{ℕ, zero, suc, ◌+◌, ◌-◌, ◌*◌, ◌≤◌, ◌<◌}
use native.Mathlib.Omega.{arith}
use native.Mathlib.Numerals.{add-one}
use native.Mathlib.Nat.{le_antisymm, add-zero}
use lib.ListN as list
use lib.ListN.{get_or, set, length-set}
use lib.Seq.{get_or-set_same, get_or-set_other}
use lib.Ieee.{Float, nan, lt}
use Rattle.math.specs.declared.Vec3.{Vec3}
use Rattle.math.specs.Size.{VecWithin}
use Rattle.math.specs.Vector.{minus, dot_of}
use Rattle.file_field.specs.Field.{vec_at_of}
use Rattle.file_part.specs.Layout.{vertex_count_of, polygon_count_of, entry_at}
use Rattle.file_part.specs.Part.{first_at, count_at_of, part_of}
use Rattle.file_part.proofs.PartLaws.{part_polygons}
use Rattle.file_ok.specs.Rules.{run_start}
use Rattle.file_ok.specs.Work.{Readable}
use Rattle.file_ok.proofs.PolygonLaws.{start_more}
use Rattle.file_ok.proofs.ReadableLaws.{readable_vertex, readable_whole}
use Rattle.solid_polygon.specs.Work.{corner_at}
use Rattle.solid_faces.specs.Faces.{is_new, face_number, polygon_corner}
use Rattle.solid_faces.specs.Kept.{Chain}
use Rattle.solid_faces.proofs.ChainLaws.{OnFace, on_rises}
use Rattle.round_hole.specs.declared.direction.Direction.{Direction}
use Rattle.round_hole.specs.Direction.{e_6, length_of, direction_of, offset_directions}
use Rattle.round_hole.specs.Work.{Packable, pack_of, directions_in}
use Rattle.round_hole.proofs.DirectionLaws.{directions_short, directions_one}
use Rattle.round_hole.proofs.RoundLaws.{directions_packed, directions_same}
use Rattle.round_frame.specs.declared.frame.Frame.{Frame}
use Rattle.round_frame.specs.Frame.{vertex_directions, run_directions}
use Rattle.round_frame.specs.Polygons.{directions_to}
use Rattle.round_frame.specs.Work.{DirectionsPut}
use Rattle.round_frame.proofs.RunLaws.{run_starts, run_ends, run_inside, run_directions_lem}
use Rattle.round_frame.proofs.ChoiceLaws.{to_all, directions_none, directions_next}

-- ---- one direction more, in the next cell
one_more : (cells : List Float) (m : ℕ) (d : Direction) (x : Float) → m < list.length cells → Packable d → x ≡ pack_of d → directions_in (m + 1) (set cells m x) ≡ directions_in m cells ++ (d ∷ [])
one_more cells m d x room ok is =
    directions_packed (set cells m x) m d ok (get_or-set_same cells m x nan room ∙ is)
    ∙ ap (λ (l : List Direction). l ++ (d ∷ [])) (directions_same m (set cells m x) cells (λ i low. get_or-set_other cells m i x nan (λ at. omega (arith, at, low))))

-- what a vertex gives, by its offsets and their length: none, or one
module _ (cells : List Float) (n : ℕ) (a : Frame) (v : Vec3) (x y length : Float) (ex : x ≡ dot_of (minus v a.origin) a.x)
    (ey : y ≡ dot_of (minus v a.origin) a.y) (el : length ≡ length_of x y) where
  gives : offset_directions x y ≡ vertex_directions a v
  unfolding vertex_directions
  gives = rw (ex, ey)

  pub vertex_none : lt length e_6 ≡ true → DirectionsPut cells cells (n + 1) n (directions_in n cells ++ vertex_directions a v)
  vertex_none near = record {
    held =
        sym (append-nil (directions_in n cells))
        ∙ ap (λ (l : List Direction). directions_in n cells ++ l) (sym (directions_short x y length el near) ∙ gives);
    few = omega arith;
    long = refl;
  }

  pub vertex_put : (d : Direction) (c : Float) → lt length e_6 ≡ false → n < list.length cells → Packable d → d ≡ direction_of x y length → c ≡ pack_of d →
      DirectionsPut cells (set cells n c) (n + 1) (n + 1) (directions_in n cells ++ vertex_directions a v)
  vertex_put d c far room ok is packed = record {
    held =
        one_more cells n d c room ok packed
        ∙ ap (λ (l : List Direction). directions_in n cells ++ l)
        (ap (λ (e : Direction). e ∷ []) is ∙ sym (directions_one x y length el far) ∙ gives);
    few = omega arith;
    long = simp length-set;
  }

-- ---- the corners of a run
module _ (s : List ℕ) (first : ℕ) (a : Frame) (before : List Float) (n : ℕ) where
  pub run_none : DirectionsPut before before (n + 0) n (directions_in n before ++ run_directions a (corner_at s first) 0)
  unfolding run_directions
  run_none = record { held = sym (append-nil (directions_in n before)); few = omega arith; long = refl }

  pub run_more : (k m r : ℕ) (cells after : List Float) (v : Vec3) → v ≡ vec_at_of s (24 * (first + k)) →
      DirectionsPut before cells (n + k) m (directions_in n before ++ run_directions a (corner_at s first) k) →
      DirectionsPut cells after (m + 1) r (directions_in m cells ++ vertex_directions a v) →
      DirectionsPut before after (n + (k + 1)) r (directions_in n before ++ run_directions a (corner_at s first) (k + 1))
  unfolding corner_at run_directions
  run_more k m r cells after v ev h i = record {
    held =
        i.held ∙ ap (λ (l : List Direction). l ++ vertex_directions a v) h.held
        ∙ append_assoc (directions_in n before) _ (vertex_directions a v) ∙ rw (ev, add-one);
    few = omega (arith, h.few, i.few);
    long = i.long ∙ h.long;
  }

  pub run_all : (k count m : ℕ) (cells : List Float) → k ≤ count → count ≤ k →
      DirectionsPut before cells (n + k) m (directions_in n before ++ run_directions a (corner_at s first) k) →
      DirectionsPut before cells (n + count) m (directions_in n before ++ run_directions a (corner_at s first) count)
  run_all k count m cells l g h =
      subst (λ (j : ℕ). DirectionsPut before cells (n + j) m (directions_in n before ++ run_directions a (corner_at s first) j)) (le_antisymm l g) h

-- a vertex of the file
pub corner_within : (s : List ℕ) (i : ℕ) (v : Vec3) → Readable s → i < vertex_count_of s → v ≡ vec_at_of s (24 * i) → VecWithin v 10000
corner_within s i v h l is = subst (λ (x : Vec3). VecWithin x 10000) (sym is) (readable_vertex s h i l)

-- ---- the polygons of a face; the cells have no more directions than the vertices of the polygons passed
-- polygon q, by its run
module _ (s : List ℕ) (v q at first count : ℕ) (readable : Readable s) (ev : v ≡ vertex_count_of s) (low : q < (part_of s).polygons) (place : at ≡ entry_at v q)
    (ef : first ≡ first_at s at) (ec : count ≡ count_at_of s at) where
  pub run_put : (a : Frame) (before after : List Float) (n r : ℕ) → n ≤ run_start s v q →
      DirectionsPut before after (n + count) r (directions_in n before ++ run_directions a (corner_at s first) count) →
      DirectionsPut before after (run_start s v (q + 1)) r (directions_in n before ++ run_directions a (polygon_corner (part_of s) q) ((part_of s).polygon q).count)
  run_put a before after n r few h = record {
    held = run_directions_lem s v q at first count readable ev low place ef ec a (directions_in n before) (directions_in r after) h.held;
    few = omega (arith, h.few, run_ends s v q at first count readable ev low place ef ec);
    long = h.long;
  }

  -- what there is room for
  pub run_fits : (n size : ℕ) → n ≤ run_start s v q → v ≤ size → n + count ≤ size
  run_fits n size few room =
      omega (arith, run_starts s v q at first count readable ev low place ef ec, run_inside s v q at first count readable ev low place ef ec)

  pub run_whole : first + count ≤ vertex_count_of s
  run_whole = omega (arith, run_inside s v q at first count readable ev low place ef ec)

-- a later run begins no earlier
start_grows : (s : List ℕ) (v q : ℕ) → run_start s v q ≤ run_start s v (q + 1)
start_grows s v q = omega (arith, start_more s v q (run_start s v q) (count_at_of s (entry_at v q)) refl refl)

starts_grow : (s : List ℕ) (v q d : ℕ) → run_start s v q ≤ run_start s v (q + d)
starts_grow s v q zero = omega (arith, ap (run_start s v) (add-zero q))
starts_grow s v q (suc d) =
    let next : q + suc d ≡ (q + d) + 1 = omega arith in
    omega (arith, starts_grow s v q d, start_grows s v (q + d), ap (run_start s v) next)

module _ (s : List ℕ) (f v : ℕ) (a : Frame) (before : List Float) where
  abbrev pub Passed : List Float → ℕ → ℕ → Type 0
  Passed cells n q = DirectionsPut before cells (run_start s v q) n (directions_to (part_of s) f a q)

  pub polygon_next : (q n : ℕ) (l : List ℕ) (cells after : List Float) (r : ℕ) → Chain (part_of s) l → OnFace (part_of s) f q → q < (part_of s).polygons →
      Passed cells n q →
      DirectionsPut cells after (run_start s v (q + 1)) r (directions_in n cells ++ run_directions a (polygon_corner (part_of s) q) ((part_of s).polygon q).count) →
      Passed after r (get_or l q 0)
  polygon_next q n l cells after r chain on low passed i =
      let rises : q < get_or l q 0 = on_rises (part_of s) f q l chain on low in
      let far : get_or l q 0 ≡ (q + 1) + (get_or l q 0 - (q + 1)) = omega (arith, rises) in
      record {
        held = directions_next (part_of s) f q l chain on low a (directions_in n cells) (directions_in r after) passed.held i.held;
        few = omega (arith, i.few, starts_grow s v (q + 1) (get_or l q 0 - (q + 1)), ap (run_start s v) far);
        long = i.long ∙ passed.long;
      }

  -- all runs together have V vertices
  pub polygons_all : (p q n : ℕ) (cells : List Float) → Readable s → v ≡ vertex_count_of s → p ≡ polygon_count_of s → q ≤ (part_of s).polygons → p ≤ q →
      Passed cells n q → DirectionsPut before cells (vertex_count_of s) n (directions_to (part_of s) f a (part_of s).polygons)
  polygons_all p q n cells h ev ep l g passed =
      let same : q ≡ polygon_count_of s = omega (arith, l, g, ep, part_polygons s) in
      let at : run_start s v q ≡ run_start s (vertex_count_of s) (polygon_count_of s) = ap (λ (k : ℕ). run_start s k q) ev ∙ ap (run_start s (vertex_count_of s)) same in
      record {
        held = to_all s (directions_to (part_of s) f a) q p (directions_in n cells) ep l g passed.held;
        few = omega (arith, at, readable_whole s h, passed.few);
        long = passed.long;
      }

pub polygons_none : (s : List ℕ) (v first : ℕ) (a : Frame) (before : List Float) → is_new (part_of s) first ≡ true →
    Passed s (face_number (part_of s) first) v a before before 0 first
polygons_none s v first a before new =
    record { held = directions_none (part_of s) a first new before; few = omega arith; long = refl }
