-- The tables of the first pass, line by line.
use Rattle.std.proofs.Common.{Result, Ok, Err}
use Rattle.std.specs.Result.{ForOk}
use mathlib.Core.Path.{◌≡◌, refl, sym, ap, ◌∙◌, subst}
use mathlib.Core.Bool.{Bool, true, false, cond}
use mathlib.Core.List.{List, [], ◌∷◌, ◌++◌, map}
use Prim.Native.Nat.{ℕ, suc, ◌+◌, ◌≤◌, min}
use native.Mathlib.Nat.{add-zero, zero-add}
use native.Mathlib.Omega.{arith}
use lib.Dec.{leb}
use lib.ListN.{length, set, length-map, length-append}
use lib.Seq.{sets, length-sets, set_out}
use lib.Ieee.{Float}
use Rattle.refusal.specs.declared.Refusal.{Refusal}
use Rattle.refusal.specs.declared.Refusal.TheVariants.{UndefinedVertex}
use Rattle.math.specs.declared.Vec3.{Vec3}
use Rattle.obj_number.specs.Whole.{capped}
use Rattle.obj_line.specs.declared.line.Corners.{Corners}
use Rattle.obj_line.specs.declared.line.Line.{Line}
use Rattle.obj_line.specs.Form.{Form, vertex, face, group, skipped, other, largest, line_of, numbers_of, Read}
use Rattle.obj_text.specs.declared.judge.Tally.{Tally}
use Rattle.obj_text.specs.Text.{forms_of, line_refusal, vertices_from, vertices_of, Face, faces_from, faces_of, corners_from, corners_of}
use Rattle.obj_text.specs.Judged.{Tables, Slots, Sized, Judged}
use Rattle.obj_text.specs.Work.{tallied, start, vertex_in, index_in, count_in, KeptVertex, KeptFace, NotedLine, index_after}
use Rattle.obj_text.proofs.TallyLaws.{Told}

-- ---- one line, as the code has it
past_end : (xs : List Float) (n : ℕ) (l : List Vec3) (g : Vec3 → Float) → length xs ≡ 16384 → 16384 ≤ n → xs ≡ sets xs n (map g l)
past_end xs n [] g h k = refl
past_end xs n (v ∷ l) g h k =
    past_end xs (suc n) l g h (omega arith) ∙ sym (ap (λ (t : List Float). sets t (suc n) (map g l)) (set_out xs n (g v) (omega arith)))

-- a line that is no vertex, or no face
pub no_vertex : (l : Line) → ((v : Vec3) → l ≡ Line.Vertex v → ⊥) → vertex_in l ≡ []
unfolding vertex_in
no_vertex (Line.Vertex v) h = absurd (h v refl)
no_vertex (Line.Face c) h = refl
no_vertex (Line.Group i) h = refl
no_vertex Line.Skipped h = refl
no_vertex Line.Other h = refl

pub record NoFace (i : ℕ) (l : Line) : Type 0 where
  pub no_index : index_in i l ≡ []
  pub no_count : count_in l ≡ []

pub no_face : (i : ℕ) (l : Line) → ((c : Corners) → l ≡ Line.Face c → ⊥) → NoFace i l
unfolding index_in count_in
no_face i (Line.Vertex v) h = record { no_index = refl; no_count = refl }
no_face i (Line.Face c) h = absurd (h c refl)
no_face i (Line.Group j) h = record { no_index = refl; no_count = refl }
no_face i Line.Skipped h = record { no_index = refl; no_count = refl }
no_face i Line.Other h = record { no_index = refl; no_count = refl }

module _ (line : Line) (n : ℕ) (xs ys zs : List Float) where
  pub kept_past : Slots xs ys zs → 16384 ≤ n → KeptVertex line n xs ys zs xs ys zs
  kept_past s h = record {
    x_then = past_end xs n (vertex_in line) (λ (v : Vec3). v.x) s.xs_long h;
    y_then = past_end ys n (vertex_in line) (λ (v : Vec3). v.y) s.ys_long h;
    z_then = past_end zs n (vertex_in line) (λ (v : Vec3). v.z) s.zs_long h;
  }

  kept_list : (xs' ys' zs' : List Float) (l : List Vec3) → vertex_in line ≡ l → xs' ≡ sets xs n (map (λ (v : Vec3). v.x) l) → ys' ≡ sets ys n (map (λ (v : Vec3). v.y) l) → zs' ≡ sets zs n (map (λ (v : Vec3). v.z) l)
      → KeptVertex line n xs ys zs xs' ys' zs'
  kept_list xs' ys' zs' l e x y z = record {
    x_then = x ∙ sym (ap (λ (l : List Vec3). sets xs n (map (λ (v : Vec3). v.x) l)) e);
    y_then = y ∙ sym (ap (λ (l : List Vec3). sets ys n (map (λ (v : Vec3). v.y) l)) e);
    z_then = z ∙ sym (ap (λ (l : List Vec3). sets zs n (map (λ (v : Vec3). v.z) l)) e);
  }

  pub kept_vertex : (v : Vec3) → line ≡ Line.Vertex v → KeptVertex line n xs ys zs (set xs n v.x) (set ys n v.y) (set zs n v.z)
  unfolding vertex_in
  kept_vertex v e = kept_list _ _ _ (v ∷ []) (ap vertex_in e) refl refl refl

  pub kept_none : ((v : Vec3) → line ≡ Line.Vertex v → ⊥) → KeptVertex line n xs ys zs xs ys zs
  kept_none h = kept_list _ _ _ [] (no_vertex line h) refl refl refl

module _ (line : Line) (p index : ℕ) (is cs : List ℕ) where
  face_list : (is' cs' : List ℕ) (l m : List ℕ) → index_in index line ≡ l → count_in line ≡ m → is' ≡ sets is p l → cs' ≡ sets cs p m → KeptFace line p index is cs is' cs'
  face_list is' cs' l m e f i c = record { index_then = i ∙ sym (ap (sets is p) e); count_then = c ∙ sym (ap (sets cs p) f) }

  pub kept_face : (c : Corners) → line ≡ Line.Face c → KeptFace line p index is cs (set is p index) (set cs p c.count)
  unfolding index_in count_in
  kept_face c e = face_list _ _ (index ∷ []) (c.count ∷ []) (ap (index_in index) e) (ap count_in e) refl refl

  pub kept_no_face : ((c : Corners) → line ≡ Line.Face c → ⊥) → KeptFace line p index is cs is cs
  kept_no_face h = let k = no_face index line h in face_list _ _ [] [] k.no_index k.no_count refl refl

pub face_lengths : {line : Line} {p index : ℕ} {is cs is' cs' : List ℕ} → KeptFace line p index is cs is' cs' → (length is' ≡ length is) × (length cs' ≡ length cs)
face_lengths {line} {p} {index} {is} {cs} k = (ap length k.index_then ∙ length-sets is p (index_in index line), ap length k.count_then ∙ length-sets cs p (count_in line))

pub vertex_lengths : {line : Line} {n : ℕ} {xs ys zs xs' ys' zs' : List Float} → KeptVertex line n xs ys zs xs' ys' zs' → (length xs' ≡ length xs) × (length ys' ≡ length ys) × (length zs' ≡ length zs)
vertex_lengths {line} {n} {xs} {ys} {zs} k = (
  ap length k.x_then ∙ length-sets xs n (map (λ (v : Vec3). v.x) (vertex_in line)),
  ap length k.y_then ∙ length-sets ys n (map (λ (v : Vec3). v.y) (vertex_in line)),
  ap length k.z_then ∙ length-sets zs n (map (λ (v : Vec3). v.z) (vertex_in line)),
)

-- the four calls of a line
pub noted : (f : Form) (t : Tally) (a b : Tables) (r : Result Tally Refusal) (line : Line) → Read f a.numbers t.corners b.numbers line
    → KeptFace line t.polygons t.index a.indices a.counts b.indices b.counts
    → KeptVertex line t.defined a.xs a.ys a.zs b.xs b.ys b.zs → r ≡ tallied t line → NotedLine f t a b r
noted f t a b r line x y z k = record {
  tally = k ∙ ap (tallied t) x.line;
  read = subst (λ (l : Line). Read f a.numbers t.corners b.numbers l) x.line x;
  faces = subst (λ (l : Line). KeptFace l t.polygons t.index a.indices a.counts b.indices b.counts) x.line y;
  vertices = subst (λ (l : Line). KeptVertex l t.defined a.xs a.ys a.zs b.xs b.ys b.zs) x.line z;
}

pub noted_sized : {f : Form} {t : Tally} {a b : Tables} {r : Result Tally Refusal} → Sized a → NotedLine f t a b r → Sized b
noted_sized s n =
    let p = face_lengths n.faces in
    let q = vertex_lengths n.vertices in
    record {
      numbers_long = n.read.same_length ∙ s.numbers_long;
      indices_long = p.0 ∙ s.indices_long;
      counts_long = p.1 ∙ s.counts_long;
      slots = record { xs_long = q.0 ∙ s.slots.xs_long; ys_long = q.1 ∙ s.slots.ys_long; zs_long = q.2 ∙ s.slots.zs_long };
    }

-- ---- a line, and those after it
vertices_step : (f : Form) (fs : List Form) → vertices_from (f ∷ fs) ≡ vertex_in (line_of f) ++ vertices_from fs
unfolding vertices_from vertex_in line_of
vertices_step (vertex v) fs = refl
vertices_step (face ns) fs = refl
vertices_step (group j) fs = refl
vertices_step skipped fs = refl
vertices_step other fs = refl

corners_step : (i : ℕ) (f : Form) (fs : List Form) → corners_from (faces_from i (f ∷ fs)) ≡ numbers_of f ++ corners_from (faces_from (index_after i f) fs)
unfolding faces_from corners_from numbers_of index_after
corners_step i (vertex v) fs = refl
corners_step i (face ns) fs = refl
corners_step i (group j) fs = refl
corners_step i skipped fs = refl
corners_step i other fs = refl

indices_step : (i : ℕ) (f : Form) (fs : List Form)
    → map (λ (g : Face). g.index) (faces_from i (f ∷ fs)) ≡ index_in i (line_of f) ++ map (λ (g : Face). g.index) (faces_from (index_after i f) fs)
unfolding faces_from index_in line_of index_after
indices_step i (vertex v) fs = refl
indices_step i (face ns) fs = refl
indices_step i (group j) fs = refl
indices_step i skipped fs = refl
indices_step i other fs = refl

counts_step : (i : ℕ) (f : Form) (fs : List Form)
    → map (λ (g : Face). length g.numbers) (faces_from i (f ∷ fs)) ≡ count_in (line_of f) ++ map (λ (g : Face). length g.numbers) (faces_from (index_after i f) fs)
unfolding faces_from count_in line_of index_after
counts_step i (vertex v) fs = refl
counts_step i (face ns) fs = refl
counts_step i (group j) fs = refl
counts_step i skipped fs = refl
counts_step i other fs = refl

same_many : (i : ℕ) (f : Form) → length (index_in i (line_of f)) ≡ length (count_in (line_of f))
unfolding index_in count_in line_of
same_many i (vertex v) = refl
same_many i (face ns) = refl
same_many i (group j) = refl
same_many i skipped = refl
same_many i other = refl

-- the tally after a line that is not refused
record Progress (f : Form) (t r : Tally) : Type 0 where
  formed : f ≡ other → ⊥
  defined_then : r.defined ≡ t.defined + length (vertex_in (line_of f))
  corners_then : r.corners ≡ min (t.corners + length (numbers_of f)) 16385
  polygons_then : r.polygons ≡ min (t.polygons + length (count_in (line_of f))) 4097
  index_then : r.index ≡ index_after t.index f

module _ (t : Tally) (C : t.corners ≤ 16385) (P : t.polygons ≤ 4097) where
  progress_to : (f : Form) (r : Tally) → Progress f t r → ForOk {E = Refusal} (Ok r) (Progress f t)
  progress_to f r g u e = let same : r ≡ u = cc in subst (Progress f t) same g

  progress : (f : Form) → ForOk (tallied t (line_of f)) (Progress f t)
  unfolding tallied line_of vertex_in numbers_of count_in index_after
  progress (vertex v) = progress_to (vertex v) _ record {
    formed = λ (e : vertex v ≡ other). cc;
    defined_then = refl;
    corners_then = omega arith;
    polygons_then = omega arith;
    index_then = refl;
  }
  progress (face ns) = go (leb (capped (largest ns)) t.defined)
    where
      after : Tally
      after = record { defined = t.defined; corners = min (t.corners + length ns) 16385; polygons = min (t.polygons + 1) 4097; index = t.index }

      go : (b : Bool) → ForOk (cond b (Ok after) (Err UndefinedVertex)) (Progress (face ns) t)
      go true = progress_to (face ns) _ record {
        formed = λ (e : face ns ≡ other). cc;
        defined_then = sym (add-zero t.defined);
        corners_then = refl;
        polygons_then = refl;
        index_then = refl;
      }
      go false = λ u e. absurd cc
  progress (group j) = progress_to (group j) _ record {
    formed = λ (e : group j ≡ other). cc;
    defined_then = sym (add-zero t.defined);
    corners_then = omega arith;
    polygons_then = omega arith;
    index_then = refl;
  }
  progress skipped = progress_to skipped _ record {
    formed = λ (e : skipped ≡ other). cc;
    defined_then = sym (add-zero t.defined);
    corners_then = omega arith;
    polygons_then = omega arith;
    index_then = refl;
  }
  progress other = λ u e. absurd cc

-- ---- the lines fs that are left, noted now, give the whole
pub record Left (text : List ℕ) (a : Tables) (fs : List Form) (t : Tally) (b : Tables) : Type 0 where
  pub sized : Sized b
  pub defined_left : t.defined + length (vertices_from fs) ≡ length (vertices_of text)
  pub corners_left : length (corners_of text) ≤ 16384 → t.corners + length (corners_from (faces_from t.index fs)) ≡ length (corners_of text)
  pub faces_left : length (faces_of text) ≤ 4096 → t.polygons + length (faces_from t.index fs) ≡ length (faces_of text)
  pub numbers_left : length (corners_of text) ≤ 16384
      → sets b.numbers t.corners (map capped (corners_from (faces_from t.index fs))) ≡ sets a.numbers 0 (map capped (corners_of text))
  pub indices_left : length (faces_of text) ≤ 4096
      → sets b.indices t.polygons (map (λ (f : Face). f.index) (faces_from t.index fs)) ≡ sets a.indices 0 (map (λ (f : Face). f.index) (faces_of text))
  pub counts_left : length (faces_of text) ≤ 4096
      → sets b.counts t.polygons (map (λ (f : Face). length f.numbers) (faces_from t.index fs)) ≡ sets a.counts 0 (map (λ (f : Face). length f.numbers) (faces_of text))
  pub xs_left : sets b.xs t.defined (map (λ (v : Vec3). v.x) (vertices_from fs)) ≡ sets a.xs 0 (map (λ (v : Vec3). v.x) (vertices_of text))
  pub ys_left : sets b.ys t.defined (map (λ (v : Vec3). v.y) (vertices_from fs)) ≡ sets a.ys 0 (map (λ (v : Vec3). v.y) (vertices_of text))
  pub zs_left : sets b.zs t.defined (map (λ (v : Vec3). v.z) (vertices_from fs)) ≡ sets a.zs 0 (map (λ (v : Vec3). v.z) (vertices_of text))

pub left_all : (text : List ℕ) (a : Tables) (fs : List Form) → Sized a → fs ≡ forms_of text → Left text a fs start a
unfolding start vertices_of faces_of corners_of
left_all text a fs s e = subst (λ (l : List Form). Left text a l start a) (sym e) all
  where
    all : Left text a (forms_of text) start a
    all = record {
      sized = s;
      defined_left = zero-add _;
      corners_left = λ h. zero-add _;
      faces_left = λ h. zero-add _;
      numbers_left = λ h. refl;
      indices_left = λ h. refl;
      counts_left = λ h. refl;
      xs_left = refl;
      ys_left = refl;
      zs_left = refl;
    }

-- a table with what a line adds
sets_append : {A : Type 0} (d : List A) (at : ℕ) (p q : List A) → sets d at (p ++ q) ≡ sets (sets d at p) (at + length p) q
sets_append d at [] q = ap (λ (k : ℕ). sets d k q) (sym (add-zero at))
sets_append d at (b ∷ p) q = sets_append (set d at b) (suc at) p q ∙ ap (λ (k : ℕ). sets (sets (set d at b) (suc at) p) k q) (place at (length p))
  where
    place : (a b : ℕ) → suc a + b ≡ a + suc b
    place a b = omega arith

map_append : {A B : Type 0} (g : A → B) (xs ys : List A) → map g (xs ++ ys) ≡ map g xs ++ map g ys
map_append g [] ys = refl
map_append g (x ∷ xs) ys = ap (λ (l : List _). g x ∷ l) (map_append g xs ys)

table_step : {A : Type 0} (d d' : List A) (k k' : ℕ) (new rest whole all : List A) → d' ≡ sets d k new → k' ≡ k + length new → whole ≡ new ++ rest → sets d k whole ≡ all → sets d' k' rest ≡ all
table_step d d' k k' new rest whole all e n w h =
    ap (λ (l : List _). sets l k' rest) e
    ∙ ap (λ (i : ℕ). sets (sets d k new) i rest) n
    ∙ sym (sets_append d k new rest)
    ∙ ap (sets d k) (sym w)
    ∙ h

axis_step : (g : Vec3 → Float) (d d' : List Float) (k k' : ℕ) (new rest whole : List Vec3) (all : List Float) → d' ≡ sets d k (map g new) → k' ≡ k + length new → whole ≡ new ++ rest
    → sets d k (map g whole) ≡ all → sets d' k' (map g rest) ≡ all
axis_step g d d' k k' new rest whole all e n w h =
    table_step d d' k k' (map g new) (map g rest) (map g whole) all e (n ∙ ap (λ (i : ℕ). k + i) (sym (length-map new g))) (ap (map g) w ∙ map_append g new rest) h

module _ {text : List ℕ} {a : Tables} {f : Form} {fs : List Form} {t : Tally} {b : Tables} (k : Left text a (f ∷ fs) t b) (C : t.corners ≤ 16385) (P : t.polygons ≤ 4097) where
  pub left_step : (c : Tables) (o : Result Tally Refusal) → NotedLine f t b c o → ForOk o (λ (r : Tally). Left text a fs r c)
  left_step c o n r z = record {
    sized = noted_sized k.sized n;
    defined_left =
        sum r.defined t.defined (length (vertex_in (line_of f))) (length (vertices_from fs)) (length (vertices_from fs)) (length (vertices_from (f ∷ fs))) _ g.defined_then refl
        (ap length (vertices_step f fs) ∙ length-append (vertex_in (line_of f)) (vertices_from fs))
        k.defined_left;
    corners_left = λ h. sum r.corners t.corners (length (numbers_of f)) (length rest) (length (corners_from (faces_from r.index fs))) (length (corners_from (faces_from t.index (f ∷ fs)))) _ (corners h)
        (ap (λ (i : ℕ). length (corners_from (faces_from i fs))) g.index_then) more (k.corners_left h);
    faces_left = λ h. sum r.polygons t.polygons (length (count_in (line_of f))) (length next) (length (faces_from r.index fs)) (length (faces_from t.index (f ∷ fs))) _ (polygons h)
        (ap (λ (i : ℕ). length (faces_from i fs)) g.index_then) others (k.faces_left h);
    numbers_left = λ h. table_step b.numbers c.numbers t.corners r.corners (map capped (numbers_of f)) (map capped (corners_from (faces_from r.index fs)))
        (map capped (corners_from (faces_from t.index (f ∷ fs)))) _ (n.read.stored g.formed) (corners h ∙ ap (λ (i : ℕ). t.corners + i) (sym (length-map (numbers_of f) capped)))
        (ap (map capped) (corners_step t.index f fs) ∙ map_append capped (numbers_of f) rest ∙ ap (λ (i : ℕ). map capped (numbers_of f) ++ map capped (corners_from (faces_from i fs))) (sym g.index_then))
        (k.numbers_left h);
    indices_left = λ h. table_step b.indices c.indices t.polygons r.polygons (index_in t.index (line_of f)) (map (λ (q : Face). q.index) (faces_from r.index fs))
        (map (λ (q : Face). q.index) (faces_from t.index (f ∷ fs))) _ n.faces.index_then (polygons h ∙ ap (λ (i : ℕ). t.polygons + i) (sym (same_many t.index f)))
        (indices_step t.index f fs ∙ ap (λ (i : ℕ). index_in t.index (line_of f) ++ map (λ (q : Face). q.index) (faces_from i fs)) (sym g.index_then))
        (k.indices_left h);
    counts_left = λ h. table_step b.counts c.counts t.polygons r.polygons (count_in (line_of f)) (map (λ (q : Face). length q.numbers) (faces_from r.index fs))
        (map (λ (q : Face). length q.numbers) (faces_from t.index (f ∷ fs))) _ n.faces.count_then (polygons h)
        (counts_step t.index f fs ∙ ap (λ (i : ℕ). count_in (line_of f) ++ map (λ (q : Face). length q.numbers) (faces_from i fs)) (sym g.index_then))
        (k.counts_left h);
    xs_left = axis_step (λ (v : Vec3). v.x) b.xs c.xs t.defined r.defined (vertex_in (line_of f)) (vertices_from fs) (vertices_from (f ∷ fs)) _ n.vertices.x_then g.defined_then (vertices_step f fs) k.xs_left;
    ys_left = axis_step (λ (v : Vec3). v.y) b.ys c.ys t.defined r.defined (vertex_in (line_of f)) (vertices_from fs) (vertices_from (f ∷ fs)) _ n.vertices.y_then g.defined_then (vertices_step f fs) k.ys_left;
    zs_left = axis_step (λ (v : Vec3). v.z) b.zs c.zs t.defined r.defined (vertex_in (line_of f)) (vertices_from fs) (vertices_from (f ∷ fs)) _ n.vertices.z_then g.defined_then (vertices_step f fs) k.zs_left;
  }
    where
      g : Progress f t r
      g = progress t C P f r (sym n.tally ∙ z)

      rest : List ℕ
      rest = corners_from (faces_from (index_after t.index f) fs)

      next : List Face
      next = faces_from (index_after t.index f) fs

      more : length (corners_from (faces_from t.index (f ∷ fs))) ≡ length (numbers_of f) + length rest
      more = ap length (corners_step t.index f fs) ∙ length-append (numbers_of f) rest

      others : length (faces_from t.index (f ∷ fs)) ≡ length (count_in (line_of f)) + length next
      others =
          sym (length-map (faces_from t.index (f ∷ fs)) (λ (q : Face). length q.numbers))
          ∙ ap length (counts_step t.index f fs)
          ∙ length-append (count_in (line_of f)) (map (λ (q : Face). length q.numbers) next)
          ∙ ap (λ (i : ℕ). length (count_in (line_of f)) + i) (length-map next (λ (q : Face). length q.numbers))

      exact : (x y n m w total cap : ℕ) → x ≡ min (y + n) (cap + 1) → w ≡ n + m → y + w ≡ total → total ≤ cap → x ≡ y + n
      exact x y n m w total cap p q s h = omega (arith, p, q, s, h)

      corners : length (corners_of text) ≤ 16384 → r.corners ≡ t.corners + length (numbers_of f)
      corners h = exact r.corners t.corners (length (numbers_of f)) (length rest) _ _ 16384 g.corners_then more (k.corners_left h) h

      polygons : length (faces_of text) ≤ 4096 → r.polygons ≡ t.polygons + length (count_in (line_of f))
      polygons h = exact r.polygons t.polygons (length (count_in (line_of f))) (length next) _ _ 4096 g.polygons_then others (k.faces_left h) h

      sum : (x y n m m' w total : ℕ) → x ≡ y + n → m' ≡ m → w ≡ n + m → y + w ≡ total → x + m' ≡ total
      sum x y n m m' w total p q s h = omega (arith, p, q, s, h)

-- ---- at a refused line, and at the end
pub judged_refused : (text : List ℕ) (a b : Tables) (d : Refusal) → Told text (Err d) → Sized b → Judged text a b (Err d)
judged_refused text a b d j s = record {
  refusal = j.refusal;
  defined = λ u e. absurd cc;
  corners = j.corners;
  polygons = j.polygons;
  sized = s;
  numbers_are = λ e l. none e;
  indices_are = λ e l. none e;
  counts_are = λ e l. none e;
  xs_are = λ e. none e;
  ys_are = λ e. none e;
  zs_are = λ e. none e;
}
  where
    none : {A : Type 0} → line_refusal text ≡ Ok tt → A
    none e = let k = j.refusal ∙ e in absurd cc

pub judged_all : (text : List ℕ) (a b : Tables) (fs : List Form) (t : Tally) → Told text (Ok t) → fs ≡ [] → Left text a fs t b → Judged text a b (Ok t)
unfolding vertices_from faces_from corners_from
judged_all text a b fs t j e k = done (subst (λ (l : List Form). Left text a l t b) e k)
  where
    done : Left text a [] t b → Judged text a b (Ok t)
    done k = record {
      refusal = j.refusal;
      defined = λ u e. let same : t ≡ u = cc in ap (λ (x : Tally). x.defined) (sym same) ∙ sym (add-zero t.defined) ∙ k.defined_left;
      corners = j.corners;
      polygons = j.polygons;
      sized = k.sized;
      numbers_are = λ e l. k.numbers_left l;
      indices_are = λ e l. k.indices_left l;
      counts_are = λ e l. k.counts_left l;
      xs_are = λ e. k.xs_left;
      ys_are = λ e. k.ys_left;
      zs_are = λ e. k.zs_left;
    }
