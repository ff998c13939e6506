-- The parts of the file, one after the other.
use Rattle.std.proofs.Common.{Result, Ok}
use mathlib.Core.Path.{◌≡◌, refl, sym, ap, ◌∙◌, subst}
use mathlib.Core.List.{List, [], ◌∷◌, ◌++◌, map, append_assoc, append-nil}
use Prim.Native.Nat.{ℕ, zero, suc, ◌+◌, ◌-◌, ◌≤◌, ◌<◌, ◌^◌}
use native.Mathlib.Nat.{add-zero, zero-add, le_trans, le_of_eq}
use native.Mathlib.Numerals.{add-one}
use native.Mathlib.Decide.{dec_le}
use native.Mathlib.Omega.{arith}
use lib.ListN.{length, take, drop, get_or, length-map, length-append, get_or-append}
use lib.Seq.{sets, sets-eq, take-suc, take_at, take-length}
use lib.Ieee.{Float, nan}
use Rattle.refusal.specs.declared.Refusal.{Refusal}
use Rattle.math.specs.declared.Vec3.{Vec3}
use Rattle.num_text.specs.Put.{Put}
use Rattle.num_text.specs.Text.{Adds}
use Rattle.num_text.specs.declared.text.Text.{Text}
use Rattle.num_text.proofs.PutLaws.{put_then, put_same, put_length, put_front, put_measures_lem}
use Rattle.num_text.proofs.TextLaws.{adds_none, adds_then, adds_same}
use Rattle.obj_number.specs.Whole.{capped}
use Rattle.obj_line.specs.Form.{Form, vertex, face, group, skipped, other}
use Rattle.obj_text.specs.declared.judge.Tally.{Tally}
use Rattle.obj_text.specs.Text.{forms_of, line_refusal, Face, faces_of, corners_from, corners_of, vertices_from, vertices_of, origin, vertex_of}
use Rattle.obj_text.specs.Judged.{Tables, Sized, Judged}
use Rattle.obj_text.proofs.LineLaws.{forms_length}
use Rattle.obj_text.proofs.BoundLaws.{corner_inside}
use Rattle.obj_windows.specs.Filled.{row_at_of, Filled}
use Rattle.obj_part.specs.Bytes.{vec_bytes, entry_bytes, trailer_bytes}
use Rattle.obj_part.specs.File.{vertex_block, entries_from, part_file}
use Rattle.obj_part.proofs.FileLaws.{part_length}
use Rattle.obj.specs.Work.{rows_to, named_row, Named, Rows, first_at, entries_to, Ready, Written}
use Rattle.obj.proofs.ConvertLaws.{Accepted, same_small}

-- ---- the vertices, one by one
module _ (row : ℕ → Vec3) where
  pub rows_none : (a : Text) → Adds a (rows_to row 0) a
  unfolding rows_to
  rows_none a = adds_none a

  pub rows_more : {x y z : Text} (c : ℕ) → Adds x (rows_to row c) y → Adds y (vec_bytes (row c)) z → Adds x (rows_to row (c + 1)) z
  unfolding rows_to
  rows_more c a b = adds_same _ _ (ap (rows_to row) (sym (add-one c))) (adds_then (rows_to row c) (vec_bytes (row c)) a b)

block_snoc : (text ns : List ℕ) (n : ℕ) → vertex_block text (ns ++ (n ∷ [])) ≡ vertex_block text ns ++ vec_bytes (vertex_of text n)
unfolding vertex_block
block_snoc text [] n = append-nil (vec_bytes (vertex_of text n))
block_snoc text (m ∷ ns) n =
    ap (λ (l : List ℕ). vec_bytes (vertex_of text m) ++ l) (block_snoc text ns n) ∙ sym (append_assoc (vec_bytes (vertex_of text m)) (vertex_block text ns) (vec_bytes (vertex_of text n)))

rows_to_lem : (text ns : List ℕ) (row : ℕ → Vec3) (used k : ℕ) → ((c : ℕ) → c < used → row c ≡ vertex_of text (get_or ns c 0)) → used ≤ length ns → k ≤ used
    → rows_to row k ≡ vertex_block text (take k ns)
unfolding rows_to vertex_block
rows_to_lem text ns row used zero each h l = refl
rows_to_lem text ns row used (suc k) each h l =
    ap (λ (b : List ℕ). b ++ vec_bytes (row k)) (rows_to_lem text ns row used k each h (omega arith))
    ∙ ap (λ (v : Vec3). vertex_block text (take k ns) ++ vec_bytes v) (each k l)
    ∙ sym (ap (vertex_block text) (take-suc ns k 0 (le_trans l h)) ∙ block_snoc text (take k ns) (get_or ns k 0))

-- from the corners' own tables
pub put_block : {d e : Text} (text ns : List ℕ) (xs ys zs : List Float) (used : ℕ) → used ≤ length ns → Named ns used (length (vertices_of text)) → Filled text ns used xs ys zs
    → Adds d (rows_to (row_at_of xs ys zs) used) e → Adds d (vertex_block text (take used ns)) e
put_block text ns xs ys zs used h n f p =
    adds_same _ _ (rows_to_lem text ns (row_at_of xs ys zs) used used (λ c l. f.each c l (n.from_one c l) (n.to_last c l)) h (le_of_eq refl)) p

-- from the tables of all vertices
pub named_within : (text ns : List ℕ) (used n : ℕ) (xs ys zs : List Float) → Named ns used (length (vertices_of text)) → Rows text n xs ys zs → n ≤ 16384 → Named ns used 16384
named_within text ns used n xs ys zs k r h = record {
  from_one = k.from_one;
  to_last = λ c l. le_trans (k.to_last c l) (le_trans (le_of_eq (sym r.many)) h);
}

pub put_named : {d e : Text} (text ns : List ℕ) (xs ys zs : List Float) (used n : ℕ) → used ≤ length ns → Named ns used (length (vertices_of text)) → Rows text n xs ys zs → n ≤ 16384
    → Adds d (rows_to (named_row ns xs ys zs) used) e → Adds d (vertex_block text (take used ns)) e
unfolding named_row vertex_of
put_named text ns xs ys zs used n h k rows s p =
    adds_same _ _ (rows_to_lem text ns (named_row ns xs ys zs) used used (λ c l. rows.each s (get_or ns c 0 - 1) (place (get_or ns c 0) (length (vertices_of text)) (k.from_one c l) (k.to_last c l) rows.many)) h (le_of_eq refl)) p
  where
    place : (m v : ℕ) → 1 ≤ m → m ≤ v → n ≡ v → m - 1 < n
    place m v a b e = omega (arith, a, b, e)

-- ---- the vertex numbers of the corners
vertices_fewer : (fs : List Form) → length (vertices_from fs) ≤ length fs
unfolding vertices_from
vertices_fewer [] = omega arith
vertices_fewer (vertex v ∷ fs) = omega (arith, vertices_fewer fs)
vertices_fewer (face ns ∷ fs) = omega (arith, vertices_fewer fs)
vertices_fewer (group i ∷ fs) = omega (arith, vertices_fewer fs)
vertices_fewer (skipped ∷ fs) = omega (arith, vertices_fewer fs)
vertices_fewer (other ∷ fs) = omega (arith, vertices_fewer fs)

vertices_most : (text : List ℕ) → length text < 2 ^ 63 → length (vertices_of text) ≤ 2 ^ 63
unfolding vertices_of
vertices_most text h = omega (arith, vertices_fewer (forms_of text), forms_length text)

capped_same : (n : ℕ) → n ≤ 2 ^ 63 → capped n ≡ n
unfolding capped
capped_same n h = omega arith

map_same : (ns : List ℕ) → ((c : ℕ) → c < length ns → get_or ns c 0 ≤ 2 ^ 63) → map capped ns ≡ ns
map_same [] h = refl
map_same (n ∷ ns) h =
    ap (λ (m : ℕ). m ∷ map capped ns) (capped_same n (h 0 (omega arith))) ∙ ap (λ (l : List ℕ). n ∷ l) (map_same ns (λ c l. h (suc c) (omega (arith, l))))

-- ---- a table that begins with what was stored
front : {A : Type 0} (l vs : List A) → length vs ≤ length l → sets l 0 vs ≡ vs ++ drop (length vs) l
front l vs h = sets-eq vs l 0 (le_trans (le_of_eq (zero-add (length vs))) h) ∙ ap (λ (i : ℕ). vs ++ drop i l) (zero-add (length vs))

at_front : {A : Type 0} (d : A) (l vs t : List A) (p : ℕ) → t ≡ sets l 0 vs → length vs ≤ length l → p < length vs → get_or t p d ≡ get_or vs p d
at_front d l vs t p e h k = ap (λ (q : List _). get_or q p d) (e ∙ front l vs h) ∙ get_or-append vs (drop (length vs) l) d p k

at_map : {A B : Type 0} (g : A → B) (l : List A) (p : ℕ) (d : A) (e : B) → p < length l → get_or (map g l) p e ≡ g (get_or l p d)
at_map g [] p d e h = absurd (omega (arith, h))
at_map g (x ∷ l) zero d e h = refl
at_map g (x ∷ l) (suc p) d e h = at_map g l p d e (omega (arith, h))

mapped : {A B : Type 0} (g : A → B) (all : List A) (l t : List B) (n p : ℕ) (d : A) (e : B) → t ≡ sets l 0 (map g all) → length l ≡ n → length all ≤ n → p < length all → get_or t p e ≡ g (get_or all p d)
mapped g all l t n p d e s h k q =
    at_front e l (map g all) t p s (room (length (map g all)) (length l) (length-map all g) h) (here (length (map g all)) (length-map all g)) ∙ at_map g all p d e q
  where
    room : (a b : ℕ) → a ≡ length all → b ≡ n → a ≤ b
    room a b x y = omega (arith, x, y, k)

    here : (a : ℕ) → a ≡ length all → p < a
    here a x = omega (arith, x, q)

same_vec : (v : Vec3) (a b c : Float) → a ≡ v.x → b ≡ v.y → c ≡ v.z → ◌≡◌ {A = Vec3} (record { x = a; y = b; z = c }) v
same_vec v a b c p q r = rw (p, q, r)

-- ---- what the first pass has left of a text that nothing refuses
module _ (text : List ℕ) (a b : Tables) (t : Tally) (s : length text < 2 ^ 63) (z : line_refusal text ≡ Ok tt) (C : length (corners_of text) ≤ 16384) (P : length (faces_of text) ≤ 4096) (q : Sized a)
    {r : Result Tally Refusal} (j : Judged text a b r) (k : r ≡ Ok t) where
  abbrev cs : List ℕ
  cs = corners_of text

  many : t.corners ≡ length cs
  many = j.corners t k ∙ same_small (length cs) 16384 C

  faces : t.polygons ≡ length (faces_of text)
  faces = j.polygons t k ∙ same_small (length (faces_of text)) 4096 P

  same : map capped cs ≡ cs
  same = map_same cs (λ c l. le_trans (corner_inside text z c l).to (vertices_most text s))

  room : length cs ≤ length a.numbers
  room = le_trans C (le_trans (omega arith) (le_of_eq (sym q.numbers_long)))

  are : b.numbers ≡ sets a.numbers 0 cs
  are = j.numbers_are z C ∙ ap (sets a.numbers 0) same

  at : (c : ℕ) → c < length cs → get_or b.numbers c 0 ≡ get_or cs c 0
  at c l = at_front 0 a.numbers cs b.numbers c are room l

  below : (c n m : ℕ) → n ≡ m → c < n → c < m
  below c n m e l = omega (arith, e, l)

  ready_rows : Rows text t.defined b.xs b.ys b.zs
  unfolding row_at_of
  ready_rows = record {
    many = j.defined t k;
    each = λ h i l.
        let inside : i < length (vertices_of text) = below i t.defined (length (vertices_of text)) (j.defined t k) l in
        let few : length (vertices_of text) ≤ 16384 = le_trans (le_of_eq (sym (j.defined t k))) h in
        same_vec (get_or (vertices_of text) i origin) (get_or b.xs i nan) (get_or b.ys i nan) (get_or b.zs i nan)
        (mapped (λ (v : Vec3). v.x) (vertices_of text) a.xs b.xs 16384 i origin nan (j.xs_are z) q.slots.xs_long few inside)
        (mapped (λ (v : Vec3). v.y) (vertices_of text) a.ys b.ys 16384 i origin nan (j.ys_are z) q.slots.ys_long few inside)
        (mapped (λ (v : Vec3). v.z) (vertices_of text) a.zs b.zs 16384 i origin nan (j.zs_are z) q.slots.zs_long few inside);
  }

  pub ready : Ready text t b
  ready = record {
    sized = j.sized;
    corners_are = many;
    polygons_are = faces;
    first = ap (λ (n : ℕ). take n b.numbers) many ∙ ap (take (length cs)) (are ∙ front a.numbers cs room) ∙ take_at cs (drop (length cs) a.numbers) (length cs) refl;
    named = record {
      from_one = λ c l. subst (λ (n : ℕ). 1 ≤ n) (sym (at c (below c _ _ many l))) (corner_inside text z c (below c _ _ many l)).from;
      to_last = λ c l. subst (λ (n : ℕ). n ≤ length (vertices_of text)) (sym (at c (below c _ _ many l))) (corner_inside text z c (below c _ _ many l)).to;
    };
    rows = ready_rows;
    index_at = λ d p l. mapped (λ (f : Face). f.index) (faces_of text) a.indices b.indices 4098 p d 0 (j.indices_are z P) q.indices_long (le_trans P (omega arith)) (below p _ _ faces l);
    count_at = λ d p l. mapped (λ (f : Face). length f.numbers) (faces_of text) a.counts b.counts 4098 p d 0 (j.counts_are z P) q.counts_long (le_trans P (omega arith)) (below p _ _ faces l);
  }

-- ---- the polygons, one by one
module _ (is cs : List ℕ) where
  pub entries_none : (a : Text) → Adds a (entries_to is cs 0) a
  unfolding entries_to
  entries_none a = adds_none a

  pub entries_more : {d e f : Text} (p first count : ℕ) → Adds d (entries_to is cs p) e → first ≡ first_at cs p → count ≡ get_or cs p 0 → Adds e (entry_bytes (get_or is p 0) first count) f
      → Adds d (entries_to is cs (p + 1)) f
  unfolding entries_to
  entries_more p first count a x y b =
      adds_same _ _ (ap (entries_to is cs) (sym (add-one p)))
      (adds_then (entries_to is cs p) (entry_bytes (get_or is p 0) (first_at cs p) (get_or cs p 0)) a
      (adds_same _ _ (ap (λ (i : ℕ). entry_bytes (get_or is p 0) i count) x ∙ ap (entry_bytes (get_or is p 0) (first_at cs p)) y) b))

  pub first_none : 0 ≡ first_at cs 0
  unfolding first_at
  first_none = refl

  pub first_more : (p first count : ℕ) → first ≡ first_at cs p → count ≡ get_or cs p 0 → first + count ≡ first_at cs (p + 1)
  unfolding first_at
  first_more p first count x y = ap (λ (i : ℕ). i + count) x ∙ ap (λ (i : ℕ). first_at cs p + i) y ∙ ap (first_at cs) (sym (add-one p))

  pub first_most : (n p : ℕ) → p < n → first_at cs p + get_or cs p 0 ≤ first_at cs n
  unfolding first_at
  first_most zero p l = absurd (omega (arith, l))
  first_most (suc n) p l = go (dec_le n p) (first_most n p)
    where
      go : Dec (n ≤ p) → (p < n → first_at cs p + get_or cs p 0 ≤ first_at cs n) → first_at cs p + get_or cs p 0 ≤ first_at cs n + get_or cs n 0
      go (yes h) k = let e : p ≡ n = omega (arith, l, h) in le_of_eq (ap (λ (i : ℕ). first_at cs i + get_or cs i 0) e)
      go (no h) k = le_trans (k (omega (arith, h))) (omega arith)

corners_snoc : (fs : List Face) (f : Face) → length (corners_from (fs ++ (f ∷ []))) ≡ length (corners_from fs) + length f.numbers
unfolding corners_from
corners_snoc [] f = ap length (append-nil f.numbers) ∙ sym (zero-add (length f.numbers))
corners_snoc (g ∷ fs) f =
    sum (length g.numbers) (length (corners_from fs)) (length f.numbers) _ _ _ (length-append g.numbers (corners_from (fs ++ (f ∷ [])))) (corners_snoc fs f) (length-append g.numbers (corners_from fs))
  where
    sum : (a b c x y w : ℕ) → x ≡ a + y → y ≡ b + c → w ≡ a + b → x ≡ w + c
    sum a b c x y w p q r = omega (arith, p, q, r)

entries_snoc : (u : ℕ) (fs : List Face) (f : Face) → entries_from u (fs ++ (f ∷ [])) ≡ entries_from u fs ++ entry_bytes f.index (u + length (corners_from fs)) (length f.numbers)
unfolding entries_from corners_from
entries_snoc u [] f = append-nil (entry_bytes f.index u (length f.numbers)) ∙ ap (λ (i : ℕ). entry_bytes f.index i (length f.numbers)) (sym (add-zero u))
entries_snoc u (g ∷ fs) f =
    let e = entry_bytes g.index u (length g.numbers) in
    let rest = entries_from (u + length g.numbers) fs in
    ap (λ (l : List ℕ). e ++ l) (entries_snoc (u + length g.numbers) fs f)
    ∙ ap (λ (i : ℕ). e ++ (rest ++ entry_bytes f.index i (length f.numbers))) (sum u (length g.numbers) (length (corners_from fs)) _ (length-append g.numbers (corners_from fs)))
    ∙ sym (append_assoc e rest (entry_bytes f.index (u + length (g.numbers ++ corners_from fs)) (length f.numbers)))
  where
    sum : (a b c x : ℕ) → x ≡ b + c → a + b + c ≡ a + x
    sum a b c x e = omega (arith, e)

module _ (is cs : List ℕ) (fs : List Face) (d : Face) (n : ℕ) (h : n ≤ length fs) (I : (p : ℕ) → p < n → get_or is p 0 ≡ (get_or fs p d).index) (K : (p : ℕ) → p < n → get_or cs p 0 ≡ length (get_or fs p d).numbers) where
  first_to : (k : ℕ) → k ≤ n → first_at cs k ≡ length (corners_from (take k fs))
  unfolding first_at corners_from
  first_to zero l = refl
  first_to (suc k) l =
      ap (λ (i : ℕ). i + get_or cs k 0) (first_to k (omega arith))
      ∙ ap (λ (i : ℕ). length (corners_from (take k fs)) + i) (K k l)
      ∙ sym (ap (λ (g : List Face). length (corners_from g)) (take-suc fs k d (le_trans l h)) ∙ corners_snoc (take k fs) (get_or fs k d))

  entries_to_lem : (k : ℕ) → k ≤ n → entries_to is cs k ≡ entries_from 0 (take k fs)
  unfolding entries_to entries_from
  entries_to_lem zero l = refl
  entries_to_lem (suc k) l =
      ap (λ (b : List ℕ). b ++ entry_bytes (get_or is k 0) (first_at cs k) (get_or cs k 0)) (entries_to_lem k (omega arith))
      ∙ ap (λ (b : List ℕ). entries_from 0 (take k fs) ++ b) (entry (I k l) (first_to k (omega arith) ∙ sym (zero-add _)) (K k l))
      ∙ sym (ap (entries_from 0) (take-suc fs k d (le_trans l h)) ∙ entries_snoc 0 (take k fs) (get_or fs k d))
    where
      entry : {a b c x y w : ℕ} → a ≡ x → b ≡ y → c ≡ w → entry_bytes a b c ≡ entry_bytes x y w
      entry p q r = rw (p, q, r)

no_face_lem : Face
no_face_lem = record { index = 0; numbers = [] }

module _ {text : List ℕ} {t : Tally} {b : Tables} (r : Ready text t b) where
  pub first_small : length (corners_of text) ≤ 16384 → first_at b.counts t.polygons ≤ 16384
  unfolding corners_of
  first_small h =
      le_trans
      (le_of_eq
      (first_to b.indices b.counts (faces_of text) no_face_lem t.polygons (le_of_eq r.polygons_are) (r.index_at no_face_lem) (r.count_at no_face_lem) t.polygons (le_of_eq refl)
      ∙ ap (λ (n : ℕ). length (corners_from (take n (faces_of text)))) r.polygons_are
      ∙ ap (λ (l : List Face). length (corners_from l)) (take-length (faces_of text))))
      h

  pub entries_are : entries_to b.indices b.counts t.polygons ≡ entries_from 0 (faces_of text)
  entries_are =
      entries_to_lem b.indices b.counts (faces_of text) no_face_lem t.polygons (le_of_eq r.polygons_are) (r.index_at no_face_lem) (r.count_at no_face_lem) t.polygons (le_of_eq refl)
      ∙ ap (λ (n : ℕ). entries_from 0 (take n (faces_of text))) r.polygons_are
      ∙ ap (entries_from 0) (take-length (faces_of text))

-- ---- one after the other
pub written : (text job d d₁ d₂ d₃ : List ℕ) (t : Tally) (b : Tables) (m n r : ℕ) → Accepted text (length job) (length d) → Ready text t b
    → Put d 0 (vertex_block text (take t.corners b.numbers)) d₁ m → Put d₁ m (entries_to b.indices b.counts t.polygons) d₂ n → Put d₂ n (job ++ trailer_bytes t.corners t.polygons) d₃ r
    → Written text job d d₃ r
unfolding part_file
written text job d d₁ d₂ d₃ t b m n r h k x y z =
    let total = put_measures_lem whole file (omega (arith, long, x.room)) in
    record { same_length = put_length whole file; length_is = total ∙ zero-add _; buffer_is = put_front whole file long }
  where
    whole : List ℕ
    whole = vertex_block text (corners_of text) ++ (entries_from 0 (faces_of text) ++ (job ++ trailer_bytes (length (corners_of text)) (length (faces_of text))))

    long : length whole ≤ length d
    long = le_trans (le_of_eq (part_length text job h.job_long)) h.room_enough

    ends : job ++ trailer_bytes t.corners t.polygons ≡ job ++ trailer_bytes (length (corners_of text)) (length (faces_of text))
    ends = ap (λ (i : ℕ). job ++ trailer_bytes i t.polygons) k.corners_are ∙ ap (λ (i : ℕ). job ++ trailer_bytes (length (corners_of text)) i) k.polygons_are

    file : Put d 0 whole d₃ r
    file =
        put_then _ _ (put_same _ _ (ap (vertex_block text) k.first) x)
        (put_then _ _ (put_same _ _ (entries_are k) y) (put_same _ _ ends z))
