-- The second pass: lines passed over, and windows of vertices.
use Rattle.std.proofs.Common.{Result, Ok, Err}
use Rattle.std.specs.Bool.{⊤}
use mathlib.Core.Path.{◌≡◌, refl, sym, ap, ◌∙◌, subst}
use mathlib.Core.Bool.{Bool, true, false, cond}
use mathlib.Core.List.{List, [], ◌∷◌}
use Prim.Native.Nat.{ℕ, ◌+◌, ◌-◌, ◌≤◌, ◌<◌}
use native.Mathlib.Nat.{add-zero, le_trans, le_of_eq}
use native.Mathlib.Decide.{dec_le}
use native.Mathlib.Omega.{arith}
use lib.Dec.{eqb, leb}
use lib.ListN.{length, drop, get_or, set, length-drop, length-set}
use lib.Seq.{get_or-drop, drop-drop, get_or-set_same, get_or-set_other}
use lib.Ieee.{Float, nan}
use borrow.Author.Tests.{eqb-false}
use Rattle.math.specs.declared.Vec3.{Vec3}
use Rattle.obj_line.specs.declared.line.Line.{Line}
use Rattle.obj_line.specs.Form.{Form, vertex, face, group, skipped, other, form_of, largest, line_of}
use Rattle.obj_line.specs.Work.{vertex_line}
use Rattle.obj_line.proofs.KindLaws.{Kind, form_kind}
use Rattle.obj_text.specs.Text.{origin, forms_of, refusal_from, line_refusal, vertices_from, vertices_of, vertex_of}
use Rattle.obj_text.specs.Work.{forms_from}
use Rattle.obj_text.specs.Judged.{Slots}
use Rattle.obj_windows.specs.Work.{Formed, AllFormed, defines, Nearer, Unnamed, Past, Skipped, stored_in, count_after, LoadedLine, Holds, HoldsFrom, Loaded, Flushed, Axis}
use Rattle.obj_windows.specs.Filled.{row_at_of, Filled}
use Rattle.obj_windows.proofs.WindowLaws.{axis_flush}

-- no line of a text that is not refused is of any other form
all_formed : (fs : List Form) (n : ℕ) → refusal_from n fs ≡ Ok tt → AllFormed fs
unfolding AllFormed Formed refusal_from
all_formed [] n h = tt
all_formed (vertex v ∷ fs) n h = (λ (e : vertex v ≡ other). cc, all_formed fs (n + 1) h)
all_formed (face ns ∷ fs) n h = (λ (e : face ns ≡ other). cc, all_formed fs n (go (leb (largest ns) n) (refusal_from n fs) _ h))
  where
    go : {E : Type 0} (b : Bool) (r : Result ⊤ E) (e : E) → cond b r (Err e) ≡ Ok tt → r ≡ Ok tt
    go true r e h = h
    go false r e h = absurd cc
all_formed (group i ∷ fs) n h = (λ (e : group i ≡ other). cc, all_formed fs n h)
all_formed (skipped ∷ fs) n h = (λ (e : skipped ≡ other). cc, all_formed fs n h)
all_formed (other ∷ fs) n h = absurd cc

-- ---- vertices that no corner names
pub unnamed_none : (numbers : List ℕ) (base r : ℕ) → Unnamed numbers 0 base r
unnamed_none numbers base r = record { none = λ c h k. absurd (omega (arith, h)) }

pub unnamed_more : (numbers : List ℕ) (c base gap r : ℕ) → Unnamed numbers c base gap → Nearer gap base (get_or numbers c 0) r → Unnamed numbers (c + 1) base r
unnamed_more numbers c base gap r u n = record { none = λ k h more. go k h more (dec_le c k) }
  where
    go : (k : ℕ) → k < c + 1 → base < get_or numbers k 0 → Dec (c ≤ k) → base + r < get_or numbers k 0
    go k h more (yes q) =
        let same : k ≡ c = omega (arith, h, q) in
        subst (λ (i : ℕ). base + r < get_or numbers i 0) (sym same) (n.before_it (subst (λ (i : ℕ). base < get_or numbers i 0) same more))
    go k h more (no q) =
        let far = u.none k (omega (arith, q)) more in
        let least = n.less in
        omega (arith, far, least)

-- ---- how many vertices a line defines, by its first byte
pub defines_empty : (l : List ℕ) → length l ≡ 0 → 0 ≡ defines (form_of l)
unfolding form_of defines
defines_empty [] h = refl
defines_empty (b ∷ l) h = absurd (omega arith)

defines_if : (b : ℕ) (f : Form) → Kind b f → Formed f → b ≡ 118 → 1 ≡ defines f
unfolding Kind Formed defines
defines_if b (vertex v) k g h = refl
defines_if b (face ns) k g h = absurd (omega (arith, k, h))
defines_if b (group i) k g h = absurd (omega (arith, k, h))
defines_if b skipped k g h = absurd (omega (arith, k, h))
defines_if b other k g h = absurd (g refl)

defines_not : (b : ℕ) (f : Form) → Kind b f → (b ≡ 118 → ⊥) → 0 ≡ defines f
unfolding Kind defines
defines_not b (vertex v) k h = absurd (h k)
defines_not b (face ns) k h = refl
defines_not b (group i) k h = refl
defines_not b skipped k h = refl
defines_not b other k h = refl

pub defines_one : (l : List ℕ) → Formed (form_of l) → get_or l 0 0 ≡ 118 → 1 ≡ defines (form_of l)
defines_one l g h = defines_if (get_or l 0 0) (form_of l) (form_kind l) g h

pub defines_none : (l : List ℕ) → (get_or l 0 0 ≡ 118 → ⊥) → 0 ≡ defines (form_of l)
defines_none l h = defines_not (get_or l 0 0) (form_of l) (form_kind l) h

defines_most : (f : Form) → defines f ≤ 1
unfolding defines
defines_most (vertex v) = omega arith
defines_most (face ns) = omega arith
defines_most (group i) = omega arith
defines_most skipped = omega arith
defines_most other = omega arith

-- ---- the first of what is left, and the rest
first_left : (vs rest : List Vec3) (k : ℕ) (v : Vec3) → drop k vs ≡ v ∷ rest → v ≡ get_or vs k origin
first_left vs rest k v e =
    sym (ap (λ (i : ℕ). get_or vs i origin) (sym (add-zero k)) ∙ sym (get_or-drop k vs 0 origin) ∙ ap (λ (l : List Vec3). get_or l 0 origin) e)

rest_left : (vs rest : List Vec3) (k : ℕ) (v : Vec3) → drop k vs ≡ v ∷ rest → drop (k + 1) vs ≡ rest
rest_left vs rest k v e = sym (drop-drop 1 k vs) ∙ ap (drop 1) e

left_after : (vs : List Vec3) (k : ℕ) (f : Form) (fs : List Form) → drop k vs ≡ vertices_from (f ∷ fs) → drop (k + defines f) vs ≡ vertices_from fs
unfolding vertices_from defines
left_after vs k (vertex v) fs e = rest_left vs (vertices_from fs) k v e
left_after vs k (face ns) fs e = ap (λ (i : ℕ). drop i vs) (add-zero k) ∙ e
left_after vs k (group i) fs e = ap (λ (i : ℕ). drop i vs) (add-zero k) ∙ e
left_after vs k skipped fs e = ap (λ (i : ℕ). drop i vs) (add-zero k) ∙ e
left_after vs k other fs e = ap (λ (i : ℕ). drop i vs) (add-zero k) ∙ e

sum_three : (a b c : ℕ) → a + (b + c) ≡ a + b + c
sum_three a b c = omega arith

past_step : (text : List ℕ) (from at n : ℕ) → Past text from at n → (f : Form) (next : ℕ) → forms_from text at ≡ f ∷ forms_from text next → Past text from next (n + defines f)
unfolding Past
past_step text from at n p f next e vs base h =
    ap (λ (i : ℕ). drop i vs) (sum_three base n (defines f)) ∙ left_after vs (base + n) f (forms_from text next) (p vs base h ∙ ap vertices_from e)

past_none : (text : List ℕ) (from : ℕ) → Past text from from 0
unfolding Past
past_none text from vs base h = ap (λ (i : ℕ). drop i vs) (add-zero base) ∙ h

-- ---- lines passed over
pub skipped_none : (text : List ℕ) (from most : ℕ) → from ≤ length text + 1 → AllFormed (forms_from text from) → Skipped text from most from 0
skipped_none text from most h g = record { inside = h; count_most = omega arith; few = omega arith; past = past_none text from; formed = g }

first_formed : (f : Form) (fs : List Form) → AllFormed (f ∷ fs) → Formed f
unfolding AllFormed
first_formed f fs g = g.0

after_formed : (f : Form) (fs : List Form) → AllFormed (f ∷ fs) → AllFormed fs
unfolding AllFormed
after_formed f fs g = g.1

module _ {text : List ℕ} {from most at n : ℕ} (k : Skipped text from most at n) (f : Form) (next : ℕ) (e : forms_from text at ≡ f ∷ forms_from text next) where
  pub skipped_formed : Formed f
  skipped_formed = first_formed f (forms_from text next) (subst AllFormed e k.formed)

  pub skipped_step : (m : ℕ) → m ≡ defines f → (n ≡ most → ⊥) → at < next → next ≤ length text + 1 → Skipped text from most next (n + m)
  skipped_step m d h l i = record {
    inside = i;
    count_most = sum n m most k.count_most h one;
    few = room n m from at next k.few one l;
    past = subst (λ (q : ℕ). Past text from next (n + q)) (sym d) (past_step text from at n k.past f next e);
    formed = after_formed f (forms_from text next) (subst AllFormed e k.formed);
  }
    where
      one : m ≤ 1
      one = le_trans (le_of_eq d) (defines_most f)

      sum : (a b c : ℕ) → a ≤ c → (a ≡ c → ⊥) → b ≤ 1 → a + b ≤ c
      sum a b c p q r = omega (arith, p, q, r)

      room : (a b c d e : ℕ) → a + c ≤ d → b ≤ 1 → d < e → a + b + c ≤ e
      room a b c d e p q r = omega (arith, p, q, r)

-- ---- a line, as it is read: one that does not begin with a v is no vertex
pub record Shows (f : Form) (line : Line) : Type 0 where
  pub stored : (g : Vec3 → Float) (xs : List Float) (n : ℕ) → stored_in g xs n line ≡ stored_in g xs n (line_of f)
  pub counted : (n : ℕ) → count_after n line ≡ count_after n (line_of f)

shows_skipped : (b : ℕ) (f : Form) → Kind b f → (b ≡ 118 → ⊥) → Shows f Line.Skipped
unfolding Kind stored_in count_after line_of
shows_skipped b (vertex v) k h = absurd (h k)
shows_skipped b (face ns) k h = record { stored = λ g xs n. refl; counted = λ n. refl }
shows_skipped b (group i) k h = record { stored = λ g xs n. refl; counted = λ n. refl }
shows_skipped b skipped k h = record { stored = λ g xs n. refl; counted = λ n. refl }
shows_skipped b other k h = record { stored = λ g xs n. refl; counted = λ n. refl }

pub shows : (l : List ℕ) (line : Line) → line ≡ vertex_line l → Shows (form_of l) line
unfolding vertex_line
shows l line e = subst (Shows (form_of l)) (sym e) (go (eqb (get_or l 0 0) 118) refl)
  where
    go : (t : Bool) → eqb (get_or l 0 0) 118 ≡ t → Shows (form_of l) (cond t (line_of (form_of l)) Line.Skipped)
    go true h = record { stored = λ g xs n. refl; counted = λ n. refl }
    go false h = shows_skipped (get_or l 0 0) (form_of l) (form_kind l) (eqb-false (get_or l 0 0) 118 h)

-- ---- one line of a window
-- a line that is no vertex
stored_none : (g : Vec3 → Float) (xs : List Float) (n : ℕ) (l : Line) → ((v : Vec3) → l ≡ Line.Vertex v → ⊥) → stored_in g xs n l ≡ xs
unfolding stored_in
stored_none g xs n (Line.Vertex v) h = absurd (h v refl)
stored_none g xs n (Line.Face c) h = refl
stored_none g xs n (Line.Group i) h = refl
stored_none g xs n Line.Skipped h = refl
stored_none g xs n Line.Other h = refl

count_none : (n : ℕ) (l : Line) → ((v : Vec3) → l ≡ Line.Vertex v → ⊥) → count_after n l ≡ n
unfolding count_after
count_none n (Line.Vertex v) h = absurd (h v refl)
count_none n (Line.Face c) h = refl
count_none n (Line.Group i) h = refl
count_none n Line.Skipped h = refl
count_none n Line.Other h = refl

module _ (line : Line) (n : ℕ) (xs ys zs : List Float) where
  pub loaded_vertex : (v : Vec3) → line ≡ Line.Vertex v → LoadedLine line n xs ys zs (set xs n v.x) (set ys n v.y) (set zs n v.z) (n + 1)
  unfolding stored_in count_after
  loaded_vertex v e = record {
    x_then = sym (ap (stored_in (λ (u : Vec3). u.x) xs n) e);
    y_then = sym (ap (stored_in (λ (u : Vec3). u.y) ys n) e);
    z_then = sym (ap (stored_in (λ (u : Vec3). u.z) zs n) e);
    count_then = sym (ap (count_after n) e);
  }

  pub loaded_none : ((v : Vec3) → line ≡ Line.Vertex v → ⊥) → LoadedLine line n xs ys zs xs ys zs n
  loaded_none h = record {
    x_then = sym (stored_none (λ (u : Vec3). u.x) xs n line h);
    y_then = sym (stored_none (λ (u : Vec3). u.y) ys n line h);
    z_then = sym (stored_none (λ (u : Vec3). u.z) zs n line h);
    count_then = sym (count_none n line h);
  }

stored_length : (g : Vec3 → Float) (xs : List Float) (n : ℕ) (line : Line) → length (stored_in g xs n line) ≡ length xs
unfolding stored_in
stored_length g xs n (Line.Vertex v) = length-set xs n (g v)
stored_length g xs n (Line.Face c) = refl
stored_length g xs n (Line.Group i) = refl
stored_length g xs n Line.Skipped = refl
stored_length g xs n Line.Other = refl

pub line_lengths : {line : Line} {n : ℕ} {xs ys zs xs' ys' zs' : List Float} {r : ℕ} → Slots xs ys zs → LoadedLine line n xs ys zs xs' ys' zs' r → Slots xs' ys' zs'
line_lengths {line} {n} {xs} {ys} {zs} s p = record {
  xs_long = ap length p.x_then ∙ stored_length (λ (v : Vec3). v.x) xs n line ∙ s.xs_long;
  ys_long = ap length p.y_then ∙ stored_length (λ (v : Vec3). v.y) ys n line ∙ s.ys_long;
  zs_long = ap length p.z_then ∙ stored_length (λ (v : Vec3). v.z) zs n line ∙ s.zs_long;
}

-- the table with what a line of the form f adds
holds_store : (g : Vec3 → Float) (vs : List Vec3) (base n : ℕ) (xs : List Float) (v : Vec3) → n < length xs → v ≡ get_or vs (base + n) origin → Holds g vs base n xs
    → Holds g vs base (n + 1) (set xs n (g v))
unfolding Holds
holds_store g vs base n xs v h e p j l = go (dec_le n j)
  where
    go : Dec (n ≤ j) → get_or (set xs n (g v)) j nan ≡ g (get_or vs (base + j) origin)
    go (yes q) =
        let same : j ≡ n = omega (arith, l, q) in
        ap (λ (i : ℕ). get_or (set xs n (g v)) i nan) same ∙ get_or-set_same xs n (g v) nan h ∙ ap g e ∙ ap (λ (i : ℕ). g (get_or vs (base + i) origin)) (sym same)
    go (no q) = get_or-set_other xs n j (g v) nan (λ (y : j ≡ n). q (omega (arith, y))) ∙ p j (omega (arith, q))

holds_form : (g : Vec3 → Float) (vs : List Vec3) (base n : ℕ) (xs : List Float) (f : Form) (fs : List Form) → n < length xs → drop (base + n) vs ≡ vertices_from (f ∷ fs) → Holds g vs base n xs
    → Holds g vs base (count_after n (line_of f)) (stored_in g xs n (line_of f))
unfolding count_after stored_in line_of vertices_from
holds_form g vs base n xs (vertex v) fs h e p = holds_store g vs base n xs v h (first_left vs (vertices_from fs) (base + n) v e) p
holds_form g vs base n xs (face ns) fs h e p = p
holds_form g vs base n xs (group i) fs h e p = p
holds_form g vs base n xs skipped fs h e p = p
holds_form g vs base n xs other fs h e p = p

count_form : (n : ℕ) (f : Form) → n + defines f ≡ count_after n (line_of f)
unfolding count_after line_of defines
count_form n (vertex v) = refl
count_form n (face ns) = add-zero n
count_form n (group i) = add-zero n
count_form n skipped = add-zero n
count_form n other = add-zero n

holds_line : (g : Vec3 → Float) (text : List ℕ) (from at n : ℕ) (xs : List Float) (f : Form) (fs : List Form) (line : Line) (xs' : List Float) (r : ℕ) → forms_from text at ≡ f ∷ fs → n < length xs
    → Past text from at n → Shows f line → xs' ≡ stored_in g xs n line → r ≡ count_after n line → HoldsFrom g text from n xs → HoldsFrom g text from r xs'
unfolding HoldsFrom Past
holds_line g text from at n xs f fs line xs' r e h past s x c p vs base k =
    subst (λ (q : ℕ). Holds g vs base q xs') (sym (c ∙ s.counted n))
    (subst (Holds g vs base (count_after n (line_of f))) (sym (x ∙ s.stored g xs n))
    (holds_form g vs base n xs f fs h (past vs base k ∙ ap vertices_from e) (p vs base k)))

holds_none : (g : Vec3 → Float) (text : List ℕ) (from : ℕ) (xs : List Float) → HoldsFrom g text from 0 xs
unfolding HoldsFrom Holds
holds_none g text from xs vs base h j l = absurd (omega (arith, l))

-- ---- a window, line by line
pub record Loading (text : List ℕ) (from : ℕ) (xs ys zs : List Float) (at n : ℕ) : Type 0 where
  pub inside : at ≤ length text + 1
  pub count_most : n ≤ 16384
  pub few : n + from ≤ at
  pub past : Past text from at n
  pub formed : AllFormed (forms_from text from) → AllFormed (forms_from text at)
  pub long : Slots xs ys zs
  pub holds_x : HoldsFrom (λ (v : Vec3). v.x) text from n xs
  pub holds_y : HoldsFrom (λ (v : Vec3). v.y) text from n ys
  pub holds_z : HoldsFrom (λ (v : Vec3). v.z) text from n zs

pub loading_none : (text : List ℕ) (from : ℕ) (xs ys zs : List Float) → from ≤ length text + 1 → Slots xs ys zs → Loading text from xs ys zs from 0
loading_none text from xs ys zs h s = record {
  inside = h;
  count_most = omega arith;
  few = omega arith;
  past = past_none text from;
  formed = λ g. g;
  long = s;
  holds_x = holds_none (λ (v : Vec3). v.x) text from xs;
  holds_y = holds_none (λ (v : Vec3). v.y) text from ys;
  holds_z = holds_none (λ (v : Vec3). v.z) text from zs;
}

module _ {text : List ℕ} {from : ℕ} {xs ys zs : List Float} {at n : ℕ} (k : Loading text from xs ys zs at n) where
  pub loading_step : (f : Form) (next : ℕ) (line : Line) (xs' ys' zs' : List Float) (r : ℕ) → forms_from text at ≡ f ∷ forms_from text next → Shows f line → n < 16384 → at < next
      → next ≤ length text + 1 → LoadedLine line n xs ys zs xs' ys' zs' r → Loading text from xs' ys' zs' next r
  loading_step f next line xs' ys' zs' r e s h l i p = record {
    inside = i;
    count_most = le_trans (le_of_eq is) (sum n (defines f) 16384 h one);
    few = room r n (defines f) from at next is k.few one l;
    past = subst (Past text from next) (sym is) (past_step text from at n k.past f next e);
    formed = λ g. after_formed f (forms_from text next) (subst AllFormed e (k.formed g));
    long = line_lengths k.long p;
    holds_x = holds_line (λ (v : Vec3). v.x) text from at n xs f (forms_from text next) line xs' r e (wide xs k.long.xs_long) k.past s p.x_then p.count_then k.holds_x;
    holds_y = holds_line (λ (v : Vec3). v.y) text from at n ys f (forms_from text next) line ys' r e (wide ys k.long.ys_long) k.past s p.y_then p.count_then k.holds_y;
    holds_z = holds_line (λ (v : Vec3). v.z) text from at n zs f (forms_from text next) line zs' r e (wide zs k.long.zs_long) k.past s p.z_then p.count_then k.holds_z;
  }
    where
      is : r ≡ n + defines f
      is = p.count_then ∙ s.counted n ∙ sym (count_form n f)

      one : defines f ≤ 1
      one = defines_most f

      wide : (t : List Float) → length t ≡ 16384 → n < length t
      wide t q = omega (arith, h, q)

      sum : (a b c : ℕ) → a < c → b ≤ 1 → a + b ≤ c
      sum a b c p q = omega (arith, p, q)

      room : (r a b c d e : ℕ) → r ≡ a + b → a + c ≤ d → b ≤ 1 → d < e → r + c ≤ e
      room r a b c d e z p q l = omega (arith, z, p, q, l)

  pub loaded : (from ≤ length text → from < at) → Loaded text from xs ys zs at n
  loaded h = record {
    inside = k.inside;
    count_most = k.count_most;
    few = k.few;
    further = h;
    past = k.past;
    formed = k.formed;
    long = k.long;
    holds_x = k.holds_x;
    holds_y = k.holds_y;
    holds_z = k.holds_z;
  }

-- ---- window by window: the corners that name one of the first `base` vertices have their coordinates
pub record Filling (text numbers : List ℕ) (used at base : ℕ) (xs ys zs cx cy cz : List Float) : Type 0 where
  pub inside : at ≤ length text + 1
  pub few : base ≤ at
  pub left : drop base (vertices_of text) ≡ vertices_from (forms_from text at)
  pub formed : AllFormed (forms_from text at)
  pub along_x : Axis (λ (v : Vec3). v.x) (vertices_of text) numbers used base 0 xs cx
  pub along_y : Axis (λ (v : Vec3). v.y) (vertices_of text) numbers used base 0 ys cy
  pub along_z : Axis (λ (v : Vec3). v.z) (vertices_of text) numbers used base 0 zs cz

axis_none : (f : Vec3 → Float) (vs : List Vec3) (numbers : List ℕ) (used : ℕ) (slots corners : List Float) → length slots ≡ 16384 → length corners ≡ 16384
    → Axis f vs numbers used 0 0 slots corners
axis_none f vs numbers used slots corners h k = record {
  slots_long = h;
  corners_long = k;
  slot = λ j l. absurd (omega (arith, l));
  corner = λ c l one most. absurd (omega (arith, one, most));
}

pub filling_all : (text numbers : List ℕ) (used : ℕ) (xs ys zs cx cy cz : List Float) → forms_from text 0 ≡ forms_of text → line_refusal text ≡ Ok tt → Slots xs ys zs → Slots cx cy cz
    → Filling text numbers used 0 0 xs ys zs cx cy cz
unfolding vertices_of line_refusal
filling_all text numbers used xs ys zs cx cy cz e h s c = record {
  inside = omega arith;
  few = omega arith;
  left = ap vertices_from (sym e);
  formed = subst AllFormed (sym e) (all_formed (forms_of text) 0 h);
  along_x = axis_none (λ (v : Vec3). v.x) (vertices_of text) numbers used xs cx s.xs_long c.xs_long;
  along_y = axis_none (λ (v : Vec3). v.y) (vertices_of text) numbers used ys cy s.ys_long c.ys_long;
  along_z = axis_none (λ (v : Vec3). v.z) (vertices_of text) numbers used zs cz s.zs_long c.zs_long;
}

-- vertices that no corner names, then a window of others
axis_window : (f : Vec3 → Float) (vs : List Vec3) (numbers : List ℕ) (used base gap n count : ℕ) (slots slots' corners : List Float) → Axis f vs numbers used base 0 slots corners
    → Unnamed numbers used base gap → n ≤ gap → length slots' ≡ 16384 → Holds f vs (base + n) count slots' → Axis f vs numbers used (base + n) count slots' corners
unfolding Holds
axis_window f vs numbers used base gap n count slots slots' corners a u h s p = record {
  slots_long = s;
  corners_long = a.corners_long;
  slot = p;
  corner = λ c l one most. a.corner c l one (near c l most (dec_le (get_or numbers c 0) base));
}
  where
    near : (c : ℕ) → c < used → get_or numbers c 0 ≤ base + n → Dec (get_or numbers c 0 ≤ base) → get_or numbers c 0 ≤ base
    near c l most (yes q) = q
    near c l most (no q) =
        let far = u.none c l (omega (arith, q)) in
        absurd (omega (arith, far, most, h))

module _ {text numbers : List ℕ} {used at base : ℕ} {xs ys zs cx cy cz : List Float} (k : Filling text numbers used at base xs ys zs cx cy cz) where
  holds_there : (f : Vec3 → Float) (from n : ℕ) (slots : List Float) (b : ℕ) → drop b (vertices_of text) ≡ vertices_from (forms_from text from) → HoldsFrom f text from n slots
      → Holds f (vertices_of text) b n slots
  unfolding HoldsFrom
  holds_there f from n slots b e p = p (vertices_of text) b e

  skipped_left : {most to n : ℕ} → Skipped text at most to n → drop (base + n) (vertices_of text) ≡ vertices_from (forms_from text to)
  unfolding Past
  skipped_left p = p.past (vertices_of text) base k.left

  loaded_left : (b : ℕ) {from to n : ℕ} {us vs ws : List Float} → drop b (vertices_of text) ≡ vertices_from (forms_from text from) → Loaded text from us vs ws to n
      → drop (b + n) (vertices_of text) ≡ vertices_from (forms_from text to)
  unfolding Past
  loaded_left b e p = p.past (vertices_of text) b e

  pub filling_step : (gap to n next count : ℕ) (xs' ys' zs' cx' cy' cz' : List Float) → Unnamed numbers used base gap → Skipped text at gap to n → Loaded text to xs' ys' zs' next count
      → Flushed numbers used (base + n) xs' count cx cx' → Flushed numbers used (base + n) ys' count cy cy' → Flushed numbers used (base + n) zs' count cz cz'
      → Filling text numbers used next (base + n + count) xs' ys' zs' cx' cy' cz'
  filling_step gap to n next count xs' ys' zs' cx' cy' cz' u p q fx fy fz =
      let there = skipped_left p in
      record {
        inside = q.inside;
        few = sum base at n to count next k.few p.few q.few;
        left = loaded_left (base + n) there q;
        formed = q.formed p.formed;
        along_x = axis_flush (axis_window _ _ _ _ _ gap n count xs xs' cx k.along_x u p.count_most q.long.xs_long (holds_there (λ (v : Vec3). v.x) to count xs' (base + n) there q.holds_x)) cx' fx;
        along_y = axis_flush (axis_window _ _ _ _ _ gap n count ys ys' cy k.along_y u p.count_most q.long.ys_long (holds_there (λ (v : Vec3). v.y) to count ys' (base + n) there q.holds_y)) cy' fy;
        along_z = axis_flush (axis_window _ _ _ _ _ gap n count zs zs' cz k.along_z u p.count_most q.long.zs_long (holds_there (λ (v : Vec3). v.z) to count zs' (base + n) there q.holds_z)) cz' fz;
      }
    where
      sum : (a b n c m d : ℕ) → a ≤ b → n + b ≤ c → m + c ≤ d → a + n + m ≤ d
      sum a b n c m d x y z = omega (arith, x, y, z)

-- ---- all lines have been passed
same_vec : (v : Vec3) (a b c : Float) → a ≡ v.x → b ≡ v.y → c ≡ v.z → ◌≡◌ {A = Vec3} (record { x = a; y = b; z = c }) v
same_vec v a b c p q r = rw (p, q, r)

pub filled : {text numbers : List ℕ} {used at base : ℕ} {xs ys zs cx cy cz : List Float} → forms_from text at ≡ [] → Filling text numbers used at base xs ys zs cx cy cz
    → Filled text numbers used cx cy cz
unfolding row_at_of vertex_of vertices_from
filled {text} {numbers} {used} {at} {base} {xs} {ys} {zs} {cx} {cy} {cz} e k =
    let none : length (vertices_of text) - base ≡ 0 = sym (length-drop base (vertices_of text)) ∙ ap length (k.left ∙ ap vertices_from e) in
    record {
      each = λ c h one most. let in_all : get_or numbers c 0 ≤ base = omega (arith, none, most) in
          same_vec (get_or (vertices_of text) (get_or numbers c 0 - 1) origin) (get_or cx c nan) (get_or cy c nan) (get_or cz c nan)
          (k.along_x.corner c h one in_all)
          (k.along_y.corner c h one in_all)
          (k.along_z.corner c h one in_all);
    }
