-- The table of the faces so far: the walk along a slot's chain finds a polygon's face, and one face more goes into it.
use mathlib.Core.Path.{◌≡◌, sym, ap, ◌∙◌, subst}
use mathlib.Core.Bool.{Bool, true, false}
use mathlib.Core.List.{List}
use Prim.Native.Nat.{ℕ, suc, ◌+◌, ◌≤◌, ◌<◌}
use native.Mathlib.Omega.{arith}
use lib.Dec.{eqb}
use lib.ListN.{length, get_or, set, replicate, length-set, length-replicate}
use lib.Seq.{get_or-set_same, get_or-set_other}
use Rattle.num_float.proofs.Tests.{refuted}
use Rattle.list_laws.proofs.Fill.{filled_at}
use Rattle.solid_keys.specs.Pair.{above}
use Rattle.solid_keys.specs.Work.{Heads, Next}
use Rattle.solid_keys.proofs.CountLaws.{above_fails}
use Rattle.solid_keys.proofs.ChainLaws.{heads_start, heads_more, next_more}
use Rattle.solid_keys.proofs.WalkLaws.{Walk, walk_start, walk_on, walk_falls, walk_end}
use Rattle.solid_polygon.specs.file_part.specs.declared.read.FaceId.{FaceId}
use Rattle.solid_polygon.specs.file_part.specs.Part.{Part}
use Rattle.solid_faces.specs.Faces.{same_face, is_new, face_number, first_polygon}
use Rattle.solid_faces.specs.Work.{from, Firsts, id_slot, face_slot, Table}
use Rattle.solid_faces.proofs.FaceLaws.{same_is, number_new, first_polygon_new}
use Rattle.solid_faces.proofs.FirstLaws.{firsts_none, firsts_as, firsts_old, firsts_new, firsts_missed, number_next, from_early, from_found}

-- ---- the walk to polygon p's face
-- face f is that of polygon p
abbrev has_face : Part → ℕ → ℕ → Bool
has_face t p f = same_face (t.polygon (first_polygon t f)).face (t.polygon p).face

has_slot : (t : Part) (p f : ℕ) → has_face t p f ≡ true → face_slot t f ≡ id_slot (t.polygon p).face
unfolding face_slot
has_slot t p f h = ap id_slot (same_is _ _ h)

-- the link k on the way, of n faces
abbrev pub Search : Part → ℕ → ℕ → ℕ → Type 0
Search t p n k = Walk (face_slot t) (has_face t p) (id_slot (t.polygon p).face) n k

-- a first polygon that is kept
first_is : (t : Part) (p n : ℕ) (first : ℕ → ℕ) (f : ℕ) → Firsts t p n first → p ≤ t.polygons → f < n → first_polygon t f ≡ first f
first_is t p n first f h l low =
    first_polygon_new t (first f) f (omega (arith, l, h.early f low)) (h.new f low) (h.number f low)

module _ (t : Part) (p n : ℕ) (l : List ℕ) (table : Table t p n l) where
  pub table_early : (f m : ℕ) → f < n → p < m → get_or l (3072 + f) 0 < m
  table_early f m low less = from_early t p n m l 3072 f table.firsts low less

  pub table_found : (f : ℕ) (b : Bool) → f < n → b ≡ same_face (t.polygon (get_or l (3072 + f) 0)).face (t.polygon p).face → b ≡ true →
      f ≡ face_number t p
  table_found f b low e same = from_found t p n l 3072 f b table.firsts low e same

  pub search_start : (id : FaceId) (h : ℕ) → id ≡ (t.polygon p).face → h ≡ id_slot id → h < 2048 → Search t p n (get_or l h 0)
  unfolding Heads
  search_start id h same e low =
      walk_start (get_or l h 0) (has_slot t p)
      (table.heads h low ∙ ap (λ (k : ℕ). above (λ u. eqb (face_slot t u) k) n) (e ∙ ap id_slot same))

  module _ (k f : ℕ) (walk : Search t p n k) (at : k ≡ suc f) where
    pub search_on : (b : Bool) → p ≤ t.polygons → b ≡ same_face (t.polygon (get_or l (3072 + f) 0)).face (t.polygon p).face → b ≡ false →
        Search t p n (get_or l (2048 + f) 0)
    unfolding from
    search_on b less e other =
        let is : first_polygon t f ≡ get_or l (3072 + f) 0 = first_is t p n (from l 3072) f table.firsts less (omega (arith, walk.low)) in
        walk_on k f walk at (from l 2048) (has_slot t p) table.links
        (ap (λ (q : ℕ). same_face (t.polygon q).face (t.polygon p).face) is ∙ sym e ∙ other)

    pub search_falls : get_or l (2048 + f) 0 < k
    unfolding from
    search_falls = walk_falls k f walk at (from l 2048) table.links

  pub search_end : (k : ℕ) → p ≤ t.polygons → Search t p n k → k ≤ 0 → n ≡ face_number t p
  search_end k less walk none =
      let zero : 0 ≡ above (has_face t p) n = walk_end k walk none in
      firsts_missed t p n (first_polygon t)
      (firsts_as t p n (from l 3072) (first_polygon t) table.firsts (λ f low. first_is t p n (from l 3072) f table.firsts less low))
      (λ g low. above_fails (has_face t p) n g low (omega (arith, zero)))

-- ---- the table
pub table_none : (t : Part) (l : List ℕ) → l ≡ replicate 4096 0 → Table t 0 0 l
unfolding Next
table_none t l e =
    record {
      heads = heads_start (face_slot t) 2048 (λ h. get_or l h 0) (λ h low. filled_at l 4096 0 0 e h (omega (arith, low)));
      links = λ f low. absurd (omega (arith, low));
      firsts = firsts_none t (from l 3072);
      few = omega arith;
      long = ap length e ∙ length-replicate {A = ℕ} 4096 0;
    }

-- polygon p begins no face
pub table_old : (t : Part) (p n f : ℕ) (l : List ℕ) → Table t p n l → f ≡ face_number t p → (f ≡ n → ⊥) → Table t (p + 1) n l
table_old t p n f l table e other =
    let old : is_new t p ≡ false
    = refuted _ (λ new. other (omega (arith, e, table.firsts.count, number_new t p new))) in
    record {
      heads = table.heads;
      links = table.links;
      firsts = firsts_old t p n (from l 3072) table.firsts old;
      few = table.few;
      long = table.long;
    }

-- polygon p begins face n, whose slot is h
module _ (t : Part) (p n f h : ℕ) (id : FaceId) (l : List ℕ) (table : Table t p n l) (e : f ≡ face_number t p) (same : f ≡ n) where
  abbrev linked : List ℕ
  linked = set l (2048 + f) (get_or l h 0)

  abbrev headed : List ℕ
  headed = set linked h (f + 1)

  abbrev put : List ℕ
  put = set headed (3072 + f) p

  put_long : length put ≡ length l
  put_long = simp length-set

  pub table_more : p < t.polygons → f < 1024 → id ≡ (t.polygon p).face → h ≡ id_slot id → h < 2048 → Table t (p + 1) (f + 1) put
  unfolding from face_slot
  table_more less few name slot low =
      record {
        heads =
            subst (λ (k : ℕ). Heads (face_slot t) 2048 (λ u. get_or put u 0) (k + 1)) (sym same)
            (heads_more (face_slot t) 2048 (λ u. get_or l u 0) (λ u. get_or put u 0) n h table.heads slot_is head_there head_else);
        links =
            subst (λ (k : ℕ). Next (face_slot t) (from put 2048) (k + 1)) (sym same)
            (next_more (face_slot t) 2048 (from l 2048) (from put 2048) n h (λ u. get_or l u 0) table.links table.heads slot_is low link_there link_else);
        firsts =
            subst (λ (k : ℕ). Firsts t (p + 1) (k + 1) (from put 3072)) (sym same)
            (firsts_new t p n (from put 3072)
            (firsts_as t p n (from l 3072) (from put 3072) table.firsts (λ g lower. firsts_kept g lower)) new last);
        few = omega (arith, few);
        long = put_long ∙ table.long;
      }
    where
      new : is_new t p ≡ true
      new = number_next t p (sym e ∙ same ∙ table.firsts.count)

      slot_is : h ≡ face_slot t n
      slot_is =
          slot ∙ ap id_slot name
          ∙ ap (λ (q : ℕ). id_slot (t.polygon q).face) (sym (first_polygon_new t p n less new (sym table.firsts.count)))

      long : length l ≡ 4096
      long = table.long

      linked_long : length linked ≡ 4096
      linked_long = length-set l (2048 + f) (get_or l h 0) ∙ long

      headed_long : length headed ≡ 4096
      headed_long = length-set linked h (f + 1) ∙ linked_long

      -- a cell that none of the three stores meets
      kept : (i : ℕ) → (i ≡ 2048 + f → ⊥) → (i ≡ h → ⊥) → (i ≡ 3072 + f → ⊥) → get_or put i 0 ≡ get_or l i 0
      kept i a b c = get_or-set_other headed (3072 + f) i p 0 c ∙ get_or-set_other linked h i (f + 1) 0 b ∙ get_or-set_other l (2048 + f) i (get_or l h 0) 0 a

      head_there : get_or put h 0 ≡ n + 1
      head_there =
          get_or-set_other headed (3072 + f) h p 0 (λ at. omega (arith, at, low))
          ∙ get_or-set_same linked h (f + 1) 0 (omega (arith, linked_long, low)) ∙ ap (λ (k : ℕ). k + 1) same

      head_else : (k : ℕ) → k < 2048 → (k ≡ h → ⊥) → get_or put k 0 ≡ get_or l k 0
      head_else k lower other = kept k (λ at. omega (arith, at, lower)) other (λ at. omega (arith, at, lower))

      link_there : get_or put (2048 + n) 0 ≡ get_or l h 0
      link_there =
          ap (λ (k : ℕ). get_or put (2048 + k) 0) (sym same)
          ∙ get_or-set_other headed (3072 + f) (2048 + f) p 0 (λ at. omega (arith, at))
          ∙ get_or-set_other linked h (2048 + f) (f + 1) 0 (λ at. omega (arith, at, low))
          ∙ get_or-set_same l (2048 + f) (get_or l h 0) 0 (omega (arith, long, few))

      link_else : (s : ℕ) → s < n → get_or put (2048 + s) 0 ≡ get_or l (2048 + s) 0
      link_else s lower =
          kept (2048 + s) (λ at. omega (arith, at, lower, same)) (λ at. omega (arith, at, low)) (λ at. omega (arith, at, lower, table.few))

      firsts_kept : (g : ℕ) → g < n → from put 3072 g ≡ from l 3072 g
      firsts_kept g lower =
          kept (3072 + g) (λ at. omega (arith, at, few)) (λ at. omega (arith, at, low)) (λ at. omega (arith, at, lower, same))

      last : from put 3072 n ≡ p
      last =
          ap (λ (k : ℕ). get_or put (3072 + k) 0) (sym same)
          ∙ get_or-set_same headed (3072 + f) p 0 (omega (arith, headed_long, few))
