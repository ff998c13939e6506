-- The keys in the columns: sides of one key have one slot, and both go by the first four columns alone.
use mathlib.Core.Path.{◌≡◌, refl, sym, ap, ◌∙◌, subst, fun_ext}
use mathlib.Core.Logic.{⊎_elim}
use mathlib.Core.Bool.{Bool, true, false, ◌&&◌}
use mathlib.Core.List.{List}
use Prim.Native.Nat.{ℕ, ◌+◌, ◌/◌, ◌%◌}
use native.Mathlib.Omega.{arith}
use lib.Dec.{eqb}
use lib.ListN.{length}
use borrow.Author.Tests.{eq-eqb, eqb-true}
use Rattle.num_float.proofs.Tests.{and_left, and_right, and_false_left}
use Rattle.solid_keys.specs.Pair.{above, side_key, pair_of}
use Rattle.solid_keys.specs.Work.{col, same_cells, live_cells, side_cells, Sides, Kept, mix, slot, Before, Paired}
use Rattle.solid_keys.proofs.CountLaws.{above_zero}
use Rattle.solid_keys.proofs.CellLaws.{kept_join, kept_fewer, kept_column}
use Rattle.solid_keys.proofs.SideLaws.{Alike, side_match, sides_alike, side_self}

-- the three parts of a key
record Parts (mem : List ℕ) (a b : ℕ) : Type 0 where
  x : col mem 0 a ≡ col mem 0 b
  y : col mem 1 a ≡ col mem 1 b
  z : col mem 2 a ≡ col mem 2 b

module _ (mem : List ℕ) where
  parts : (a b : ℕ) → same_cells mem a b ≡ true → Parts mem a b
  unfolding same_cells
  parts a b h =
      let p = eqb (col mem 0 a) (col mem 0 b) in
      let q = eqb (col mem 1 a) (col mem 1 b) in
      let r = eqb (col mem 2 a) (col mem 2 b) in
      let pq = and_left (p && q) r h in
      record {
        x = eqb-true (col mem 0 a) (col mem 0 b) (and_left p q pq);
        y = eqb-true (col mem 1 a) (col mem 1 b) (and_right p q pq);
        z = eqb-true (col mem 2 a) (col mem 2 b) (and_right (p && q) r h);
      }

  whole : (a b : ℕ) → Parts mem a b → same_cells mem a b ≡ true
  unfolding same_cells
  whole a b p = rw (eq-eqb (col mem 0 a) (col mem 0 b) p.x, eq-eqb (col mem 1 a) (col mem 1 b) p.y, eq-eqb (col mem 2 a) (col mem 2 b) p.z)

  cells_self : (a : ℕ) → same_cells mem a a ≡ true
  cells_self a = whole a a (record { x = refl; y = refl; z = refl })

  cells_alike : Alike (same_cells mem)
  cells_alike =
      record {
        flip = λ a b h. let p = parts a b h in whole b a (record { x = sym p.x; y = sym p.y; z = sym p.z });
        join = λ a b c h g.
            let p = parts a b h in
            let q = parts b c g in
            whole a c (record { x = p.x ∙ q.x; y = p.y ∙ q.y; z = p.z ∙ q.z });
      }

  pub side_cells_alike : Alike (side_cells mem)
  unfolding side_cells
  side_cells_alike = sides_alike (same_cells mem) (col mem 3) cells_self cells_alike

  pub side_cells_self : (s : ℕ) → side_cells mem s s ≡ live_cells mem s
  unfolding side_cells live_cells
  side_cells_self s = side_self (same_cells mem) (col mem 3) cells_self cells_alike s

  -- no side has the key of a side whose end keys agree, since that has none
  pub keyless_none : (s : ℕ) → live_cells mem s ≡ false → 0 ≡ above (λ u. side_cells mem u s) s
  unfolding side_cells side_key live_cells
  keyless_none s h = sym (above_zero (λ u. side_cells mem u s) s (λ u l. and_false_left _ _ h))

  same_mix : (a b : ℕ) → same_cells mem a b ≡ true → mix mem a ≡ mix mem b
  unfolding mix
  same_mix a b h = let p = parts a b h in rw (p.x, p.y, p.z)

  -- sides of one key have one slot
  pub same_slot : (n u s : ℕ) → side_cells mem u s ≡ true → slot mem n u ≡ slot mem n s
  unfolding side_cells slot
  same_slot n u s h = ap (λ (k : ℕ). k / 16777216 % n) sum
    where
      sum : mix mem u + mix mem (col mem 3 u) ≡ mix mem s + mix mem (col mem 3 s)
      sum =
          ⊎_elim
          (λ e. omega (arith, same_mix u s e.0, same_mix (col mem 3 u) (col mem 3 s) e.1))
          (λ e. omega (arith, same_mix u (col mem 3 s) e.0, same_mix (col mem 3 u) s e.1))
          (side_match (same_cells mem) (col mem 3) cells_self cells_alike u s h)

-- ---- after stores to the other columns
module _ (old new : List ℕ) (k : Kept 4 old new) where
  cells_kept : (a b : ℕ) → same_cells new a b ≡ same_cells old a b
  unfolding same_cells Kept
  cells_kept a b = rw (k 0 (omega arith) a, k 0 (omega arith) b, k 1 (omega arith) a, k 1 (omega arith) b, k 2 (omega arith) a, k 2 (omega arith) b)

  pub side_cells_kept : side_cells new ≡ side_cells old
  unfolding side_cells Kept
  side_cells_kept =
      let cells : same_cells new ≡ same_cells old = fun_ext (λ a. fun_ext (λ b. cells_kept a b)) in
      let ends : col new 3 ≡ col old 3 = fun_ext (λ s. k 3 (omega arith) s) in
      fun_ext (λ u. fun_ext (λ s. ap (λ (f : ℕ → ℕ → Bool). side_key f (col new 3) u s) cells ∙ ap (λ (t : ℕ → ℕ). side_key (same_cells old) t u s) ends))

  mix_kept : (v : ℕ) → mix new v ≡ mix old v
  unfolding mix Kept
  mix_kept v = rw (k 0 (omega arith) v, k 1 (omega arith) v, k 2 (omega arith) v)

  slot_kept : (n s : ℕ) → slot new n s ≡ slot old n s
  unfolding slot Kept
  slot_kept n s = rw (k 3 (omega arith) s) (simp mix_kept)

  pub slots_kept : (n : ℕ) → slot new n ≡ slot old n
  slots_kept n = fun_ext (λ s. slot_kept n s)

  pub sides_kept : (n : ℕ) → Sides old n → length new ≡ length old → Sides new n
  unfolding Kept
  sides_kept n h e = record { few = h.few; room = omega (arith, h.room); ends = λ s l. omega (arith, k 3 (omega arith) s, h.ends s l) }

  pub before_cells : (prev : ℕ → ℕ) (n : ℕ) → Before (side_cells old) prev n → Before (side_cells new) prev n
  before_cells prev n f = subst (λ (g : ℕ → ℕ → Bool). Before g prev n) (sym side_cells_kept) f

  pub paired_cells : (last : List ℕ) (n : ℕ) → Paired new last n → Paired old last n
  paired_cells last n p =
      record {
        kept = kept_join 4 old new last k p.kept;
        pairs = λ s l. p.pairs s l ∙ ap (λ (g : ℕ → ℕ → Bool). pair_of g n s) side_cells_kept;
      }

-- the side before each stays, where the first seven columns do
pub before_kept : (old new : List ℕ) (n : ℕ) → Kept 7 old new → Before (side_cells old) (col old 6) n → Before (side_cells new) (col new 6) n
before_kept old new n k f =
    before_cells old new (kept_fewer 4 7 old new (omega arith) k) (col new 6) n
    (subst (λ (g : ℕ → ℕ). Before (side_cells old) g n) (sym (fun_ext (λ s. kept_column 7 old new k 6 (omega arith) s))) f)
