-- One side more is paired, by the cells that `pair_one` stores.
use mathlib.Core.Path.{◌≡◌, refl, sym, ◌∙◌}
use mathlib.Core.Bool.{cond}
use mathlib.Core.List.{List}
use Prim.Native.Nat.{ℕ, suc, ◌+◌, ◌-◌, ◌*◌, ◌<◌, ◌≤◌}
use native.Mathlib.Omega.{arith}
use lib.Dec.{eqb}
use lib.ListN.{length, set, length-set}
use Rattle.solid_keys.specs.Pair.{above}
use Rattle.solid_keys.specs.Work.{col, live_cells, side_cells, Sides, Kept, Before, Out, Step}
use Rattle.solid_keys.proofs.CellLaws.{put_cell, kept_none, kept_set}
use Rattle.solid_keys.proofs.ColumnLaws.{side_cells_alike, side_cells_self}
use Rattle.solid_keys.proofs.PairLaws.{before_le, before_is, own_out, two_out, third_out}

-- a number that is not 0, and the one below it
positive : (k : ℕ) → (k ≡ 0 → ⊥) → k ≡ suc (k - 1)
positive k d = omega arith

lower : (k u n : ℕ) → (k ≡ 0 → ⊥) → k ≤ u → u < n → k - 1 < n
lower k u n d h g = omega arith

-- what `pair_one` is given
pub record Turn (mem : List ℕ) (n s : ℕ) : Type 0 where
  pub sides : Sides mem n
  pub inside : s < n
  pub before : Before (side_cells mem) (col mem 6) n
  pub out : Out (side_cells mem) (n + 1) s (col mem 7)

pub turn_of : {mem : List ℕ} {n s : ℕ} → Sides mem n → s < n → Before (side_cells mem) (col mem 6) n → Out (side_cells mem) (n + 1) s (col mem 7) → Turn mem n s
turn_of sides inside before out = record { sides = sides; inside = inside; before = before; out = out }

module _ {mem : List ℕ} {n s : ℕ} (turn : Turn mem n s) where
  abbrev before : Before (side_cells mem) (col mem 6) n
  before = turn.before

  abbrev stored : ℕ → List ℕ
  stored v = set mem (s * 8 + 7) v

  abbrev twice : ℕ → ℕ → List ℕ
  twice u v = set (stored 0) (u * 8 + 7) v

  kept_twice : (u v : ℕ) → Kept 7 mem (twice u v)
  kept_twice u v = kept_set 7 mem (stored 0) 7 u v (kept_set 7 mem mem 7 s 0 (kept_none 7 mem) (omega arith) (omega arith)) (omega arith) (omega arith)

  -- no side below s has its key
  pub own_step : (p v : ℕ) → p ≡ col mem 6 s → p ≡ 0 → v ≡ cond (live_cells mem s) (s + 1) 0 → Step mem (stored v) n s
  own_step p v is none e =
      record {
        kept = kept_set 7 mem mem 7 s v (kept_none 7 mem) (omega arith) (omega arith);
        out =
            own_out (side_cells mem) (side_cells_alike mem) (n + 1) s (col mem 7) (col (stored v) 7) turn.out v
            (put_cell mem 7 s v (omega (arith, turn.sides.room, turn.inside)))
            (rw (side_cells_self mem s) e)
            (before_is (side_cells mem) (col mem 6) n before s p turn.inside is ∙ none);
      }

  module _ (p : ℕ) (is : p ≡ col mem 6 s) (some : p ≡ 0 → ⊥) where
    -- the side before s is below it
    pub before_low : p ≤ s
    before_low = omega (arith, before_le (side_cells mem) (col mem 6) n before s turn.inside)

    one : above (λ v. side_cells mem v s) s ≡ suc (p - 1)
    one = before_is (side_cells mem) (col mem 6) n before s p turn.inside is ∙ positive p some

    u_inside : p - 1 < n
    u_inside = lower p s n some before_low turn.inside

    pub u_room : (p - 1) * 8 + 8 ≤ length mem
    u_room = omega (arith, turn.sides.room, u_inside)

    -- it is the only side below s that has the key
    pub two_step : (q : ℕ) → q ≡ col mem 6 (p - 1) → q ≡ 0 → Step mem (twice (p - 1) (s + 1)) n s
    two_step q at none =
        record {
          kept = kept_twice (p - 1) (s + 1);
          out =
              two_out (side_cells mem) (side_cells_alike mem) (n + 1) s (col mem 7) (col (stored 0) 7) turn.out
              (put_cell mem 7 s 0 (omega (arith, turn.sides.room, turn.inside))) (col (twice (p - 1) (s + 1)) 7) (p - 1) one
              (put_cell (stored 0) 7 (p - 1) (s + 1) (simp length-set (omega (arith, turn.sides.room, u_inside))))
              (before_is (side_cells mem) (col mem 6) n before (p - 1) q u_inside at ∙ none);
        }

    -- there is another one below it
    module _ (q : ℕ) (at : q ≡ col mem 6 (p - 1)) (other : q ≡ 0 → ⊥) where
      pub second_low : q ≤ p - 1
      second_low = omega (arith, before_le (side_cells mem) (col mem 6) n before (p - 1) u_inside)

      w_inside : q - 1 < n
      w_inside = lower q (p - 1) n other second_low u_inside

      pub w_room : (q - 1) * 8 + 8 ≤ length mem
      w_room = omega (arith, turn.sides.room, w_inside)

      second : above (λ v. side_cells mem v (p - 1)) (p - 1) ≡ suc (q - 1)
      second = before_is (side_cells mem) (col mem 6) n before (p - 1) q u_inside at ∙ positive q other

      -- and the side w before u: where w is the first, there are three
      pub third_step : (x : ℕ) → x ≡ cond (eqb (col mem 6 (q - 1)) 0) (n + 1) 0 → Step mem (twice (q - 1) x) n s
      third_step x e =
          record {
            kept = kept_twice (q - 1) x;
            out =
                third_out (side_cells mem) (side_cells_alike mem) (n + 1) s (col mem 7) (col (stored 0) 7) turn.out
                (put_cell mem 7 s 0 (omega (arith, turn.sides.room, turn.inside))) (col (twice (q - 1) x) 7) (p - 1) one
                (q - 1) (col mem 6 (q - 1)) x
                (put_cell (stored 0) 7 (q - 1) x (simp length-set (omega (arith, turn.sides.room, w_inside))))
                second
                (sym (before_is (side_cells mem) (col mem 6) n before (q - 1) (col mem 6 (q - 1)) w_inside refl))
                e;
          }
