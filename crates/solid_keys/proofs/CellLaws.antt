-- A store to one cell of a column.
use mathlib.Core.Path.{◌≡◌, refl, ◌∙◌}
use mathlib.Core.List.{List}
use Prim.Native.Nat.{ℕ, ◌+◌, ◌*◌, ◌<◌, ◌≤◌}
use native.Mathlib.Omega.{arith}
use lib.ListN.{length, set}
use lib.Seq.{get_or-set_same, get_or-set_other}
use Rattle.solid_keys.specs.Work.{col, Kept}

-- `new` is v at i, and elsewhere as `old`
pub record Put (old : ℕ → ℕ) (i v : ℕ) (new : ℕ → ℕ) : Type 0 where
  pub there : new i ≡ v
  pub else : (s : ℕ) → (s ≡ i → ⊥) → new s ≡ old s

pub put_cell : (mem : List ℕ) (j t v : ℕ) → t * 8 + j < length mem → Put (col mem j) t v (col (set mem (t * 8 + j) v) j)
put_cell mem j t v l =
    record {
      there = get_or-set_same mem (t * 8 + j) v 0 l;
      else = λ s d. get_or-set_other mem (t * 8 + j) (s * 8 + j) v 0 (λ e. d (omega arith));
    }

-- the other columns stay
pub keep_cell : (mem : List ℕ) (i j t v : ℕ) → i < 8 → j < 8 → (j ≡ i → ⊥) → (s : ℕ) → col (set mem (t * 8 + i) v) j s ≡ col mem j s
keep_cell mem i j t v a b d s = get_or-set_other mem (t * 8 + i) (s * 8 + j) v 0 (λ e. d (omega arith))

pub put_after : (f g h : ℕ → ℕ) (i v : ℕ) → ((k : ℕ) → g k ≡ f k) → Put g i v h → Put f i v h
put_after f g h i v e p = record { there = p.there; else = λ s d. p.else s d ∙ e s }

pub put_before : (f g h : ℕ → ℕ) (i v : ℕ) → Put f i v g → ((k : ℕ) → h k ≡ g k) → Put f i v h
put_before f g h i v p e = record { there = e i ∙ p.there; else = λ s d. e s ∙ p.else s d }

-- ---- the first columns stay
pub kept_none : (k : ℕ) (mem : List ℕ) → Kept k mem mem
unfolding Kept
kept_none k mem = λ j l s. refl

pub kept_set : (k : ℕ) (old mem : List ℕ) (i t v : ℕ) → Kept k old mem → k ≤ i → i < 8 → Kept k old (set mem (t * 8 + i) v)
unfolding Kept
kept_set k old mem i t v f a b = λ j l s. keep_cell mem i j t v b (omega arith) (λ e. omega arith) s ∙ f j l s

pub kept_join : (k : ℕ) (a b c : List ℕ) → Kept k a b → Kept k b c → Kept k a c
unfolding Kept
kept_join k a b c p q = λ j l s. q j l s ∙ p j l s

pub kept_fewer : (j k : ℕ) (a b : List ℕ) → j ≤ k → Kept k a b → Kept j a b
unfolding Kept
kept_fewer j k a b l p = λ i m s. p i (omega arith) s

pub kept_column : (k : ℕ) (a b : List ℕ) → Kept k a b → (j : ℕ) → j < k → (s : ℕ) → col b j s ≡ col a j s
unfolding Kept
kept_column k a b p = p
