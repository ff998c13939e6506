-- The four cells of a side, stored by `put_side`.
use mathlib.Core.Path.{◌≡◌, ◌∙◌}
use mathlib.Core.List.{List}
use Prim.Native.Nat.{ℕ, ◌+◌, ◌*◌, ◌≤◌, ◌<◌}
use native.Mathlib.Omega.{arith}
use lib.ListN.{length, set, length-set}
use lib.Seq.{get_or-set_same, get_or-set_other}
use Rattle.math.specs.declared.Vec3.{Vec3}
use Rattle.solid_keys.specs.Work.{col}
use Rattle.solid_segments.specs.Work.{cell_of, side_row}

module _ (w : Vec3) (mem : List ℕ) (s to : ℕ) where
  abbrev m0 : List ℕ
  m0 = set mem (s * 8 + 0) (cell_of w.x)

  abbrev m1 : List ℕ
  m1 = set m0 (s * 8 + 1) (cell_of w.y)

  abbrev m2 : List ℕ
  m2 = set m1 (s * 8 + 2) (cell_of w.z)

  -- another side's cells stay
  pub row_other : (j u : ℕ) → j < 8 → (u ≡ s → ⊥) → col (side_row w s to mem) j u ≡ col mem j u
  row_other j u l d =
      get_or-set_other m2 (s * 8 + 3) (u * 8 + j) to 0 (λ e. d (omega arith))
      ∙ get_or-set_other m1 (s * 8 + 2) (u * 8 + j) (cell_of w.z) 0 (λ e. d (omega arith))
      ∙ get_or-set_other m0 (s * 8 + 1) (u * 8 + j) (cell_of w.y) 0 (λ e. d (omega arith))
      ∙ get_or-set_other mem (s * 8 + 0) (u * 8 + j) (cell_of w.x) 0 (λ e. d (omega arith))

  module _ (room : s * 8 + 8 ≤ length mem) where
    pub row_x : col (side_row w s to mem) 0 s ≡ cell_of w.x
    row_x =
        get_or-set_other m2 (s * 8 + 3) (s * 8 + 0) to 0 (λ e. omega arith)
        ∙ get_or-set_other m1 (s * 8 + 2) (s * 8 + 0) (cell_of w.z) 0 (λ e. omega arith)
        ∙ get_or-set_other m0 (s * 8 + 1) (s * 8 + 0) (cell_of w.y) 0 (λ e. omega arith)
        ∙ get_or-set_same mem (s * 8 + 0) (cell_of w.x) 0 (omega arith)

    pub row_y : col (side_row w s to mem) 1 s ≡ cell_of w.y
    row_y =
        get_or-set_other m2 (s * 8 + 3) (s * 8 + 1) to 0 (λ e. omega arith)
        ∙ get_or-set_other m1 (s * 8 + 2) (s * 8 + 1) (cell_of w.z) 0 (λ e. omega arith)
        ∙ get_or-set_same m0 (s * 8 + 1) (cell_of w.y) 0 (simp length-set (omega arith))

    pub row_z : col (side_row w s to mem) 2 s ≡ cell_of w.z
    row_z =
        get_or-set_other m2 (s * 8 + 3) (s * 8 + 2) to 0 (λ e. omega arith)
        ∙ get_or-set_same m1 (s * 8 + 2) (cell_of w.z) 0 (simp length-set (omega arith))

    pub row_end : col (side_row w s to mem) 3 s ≡ to
    row_end = get_or-set_same m2 (s * 8 + 3) to 0 (simp length-set (omega arith))
