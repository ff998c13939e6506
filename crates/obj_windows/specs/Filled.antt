-- What the second pass leaves. Definitions only.
use Rattle.std.specs.Prelude.{◌≡◌, List, ℕ, ◌≤◌, ◌<◌, length, get_or, Float}
use Rattle.std.specs.Float.{nan}
use Rattle.math.specs.declared.Vec3.{Vec3}
use Rattle.obj_text.specs.Text.{vertices_of, vertex_of}

-- row c of three tables of coordinates
unfoldable pub row_at_of : List Float → List Float → List Float → ℕ → Vec3
row_at_of xs ys zs c = record { x = get_or xs c nan; y = get_or ys c nan; z = get_or zs c nan }

-- A corner whose number is that of a vertex has its coordinates.
pub record Filled (text numbers : List ℕ) (used : ℕ) (xs ys zs : List Float) : Type 0 where
  pub each : (c : ℕ) → c < used → 1 ≤ get_or numbers c 0 → get_or numbers c 0 ≤ length (vertices_of text) → row_at_of xs ys zs c ≡ vertex_of text (get_or numbers c 0)
