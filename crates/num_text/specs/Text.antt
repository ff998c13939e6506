-- What writing text leaves of a slice and a place in it. Definitions only.
use Rattle.std.specs.Prelude.{List, ℕ, ◌≡◌}
use Rattle.num_text.specs.Put.{Put}
use Rattle.num_text.specs.declared.text.Text.{Text}

-- the bytes p are written from where the text goes on, into the same slice
pub record Adds (before : Text) (p : List ℕ) (after : Text) : Type 0 where
  pub put : Put before.out.now before.at p after.out.now after.at
  pub same_slice : after.out.ghost_name ≡ before.out.ghost_name
