-- Parts of a lent slice. Definitions only.
use Rattle.std.specs.Prelude.{◌≡◌, List, ℕ, ◌-◌, ◌≤◌, ◌<◌, length, get_or, take, drop}

-- the elements from number a to before number e
abbrev pub part : {X : Type 0} → ℕ → ℕ → List X → List X
part a e s = take (e - a) (drop a s)

-- all cells but those from number a to before number e are as they were; d is what is read past the end
pub record Outside {X : Type 0} (d : X) (a e : ℕ) (old new : List X) : Type 0 where
  pub below : (i : ℕ) → i < a → get_or new i d ≡ get_or old i d
  pub above : (i : ℕ) → e ≤ i → get_or new i d ≡ get_or old i d
  pub long : length new ≡ length old
