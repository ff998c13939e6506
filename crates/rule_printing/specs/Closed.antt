-- `Not closed`, of document 02, item 3. Definitions only.
-- "For each side key, the shared list now records how many sides use it: one, two, or more. Sides whose two keys agree still count nowhere. For the three
-- printing processes, keys used by one side are open. .. Keys used by more than two sides are not open and still give no edge."
use Rattle.std.specs.Prelude.{Bool, ◌&&◌, cond, List, [], ◌∷◌, ℕ, eqb}
use Rattle.list_laws.specs.Below.{count_below}
use Rattle.file_part.specs.Part.{Part}
use Rattle.solid_segments.specs.Sides.{live, same_side}
use Rattle.fault_row.specs.declared.flaw.Flaw.{Flaw}
use Rattle.fault_row.specs.declared.flaw.Flaw.TheVariants.{NotClosed}

-- the key of side s is open: the two end keys of s differ, and of all sides one has its key (`open_alone`, `alone_open`: s alone)
unfoldable pub is_open : Part → ℕ → Bool
is_open t s = live t s && eqb (count_below t.vertices (λ u. same_side t u s)) 1

-- how many keys are open: each counts once, at the one side that has it
unfoldable pub open_keys : Part → ℕ
open_keys t = count_below t.vertices (is_open t)

-- "If there are any, an Error 'Not closed' is the first fault, with no faces, count 1 and the Rust's message with their number."
unfoldable pub not_closed : Part → List Flaw
not_closed t = cond (eqb (open_keys t) 0) [] (NotClosed (open_keys t) ∷ [])
