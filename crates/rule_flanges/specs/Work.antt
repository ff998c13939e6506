-- What the functions of this crate leave on the way. A reader may pass over it.
use Rattle.std.specs.Prelude.{◌≡◌, true, List, [], ◌∷◌, ◌++◌, ℕ, zero, suc, ◌+◌, ◌*◌, ◌≤◌, ◌<◌, length, get_or, Float}
use Rattle.file_part.specs.Part.{Part}
use Rattle.solid_faces.specs.Faces.{faces_of}
use Rattle.round_all.specs.Round.{is_round}
use Rattle.measure_sizes.specs.Reading.{ReadingBounds}
use Rattle.fault_row.specs.Flaws.{FlawsPut}
use Rattle.fault_text.specs.Good.{Good}
use Rattle.rule_flanges.specs.declared.legs.Leg.{Leg}
use Rattle.rule_flanges.specs.Flanges.{taken_from, reach_of, flange_flaw}

-- leg i, three cells each
unfoldable pub leg_at : List ℕ → ℕ → Leg
leg_at cells i = record { bend = get_or cells (3 * i) 0; face = get_or cells (3 * i + 1) 0; line = get_or cells (3 * i + 2) 0 }

-- the first n
unfoldable pub legs_in : List ℕ → ℕ → List Leg
legs_in cells zero = []
legs_in cells (suc n) = legs_in cells n ++ (leg_at cells n ∷ [])

-- a leg of a part: two of its faces, of which the bend's is a round, and one of its sides
pub record LegThere (t : Part) (leg : Leg) : Type 0 where
  pub bend : leg.bend < faces_of t
  pub round : is_round t leg.bend ≡ true
  pub face : leg.face < faces_of t
  pub line : leg.line < t.vertices

-- the first n cells are legs of the part
pub record LegsThere (t : Part) (cells : List ℕ) (n : ℕ) : Type 0 where
  pub each : (i : ℕ) → i < n → LegThere t (leg_at cells i)
  pub room : 3 * n ≤ length cells

-- of these legs, those that are taken follow the n that are: r then; at most `most` more
pub record LegsTaken (t : Part) (legs : List Leg) (most n : ℕ) (cells cells' : List ℕ) (r : ℕ) : Type 0 where
  pub taken : legs_in cells' r ≡ taken_from t (legs_in cells n) legs
  pub there : LegsThere t cells' r
  pub few : r ≤ n + most
  pub long : length cells' ≡ length cells

-- the fault of a leg that reaches so far, or none, in any part where it does
pub record FlangePut (bend : ℕ) (leg : Leg) (reach thick : Float) (from : ℕ) (cells cells' : List ℕ) (numbers numbers' : List Float) (r : ℕ) : Type 0 where
  pub few : r ≤ from + 1
  pub put : (t : Part) → reach ≡ reach_of t leg → ReadingBounds thick → bend < faces_of t → leg.face < faces_of t →
      FlawsPut (Good t) from (flange_flaw t thick bend leg) cells cells' numbers numbers' r
