-- The edge nearest to a hole of a sheet, as dfm.rs's `sheet_metal` finds it: "The flat faces around the hole, and every other edge of those faces."
-- Definitions only. Faces are told by their numbers.
use Rattle.std.specs.Prelude.{Bool, false, ◌||◌, cond, List, [], ◌∷◌, Option, Some, None, ℕ, eqb, Float}
use Rattle.std.specs.Float.{binary64}
use Rattle.std.specs.Float.Ieee.{sub, lt}
use Rattle.file_part.specs.Part.{Part}
use Rattle.solid_flat.specs.Flat.{is_flat_face}
use Rattle.solid_tours.specs.Tours.{over_neighbours}
use Rattle.solid_edges.specs.Distance.{between_distance}
use Rattle.round_all.specs.declared.round.Round.{Round}
use Rattle.rule_holes.specs.declared.nearest.Gap.{Gap}

-- ---- the flat faces around the hole
-- `plates`
unfoldable pub plates_of : Part → ℕ → List ℕ
plates_of t h = over_neighbours t h (λ g l. cond (is_flat_face t g) (g ∷ []) [])

-- `contains`
unfoldable pub is_among : List ℕ → ℕ → Bool
is_among [] g = false
is_among (f ∷ fs) g = eqb f g || is_among fs g

-- ---- the edges of those faces
-- `gap`: from the hole's edge to the segments between a plate and the face `other`
unfoldable pub gap_between : Part → Round → ℕ → ℕ → Float
gap_between t hole plate other = sub binary64 (between_distance t plate other hole.centre) hole.radius

-- `if other == h.id || plates.contains(&other) { continue; }`
unfoldable pub is_left_out : Part → ℕ → ℕ → Bool
is_left_out t h other = eqb other h || is_among (plates_of t h) other

-- of the neighbour `other` of a plate: none or one
unfoldable pub gap_to : Part → Round → ℕ → ℕ → List ℕ → List Gap
gap_to t hole plate other segments = cond (is_left_out t hole.face other) [] (record { gap = gap_between t hole plate other; other = other } ∷ [])

-- `for (other, segs) in part.neighbours(*plate)`
unfoldable pub gaps_beside : Part → Round → ℕ → List Gap
gaps_beside t hole plate = over_neighbours t plate (gap_to t hole plate)

-- of the neighbour g of the hole: those beside it where it is flat
unfoldable pub gaps_from : Part → Round → ℕ → List ℕ → List Gap
gaps_from t hole g segments = cond (is_flat_face t g) (gaps_beside t hole g) []

-- `for plate in &plates`, in the order of their ids
unfoldable pub gaps_of : Part → Round → List Gap
gaps_of t hole = over_neighbours t hole.face (gaps_from t hole)

-- ---- the nearest: `if nearest.is_none_or(|n| gap < n.0)`, so the first of equal ones
unfoldable pub nearer : Option Gap → Gap → Option Gap
nearer None g = Some g
nearer (Some n) g = cond (lt g.gap n.gap) (Some g) (Some n)

unfoldable pub nearest_from : Option Gap → List Gap → Option Gap
nearest_from best [] = best
nearest_from best (g ∷ gs) = nearest_from (nearer best g) gs

unfoldable pub nearest_of : Part → Round → Option Gap
nearest_of t hole = nearest_from None (gaps_of t hole)
