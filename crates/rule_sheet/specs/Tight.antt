-- The rule `Tight bend` of dfm.rs's `sheet_metal`. Definitions only. A bend goes by its inside face; `thick` is the sheet's thickness.
use Rattle.std.specs.Prelude.{cond, List, [], ◌∷◌, ℕ, Float}
use Rattle.std.specs.Float.{binary64}
use Rattle.std.specs.Float.Ieee.{add, mul, lt}
use Rattle.list_groups.specs.Groups.{joined}
use Rattle.file_part.specs.Part.{Part}
use Rattle.solid_faces.specs.Faces.{faces_of}
use Rattle.wall_ray.specs.Strike.{e_9}
use Rattle.round_all.specs.Round.{round_of}
use Rattle.sheet_bends.specs.Bends.{outside_of, is_bend}
use Rattle.fault_row.specs.declared.flaw.Flaw.{Flaw}
use Rattle.fault_row.specs.declared.flaw.Flaw.TheVariants.{TightBend}
use Rattle.rule_sheet.specs.Material.{ratio_of}

-- `min_radius`
unfoldable pub min_radius : Part → Float → Float
min_radius t thick = mul binary64 (ratio_of t.job) thick

-- `if inner.radius + 1e-9 < min_radius`, of a bend with the outside face g
unfoldable pub tight_bend : Part → Float → ℕ → ℕ → List Flaw
tight_bend t least f g = cond (lt (add binary64 (round_of t f).radius e_9) least) (TightBend f g (round_of t f).radius least ∷ []) []

-- of face f, where it is the inside of a bend
unfoldable pub bend_tight : Part → Float → ℕ → List Flaw
bend_tight t thick f = cond (is_bend t thick f) (tight_bend t (min_radius t thick) f (outside_of t thick f)) []

-- `for (inner, outer) in &bends`
unfoldable pub tight_bends : Part → Float → List Flaw
tight_bends t thick = joined (bend_tight t thick) (faces_of t)
