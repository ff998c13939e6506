-- `solid_flat::is_flat` meets its contract: its first polygon's surface.
use Rattle.solid_flat.proofs.FlatLaws.{first_fits, first_place, entry_there, flat_is}
use native.Mathlib.Omega.{arith}
use Rattle.solid_flat.proofs.is_flat.Goals as goal

pub overflow_add-firsts : goal.overflow_add-firsts
overflow_add-firsts c = omega (arith, first_fits _ _ _ _ c.requires.fact_1 _ c.requires.fact_2)

pub cell-q-requires : goal.cell-q-requires
cell-q-requires c = first_place _ _ _ _ c.requires.fact_1 _ c.requires.fact_2

pub entry_at-requires : goal.entry_at-requires
entry_at-requires c = let e = entry_there _ _ _ _ c.requires.fact_1 _ c.requires.fact_2 _ c.cell-q.ensures in (e.vertices, e.polygon)

pub surface-requires : goal.surface-requires
surface-requires c = let e = entry_there _ _ _ _ c.requires.fact_1 _ c.requires.fact_2 _ c.cell-q.ensures in omega (arith, e.inside, c.entry_at.ensures)

pub returns : goal.returns
returns c = flat_is _ _ _ _ c.requires.fact_1 _ c.requires.fact_2 _ c.cell-q.ensures _ _ _ c.entry_at.ensures c.surface.ensures c.is_plane.ensures
