-- `round_hole::offsets::direction` meets its contract.
use mir.Syntax.{w64}
use mir.Facts.{to_z-of_z}
use Rattle.round_hole.proofs.DirectionLaws.{direction_whole}
use Rattle.round_hole.proofs.offsets.direction.Goals as goal

pub returns : goal.returns
returns c =
    direction_whole _ _ _ _ _ _ _ c.whole_part.ensures c.whole_part-2.ensures
    (to_z-of_z {w = w64} {z = c.whole_part.result} (record { sfits = c.whole_part.type_inv })) (to_z-of_z {w = w64} {z = c.whole_part-2.result} (record { sfits = c.whole_part-2.type_inv }))
