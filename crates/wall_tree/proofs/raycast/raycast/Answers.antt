-- `wall_tree::raycast::raycast` meets its contract.
use Rattle.wall_tree.proofs.RaycastLaws.{to_scan, to_walk}
use Rattle.wall_tree.proofs.raycast.raycast.Goals as goal

pub scan-requires : goal.scan-requires
scan-requires c = let all = to_scan _ _ _ _ c.requires in record { fact_1 = all.0; fact_2 = all.1 }

pub nearest-requires : goal.nearest-requires
nearest-requires c = let all = to_walk _ _ _ _ c.requires c.if-at-le-SCANNED.false in record { checked_1 = all.0; checked_2 = all.1.0; part_tree = all.1.1 }
