-- `wall_tree::raycast::is_free` meets its contract.
use Rattle.wall_tree.proofs.RaycastLaws.{to_scan, to_walk}
use Rattle.wall_tree.proofs.raycast.is_free.Goals as goal

pub misses-requires : goal.misses-requires
misses-requires c = let all = to_scan _ _ _ _ c.requires in record { fact_1 = all.0; fact_2 = all.1 }

pub is_clear-requires : goal.is_clear-requires
is_clear-requires c = let all = to_walk _ _ _ _ c.requires c.if-at-le-SCANNED.false in record { checked_1 = all.0; checked_2 = all.1.0; part_tree = all.1.1 }
