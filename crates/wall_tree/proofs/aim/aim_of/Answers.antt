-- `wall_tree::aim::aim_of` meets its contract.
use native.Mathlib.Omega.{arith}
use Rattle.wall_tree.proofs.AimLaws.{aimed, sides}
use Rattle.wall_tree.proofs.aim.aim_of.Goals as goal

pub near_at-x-requires : goal.near_at-x-requires
near_at-x-requires c = omega arith

pub near_at-y-requires : goal.near_at-y-requires
near_at-y-requires c = omega arith

pub near_at-z-requires : goal.near_at-z-requires
near_at-z-requires c = omega arith

pub returns : goal.returns
returns c =
    record {
      fact_1 = aimed _ _ _ _ _ _ _ _ c.inverse-inv.ensures c.start_at.ensures c.start_at-2.ensures c.start_at-3.ensures c.near_at-x.ensures c.near_at-y.ensures c.near_at-z.ensures;
      fact_2 = sides _ _ _ _ _ c.near_at-x.ensures c.near_at-y.ensures c.near_at-z.ensures;
    }
