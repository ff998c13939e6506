-- `wall_starts::face_order` meets its contract.
use native.Mathlib.Omega.{arith}
use Rattle.wall_starts.proofs.SortLaws.{lent_length, lent_numbered, ordered_all}
use Rattle.wall_starts.proofs.face_order.Goals as goal

pub sort-requires : goal.sort-requires
sort-requires c =
    let g = c.gather-n.ensures in
    let long = lent_length c.args.keys.now _ _ _ _ _ _ _ c.requires.fact_1 c.requires.fact_2 g in
    record {
      fact_1 = omega (arith, long);
      fact_2 = lent_numbered _ _ _ _ _ _ _ _ c.requires.fact_1 c.requires.fact_2 g;
    }

pub returns : goal.returns
returns c =
    let g = c.gather-n.ensures in
    ordered_all _ _ _ _ _ _ _ _ c.requires.fact_1 c.requires.fact_2 g _ c.sort.auto.mem c.sort.ensures
