-- `solid_pairs::pair_of` meets its contract.
use native.Mathlib.Omega.{arith}
use Rattle.solid_pairs.proofs.PairOfLaws.{few, rank_room, rank_fits, pair_turned, pair_straight}
use Rattle.solid_pairs.proofs.pair_of.Goals as goal

pub overflow_add-ranks : goal.overflow_add-ranks
overflow_add-ranks c =
    let h = c.requires in
    omega (arith, rank_room _ _ _ _ h.placed_1 h.placed_2 h.placed_3 h.n_value_1 _ h.n_value_2)

pub cell-a-requires : goal.cell-a-requires
cell-a-requires c =
    let h = c.requires in
    rank_room _ _ _ _ h.placed_1 h.placed_2 h.placed_3 h.n_value_1 _ h.n_value_2

pub overflow_add-ranks-2 : goal.overflow_add-ranks-2
overflow_add-ranks-2 c =
    let h = c.requires in
    omega (arith, rank_room _ _ _ _ h.placed_1 h.placed_2 h.placed_3 h.n_value_1 _ h.n_value_3)

pub cell-b-requires : goal.cell-b-requires
cell-b-requires c =
    let h = c.requires in
    rank_room _ _ _ _ h.placed_1 h.placed_2 h.placed_3 h.n_value_1 _ h.n_value_3

pub pair_key-requires : goal.pair_key-requires
pair_key-requires c =
    let h = c.requires in
    let a = c.cell-a.ensures in
    let b = c.cell-b.ensures in
    record {
      fact_1 = rank_fits _ _ _ _ h.placed_1 h.placed_2 h.placed_3 h.n_value_1 _ _ h.n_value_3 b;
      fact_2 = rank_fits _ _ _ _ h.placed_1 h.placed_2 h.placed_3 h.n_value_1 _ _ h.n_value_2 a;
      fact_3 = few _ _ _ _ h.placed_1 h.placed_2 h.placed_3 h.n_value_1;
    }

pub returns-then-b-a : goal.returns-then-b-a
returns-then-b-a c =
    let h = c.requires in
    let a = c.cell-a.ensures in
    let b = c.cell-b.ensures in
    pair_turned _ _ _ _ h.placed_1 h.placed_2 h.placed_3 h.n_value_1 _ _ _ _ h.n_value_2 h.n_value_3 a b _ c.if-b-a.true c.pair_key.ensures

pub pair_key-requires-2 : goal.pair_key-requires-2
pair_key-requires-2 c =
    let h = c.requires in
    let a = c.cell-a.ensures in
    let b = c.cell-b.ensures in
    record {
      fact_1 = rank_fits _ _ _ _ h.placed_1 h.placed_2 h.placed_3 h.n_value_1 _ _ h.n_value_2 a;
      fact_2 = rank_fits _ _ _ _ h.placed_1 h.placed_2 h.placed_3 h.n_value_1 _ _ h.n_value_3 b;
      fact_3 = few _ _ _ _ h.placed_1 h.placed_2 h.placed_3 h.n_value_1;
    }

pub returns : goal.returns
returns c =
    let h = c.requires in
    let a = c.cell-a.ensures in
    let b = c.cell-b.ensures in
    pair_straight _ _ _ _ h.placed_1 h.placed_2 h.placed_3 h.n_value_1 _ _ _ _ h.n_value_2 h.n_value_3 a b _ c.if-b-a.false c.pair_key-2.ensures
