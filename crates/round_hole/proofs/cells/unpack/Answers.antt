-- `round_hole::cells::unpack` meets its contract.
use Rattle.round_hole.proofs.CellLaws.{half_fits, half_moved_fits, upper_below, lower_below, unpacked_near}
use Rattle.round_hole.proofs.cells.unpack.Goals as goal

pub overflow_cast-high : goal.overflow_cast-high
overflow_cast-high c = half_fits _ (upper_below _ c.to_bits-bits.result c.to_bits-bits.ensures)

pub overflow_cast-low : goal.overflow_cast-low
overflow_cast-low c = half_fits _ (lower_below _ c.to_bits-bits.result c.to_bits-bits.ensures)

pub overflow_sub-result : goal.overflow_sub-result
overflow_sub-result c = half_moved_fits _ (upper_below _ c.to_bits-bits.result c.to_bits-bits.ensures)

pub overflow_sub-result-2 : goal.overflow_sub-result-2
overflow_sub-result-2 c = half_moved_fits _ (lower_below _ c.to_bits-bits.result c.to_bits-bits.ensures)

pub returns : goal.returns
returns c = let all = unpacked_near _ c.to_bits-bits.result c.to_bits-bits.ensures in record { fact_1 = all.0; fact_2 = all.1 }
