-- `round_hole::cells::pack` meets its contract.
use Rattle.round_hole.proofs.CellLaws.{moved_fits, moved_cast, high_fits, bits_fit, packed}
use Rattle.round_hole.proofs.cells.pack.Goals as goal

pub overflow_add-high : goal.overflow_add-high
overflow_add-high c = moved_fits c.args.d.u c.requires.u_within

pub overflow_cast-high : goal.overflow_cast-high
overflow_cast-high c = moved_cast c.args.d.u c.requires.u_within

pub overflow_add-low : goal.overflow_add-low
overflow_add-low c = moved_fits c.args.d.v c.requires.v_within

pub overflow_cast-low : goal.overflow_cast-low
overflow_cast-low c = moved_cast c.args.d.v c.requires.v_within

pub overflow_mul-high : goal.overflow_mul-high
overflow_mul-high c = high_fits c.args.d c.requires

pub overflow_add-high-2 : goal.overflow_add-high-2
overflow_add-high-2 c = bits_fit c.args.d c.requires

pub returns : goal.returns
returns c = packed c.args.d c.requires _ c.from_bits.ensures
