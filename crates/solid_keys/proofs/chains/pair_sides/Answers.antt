-- `solid_keys::chains::pair_sides` meets its contract.
use Rattle.solid_keys.specs.Work.{col, Sides}
use Rattle.solid_keys.proofs.ColumnLaws.{sides_kept, before_cells, paired_cells}
use Rattle.solid_keys.proofs.chains.pair_sides.Goals as goal

pub link-requires : goal.link-requires
link-requires c =
    let sides : Sides c.clear.new.mem c.args.n = sides_kept c.args.mem.now c.clear.new.mem c.clear.ensures.kept c.args.n c.requires c.clear.auto.mem in
    record {
      fact_1 = sides;
      fact_2 = c.clear.ensures.by_index;
    }

pub pair-requires : goal.pair-requires
pair-requires c =
    let sides : Sides c.clear.new.mem c.args.n = sides_kept c.args.mem.now c.clear.new.mem c.clear.ensures.kept c.args.n c.requires c.clear.auto.mem in
    let n = c.args.n in
    record {
      fact_1 = sides_kept c.clear.new.mem c.link.new.mem c.link.ensures.kept n sides c.link.auto.mem;
      fact_2 = before_cells c.clear.new.mem c.link.new.mem c.link.ensures.kept (col c.link.new.mem 6) n c.link.ensures.before;
    }

pub returns : goal.returns
returns c =
    paired_cells c.args.mem.now c.clear.new.mem c.clear.ensures.kept _ c.args.n
    (paired_cells c.clear.new.mem c.link.new.mem c.link.ensures.kept _ c.args.n c.pair.ensures)
