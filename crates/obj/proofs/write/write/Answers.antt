-- `obj::write::write` meets its contract: one part after the other.
use mathlib.Core.Path.{◌∙◌}
use borrow.Author.Rules.{rules}
use lib.ListN.{length}
use Rattle.obj.proofs.ConvertLaws.{accepted}
use Rattle.obj.proofs.WriteLaws.{first_small, written}
use native.Mathlib.Omega.{arith}
use Rattle.obj.proofs.write.write.Goals as goal

pub put_corners-requires : goal.put_corners-requires
put_corners-requires c = let a = accepted c.args.text.now (length c.args.job.now) (length c.args.out.now) c.requires.fact_1 in let r = c.requires.fact_2 in
    record {
      fact_1 = a.lines;
      fact_2 = record { held = omega (arith, a.corners_most, r.corners_are, r.sized.numbers_long); most = omega (arith, a.corners_most, r.corners_are); named = r.named; slots = r.sized.slots; rows = r.rows };
    }

pub put_polygons-requires : goal.put_polygons-requires
put_polygons-requires c = let a = accepted c.args.text.now (length c.args.job.now) (length c.args.out.now) c.requires.fact_1 in let r = c.requires.fact_2 in
    record {
      fact_1 = omega (arith, a.faces_most, r.polygons_are, r.sized.indices_long);
      fact_2 = omega (arith, a.faces_most, r.polygons_are, r.sized.counts_long);
      fact_3 = first_small r a.corners_most;
    }

pub put_end-requires : goal.put_end-requires
put_end-requires c = let a = accepted c.args.text.now (length c.args.job.now) (length c.args.out.now) c.requires.fact_1 in let r = c.requires.fact_2 in
    record {
      fact_1 = omega (arith, a.corners_most, r.corners_are);
      fact_2 = omega (arith, a.faces_most, r.polygons_are);
    }

pub returns : goal.returns
returns c =
    let a = accepted c.args.text.now (length c.args.job.now) (length c.args.out.now) c.requires.fact_1 in
    let same = c.put_end.ensures.same_slice ∙ c.put_polygons.ensures.same_slice ∙ c.put_corners.ensures.same_slice in
    let all = written c.args.text.now c.args.job.now _ _ _ _ c.args.t _ _ _ _ a c.requires.fact_2 c.put_corners.ensures.put c.put_polygons.ensures.put c.put_end.ensures.put in
    search rules
