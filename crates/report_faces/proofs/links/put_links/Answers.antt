-- `report_faces::links::put_links` meets its contract: nothing, or all of them.
use mathlib.Core.Path.{sym, ap, subst}
use mathlib.Core.List.{List}
use Prim.Native.Nat.{ℕ}
use lib.ListN.{length}
use lib.Seq.{length-take-le}
use Rattle.report_faces.specs.Work.{Low, Linking}
use borrow.Author.Tests.{not-true, not-false}
use native.Mathlib.Omega.{arith}
use Rattle.fault_merge.proofs.RecallLaws.{front_none}
use Rattle.report_faces.proofs.LinkLaws.{links_none, links_made, labels_long, front_part}
use Rattle.report_faces.proofs.links.put_links.Goals as goal

pub returns-then-not-at : goal.returns-then-not-at
returns-then-not-at c =
    record {
      fact_1 = links_none _ _ _ _ c.requires.laid_3 (not-true _ c.if-not-at.true);
      fact_2 = front_none _ _;
    }

pub slice_bounds-link_all-end : goal.slice_bounds-link_all-end
slice_bounds-link_all-end c = sym (length-take-le _ _ (omega (arith, c.requires.laid_1, c.requires.laid_2)))

pub link_all-requires : goal.link_all-requires
link_all-requires c =
    let n = labels_long c.args.at.polygons c.args.words.now (omega (arith, c.requires.laid_1, c.requires.laid_2)) in
    let f = front_part c.args.at.polygons c.args.words.now in
    let m = ap length f in
    record {
      fact_1 = omega (arith, n, m, c.requires.laid_3);
      fact_2 = omega (arith, n, m, c.requires.laid_1.few);
      fact_3 = subst Low (sym f) (c.requires.low (not-false _ c.if-not-at.false));
    }

pub shape_of-work : goal.shape_of-work
shape_of-work c = c.link_all.ensures.fact_2.long

pub returns : goal.returns
returns c =
    record {
      fact_1 = links_made c.args.at c.args.words.now c.args.from c.link_all.new.work (omega (arith, c.requires.laid_3, c.link_all.ensures.fact_2.long)) (omega (arith, c.requires.laid_1, c.requires.laid_2)) (c.requires.low (not-false _ c.if-not-at.false)) (subst (λ (l : List ℕ). Linking l c.args.from 0 c.link_all.new.work) (front_part c.args.at.polygons c.args.words.now) c.link_all.ensures.fact_1);
      fact_2 = c.link_all.ensures.fact_2;
    }
