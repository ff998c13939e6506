-- `fault_merge::same::same_heading` meets its contract: ranks, then texts.
use mathlib.Core.Path.{sym, ◌∙◌}
use borrow.Author.Tests.{ne_eqb}
use Rattle.file_part.specs.Part.{part_of}
use Rattle.fault_merge.proofs.TextLaws.{other_rank, by_text}
use Rattle.fault_merge.proofs.same.same_heading.Goals as goal

pub returns-else-rank_of : goal.returns-else-rank_of
returns-else-rank_of c =
    let t = part_of c.args.file.now in
    ne_eqb _ _ c.if-rank_of.false ∙ sym (other_rank t c.args.r c.args.s (λ e. c.if-rank_of.false (c.rank_of.ensures t ∙ e ∙ sym (c.rank_of-2.ensures t))))

pub same_text-requires : goal.same_text-requires
same_text-requires c =
    record {
      fact_1 = c.requires.fact_1;
      fact_2 = c.requires.fact_2;
      fact_3 = c.requires.fact_3;
    }

pub returns-then-rank_of : goal.returns-then-rank_of
returns-then-rank_of c =
    let t = part_of c.args.file.now in
    c.same_text.ensures ∙ sym (by_text t c.args.r c.args.s (sym (c.rank_of.ensures t) ∙ c.if-rank_of.true ∙ c.rank_of-2.ensures t))
