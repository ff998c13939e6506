-- `report::report::put_report` meets its contract: the first line, and the others.
use mathlib.Core.Path.{refl, ap, ◌∙◌}
use Prim.Native.Nat.{ℕ}
use lib.ListN.{length}
use Rattle.report.specs.Text.{head_text, report_text}
use Rattle.report.proofs.OrderLaws.{leads_length}
use Rattle.num_text.proofs.TextLaws.{adds_then, adds_same}
use borrow.Author.Rules.{rules}
use Rattle.report.proofs.report.put_report.Goals as goal

pub put_lines-requires : goal.put_lines-requires
put_lines-requires c =
    record {
      ready_1 = c.requires.fact_1;
      ready_2 = refl;
      order_value = c.requires.fact_2;
    }

pub returns : goal.returns
unfolding report_text
returns c =
    let same = c.put_lines.ensures.fact_1.same_slice ∙ c.put_head.ensures.same_slice in
    let all = (adds_then _ _ (adds_same _ _ (ap (λ (k : ℕ). head_text k c.args.summary) (ap length c.requires.fact_2 ∙ leads_length _)) c.put_head.ensures) c.put_lines.ensures.fact_1).put in
    search rules
