-- `dfm_print::put_refusal` meets its contract: one writer after the other.
use mathlib.Core.Path.{◌∙◌}
use borrow.Author.Rules.{rules}
use Rattle.num_text.proofs.TextLaws.{adds_then}
use Rattle.dfm_print.specs.Print.{refusal_line}
use Rattle.dfm_print.proofs.put_refusal.Goals as goal

pub returns : goal.returns
unfolding refusal_line
returns c =
    let same = c.put_byte.ensures.same_slice ∙ c.put_number.ensures.same_slice ∙ c.put_bytes.ensures.same_slice in
    let all = (adds_then _ _ c.put_bytes.ensures (adds_then _ _ c.put_number.ensures c.put_byte.ensures)).put in
    search rules
