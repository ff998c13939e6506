-- `fault_merge::same::same_text` meets its contract: both texts, each from a buffer of its own.
use borrow.Author.Rules.{rules}
use mathlib.Core.Path.{ap₂, ◌∙◌}
use Rattle.fault_lines.specs.Line.{same_text}
use Rattle.fault_merge.proofs.TextLaws.{text_compared, written}
use Rattle.num_text.proofs.PutLaws.{put_length}
use native.Mathlib.Omega.{arith}
use Rattle.fault_merge.proofs.same.same_text.Goals as goal

pub put_message-requires : goal.put_message-requires
put_message-requires c = c.requires.fact_1

pub put_message-requires-2 : goal.put_message-requires-2
put_message-requires-2 c = c.requires.fact_1

pub written-requires : goal.written-requires
written-requires c =
    let w = written c.args.file.now c.args.r c.requires.fact_1 c.requires.fact_2 (search rules) c.put_message.ensures.put in
    omega (arith, w.1, put_length _ c.put_message.ensures.put)

pub written-requires-2 : goal.written-requires-2
written-requires-2 c =
    let w = written c.args.file.now c.args.s c.requires.fact_1 c.requires.fact_3 (search rules) c.put_message-2.ensures.put in
    omega (arith, w.1, put_length _ c.put_message-2.ensures.put)

pub returns : goal.returns
returns c =
    let v = written c.args.file.now c.args.r c.requires.fact_1 c.requires.fact_2 (search rules) c.put_message.ensures.put in
    let w = written c.args.file.now c.args.s c.requires.fact_1 c.requires.fact_3 (search rules) c.put_message-2.ensures.put in
    c.eq.ensures ∙ text_compared _ _ ∙ ap₂ same_text (c.written.ensures ∙ v.2) (c.written-2.ensures ∙ w.2)
