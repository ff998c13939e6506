-- `fault_merge::same::text_hash` meets its contract: the text, from a buffer of its own.
use borrow.Author.Rules.{rules}
use mathlib.Core.Path.{ap, ◌∙◌}
use Rattle.fault_merge.specs.Hash.{hash_of}
use Rattle.fault_merge.proofs.TextLaws.{written}
use Rattle.num_text.proofs.PutLaws.{put_length}
use native.Mathlib.Omega.{arith}
use Rattle.fault_merge.proofs.same.text_hash.Goals as goal

pub put_message-requires : goal.put_message-requires
put_message-requires c = c.requires.fact_1

pub written-requires : goal.written-requires
written-requires c =
    let w = written c.args.file.now c.args.flaw c.requires.fact_1 c.requires.fact_2 (search rules) c.put_message.ensures.put in
    omega (arith, w.1, put_length _ c.put_message.ensures.put)

pub returns : goal.returns
returns c = c.hash.ensures ∙ ap hash_of (c.written.ensures ∙ (written c.args.file.now c.args.flaw c.requires.fact_1 c.requires.fact_2 (search rules) c.put_message.ensures.put).2)
