-- `scratch::body::put_chain` meets its contract.
use Rattle.list_laws.specs.Region.{Outside}
use Rattle.file_part.specs.Part.{part_of}
use Rattle.scratch.proofs.WordsLaws.{NextFrom, ChainFrom}
use Rattle.scratch.proofs.body.put_chain.Given as goal

abbrev pub invariant-loop-q : goal.invariant-loop-q
invariant-loop-q l = Outside 0 l.chain l.faces l.initial.words l.words × ChainFrom (part_of l.file) l.chain l.q l.words × NextFrom (part_of l.file) l.q l.next
