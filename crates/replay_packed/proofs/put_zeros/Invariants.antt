-- `replay_packed::put_zeros` meets its contract. The invariant: so many zeros are written as turns are over.
use lib.ListN.{replicate}
use Rattle.num_text.specs.Text.{Adds}
use Rattle.replay_packed.proofs.put_zeros.Given as goal

abbrev pub invariant-loop : goal.invariant-loop
invariant-loop l = Adds l.initial.file (replicate l.counter 0) l.file
