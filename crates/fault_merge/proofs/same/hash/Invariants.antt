-- What is left, hashed now, gives the whole.
use Rattle.std.proofs.Common.{◌≡◌, ◌<◌, drop}
use Rattle.fault_merge.specs.Hash.{hash_from, hash_of}
use Rattle.fault_merge.proofs.same.hash.Given as goal

abbrev pub invariant-loop-x : goal.invariant-loop-x
invariant-loop-x l = (l.h < 4294967296) × (hash_from l.h (drop l.x-index l.text) ≡ hash_of l.text)
