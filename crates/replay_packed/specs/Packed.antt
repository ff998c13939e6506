-- Part files packed for the replayed lists: each run of zero bytes as a zero and the run's length. Definitions only.
use Rattle.std.specs.Prelude.{Bool, true, false, cond, List, [], ◌∷◌, ◌++◌, ℕ, eqb, replicate}

-- The bytes that were packed. After a zero, which the first argument tells, a byte says how many zeros there are; else a zero only says that
-- such a byte follows, and every other byte stands for itself. A zero that is the last byte stands for nothing.
abbrev pub unpacked : Bool → List ℕ → List ℕ
unpacked z [] = []
unpacked true (b ∷ bs) = replicate b 0 ++ unpacked false bs
unpacked false (b ∷ bs) = cond (eqb b 0) (unpacked true bs) (b ∷ unpacked false bs)
