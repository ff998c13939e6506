-- `num_text::text::place` meets its contract.
use native.Mathlib.Omega.{arith}
use Rattle.num_text.specs.Put.{advance}
use Rattle.num_text.proofs.PutLaws.{put_within, put_beyond}
use Rattle.num_text.proofs.text.place.Goals as goal

pub returns-then-at-out : goal.returns-then-at-out
returns-then-at-out c = put_within _ _ _ (omega arith) (omega arith)

pub returns-then-at-lt-LAST : goal.returns-then-at-lt-LAST
unfolding advance
returns-then-at-lt-LAST c = put_beyond _ _ _ _ (omega arith) (omega arith) (omega arith)

pub returns : goal.returns
unfolding advance
returns c = put_beyond _ _ _ _ (omega arith) (omega arith) (omega arith)
