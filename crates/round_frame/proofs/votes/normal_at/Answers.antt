-- `round_frame::votes::normal_at` meets its contract.
use mathlib.Core.Path.{refl}
use Rattle.solid_faces.specs.Kept.{plane_at_of}
use Rattle.round_frame.proofs.votes.normal_at.Goals as goal

pub returns : goal.returns
unfolding plane_at_of
returns c = refl
