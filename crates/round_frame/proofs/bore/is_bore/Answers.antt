-- `round_frame::bore::is_bore` meets its contract.
use mathlib.Core.Path.{ap, ◌∙◌}
use Rattle.round_hole.specs.Direction.{goes_round_of}
use Rattle.round_frame.proofs.bore.is_bore.Goals as goal

pub returns : goal.returns
returns c =
    record {
      value = c.goes_round.ensures ∙ ap goes_round_of c.face_directions-n.ensures.held;
      cells_len_unchanged = c.face_directions-n.ensures.long;
    }
