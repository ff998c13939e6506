-- `round_all::round::is_concave` meets its contract.
use mathlib.Core.Path.{ap}
use lib.Ieee.{Float, lt}
use Rattle.math.specs.Vector as vector
use Rattle.round_all.proofs.round.is_concave.Goals as goal

pub face_votes-requires : goal.face_votes-requires
face_votes-requires c =
    record {
      readable_1 = c.requires.readable_1;
      readable_2 = c.requires.readable_2;
      first_bound_1 = c.requires.first_bound_1;
      first_bound_2 = c.requires.first_bound_2;
      kept_planes_1 = c.requires.kept_planes_1;
      kept_planes_2 = c.requires.kept_planes_2;
    }

pub returns : goal.returns
returns c = ap (λ (x : Float). lt x vector.zero) c.face_votes.ensures
