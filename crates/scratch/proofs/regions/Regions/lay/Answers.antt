-- `scratch::regions::Regions::lay` meets its contract: region by region.
use mathlib.Core.Path.{refl}
use native.Mathlib.Omega.{arith}
use Rattle.scratch.proofs.regions.Regions.lay.Goals as goal

pub returns : goal.returns
returns c =
    record {
      laid_1 = record {
        few = omega arith;
        short = omega arith;
        tree = omega arith;
        sides = omega arith;
        work = omega arith;
        items = omega arith;
        sorted = omega arith;
        chain = omega arith;
        faces = omega arith;
        firsts = omega arith;
        readings = omega arith;
        hits = omega arith;
        order = omega arith;
        kinds = omega arith;
        ranks = omega arith;
        words = omega arith;
        areas = omega arith;
        totals = omega arith;
        volumes = omega arith;
        boxes = omega arith;
        falling = omega arith;
        thickness = omega arith;
        weights = omega arith;
        rounds = omega arith;
        directions = omega arith;
        free = omega arith;
        reals = omega arith;
      };
      laid_2 = refl;
      laid_3 = refl;
      segments_value_1 = refl;
      segments_value_2 = refl;
    }
