-- `round_all::round::put_rounds` meets its contract.
use mathlib.Core.Path.{◌≡◌, ◌∙◌, subst}
use Prim.Native.Nat.{ℕ}
use native.Mathlib.Nat.{le_antisymm}
use lib.Ieee.{nan}
use Rattle.list_laws.specs.Region.{part}
use Rattle.list_laws.proofs.Outside.{outside_none, outside_then}
use Rattle.file_part.specs.Part.{part_of}
use Rattle.solid_faces.specs.Faces.{faces_of}
use Rattle.round_all.specs.Kept.{KeptKinds, KeptMeasures}
use Rattle.round_all.proofs.KeptLaws.{kinds_none, measures_none}
use Rattle.round_all.proofs.PutLaws.{still}
use native.Mathlib.Omega.{arith}
use Rattle.round_all.proofs.round.put_rounds.Goals as goal

pub loop-f-init : goal.loop-f-init
loop-f-init c = (outside_none 0 _ _ _, outside_none nan _ _ _, kinds_none _ _, measures_none _ _)

pub put_round-requires : goal.put_round-requires
put_round-requires c =
    record {
      fact_1 = still _ _ _ _ c.requires.fact_1 _ _ c.loop-f.invariant.0 c.loop-f.invariant.1;
      fact_2 = omega (arith, c.loop-f-test.true, c.requires.fact_2);
    }

pub loop-f-preserved : goal.loop-f-preserved
loop-f-preserved c =
    let step = c.put_round.ensures in
    let i = c.loop-f.invariant in
    (outside_then 0 _ _ _ _ _ i.0 step.words_kept, outside_then nan _ _ _ _ _ i.1 step.reals_kept, step.kinds i.2, step.measures i.3)

pub returns : goal.returns
returns c =
    let i = c.loop-f.invariant in
    let all : c.loop-f.f ≡ faces_of (part_of c.args.file.now) = le_antisymm c.loop-f.auto.f-end c.loop-f-test.false ∙ c.requires.fact_2 in
    record {
      rounds_1 = record {
        kinds = subst (λ (k : ℕ). KeptKinds (part_of c.args.file.now) k (part c.args.at.kinds c.args.at.ranks c.loop-f.words)) all i.2;
        measures = subst (λ (k : ℕ). KeptMeasures (part_of c.args.file.now) k (part c.args.at.rounds c.args.at.directions c.loop-f.reals)) all i.3;
      };
      rounds_2 = still _ _ _ _ c.requires.fact_1 _ _ c.loop-f.invariant.0 c.loop-f.invariant.1;
      outside_1 = i.0;
      outside_2 = i.1;
    }
