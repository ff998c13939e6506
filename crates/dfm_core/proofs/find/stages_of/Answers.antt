-- `dfm_core::find::stages_of` meets its contract.
use Rattle.dfm_core.proofs.FoundLaws.{all_ask}
use Rattle.dfm_core.proofs.find.stages_of.Goals as goal

pub returns : goal.returns
returns c = record { segments = all_ask c.args.process; bodies = c.traps_hollows.ensures }
