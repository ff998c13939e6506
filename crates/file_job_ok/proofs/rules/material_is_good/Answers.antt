-- `file_job_ok::rules::material_is_good` meets its contract.
use Rattle.file_job_ok.specs.Rules.{material_good}
use Rattle.file_job_ok.proofs.rules.material_is_good.Goals as goal

pub returns : goal.returns
unfolding material_good
returns c = cc
