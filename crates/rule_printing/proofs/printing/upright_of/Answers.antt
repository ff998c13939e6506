-- `rule_printing::printing::upright_of` meets its contract: by the definition.
use Rattle.rule_printing.proofs.RuleLaws.{upright_is}
use Rattle.rule_printing.proofs.printing.upright_of.Goals as goal

pub job_of-job-requires : goal.job_of-job-requires
job_of-job-requires c = c.requires

pub heights-requires : goal.heights-requires
heights-requires c = c.requires

pub returns : goal.returns
returns c = upright_is _ _ _ c.job_of-job.ensures c.normalized-up.ensures _ c.heights.ensures
