-- `rule_holes::name::is_named` meets its contract: the word is looked for in a part of the file.
use Rattle.rule_holes.proofs.NameLaws.{named_room, named_is, named_none}
use native.Mathlib.Omega.{arith}
use Rattle.rule_holes.proofs.name.is_named.Goals as goal

pub job_of-job-requires : goal.job_of-job-requires
job_of-job-requires c = c.requires

pub job_place-start-requires : goal.job_place-start-requires
job_place-start-requires c = c.requires

pub overflow_add-start : goal.overflow_add-start
overflow_add-start c = omega (arith, named_room _ _ _ c.job_of-job.ensures c.job_place-start.ensures c.requires)

pub overflow_cast-end : goal.overflow_cast-end
overflow_cast-end c = omega (arith, named_room _ _ _ c.job_of-job.ensures c.job_place-start.ensures c.requires)

pub overflow_add-end : goal.overflow_add-end
overflow_add-end c = omega (arith, named_room _ _ _ c.job_of-job.ensures c.job_place-start.ensures c.requires)

pub slice_bounds-has_word-count : goal.slice_bounds-has_word-count
slice_bounds-has_word-count c = omega (arith, named_room _ _ _ c.job_of-job.ensures c.job_place-start.ensures c.requires)

pub slice_bounds-has_word-start : goal.slice_bounds-has_word-start
slice_bounds-has_word-start c = omega (arith, named_room _ _ _ c.job_of-job.ensures c.job_place-start.ensures c.requires)

pub slice_bounds-has_word-end : goal.slice_bounds-has_word-end
slice_bounds-has_word-end c = omega (arith, named_room _ _ _ c.job_of-job.ensures c.job_place-start.ensures c.requires)

pub returns-then-job : goal.returns-then-job
returns-then-job c = named_is _ _ _ c.job_of-job.ensures c.job_place-start.ensures _ _ c.if-job.true c.has_word.ensures

pub returns : goal.returns
returns c = named_none _ _ _ c.job_of-job.ensures c.if-job.false
