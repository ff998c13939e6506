-- `file_ok::verdict::content_verdict` meets its contract.
use mathlib.Core.Path.{sym, ap}
use mathlib.Core.Bool.{true, false, not}
use Rattle.file_ok.proofs.VerdictLaws.{content_job, content_vertex, content_polygon}
use Rattle.file_ok.proofs.verdict.content_verdict.Goals as goal

pub returns-then-not-job_is_good : goal.returns-then-not-job_is_good
returns-then-not-job_is_good c = content_job _ _ _ _ _ c.entry_at.ensures c.job_is_good.ensures (ap not c.if-not-job_is_good.true)

pub returns-then-not-vertices_are_good : goal.returns-then-not-vertices_are_good
returns-then-not-vertices_are_good c = content_vertex _ _ _ _ _ _ c.entry_at.ensures c.job_is_good.ensures (ap not c.if-not-job_is_good.false) c.vertices_are_good.ensures (ap not c.if-not-vertices_are_good.true)

pub returns-then-not-polygons_are_good : goal.returns-then-not-polygons_are_good
returns-then-not-polygons_are_good c =
    content_polygon _ _ _ _ _ _ _ true (sym (ap not c.if-not-polygons_are_good.true)) c.entry_at.ensures c.job_is_good.ensures (ap not c.if-not-job_is_good.false)
    c.vertices_are_good.ensures (ap not c.if-not-vertices_are_good.false) c.polygons_are_good.ensures

pub returns : goal.returns
returns c =
    content_polygon _ _ _ _ _ _ _ false (sym (ap not c.if-not-polygons_are_good.false)) c.entry_at.ensures c.job_is_good.ensures (ap not c.if-not-job_is_good.false)
    c.vertices_are_good.ensures (ap not c.if-not-vertices_are_good.false) c.polygons_are_good.ensures
