use mathlib.Core.Path.{sym, ◌∙◌}
use Rattle.sentence.proofs.Recovers.{candidate-job, candidate-stairs}
use Rattle.sentence.proofs.recover.candidate_of.Goals as goal

pub returns-then-is_job_line : goal.returns-then-is_job_line
returns-then-is_job_line c =
    candidate-job _ _ _ c.scan-s.ensures _ (sym c.is_job_line.ensures ∙ c.if-is_job_line.true)
    c.time_of.ensures

pub returns : goal.returns
returns c =
    candidate-stairs _ _ _ c.scan-s.ensures (sym c.is_job_line.ensures ∙ c.if-is_job_line.false)
