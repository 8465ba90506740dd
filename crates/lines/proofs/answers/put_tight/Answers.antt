use mathlib.Core.Path.{sym, ap}
use native.Mathlib.Omega.{arith}
use Rattle.reason.specs.Told.{reason_told}
use Rattle.reason.specs.declared.Reason.{Reason}
use Rattle.lines.specs.Lines.{tight_line}
use Rattle.text.specs.TextLaws.{put_as}
use Rattle.lines.proofs.answers.put_tight.Goals as goal

pub returns-in-Job : goal.returns-in-Job
returns-in-Job c =
    let q = c.put_job.ensures in (
      put_as (ap (λ (r : Reason). tight_line (reason_told r c.args.dues))
          (sym c.in-Job.is)) q.0,
      omega arith,
    )

pub returns-in-Stairs : goal.returns-in-Stairs
returns-in-Stairs c =
    let q = c.put_stairs.ensures in (
      put_as (ap (λ (r : Reason). tight_line (reason_told r c.args.dues))
          (sym c.in-Stairs.is)) q.0,
      omega arith,
    )
