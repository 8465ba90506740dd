use Rattle.std.proofs.Common.{rules, ◌≡◌, not, leb, take, ap, arith, ◌∙◌}
use Rattle.std.specs.List.{list_any}
use Rattle.sums.specs.Places.{front-tabulate}
use Rattle.order.specs.Refusals.{fits_some}
use Rattle.order.specs.Table.{job_at, order_of}
use Rattle.order.proofs.Ranges.{first-job, fits_some-any}
use Rattle.order.proofs.accept.first_unfit.Goals as goal

pub returns : goal.returns
returns c =
    let o = c.args.order in
    let memories : take o.processors o.memories ≡ (order_of o).memories = front-tabulate o.memories o.processors 0 (omega arith) in
    c.first_number.ensures (λ j. not (fits_some (job_at o j).need (order_of o).memories))
    (λ j b l p. let k : b ≡ not (list_any (λ m. leb (job_at o j).need m) (take o.processors o.memories)) = search rules in
    k ∙ ap not (fits_some-any (job_at o j).need (take o.processors o.memories) ∙ ap (fits_some (job_at o j).need) memories))
    ∙ first-job (λ job. not (fits_some job.need (order_of o).memories)) o
