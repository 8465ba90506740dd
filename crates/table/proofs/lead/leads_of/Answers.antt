use Rattle.std.proofs.Common.{rules, arith, ℕ, ◌≡◌, get_or, pos}
use Rattle.sums.specs.Arrays.{fill-at}
use Rattle.order.specs.Machine.{machine-back}
use Rattle.order.specs.Lead.{lead, last_due}
use Rattle.order.proofs.StructLaws.{few-jobs, due-in-range-at}
use Rattle.table.proofs.lead.leads_of.Goals as goal

pub bounds-order-j : goal.bounds-order-j
bounds-order-j c = omega (arith, few-jobs c.args.order c.requires)

pub lead_of-requires : goal.lead_of-requires
lead_of-requires c = search (rules, machine-back, due-in-range-at c.args.order c.requires c.loop-j.j (omega arith))

pub bounds-leads-j : goal.bounds-leads-j
bounds-leads-j c = omega (arith, few-jobs c.args.order c.requires, c.loop-j.invariant.0)

pub loop-j-preserved : goal.loop-j-preserved
loop-j-preserved c =
    let l = c.loop-j in (
      search rules,
      record {
        at = fill-at (λ (k v : ℕ). v ≡ lead last_due (get_or c.args.order.dues k (pos 0))) 0 l.leads l.j c.lead_of.result
            (omega (arith, few-jobs c.args.order c.requires, l.invariant.0)) l.invariant.1.at (search (rules, machine-back));
      },
    )
