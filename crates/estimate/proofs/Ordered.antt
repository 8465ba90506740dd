-- The order after k minutes: the struct with its times exchanged, and its least lateness.
use Prim.Native.Nat.{ℕ}
use mathlib.Core.Path.{◌≡◌, sym, ap, ◌∙◌, subst}
use mathlib.Core.List.{List}
use lib.IntN.{ℤ}
use Rattle.order.specs.Lead.{bound_at, last_due}
use Rattle.order.specs.Refusals.{limits, accepted, judge, Accepted}
use Rattle.order.proofs.RefusalLaws.{accepted-iff}
use Rattle.order.specs.Table.{order_of, padded}
use Rattle.order.specs.declared.Order.{Order as OrderTable}
use Rattle.profile.specs.Least.{least_lateness}
use Rattle.table.specs.Making.{fine_of}
use Rattle.table.specs.Tabled.{Tabled, Fine}
use Rattle.table.specs.declared.Table.{Table}
use Rattle.reason.specs.Asked.{least_reach_of}
use Rattle.reason.specs.Matching.{reach-same}
use Rattle.estimate.specs.Estimate.{path_at, estimate_rows}
use Rattle.estimate.specs.Request.{least_along}
use Rattle.estimate.specs.StructLaws.{order_is, order-accepted}
use Rattle.estimate.specs.Told.{estimate_of, with_times}
use Rattle.estimate.specs.declared.Estimate.{Estimate as EstimateTable}

pub with_array : (t : OrderTable) (times array : List ℕ) → array ≡ padded 48 times →
    record {
      processors = t.processors;
      memories = t.memories;
      jobs = t.jobs;
      times = array;
      dues = t.dues;
      needs = t.needs;
      makers = t.makers;
    } ≡ with_times t times
with_array t times array e = rw e

module _ (t : EstimateTable) (ok : judge (estimate_rows limits (estimate_of t)) ≡ accepted) (k : ℕ) (o : OrderTable)
    (e : o ≡ with_times t.order (path_at (estimate_of t) k)) where
  pub along-accepted : Accepted (order_of o)
  along-accepted = subst (λ (x : OrderTable). Accepted (order_of x)) (sym e) (order-accepted t ok k)

  module _ (b : Table) (m : Tabled last_due (order_of o) b) where
    pub along-fine : Fine b
    along-fine = fine_of (order_of o) b m ((accepted-iff (order_of o)).0 along-accepted)

    pub along-least : (z : ℤ) → z ≡ bound_at last_due (least_reach_of b) → z ≡ least_along (estimate_of t) k
    unfolding least_lateness
    along-least z is =
        is
        ∙ (ap (bound_at last_due) (sym (reach-same (order_of o) b m))
        ∙ ap least_lateness (ap order_of e ∙ order_is t ok k))
