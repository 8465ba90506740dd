-- Document 02, §8: "For every order the least lateness, reasons .. are equal to those of the input-order table."
use Rattle.std.specs.Prelude.{ℕ, ◌≡◌, ℤ}
use Rattle.std.proofs.Math.Path.{sym}
use Rattle.std.proofs.Common.{ap, ◌∙◌}
use Rattle.order.specs.Order.{Order}
use Rattle.order.specs.Lead.{bound_at, reach_at, last_due}
use Rattle.order.specs.Refusals.{Accepted}
use Rattle.order.proofs.RefusalLaws.{accepted-iff}
use Rattle.table.specs.Held.{by_place}
use Rattle.table.specs.HeldLaws.{input-read}
use Rattle.table.specs.Tabled.{Tabled, InInputOrder}
use Rattle.table.specs.declared.Table.{Table}
use Rattle.reason.specs.Asked.{owes_by, least_reach_of, told_of, told_in_order}
use Rattle.reason.specs.Matching.{owes_same, reach-same}
use Rattle.reason.specs.Telling.{told_is, told-from}

module _ (o : Order) (t u : Table) (m : Tabled last_due o t) (i : InInputOrder last_due o u) where
  -- the minutes that the jobs of class k owe by the time of the lead g
  pub owed_same : (k g : ℕ) → owes_by t k g ≡ owes_by u k g
  unfolding owes_by
  owed_same k g = sym (owes_same o t m k g) ∙ owes_same o u i k g

  pub least-same : bound_at last_due (least_reach_of t) ≡ bound_at last_due (least_reach_of u)
  least-same = ap (bound_at last_due) (sym (reach-same o t m) ∙ reach-same o u i)

  -- the job over its end is the first in input order, with its time; the staircase is the same
  pub reason-same : Accepted o → (bound : ℤ) → told_of t (reach_at last_due bound) ≡ told_in_order u (reach_at last_due bound)
  reason-same ok bound =
      let a = (accepted-iff o).0 ok in
      told_is o t m a bound ∙ sym (told-from o u i (by_place u) (input-read o u i) a bound)
