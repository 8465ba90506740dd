-- Due times that fit are chosen from the jobs' due times and never rise, and the other way round.
use Rattle.std.specs.Prelude.{List, ℤ}
use Rattle.order.specs.Order.{Order}
use Rattle.order.specs.Sorted.{due_times}
use Rattle.profile.proofs.Ranking.{Chosen}
use Rattle.sentence.specs.Inside.{StepsFit}

module _ (o : Order) (dues : List ℤ) where
  pub steps-chosen : StepsFit o dues → Chosen (due_times o) dues
  steps-chosen h = record { never-rise = h.falls; members = h.due }

  pub chosen-steps : Chosen (due_times o) dues → StepsFit o dues
  chosen-steps c = record { due = c.members; falls = c.never-rise }
