-- What the searches of acceptance find, said of the order: the first job, and a memory that suffices.
use Rattle.std.specs.Prelude.{ℕ, ◌≡◌, refl, Bool, true, false, List, [], ◌∷◌, leb}
use Rattle.std.specs.List.{list_any}
use Rattle.sums.specs.Lists.{tabulate}
use Rattle.order.specs.Order.{Job}
use Rattle.order.specs.Refusals.{first, fits_some}
use Rattle.order.specs.Table.{job_at, order_of}
use Rattle.order.proofs.FindingLaws.{first-agree}
use Rattle.order.specs.declared.Order.{Order as OrderTable}

-- the first place whose job a test finds is that of the first such job
pub first-job : (test : Job → Bool) (t : OrderTable) →
    first (λ (j : ℕ). test (job_at t j)) (tabulate t.jobs (λ j. j)) ≡ first test (order_of t).jobs
first-job test t = first-agree (λ (j : ℕ). test (job_at t j)) test t.jobs (λ j. j) (job_at t) (λ j. refl)

-- some memory suffices
pub fits_some-any : (need : ℕ) (memories : List ℕ) → list_any (λ m. leb need m) memories ≡ fits_some need memories
unfolding fits_some
fits_some-any need [] = refl
fits_some-any need (m ∷ ms) = go (leb need m) refl (fits_some-any need ms)
  where
    go : (b : Bool) → leb need m ≡ b → list_any (λ x. leb need x) ms ≡ fits_some need ms →
        list_any (λ x. leb need x) (m ∷ ms) ≡ fits_some need (m ∷ ms)
    go true e r = rw e refl
    go false e r = rw e r
