-- How a call with highs comes to its verdict: the answer's room, the file, the list's length and the counts, then the entry point.
use Rattle.std.specs.Prelude.{Ok, Err}
use Prim.Native.Nat.{ℕ, ◌≤◌}
use mathlib.Core.Path.{◌≡◌, refl, ap, ◌∙◌}
use mathlib.Core.List.{List, [], ◌∷◌, ◌++◌, append_assoc}
use borrow.Author.Tests.{ltb-false}
use lib.ListN.{length, get_or}
use Rattle.sums.specs.Lists.{All}
use Rattle.sums.specs.Places.{length-tabulate}
use Rattle.order.specs.Order.{no_job, processor_count, job_count}
use Rattle.order.specs.Refusals.{limits, clear, TableRow, Verdict, accepted, refused, judge, file_row, count_rows}
use Rattle.order.proofs.RefusalLaws.{judge-accepted, judge-clear, judge-refused-append, whole-clear}
use Rattle.order_file.specs.File.{good_file, order_in}
use Rattle.estimate.specs.Estimate.{estimated_rows, estimate_rows}
use Rattle.estimate.specs.Told.{estimated_job, estimate_of}
use Rattle.estimate.specs.declared.Estimate.{Estimate as EstimateTable}
use Rattle.highboyrobin.specs.BetweenCalls.{estimate_in, wrong_highs_row, between_call, EstimateBy}
use Rattle.highboyrobin.specs.Results.{result_of, answer_row}
use Rattle.highboyrobin.proofs.StatusTold.{status-refused, status-read}

-- the estimate's rows begin with those of the file's counts
pub rows-begin : (f highs : List ℕ) →
    estimate_rows limits (estimate_in f highs)
    ≡ count_rows limits (processor_count (order_in f)) (job_count (order_in f)) ++ estimated_rows (estimate_in f highs)
unfolding estimate_rows
rows-begin f highs =
    rw (length-tabulate (job_count (order_in f)) (λ j. estimated_job (get_or (order_in f).jobs j no_job) (get_or highs j 0)))

pub order-rows-begin : (f highs : List ℕ) (nine : TableRow) →
    estimate_rows limits (estimate_in f highs) ++ (nine ∷ [])
    ≡ count_rows limits (processor_count (order_in f)) (job_count (order_in f)) ++ (estimated_rows (estimate_in f highs) ++ (nine ∷ []))
order-rows-begin f highs nine =
    ap (λ (rows : List TableRow). rows ++ (nine ∷ [])) (rows-begin f highs)
    ∙ append_assoc (count_rows limits (processor_count (order_in f)) (job_count (order_in f))) (estimated_rows (estimate_in f highs)) (nine ∷ [])

module _ (lent asked : ℕ) (f highs : List ℕ) where
  abbrev counted : List TableRow
  counted = count_rows limits (processor_count (order_in f)) (job_count (order_in f))

  abbrev call : List TableRow → List TableRow
  call rows = between_call lent asked f highs rows

  abbrev read : Verdict
  read = judge (between_call lent asked f highs (count_rows limits (processor_count (order_in f)) (job_count (order_in f))))

  call-append : (rows later : List TableRow) → call (rows ++ later) ≡ call rows ++ later
  unfolding between_call
  call-append rows later = refl

  -- what is refused by the first rows is the call's, since its rows begin with those of the counts
  pub between-refused : (result : ℕ) → EstimateBy read f highs (Err result) → (rows later : List TableRow) →
      rows ≡ count_rows limits (processor_count (order_in f)) (job_count (order_in f)) ++ later →
      (k : ℕ) × (c : ℕ) × (judge (between_call lent asked f highs rows) ≡ refused k c) × (result ≡ result_of (refused k c))
  between-refused result h rows later begins =
      let w = status-refused read (Err result) _ h result refl in (
        w.0,
        w.1,
        ap (λ (xs : List TableRow). judge (call xs)) begins ∙ ap judge (call-append counted later)
            ∙ judge-refused-append (call counted) later w.0 w.1 w.2,
        w.3,
      )

  module _ (r : EstimateTable) (h : EstimateBy read f highs (Ok r)) where
    accepts : (read ≡ accepted) × (estimate_of r ≡ estimate_in f highs)
    accepts = status-read read (Ok r) _ h r refl

    pub between-estimate : estimate_of r ≡ estimate_in f highs
    between-estimate = accepts.1

    all-clear : All (λ (x : TableRow). x.finding ≡ clear) (call counted)
    all-clear = (judge-accepted (call counted)).0 accepts.0

    -- the entry point's rows decide
    pub between-read : (rows : List TableRow) → judge (between_call lent asked f highs rows) ≡ judge rows
    unfolding between_call
    between-read rows =
        judge-clear (answer_row lent asked ∷ file_row (good_file f) ∷ wrong_highs_row (order_in f) (length highs) ∷ []) rows
        (all-clear.0, (all-clear.1.0, (all-clear.1.1.0, tt)))

    pub between-room : asked ≤ lent
    unfolding between_call
    between-room = ltb-false lent asked (whole-clear _ all-clear.0)
