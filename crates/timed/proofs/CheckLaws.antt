-- The timed check says yes to right plans that keep the times and to no others. `is_right_timed` computes whether lent numbers are the rows
-- of one; where nothing is refused of the order, the times and the bound, the check answers of at most 8,064 rows what it computes.
use Rattle.std.specs.Prelude.{ℕ, ◌+◌, ◌/◌, ◌%◌, ◌*◌, ◌≤◌, ◌≡◌, Bool, true, false, ◌&&◌, List, [], ◌∷◌, ◌↔◌, leb, ℤ, length}
use Rattle.std.proofs.Common.{sym, ◌∙◌, arith, leb-true, le-leb, le-ltb}
use Rattle.std.proofs.Math.Path.{ap}
use Rattle.sums.specs.Members.{All-map}
use Rattle.order.specs.Order.{Order}
use Rattle.order.specs.Refusals.{judge, accepted, Accepted, rows_up_to_row, answer, answer_by}
use Rattle.order.proofs.RefusalLaws.{both_true, judge-accepted-append}
use Rattle.plan.specs.Plan.{Row}
use Rattle.plan.specs.Check.{rows_of, every, is_right}
use Rattle.plan.proofs.CheckLaws.{right-numbers, numbers-right, malformed-no, empty-no}
use Rattle.plan.specs.EveryLaws.{every_true, true-every}
use Rattle.plan.specs.NumberLaws.{rows-of-numbers}
use Rattle.wrap.specs.FrameAt.{Times, InWindows}
use Rattle.timed.specs.Check.{TimedNumbers, in_times, is_right_timed}
use Rattle.timed.specs.Rows.{asked_rows, most_timed_rows, timed_check_rows}

-- a row keeps the times exactly if the test says so
module _ (t : Times) where
  in-times-of : (r : Row) → in_times t r ≡ true →
      (1 * t.ready r.job ≤ r.from) × (1 * t.opens r.processor ≤ r.from) × (r.to ≤ 1 * t.closes r.processor)
  in-times-of r e =
      let a = both_true (leb (t.ready r.job) r.from)
      (leb (t.opens r.processor) r.from && leb r.to (t.closes r.processor)) e in
      let b = both_true (leb (t.opens r.processor) r.from) (leb r.to (t.closes r.processor)) a.1 in (
        omega (arith, leb-true (t.ready r.job) r.from a.0),
        omega (arith, leb-true (t.opens r.processor) r.from b.0),
        omega (arith, leb-true r.to (t.closes r.processor) b.1),
      )

  of-in-times : (r : Row) →
      (1 * t.ready r.job ≤ r.from) × (1 * t.opens r.processor ≤ r.from) × (r.to ≤ 1 * t.closes r.processor) →
      in_times t r ≡ true
  of-in-times r h =
      rw (
        le-leb (t.ready r.job) r.from (omega (arith, h.0)),
        le-leb (t.opens r.processor) r.from (omega (arith, h.1)),
      )
      (le-leb r.to (t.closes r.processor) (omega (arith, h.2)))

  windows-of : (rows : List Row) → every (in_times t) rows ≡ true → InWindows 1 t rows
  windows-of rows e = All-map _ _ rows in-times-of (every_true (in_times t) rows e)

  of-windows : (rows : List Row) → InWindows 1 t rows → every (in_times t) rows ≡ true
  of-windows rows h = true-every (in_times t) rows (All-map _ _ rows of-in-times h)

module _ (o : Order) (bound : ℤ) (t : Times) (numbers : List ℕ) where
  timed-numbers : is_right_timed o bound t numbers ≡ true → TimedNumbers o bound t numbers
  unfolding is_right_timed
  timed-numbers e =
      let h = both_true (is_right o bound numbers) (every (in_times t) (rows_of numbers)) e in
      let n = right-numbers o bound numbers h.0 in
      let same : rows_of numbers ≡ n.rows = ap rows_of n.are ∙ rows-of-numbers n.rows in
      record {
        rows = n.rows;
        are = n.are;
        right = (n.right, windows-of t n.rows (ap (every (in_times t)) (sym same) ∙ h.1));
      }

  numbers-timed : TimedNumbers o bound t numbers → is_right_timed o bound t numbers ≡ true
  unfolding is_right_timed
  numbers-timed n =
      let same : rows_of numbers ≡ n.rows = ap rows_of n.are ∙ rows-of-numbers n.rows in
      rw (numbers-right o bound numbers (record { rows = n.rows; are = n.are; right = n.right.0 }))
      (ap (every (in_times t)) same ∙ of-windows t n.rows n.right.1)

-- the definition answers true exactly for the numbers of a right plan that keeps the times, however many
pub timed-yes : (o : Order) (bound : ℤ) (t : Times) (numbers : List ℕ) →
    (is_right_timed o bound t numbers ≡ true) ↔ TimedNumbers o bound t numbers
timed-yes o bound t numbers = (timed-numbers o bound t numbers, numbers-timed o bound t numbers)

-- where nothing is refused of the order, the times and the bound, at most 8,064 rows are checked
pub timed-check-judges : (o : Order) (bound : ℤ) (t : Times) (n : ℕ) → judge (asked_rows o bound t) ≡ accepted → n ≤ 32256 →
    judge (timed_check_rows o bound t n) ≡ accepted
unfolding timed_check_rows judge
timed-check-judges o bound t n ok l =
    judge-accepted-append (asked_rows o bound t) (rows_up_to_row most_timed_rows n ∷ []) ok
    ∙ rw (le-ltb 8064 ((n + 3) / 4) (omega arith))

said : (a b : Bool) → answer a ≡ answer b → a ≡ b
said a b e = cc

-- for these the timed check says yes to right plans that keep the times and to no others
pub timed-check-yes : (o : Order) (bound : ℤ) (t : Times) (numbers : List ℕ) → judge (asked_rows o bound t) ≡ accepted →
    length numbers ≤ 32256 →
    (answer_by (judge (timed_check_rows o bound t (length numbers))) (is_right_timed o bound t numbers) ≡ answer true)
    ↔ TimedNumbers o bound t numbers
timed-check-yes o bound t numbers ok l =
    let e = timed-check-judges o bound t (length numbers) ok l in (
      (λ h. timed-numbers o bound t numbers (said _ _ (rw e at h))),
      λ n. rw e (ap answer (numbers-timed o bound t numbers n)),
    )

-- numbers that leave a row unfinished are answered no
pub timed-malformed-no : (o : Order) (bound : ℤ) (t : Times) (numbers : List ℕ) → ¬ (length numbers % 4 ≡ 0) →
    is_right_timed o bound t numbers ≡ false
unfolding is_right_timed
timed-malformed-no o bound t numbers h = rw (malformed-no o bound numbers h)

-- an empty list is answered no
pub timed-empty-no : (o : Order) (bound : ℤ) (t : Times) → Accepted o → is_right_timed o bound t [] ≡ false
unfolding is_right_timed
timed-empty-no o bound t a = rw (empty-no o bound a)
