-- A refusal of an order carries at most 48, the number of one of its jobs or processors; one of a table of needs a length, or a place
-- in the list.
use Rattle.std.specs.Prelude.{Result, Err}
use Prim.Native.Nat.{ℕ, suc, ◌+◌, ◌/◌, ◌≤◌}
use mathlib.Core.Path.{◌≡◌, refl, subst}
use mathlib.Core.Bool.{Bool, true, false, cond, not}
use mathlib.Core.List.{List, [], ◌∷◌, ◌++◌}
use native.Mathlib.Omega.{arith}
use lib.Dec.{ltb, eqb}
use lib.IntN.{ℤ}
use lib.ListN.{length}
use Rattle.order.specs.Order.{Order, processor_count, job_count}
use Rattle.order.specs.Refusals.{
  Limits,
  limits,
  TableRow,
  Verdict,
  accepted,
  refused,
  holds,
  verdict_of,
  judge,
  answer_by,
  row,
  whole,
  first_after,
  count_rows,
  job_rows,
  order_rows,
  bound_in_range,
  bound_row,
}
use Rattle.order.proofs.RefusalLaws.{judge-accepted-append, judge-refused-append, counts-in-limits, accepted-iff}
use Rattle.order.specs.Table.{refusal_told, carried_by}
use Rattle.order.specs.declared.Order.{Order as OrderTable}
use Rattle.order.specs.declared.Refusal.{Refusal}
use Rattle.order_file.specs.File.{good_file, order_in, read_rows, file_length, write_rows}
use Rattle.order_file.specs.ReaderLaws.{reader-refused}
use Rattle.order_file.specs.Told.{read_told}
use Rattle.plan.specs.Check.{check_rows}
use Rattle.profile.specs.Search.{reason_of}
use Rattle.reason.specs.declared.Why.{Why}
use Rattle.sentence.specs.Handed.{handed}
use Rattle.sentence.specs.Line.{composed}
use Rattle.sentence.specs.Told.{compose_rows, read_rows as line_rows}
use Rattle.book.specs.Book.{over_booked}
use Rattle.needs.specs.NeedTable.{every_length, table_rows, need_rows}
use Rattle.needs.specs.SmallestLaws.{every-length}
use Rattle.estimate.specs.Estimate.{Estimate, estimated_rows, estimate_rows}
use Rattle.sums.specs.Lists.{tabulate}
use Rattle.sums.specs.Places.{length-tabulate}
use Rattle.wrap.specs.FrameAt.{Times}
use Rattle.timed.specs.Changes.{timed_rows_asked}
use Rattle.timed.specs.Times.{minute_in_range, window_good, ready_row, window_row}
use Rattle.timed.specs.Rows.{asked_rows, earlier_timed, timed_rows, none_timed, most_timed_rows, timed_check_rows}
use Rattle.highboyrobin.specs.NeedCalls.{most_lengths}
use Rattle.planner.specs.Rows.{rows_asked, is_found, least_rows, earlier_rows, plan_rows, booked_least_rows, booked_plan_rows}

-- a refusal carries what its verdict carries
pub carried-few : (v w : Verdict) → v ≡ w → carried_by v ≤ 48 → carried_by w ≤ 16777215
carried-few v w e h = subst (λ (v : Verdict). carried_by v ≤ 16777215) e (omega arith)

-- a row about no single job carries 0
pub whole_carries : (number most : ℕ) (b : Bool) (rows : List TableRow) → carried_by (judge rows) ≤ most →
    carried_by (judge (row number (whole b) ∷ rows)) ≤ most
unfolding judge
whole_carries number most true rows h = omega arith
whole_carries number most false rows h = h

-- a row about single jobs carries one of them
first-carries : {A : Type 0} (number k most : ℕ) (test : A → Bool) (xs : List A) (later : Verdict) → length xs + k ≤ most →
    carried_by later ≤ most → carried_by (verdict_of number (first_after k test xs) later) ≤ most
unfolding first_after
first-carries number k most test [] later h l = l
first-carries number k most test (x ∷ xs) later h l =
    at (test x) (first-carries number (suc k) most test xs later (omega arith) l)
  where
    at : (b : Bool) → carried_by (verdict_of number (first_after (suc k) test xs) later) ≤ most →
        carried_by (verdict_of number (cond b (holds (suc k)) (first_after (suc k) test xs)) later) ≤ most
    at true q = omega arith
    at false q = q

job-carries : (o : Order) → job_count o ≤ 48 → carried_by (judge (job_rows o)) ≤ 48
unfolding judge
job-carries o h =
    first-carries 5 0 48 _ o.jobs _ (omega arith)
    (first-carries 6 0 48 _ o.jobs _ (omega arith)
    (first-carries 13 0 48 _ o.jobs _ (omega arith) (first-carries 7 0 48 _ o.jobs _ (omega arith) (omega arith))))

none-carries : carried_by (judge []) ≤ 48
unfolding judge
none-carries = omega arith

pub count-carries : (most : Limits) (processors jobs : ℕ) → carried_by (judge (count_rows most processors jobs)) ≤ 48
count-carries most processors jobs =
    whole_carries 1 48 (eqb processors 0) _ (whole_carries most.over_processors 48 (ltb most.processors processors) _
    (whole_carries 3 48 (eqb jobs 0) _ (whole_carries most.over_jobs 48 (ltb most.jobs jobs) [] none-carries)))

-- one table after another
append-carries : (rows later : List TableRow) → carried_by (judge rows) ≤ 48 → carried_by (judge later) ≤ 48 →
    carried_by (judge (rows ++ later)) ≤ 48
append-carries rows later h l = decided (judge rows) refl
  where
    decided : (v : Verdict) → judge rows ≡ v → carried_by (judge (rows ++ later)) ≤ 48
    decided accepted e = rw (judge-accepted-append rows later e) l
    decided (refused n j) e = rw (judge-refused-append rows later n j e) (rw e at h)

-- rows after those of the counts, where these leave at most 48 jobs
counted-carries : (processors jobs : ℕ) (later : List TableRow) → (jobs ≤ 48 → carried_by (judge later) ≤ 48) →
    carried_by (judge (count_rows limits processors jobs ++ later)) ≤ 48
counted-carries processors jobs later h = decided (judge counts) refl
  where
    counts : List TableRow
    counts = count_rows limits processors jobs

    decided : (v : Verdict) → judge counts ≡ v → carried_by (judge (counts ++ later)) ≤ 48
    decided accepted e = rw (judge-accepted-append counts later e) (h (counts-in-limits processors jobs e).3)
    decided (refused n j) e = rw (judge-refused-append counts later n j e) (rw e at (count-carries limits processors jobs))

order-carries : (o : Order) → carried_by (judge (order_rows limits o)) ≤ 48
order-carries o = counted-carries (processor_count o) (job_count o) (job_rows o) (job-carries o)

pub read-carries : (f : List ℕ) → carried_by (judge (read_rows f)) ≤ 48
unfolding read_rows
read-carries f = whole_carries 12 48 (not (good_file f)) _ (order-carries (order_in f))

-- the reader's refusal carries few
pub reader_carries : (f : List ℕ) (r : Result OrderTable Refusal) → read_told r ≡ answer_by (judge (read_rows f)) (order_in f) →
    (why : Refusal) → r ≡ Err why → carried_by (refusal_told why) ≤ 16777215
reader_carries f r e why is = carried-few _ _ (reader-refused f r e why is) (read-carries f)

pub least-carries : (o : Order) (n : ℕ) → carried_by (judge (least_rows o n)) ≤ 48
unfolding least_rows
least-carries o n = append-carries (order_rows limits o) _ (order-carries o)
    (whole_carries 9 48 (ltb (n / 4) (rows_asked o)) [] none-carries)

pub plan-carries : (o : Order) (bound : ℤ) (n : ℕ) → carried_by (judge (plan_rows o bound n)) ≤ 48
unfolding plan_rows earlier_rows
plan-carries o bound n =
    append-carries (earlier_rows o bound n) _
    (append-carries (order_rows limits o) _ (order-carries o)
    (whole_carries 8 48 (not (bound_in_range bound)) _ (whole_carries 9 48 (ltb (n / 4) (rows_asked o)) [] none-carries)))
    (whole_carries 10 48 (is_found (reason_of o bound)) [] none-carries)

pub least-book-carries : (o : Order) (n : ℕ) (counts : List ℕ) → carried_by (judge (booked_least_rows o n counts)) ≤ 48
least-book-carries o n counts =
    append-carries (least_rows o n) _ (least-carries o n) (whole_carries 14 48 (over_booked o counts) [] none-carries)

pub plan-book-carries : (o : Order) (bound : ℤ) (n : ℕ) (counts : List ℕ) → carried_by (judge (booked_plan_rows o bound n counts)) ≤ 48
plan-book-carries o bound n counts =
    append-carries (plan_rows o bound n) _ (plan-carries o bound n) (whole_carries 14 48 (over_booked o counts) [] none-carries)

pub check-carries : (o : Order) (bound : ℤ) (n : ℕ) → carried_by (judge (check_rows o bound n)) ≤ 48
unfolding check_rows
check-carries o bound n =
    append-carries (order_rows limits o) _ (order-carries o)
    (whole_carries 8 48 (not (bound_in_range bound)) _ (whole_carries 11 48 (ltb 3024 ((n + 3) / 4)) [] none-carries))

pub write-carries : (o : Order) (n : ℕ) → carried_by (judge (write_rows o n)) ≤ 48
unfolding write_rows
write-carries o n =
    append-carries (order_rows limits o) _ (order-carries o) (whole_carries 9 48 (ltb n (file_length o)) [] none-carries)

pub compose-carries : (o : Order) (bound : ℤ) (why : Why) (n : ℕ) → carried_by (judge (compose_rows o bound why n)) ≤ 48
unfolding compose_rows
compose-carries o bound why n =
    append-carries (order_rows limits o) _ (order-carries o)
    (whole_carries 8 48 (not (bound_in_range bound)) _
    (whole_carries 9 48 (ltb n (length (composed o bound (handed o why)))) [] none-carries))

pub back-carries : (o : Order) (bound : ℤ) → carried_by (judge (line_rows o bound)) ≤ 48
unfolding line_rows
back-carries o bound =
    append-carries (order_rows limits o) _ (order-carries o) (whole_carries 8 48 (not (bound_in_range bound)) [] none-carries)

-- one table after another, where the first accepts
then-carries : (rows later : List TableRow) → carried_by (judge rows) ≤ 48 →
    (judge rows ≡ accepted → carried_by (judge later) ≤ 48) → carried_by (judge (rows ++ later)) ≤ 48
then-carries rows later h l = decided (judge rows) refl
  where
    decided : (v : Verdict) → judge rows ≡ v → carried_by (judge (rows ++ later)) ≤ 48
    decided accepted e = rw (judge-accepted-append rows later e) (l e)
    decided (refused n j) e = rw (judge-refused-append rows later n j e) (rw e at h)

-- 15 carries a job and 16 a processor
times-carries : (o : Order) (bound : ℤ) (t : Times) → job_count o ≤ 48 → processor_count o ≤ 16 →
    carried_by (judge (ready_row o t ∷ window_row o t ∷ bound_row bound ∷ [])) ≤ 48
unfolding judge
times-carries o bound t jobs processors =
    first-carries 15 0 48 (λ j. not (minute_in_range (t.ready j))) (tabulate (job_count o) suc) _
    (omega (arith, length-tabulate (job_count o) suc))
    (first-carries 16 0 48 (λ i. not (window_good (t.opens i) (t.closes i))) (tabulate (processor_count o) suc) _
    (omega (arith, length-tabulate (processor_count o) suc))
    (whole_carries 8 48 (not (bound_in_range bound)) [] none-carries))

pub asked-carries : (o : Order) (bound : ℤ) (t : Times) → carried_by (judge (asked_rows o bound t)) ≤ 48
unfolding asked_rows
asked-carries o bound t =
    then-carries (order_rows limits o) (ready_row o t ∷ window_row o t ∷ bound_row bound ∷ []) (order-carries o)
    (λ e. times-carries o bound t ((accepted-iff o).0 e).few-jobs ((accepted-iff o).0 e).few-processors)

pub timed-carries : (o : Order) (bound : ℤ) (t : Times) (n : ℕ) → carried_by (judge (timed_rows o bound t n)) ≤ 48
unfolding earlier_timed timed_rows
timed-carries o bound t n =
    append-carries (earlier_timed o bound t n) _
    (append-carries (asked_rows o bound t) _ (asked-carries o bound t)
    (whole_carries 9 48 (ltb (n / 4) (timed_rows_asked o bound t)) [] none-carries))
    (whole_carries 10 48 (none_timed o bound t) [] none-carries)

pub timed-check-carries : (o : Order) (bound : ℤ) (t : Times) (n : ℕ) → carried_by (judge (timed_check_rows o bound t n)) ≤ 48
unfolding timed_check_rows
timed-check-carries o bound t n =
    append-carries (asked_rows o bound t) _ (asked-carries o bound t)
    (whole_carries 11 48 (ltb most_timed_rows ((n + 3) / 4)) [] none-carries)

-- 17 and 18 carry a length and 5 a place
pub needs-carries : (table listed : List ℕ) (lent : ℕ) → length listed ≤ most_lengths →
    carried_by (judge (need_rows table listed lent)) ≤ most_lengths
unfolding judge need_rows table_rows
needs-carries table listed lent h =
    first-carries 17 0 most_lengths _ every_length _ (omega (arith, every-length))
    (first-carries 18 0 most_lengths _ every_length _ (omega (arith, every-length))
    (first-carries 5 0 most_lengths _ listed _ (omega arith)
    (whole_carries 9 most_lengths (ltb lent (length listed)) [] (omega arith))))

estimated-carries : (e : Estimate) → length e.jobs ≤ 48 → carried_by (judge (estimated_rows e)) ≤ 48
unfolding judge
estimated-carries e h =
    first-carries 5 0 48 _ e.jobs _ (omega arith)
    (first-carries 6 0 48 _ e.jobs _ (omega arith)
    (first-carries 13 0 48 _ e.jobs _ (omega arith)
    (first-carries 19 0 48 _ e.jobs _ (omega arith) (first-carries 7 0 48 _ e.jobs _ (omega arith) (omega arith)))))

-- an estimate's rows carry a job of it
pub estimate-carries : (e : Estimate) → carried_by (judge (estimate_rows limits e)) ≤ 48
unfolding estimate_rows
estimate-carries e = counted-carries (length e.memories) (length e.jobs) (estimated_rows e) (estimated-carries e)
