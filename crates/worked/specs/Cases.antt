-- Document 01's cases with a ●, the lines of document 02, §1, joined rows of §2, ends of §3, makers and books of §4, ready minutes and
-- windows of §5, classes passed of §6, needs of §7, jobs as they lie of §8, times between of §9, a screen's orders of §10, a register block
-- of §11, and more: one table, and one theorem that every case holds of the definitions.
use Rattle.std.specs.Prelude.{ℕ, zero, suc, ◌+◌, ◌*◌, ◌-◌, ◌≤◌, ◌≡◌, refl, Bool, true, false, List, [], ◌∷◌, ◌++◌, map, ltb, ℤ, pos, neg_ℤ, length, get_or}
use Prim.Native.String.{String}
use Rattle.std.proofs.Common.{sym, ap, ◌∙◌, subst, true≢false, arith, ltb-true, lt-ltb, le-ltb}
use Rattle.std.proofs.Math.Decide.{dec_lt}
use Rattle.sums.specs.Sum.{sum, sum-cong}
use Rattle.sums.specs.Gate.{gate, gate-in, gate-out}
use Rattle.sums.specs.Lists.{All, nth, only, tabulate}
use Rattle.order.specs.Order.{Order, processor_count, job_count, no_job}
use Rattle.order.specs.Class.{classes, processors_in}
use Rattle.order.specs.Refusals.{limits, screen, Verdict, accepted, refused, judge, left_by, order_rows, Accepted}
use Rattle.order.specs.Callers.{rows_for}
use Rattle.order.specs.declared.Caller.TheVariants.{Screen}
use Rattle.order.specs.Table.{padded}
use Rattle.order_file.specs.Bytes.{bytes4, bytes2, pattern}
use Rattle.order_file.specs.File.{order_in, file_of}
use Rattle.registers.specs.Registers.{
  Registers,
  read_at,
  all_zero,
  begun,
  finished_with,
  refused_with,
  acknowledged,
  allowing,
  storing,
  least_table,
  bound_table,
}
use Rattle.book.specs.Calls.{judged_with, given_back}
use Rattle.needs.specs.NeedTable.{most_lines, counted, need_rows, needs_of}
use Rattle.needs.specs.Deciding.{stopped, decide, decided}
use Rattle.planner.specs.Rows.{plan_rows}
use Rattle.planner.specs.Booked.{Booking, least as at_least, bound as at_bound, call_of, book_of}
use Rattle.plan.specs.Plan.{Row, Right}
use Rattle.plan.specs.Join.{joined}
use Rattle.plan.specs.IsLeast.{IsLeast}
use Rattle.plan.specs.Check.{numbers_of, rows_of, is_right}
use Rattle.plan.proofs.CheckLaws.{is_right-iff}
use Rattle.plan.specs.NumberLaws.{rows-of-numbers}
use Rattle.profile.specs.Reason.{Reason, over_end, stairs, IsReason, Stands, owed_of, on_hand_of}
use Rattle.profile.specs.Search.{Found, nothing, found, reason_of}
use Rattle.profile.proofs.ReasonLaws.{reason-found}
use Rattle.profile.specs.Standing.{is_standing}
use Rattle.profile.proofs.StandingLaws.{standing-is}
use Rattle.text.specs.Text.{ascii}
use Rattle.sentence.specs.Line.{composed, read_back}
use Rattle.sentence.specs.LineLaws.{reads-to}
use Rattle.profile.specs.Least.{least_lateness}
use Rattle.wrap.specs.Stretches.{mark}
use Rattle.wrap.specs.Layout.{stretch_rows, layout}
use Rattle.wrap.specs.Ending.{ends_with}
use Rattle.wrap.specs.Frame.{layout_in}
use Rattle.wrap.specs.FrameAt.{Times, RightTimed, timed-in}
use Rattle.wrap.specs.FrameFlow.{flow_in}
use Rattle.amounts.specs.Flow.{Flow, covered, left, right, feasible-no-cut}
use Rattle.feasible.specs.FramePlan.{plan-amounts-in}
use Rattle.table.specs.Held.{number_at}
use Rattle.table.specs.Passed.{passed}
use Rattle.timed.specs.Changes.{change_count, timed_frame, timed_rows_asked}
use Rattle.timed.proofs.ChangeLaws.{timed-framed}
use Rattle.timed.specs.Rows.{earlier_timed}
use Rattle.timed.specs.Check.{is_right_timed}
use Rattle.timed.proofs.CheckLaws.{timed-yes}
use Rattle.feasible.specs.Least.{is-least}
use Rattle.estimate.specs.Estimate.{Estimate, least_at_lows, least_at_highs, path_length, first_met, estimate_rows}
use Rattle.estimate.specs.Request.{least_along}
use Rattle.worked.specs.Orders.{
  A,
  B,
  C,
  D,
  need_zero,
  overdue,
  two_overfull,
  two_late,
  on_top,
  chain,
  wraps,
  shared,
  of_maker,
  nine_jobs,
  two_early,
  ties,
  two_and_two,
  one_class,
  late_last,
  two_apart,
  too_large,
}

-- amounts by job, and for each job by stretch
abbrev pub amounts_of : List (List ℕ) → ℕ → ℕ → ℕ
amounts_of amounts j s = get_or (nth amounts j []) s 0

-- the job that each processor ends stretch s with
abbrev pub ending_jobs : Order → ℤ → (ℕ → ℕ → ℕ) → ℕ → List ℕ
ending_jobs o bound a s =
    tabulate (processor_count o) (λ i. ends_with (stretch_rows o bound a s) (mark o bound (suc s)) (suc i))

-- the classes and the processors of each after each processor passed
abbrev pub listings_of : Order → List (List ℕ × List ℕ)
listings_of o =
    tabulate (processor_count o)
    (λ k. (classes (passed o (suc k)), tabulate (length (classes (passed o (suc k)))) (λ i. processors_in (passed o (suc k)) (suc i))))

-- a lent buffer that holds 7 in every place before
abbrev pub sevens : ℕ → List ℕ
sevens lent = tabulate lent (λ _. 7)

-- a case: a least lateness; a reason at a bound with its minutes owed and on hand; a plan and whether it is right; the line of a reason,
-- and a reason that does not stand; amounts with their layout and its joined rows; rows and the joined ones; amounts, a stretch and the
-- job that each processor ends it with; what an order is refused with; its file; a booked call with the counts handed in, what its table
-- answers, and the counts given back; the counts after booked calls from opening on; of an order with times the number of its changes and
-- of the rows asked for, what is refused before 10 with a buffer of so many numbers, a plan that keeps the times and one that does not,
-- amounts with their joined rows, and that there is no plan, by what each stretch's classes have at most; the classes and the processors
-- of each after each processor passed; a table of needs with a list and room for so many needs, what it is judged as, and what the room
-- holds then; the numbers of the jobs as they lie; of an estimate the least lateness at all lows and at all highs with those along the
-- path, the times first met with a number or that none are, and what it is judged as; what a dock and what a screen is told of an order;
-- what a screen is told that asks for a plan at a bound with a buffer of so many numbers; what a register block's order is judged as by
-- commands 1 and 2; what its bytes read from an address on
pub data Case : Type 0 where
  least_is : Order → ℤ → Case
  reason_is : Order → ℤ → Reason → ℕ → ℤ → Case
  right_is : Order → ℤ → List Row → Case
  wrong_is : Order → ℤ → List Row → Case
  line_is : Order → ℤ → Reason → String → Case
  no_line : Order → ℤ → Reason → Case
  laid_is : Order → ℤ → List (List ℕ) → List Row → List Row → Case
  joined_is : List Row → List Row → Case
  ends_is : Order → ℤ → List (List ℕ) → ℕ → List ℕ → Case
  refused_is : Order → ℕ → ℕ → Case
  file_is : Order → List ℕ → Case
  book_is : Booking → List ℕ → Verdict → List ℕ → Case
  books_are : List Booking → List ℕ → Case
  changes_are : Order → ℤ → Times → ℕ → ℕ → Case
  timed_refused_is : Order → ℤ → Times → ℕ → Verdict → Case
  timed_right_is : Order → ℤ → Times → List Row → Case
  timed_wrong_is : Order → ℤ → Times → List Row → Case
  timed_laid_is : Order → ℤ → Times → List (List ℕ) → List Row → Case
  timed_tight_is : Order → ℤ → Times → List ℕ → Case
  passes_as : Order → List (List ℕ × List ℕ) → Case
  needs_are : (table listed : List ℕ) → (lent : ℕ) → Verdict → List ℕ → Case
  lie_as : Order → List ℕ → Case
  between_is : Estimate → ℤ → ℤ → List ℤ → Case
  met_is : Estimate → ℤ → Found (List ℕ) → Case
  estimate_is : Estimate → Verdict → Case
  callers_get : Order → (wide narrow : Verdict) → Case
  screen_gets : Order → ℤ → (numbers : ℕ) → Verdict → Case
  block_judges : Registers → (at_bound at_least : Verdict) → Case
  block_reads : Registers → (address : ℕ) → List ℕ → Case

-- what a case says, in the words of the definitions
abbrev pub Holds : Case → Type 0
Holds (least_is o least) = IsLeast o least
Holds (reason_is o bound reason owes hand) =
    IsReason o bound reason × (owed_of o bound reason ≡ owes) × (on_hand_of o bound reason ≡ hand)
Holds (right_is o bound rows) = Right o bound rows
Holds (wrong_is o bound rows) = ¬ Right o bound rows
Holds (line_is o bound reason text) =
    Stands o bound reason × (composed o bound (found reason) ≡ ascii text) × (read_back o bound (ascii text) ≡ found reason)
Holds (no_line o bound reason) = (¬ Stands o bound reason) × (composed o bound (found reason) ≡ [])
Holds (laid_is o bound amounts rows plan) =
    (layout o bound (amounts_of amounts) ≡ rows) × (joined rows ≡ plan) × Right o bound plan
Holds (joined_is rows plan) = (joined rows ≡ plan) × (joined plan ≡ plan)
Holds (ends_is o bound amounts s jobs) = ending_jobs o bound (amounts_of amounts) s ≡ jobs
Holds (refused_is o number carried) = judge (order_rows limits o) ≡ refused number carried
Holds (file_is o file) = (file_of o ≡ file) × (order_in file ≡ o)
Holds (book_is call counts verdict back) = (judged_with (call_of call) counts ≡ verdict) × (given_back (call_of call) counts ≡ back)
Holds (books_are calls counts) = book_of calls ≡ counts
Holds (changes_are o bound t count rows) = (change_count o bound t ≡ count) × (timed_rows_asked o bound t ≡ rows)
Holds (timed_refused_is o bound t numbers verdict) = judge (earlier_timed o bound t numbers) ≡ verdict
Holds (timed_right_is o bound t rows) = RightTimed 1 o bound t rows
Holds (timed_wrong_is o bound t rows) = ¬ RightTimed 1 o bound t rows
Holds (timed_laid_is o bound t amounts plan) =
    (joined (layout_in o (timed_frame o bound t) (amounts_of amounts)) ≡ plan) × RightTimed 1 o bound t plan
Holds (timed_tight_is o bound t cut) = (p : ℕ) → 1 ≤ p → (rows : List Row) → ¬ RightTimed p o bound t rows
Holds (passes_as o listings) = listings_of o ≡ listings
Holds (needs_are table listed lent verdict needs) =
    (judge (need_rows table listed lent) ≡ verdict)
    × (left_by (judge (need_rows table listed lent)) (needs_of table listed) (sevens lent) ≡ needs)
Holds (lie_as o numbers) = tabulate (job_count o) (number_at o) ≡ numbers
Holds (between_is e low high along) =
    (judge (estimate_rows limits e) ≡ accepted)
    × (least_at_lows e ≡ low)
    × (least_at_highs e ≡ high)
    × (tabulate (suc (path_length e)) (least_along e) ≡ along)
Holds (met_is e number times) = (judge (estimate_rows limits e) ≡ accepted) × (first_met e number ≡ times)
Holds (estimate_is e verdict) = judge (estimate_rows limits e) ≡ verdict
Holds (callers_get o wide narrow) = (judge (order_rows limits o) ≡ wide) × (judge (order_rows screen o) ≡ narrow)
Holds (screen_gets o bound numbers verdict) = judge (rows_for Screen o (plan_rows o bound numbers)) ≡ verdict
Holds (block_judges s first second) = (judge (bound_table s) ≡ first) × (judge (least_table s) ≡ second)
Holds (block_reads s address bytes) = tabulate (length bytes) (λ i. read_at s (address + i)) ≡ bytes

-- a row: job, processor, from, to; and a row of job 1 on processor 1
abbrev row : ℕ → ℕ → ℕ → ℕ → Row
row job processor from to = record { job = job; processor = processor; from = from; to = to }

abbrev piece : ℕ → ℕ → Row
piece from to = row 1 1 from to

-- sixteen numbers: those given, and 0 beyond
abbrev sixteen : List ℕ → List ℕ
sixteen xs = padded 16 xs

-- ready minutes by job, and windows by processor
abbrev times : List ℕ → List (ℕ × ℕ) → Times
times ready windows =
    record {
      ready = λ j. nth ready j 0;
      opens = λ i. (nth windows i (0, 0)).0;
      closes = λ i. (nth windows i (0, 0)).1;
    }

-- a line of a table of needs: from length, to length, need
abbrev line : ℕ → ℕ → ℕ → List ℕ
line from to need = from ∷ to ∷ need ∷ []

-- n lines of so many lengths each, after the first k of them; the need of each is its place
abbrev parts_after : ℕ → ℕ → ℕ → List ℕ
parts_after k zero size = []
parts_after k (suc n) size = line (k * size + 1) (suc k * size) (suc k) ++ parts_after (suc k) n size

abbrev parts : ℕ → ℕ → List ℕ
parts n size = parts_after 0 n size

-- an order with a low and a high in place of each time
abbrev between : Order → (lows highs : List ℕ) → Estimate
between o lows highs =
    record {
      memories = o.memories;
      jobs = tabulate (job_count o) (λ j. record {
        low = get_or lows j 0;
        high = get_or highs j 0;
        due = (get_or o.jobs j no_job).due;
        need = (get_or o.jobs j no_job).need;
        maker = (get_or o.jobs j no_job).maker;
      });
    }

-- an order of so many processors and jobs, all alike
abbrev alike : (processors jobs time : ℕ) → Order
alike processors jobs time =
    record {
      memories = tabulate processors (λ i. 4);
      jobs = tabulate jobs (λ j. record { time = time; due = pos 9; need = 4; maker = 1 });
    }

-- minus 8 is -8
abbrev minus : ℕ → ℤ
minus n = neg_ℤ (pos n)

-- a register block into which bytes are written one after another, and one with a bound, a length, a row number and an order's file
abbrev written : ℕ → List ℕ → Registers → Registers
written address [] s = s
written address (v ∷ vs) s = written (suc address) vs (storing address v s)

abbrev asking : ℤ → (bytes number : ℕ) → Order → Registers
asking bound bytes number o =
    written 32 (file_of o) (written 10 (bytes2 number) (written 8 (bytes2 bytes) (written 4 (bytes4 (pattern bound)) all_zero)))

abbrev zeros : ℕ → List ℕ
zeros n = tabulate n (λ _. 0)

-- command 2 on C with the interrupt allowed; then command 1 at -9 with it forbidden
abbrev planned : Registers
planned = finished_with (minus 8) (row 1 1 0 3 ∷ []) (begun (allowing 255 (asking (minus 9) 32 1 C)))

abbrev too_tight : Registers
too_tight = refused_with 10 (begun (allowing 0 (acknowledged 1 planned)))

-- document 01's cases with a ●, with the ends of document 02, §3; then a reason, and plans that break one rule each beside one that
-- breaks none
abbrev pub cases : List Case
cases =
    least_is A (pos 0)
    ∷ reason_is A (minus 1) (stairs (pos 3 ∷ pos 3 ∷ [])) 7 (pos 6)
    ∷ least_is B (pos 0)
    ∷ reason_is B (minus 1) (stairs (pos 4 ∷ pos 2 ∷ [])) 8 (pos 6)
    ∷ least_is C (minus 8)
    ∷ reason_is C (minus 9) (over_end 1) 3 (pos 2)
    ∷ least_is D (minus 3)
    ∷ least_is need_zero (minus 1)
    ∷ least_is overdue (pos 5)
    ∷ right_is C (minus 1) (piece 0 1 ∷ piece 1 3 ∷ [])
    ∷ wrong_is C (minus 1) (piece 0 2 ∷ piece 1 2 ∷ [])
    -- document 02, §3: due 10 is done by the close of minute 10, and a minute later it is late
    ∷ right_is C (pos 0) (piece 8 11 ∷ [])
    ∷ wrong_is C (pos 0) (piece 9 12 ∷ [])
    -- document 02, §1: its two lines, and that of A
    ∷ line_is B (minus 1) (stairs (pos 4 ∷ pos 2 ∷ [])) "memory 8 due 4, memory 4 due 2: owed 8, on hand 6"
    ∷ line_is C (minus 9) (over_end 1) "job 1: time 3, end 2: owed 3, on hand 2"
    ∷ line_is A (minus 1) (stairs (pos 3 ∷ pos 3 ∷ [])) "memory 8 due 3, memory 4 due 3: owed 7, on hand 6"
    -- beyond them: due times where the ends are others; a negative end; of three jobs each late one has a line, the other none,
    -- and no staircase has one
    ∷ line_is D (minus 4) (stairs (pos 4 ∷ [])) "memory 8 due 4: owed 3, on hand 2"
    ∷ line_is C (minus 21) (over_end 1) "job 1: time 3, end -10: owed 3, on hand -10"
    ∷ line_is two_late (minus 1) (over_end 1) "job 1: time 3, end 1: owed 3, on hand 1"
    ∷ line_is two_late (minus 1) (over_end 3) "job 3: time 5, end 2: owed 5, on hand 2"
    ∷ no_line two_late (minus 1) (over_end 2)
    ∷ no_line two_late (minus 1) (stairs (pos 2 ∷ []))
    -- document 02, §2: a job joined over two stretches, and over three; at A's least there is nothing to join; of a job that wraps in the
    -- next stretch the joined row stands first, and its other part where the wrap puts it
    ∷ laid_is on_top (minus 1) ((2 ∷ 2 ∷ []) ∷ (2 ∷ []) ∷ []) (row 1 1 0 2 ∷ row 2 2 0 2 ∷ row 1 1 2 4 ∷ [])
    (row 1 1 0 4 ∷ row 2 2 0 2 ∷ [])
    ∷ laid_is chain (minus 1) ((2 ∷ 2 ∷ 2 ∷ []) ∷ (2 ∷ []) ∷ (0 ∷ 2 ∷ []) ∷ [])
    (row 1 1 0 2 ∷ row 2 2 0 2 ∷ row 1 1 2 4 ∷ row 3 2 2 4 ∷ row 1 1 4 6 ∷ [])
    (row 1 1 0 6 ∷ row 2 2 0 2 ∷ row 3 2 2 4 ∷ [])
    ∷ laid_is A (pos 0) ((3 ∷ []) ∷ (3 ∷ []) ∷ (1 ∷ 1 ∷ []) ∷ [])
    (row 1 1 0 3 ∷ row 2 1 3 4 ∷ row 2 2 0 2 ∷ row 3 2 2 3 ∷ row 3 1 4 5 ∷ [])
    (row 1 1 0 3 ∷ row 2 1 3 4 ∷ row 2 2 0 2 ∷ row 3 2 2 3 ∷ row 3 1 4 5 ∷ [])
    ∷ laid_is wraps (minus 1) ((2 ∷ 3 ∷ []) ∷ (2 ∷ 3 ∷ []) ∷ (1 ∷ []) ∷ [])
    (row 1 1 0 2 ∷ row 2 2 0 2 ∷ row 3 3 0 1 ∷ row 1 1 2 5 ∷ row 2 1 5 6 ∷ row 2 2 2 4 ∷ [])
    (row 1 1 0 5 ∷ row 2 2 0 4 ∷ row 3 3 0 1 ∷ row 2 1 5 6 ∷ [])
    -- a processor that rests before the stretch's end ends it with no job
    ∷ ends_is wraps (minus 1) ((2 ∷ 3 ∷ []) ∷ (2 ∷ 3 ∷ []) ∷ (1 ∷ []) ∷ []) 0 (1 ∷ 2 ∷ 0 ∷ [])
    ∷ ends_is wraps (minus 1) ((2 ∷ 3 ∷ []) ∷ (2 ∷ 3 ∷ []) ∷ (1 ∷ []) ∷ []) 1 (2 ∷ 0 ∷ 0 ∷ [])
    -- another processor, another job, and a pause are not joined
    ∷ joined_is (row 1 1 0 2 ∷ row 1 2 2 4 ∷ []) (row 1 1 0 2 ∷ row 1 2 2 4 ∷ [])
    ∷ joined_is (row 1 1 0 2 ∷ row 2 1 2 4 ∷ []) (row 1 1 0 2 ∷ row 2 1 2 4 ∷ [])
    ∷ joined_is (row 1 1 0 2 ∷ row 1 1 3 4 ∷ []) (row 1 1 0 2 ∷ row 1 1 3 4 ∷ [])
    -- document 02, §4: makers 0 and 17; 13 at job 9 before 7 at job 1, and after 6 at job 9; C's file
    ∷ refused_is (of_maker 0) 13 1
    ∷ refused_is (of_maker 17) 13 1
    ∷ refused_is (nine_jobs (pos 1)) 13 9
    ∷ refused_is (nine_jobs (pos 1000001)) 6 9
    ∷ file_is C (4 ∷ 0 ∷ 0 ∷ 0 ∷ 3 ∷ 0 ∷ 0 ∷ 0 ∷ 10 ∷ 0 ∷ 0 ∷ 0 ∷ 4 ∷ 0 ∷ 0 ∷ 0 ∷ 1 ∷ 0 ∷ 0 ∷ 0
    ∷ 0 ∷ 0 ∷ 0 ∷ 0 ∷ 4 ∷ 0 ∷ 0 ∷ 0 ∷ 1 ∷ 0 ∷ 1 ∷ 0 ∷ [])
    -- a count that becomes 4,000,000,000, and one that would be over; of a maker with no job here; all of them; a full book and a bound
    -- that is too tight
    ∷ book_is (at_least C 4) (sixteen (3999999997 ∷ [])) accepted (sixteen (4000000000 ∷ []))
    ∷ book_is (at_bound C (minus 8) 4) (sixteen (3999999997 ∷ [])) accepted (sixteen (4000000000 ∷ []))
    ∷ book_is (at_least C 4) (sixteen (3999999998 ∷ [])) (refused 14 0) (sixteen (3999999998 ∷ []))
    ∷ book_is (at_least C 4) (tabulate 15 (λ _. 0) ++ (4000000001 ∷ [])) (refused 14 0) (tabulate 15 (λ _. 0) ++ (4000000001 ∷ []))
    ∷ book_is (at_least C 4) (tabulate 15 (λ _. 0) ++ (4000000000 ∷ [])) accepted (3 ∷ (tabulate 14 (λ _. 0) ++ (4000000000 ∷ [])))
    ∷ book_is (at_least C 4) (tabulate 16 (λ _. 4294967295)) (refused 14 0) (tabulate 16 (λ _. 4294967295))
    ∷ book_is (at_bound C (minus 9) 4) (tabulate 16 (λ _. 4294967295)) (refused 10 0) (tabulate 16 (λ _. 4294967295))
    ∷ book_is (at_least C 3) (tabulate 16 (λ _. 4294967295)) (refused 9 0) (tabulate 16 (λ _. 4294967295))
    -- two makers, over calls of which some are refused
    ∷ books_are [] (sixteen [])
    ∷ books_are (at_least shared 32 ∷ at_bound C (minus 9) 4 ∷ at_bound shared (pos 0) 32 ∷ at_least C 3 ∷ []) (sixteen (6 ∷ 10 ∷ []))
    -- document 02, §5: ready at minute 5, and a window too short and just long enough
    ∷ changes_are C (minus 4) (times (5 ∷ []) ((0, 100) ∷ [])) 4 4
    ∷ timed_tight_is C (minus 4) (times (5 ∷ []) ((0, 100) ∷ [])) (0 ∷ 0 ∷ 0 ∷ 0 ∷ [])
    ∷ changes_are C (minus 3) (times (5 ∷ []) ((0, 100) ∷ [])) 4 4
    ∷ timed_laid_is C (minus 3) (times (5 ∷ []) ((0, 100) ∷ [])) ((0 ∷ 0 ∷ 3 ∷ 0 ∷ []) ∷ []) (piece 5 8 ∷ [])
    ∷ timed_wrong_is C (minus 3) (times (5 ∷ []) ((0, 100) ∷ [])) (piece 4 7 ∷ [])
    ∷ timed_tight_is C (pos 0) (times (0 ∷ []) ((4, 6) ∷ [])) (1 ∷ 1 ∷ 1 ∷ 1 ∷ [])
    ∷ timed_tight_is C (pos 10000000) (times (0 ∷ []) ((4, 6) ∷ [])) (1 ∷ 1 ∷ 1 ∷ 1 ∷ [])
    ∷ changes_are C (minus 4) (times (0 ∷ []) ((4, 7) ∷ [])) 3 3
    ∷ timed_laid_is C (minus 4) (times (0 ∷ []) ((4, 7) ∷ [])) ((0 ∷ 0 ∷ 3 ∷ []) ∷ []) (piece 4 7 ∷ [])
    ∷ timed_wrong_is C (pos 0) (times (0 ∷ []) ((4, 7) ∷ [])) (piece 5 8 ∷ [])
    -- ready after its end
    ∷ timed_tight_is C (minus 4) (times (8 ∷ []) ((0, 100) ∷ [])) (0 ∷ 0 ∷ 0 ∷ 0 ∷ [])
    -- windows that touch
    ∷ timed_right_is D (minus 2) (times (0 ∷ 0 ∷ 0 ∷ []) ((0, 2) ∷ (2, 9) ∷ [])) (row 1 1 0 1 ∷ row 2 1 1 2 ∷ row 3 2 2 3 ∷ [])
    ∷ timed_wrong_is D (minus 2) (times (0 ∷ 0 ∷ 0 ∷ []) ((0, 2) ∷ (2, 9) ∷ [])) (row 1 1 0 1 ∷ row 2 1 1 2 ∷ row 3 2 1 2 ∷ [])
    ∷ timed_wrong_is D (minus 2) (times (0 ∷ 0 ∷ 0 ∷ []) ((0, 2) ∷ (2, 9) ∷ [])) (row 1 1 0 1 ∷ row 2 1 1 2 ∷ row 3 1 2 3 ∷ [])
    -- both, and rows joined over a stretch
    ∷ changes_are A (pos 0) (times (0 ∷ 0 ∷ 1 ∷ []) ((0, 4) ∷ (1, 6) ∷ [])) 5 20
    ∷ timed_laid_is A (pos 0) (times (0 ∷ 0 ∷ 1 ∷ []) ((0, 4) ∷ (1, 6) ∷ []))
    ((0 ∷ 1 ∷ 2 ∷ 0 ∷ 0 ∷ []) ∷ (0 ∷ 0 ∷ 3 ∷ 0 ∷ 0 ∷ []) ∷ (0 ∷ 0 ∷ 1 ∷ 1 ∷ 0 ∷ []) ∷ [])
    (row 1 1 0 3 ∷ row 2 1 3 4 ∷ row 2 2 1 3 ∷ row 3 2 3 5 ∷ [])
    ∷ timed_laid_is on_top (pos 0) (times (0 ∷ 1 ∷ []) ((0, 9) ∷ (0, 9) ∷ []))
    ((0 ∷ 1 ∷ 2 ∷ 1 ∷ 0 ∷ []) ∷ (0 ∷ 0 ∷ 2 ∷ 0 ∷ 0 ∷ []) ∷ [])
    (row 1 1 0 4 ∷ row 2 2 1 3 ∷ [])
    -- ends below 0 count, so a buffer of 4 rows is too short before the bound is too tight
    ∷ changes_are two_early (minus 20) (times (0 ∷ 0 ∷ []) ((0, 7) ∷ [])) 4 8
    ∷ timed_refused_is two_early (minus 20) (times (0 ∷ 0 ∷ []) ((0, 7) ∷ [])) 16 (refused 9 0)
    ∷ timed_refused_is two_early (minus 20) (times (0 ∷ 0 ∷ []) ((0, 7) ∷ [])) 32 accepted
    ∷ timed_tight_is two_early (minus 20) (times (0 ∷ 0 ∷ []) ((0, 7) ∷ [])) (0 ∷ 0 ∷ 0 ∷ 0 ∷ [])
    -- 15 and 16 stand after 7 and before 8, 15 first; a window of no length, and the last minute
    ∷ timed_refused_is D (pos 10000001) (times (0 ∷ 1000001 ∷ 0 ∷ []) ((0, 9) ∷ (7, 7) ∷ [])) 0 (refused 15 2)
    ∷ timed_refused_is D (pos 10000001) (times (0 ∷ 1000000 ∷ 0 ∷ []) ((0, 9) ∷ (7, 7) ∷ [])) 0 (refused 16 2)
    ∷ timed_refused_is D (pos 10000001) (times (0 ∷ 1000000 ∷ 0 ∷ []) ((0, 1000001) ∷ (7, 7) ∷ [])) 0 (refused 16 1)
    ∷ timed_refused_is D (pos 10000001) (times (0 ∷ 1000000 ∷ 0 ∷ []) ((0, 9) ∷ (7, 8) ∷ [])) 0 (refused 8 0)
    ∷ timed_refused_is D (pos 10000000) (times (0 ∷ 1000000 ∷ 0 ∷ []) ((0, 9) ∷ (7, 1000000) ∷ [])) 0 (refused 9 0)
    -- document 02, §6: memories 4, 8, 4, 2 pass as 8; 8, 4; 8, 4 with two; 8, 4, 2. Equal ones are one class
    ∷ passes_as ties
    (((8 ∷ []), (1 ∷ []))
    ∷ ((8 ∷ 4 ∷ []), (1 ∷ 1 ∷ []))
    ∷ ((8 ∷ 4 ∷ []), (1 ∷ 2 ∷ []))
    ∷ ((8 ∷ 4 ∷ 2 ∷ []), (1 ∷ 2 ∷ 1 ∷ []))
    ∷ [])
    ∷ passes_as D (((8 ∷ []), (1 ∷ [])) ∷ ((8 ∷ []), (2 ∷ [])) ∷ [])
    -- document 02, §7: a table of two lines, in either order
    ∷ needs_are (line 1 30000 4 ++ line 30001 100000 8) (30000 ∷ 30001 ∷ []) 3 accepted (4 ∷ 8 ∷ 7 ∷ [])
    ∷ needs_are (line 30001 100000 8 ++ line 1 30000 4) (30000 ∷ 30001 ∷ []) 3 accepted (4 ∷ 8 ∷ 7 ∷ [])
    -- 17 before 18, 18 before 5 and 9
    ∷ needs_are (line 1 10 1 ++ line 10 50 2 ++ line 52 100000 3) (60 ∷ []) 2 (refused 17 51) (7 ∷ 7 ∷ [])
    ∷ needs_are (line 1 10 1 ++ line 10 100000 2) (60 ∷ []) 1 (refused 18 10) (7 ∷ [])
    ∷ needs_are (line 1 10 1 ++ line 10 100000 2) (0 ∷ []) 0 (refused 18 10) []
    -- a line out of range, one that runs backwards, no line, two numbers of one; two equal lines
    ∷ needs_are (line 0 100000 4) (1 ∷ []) 1 (refused 17 1) (7 ∷ [])
    ∷ needs_are (line 1 100001 4) (1 ∷ []) 1 (refused 17 1) (7 ∷ [])
    ∷ needs_are (line 100000 1 4) (1 ∷ []) 1 (refused 17 1) (7 ∷ [])
    ∷ needs_are [] (1 ∷ []) 1 (refused 17 1) (7 ∷ [])
    ∷ needs_are (1 ∷ 100000 ∷ []) (1 ∷ []) 1 (refused 17 1) (7 ∷ [])
    ∷ needs_are (line 1 100000 4 ++ line 1 100000 4) (1 ∷ []) 1 (refused 18 1) (7 ∷ [])
    -- line 33 is passed over, where it is wanted and where it is one too many
    ∷ needs_are (parts 32 3031 ++ line 96993 100000 33) (1 ∷ []) 1 (refused 17 96993) (7 ∷ [])
    ∷ needs_are (parts 32 3125) (3125 ∷ 3126 ∷ []) 2 accepted (1 ∷ 2 ∷ [])
    ∷ needs_are (parts 32 3125 ++ line 1 1 9) (1 ∷ []) 1 accepted (1 ∷ [])
    -- the first listed length out of range, before the room; too little room; nothing listed
    ∷ needs_are (line 1 100000 4) (1 ∷ 100000 ∷ 0 ∷ 100001 ∷ []) 1 (refused 5 3) (7 ∷ [])
    ∷ needs_are (line 1 100000 4) (1 ∷ 2 ∷ []) 1 (refused 9 0) (7 ∷ [])
    ∷ needs_are (line 1 100000 4) [] 0 accepted []
    -- document 02, §8: jobs by falling need, ties in input order, not by class; of two that are late the first in input order is told
    ∷ lie_as A (1 ∷ 2 ∷ 3 ∷ [])
    ∷ lie_as D (1 ∷ 2 ∷ 3 ∷ [])
    ∷ lie_as two_and_two (2 ∷ 3 ∷ 1 ∷ 4 ∷ [])
    ∷ lie_as one_class (2 ∷ 1 ∷ 3 ∷ [])
    ∷ lie_as late_last (2 ∷ 3 ∷ 1 ∷ [])
    ∷ reason_is late_last (minus 1) (over_end 1) 3 (pos 1)
    -- document 02, §9: the leasts along the path of A, of one order, of C and of two jobs with a plateau; the first met with each number,
    -- and none outside
    ∷ between_is (between A (1 ∷ 1 ∷ 1 ∷ []) (3 ∷ 3 ∷ 2 ∷ [])) (minus 3) (pos 0)
    (minus 3 ∷ minus 2 ∷ minus 1 ∷ minus 1 ∷ minus 1 ∷ pos 0 ∷ [])
    ∷ met_is (between A (1 ∷ 1 ∷ 1 ∷ []) (3 ∷ 3 ∷ 2 ∷ [])) (minus 4) nothing
    ∷ met_is (between A (1 ∷ 1 ∷ 1 ∷ []) (3 ∷ 3 ∷ 2 ∷ [])) (minus 3) (found (1 ∷ 1 ∷ 1 ∷ []))
    ∷ met_is (between A (1 ∷ 1 ∷ 1 ∷ []) (3 ∷ 3 ∷ 2 ∷ [])) (minus 1) (found (3 ∷ 1 ∷ 1 ∷ []))
    ∷ met_is (between A (1 ∷ 1 ∷ 1 ∷ []) (3 ∷ 3 ∷ 2 ∷ [])) (pos 0) (found (3 ∷ 3 ∷ 2 ∷ []))
    ∷ met_is (between A (1 ∷ 1 ∷ 1 ∷ []) (3 ∷ 3 ∷ 2 ∷ [])) (pos 1) nothing
    ∷ between_is (between A (1 ∷ 2 ∷ 1 ∷ []) (3 ∷ 6 ∷ 2 ∷ [])) (minus 2) (pos 2)
    (minus 2 ∷ minus 2 ∷ minus 1 ∷ minus 1 ∷ pos 0 ∷ pos 1 ∷ pos 2 ∷ pos 2 ∷ [])
    ∷ met_is (between A (1 ∷ 2 ∷ 1 ∷ []) (3 ∷ 6 ∷ 2 ∷ [])) (minus 2) (found (1 ∷ 2 ∷ 1 ∷ []))
    ∷ met_is (between A (1 ∷ 2 ∷ 1 ∷ []) (3 ∷ 6 ∷ 2 ∷ [])) (pos 2) (found (3 ∷ 6 ∷ 1 ∷ []))
    ∷ met_is (between B (1 ∷ 1 ∷ 1 ∷ 1 ∷ []) (3 ∷ 3 ∷ 3 ∷ 3 ∷ [])) (pos 1) (found (3 ∷ 3 ∷ 1 ∷ 1 ∷ []))
    ∷ met_is (between B (1 ∷ 1 ∷ 1 ∷ 1 ∷ []) (3 ∷ 3 ∷ 3 ∷ 3 ∷ [])) (pos 2) (found (3 ∷ 3 ∷ 3 ∷ 2 ∷ []))
    ∷ between_is (between C (3 ∷ []) (3 ∷ [])) (minus 8) (minus 8) (minus 8 ∷ [])
    ∷ met_is (between C (3 ∷ []) (3 ∷ [])) (minus 8) (found (3 ∷ []))
    ∷ between_is (between two_apart (1 ∷ 2 ∷ []) (12 ∷ 4 ∷ [])) (pos 1) (pos 6)
    (pos 1 ∷ pos 1 ∷ pos 1 ∷ pos 1 ∷ pos 1 ∷ pos 1 ∷ pos 1 ∷ pos 1 ∷ pos 1 ∷ pos 2 ∷ pos 3 ∷ pos 4 ∷ pos 5 ∷ pos 6 ∷ [])
    ∷ met_is (between two_apart (1 ∷ 2 ∷ []) (12 ∷ 4 ∷ [])) (pos 2) (found (10 ∷ 2 ∷ []))
    -- 19 before 7 and after 5 and 13; equal is good; a bad high at job 1 before a bad low at job 3
    ∷ estimate_is (between too_large (5 ∷ []) (4 ∷ [])) (refused 19 1)
    ∷ estimate_is (between too_large (5 ∷ []) (5 ∷ [])) (refused 7 1)
    ∷ estimate_is (between too_large (200000 ∷ []) (5 ∷ [])) (refused 5 1)
    ∷ estimate_is (between (of_maker 17) (5 ∷ []) (4 ∷ [])) (refused 13 1)
    ∷ estimate_is (between A (1 ∷ 1 ∷ 0 ∷ []) (100001 ∷ 1 ∷ 1 ∷ [])) (refused 5 1)
    ∷ estimate_is (between A (1 ∷ 4 ∷ 1 ∷ []) (1 ∷ 3 ∷ 0 ∷ [])) (refused 5 3)
    ∷ estimate_is (between A (1 ∷ 4 ∷ 5 ∷ []) (1 ∷ 3 ∷ 4 ∷ [])) (refused 19 2)
    -- document 02, §10: 12 jobs and 4 processors are good; over them 21 and 20 stand where 2 and 4 stand, before any job is looked at
    ∷ callers_get (alike 4 12 3) accepted accepted
    ∷ callers_get (alike 5 0 3) (refused 3 0) (refused 21 0)
    ∷ callers_get (alike 5 13 3) accepted (refused 21 0)
    ∷ callers_get (alike 4 13 3) accepted (refused 20 0)
    ∷ callers_get (alike 1 13 3) accepted (refused 20 0)
    ∷ callers_get (alike 17 1 3) (refused 2 0) (refused 21 0)
    ∷ callers_get (alike 16 49 3) (refused 4 0) (refused 21 0)
    ∷ callers_get (alike 4 49 3) (refused 4 0) (refused 20 0)
    ∷ callers_get (alike 0 13 3) (refused 1 0) (refused 1 0)
    ∷ callers_get (alike 4 0 3) (refused 3 0) (refused 3 0)
    ∷ callers_get (alike 0 0 3) (refused 1 0) (refused 1 0)
    ∷ callers_get (alike 4 12 0) (refused 5 1) (refused 5 1)
    ∷ callers_get (alike 4 13 0) (refused 5 1) (refused 20 0)
    ∷ callers_get (alike 5 12 0) (refused 5 1) (refused 21 0)
    ∷ callers_get A accepted accepted
    ∷ callers_get B accepted accepted
    ∷ callers_get C accepted accepted
    ∷ callers_get D accepted accepted
    -- and a screen that asks for a plan: 8, 9 and 10 as a dock gets them, 21 and 20 before them
    ∷ screen_gets C (pos 10000001) 0 (refused 8 0)
    ∷ screen_gets C (minus 8) 0 (refused 9 0)
    ∷ screen_gets C (minus 9) 4 (refused 10 0)
    ∷ screen_gets C (minus 8) 4 accepted
    ∷ screen_gets (alike 5 1 3) (pos 10000001) 0 (refused 21 0)
    ∷ screen_gets (alike 1 13 3) (pos 10000001) 0 (refused 20 0)
    -- §11: a cleared block; C at its least lateness and below, a byte more and a byte less; A, and a bound out of range
    ∷ block_judges all_zero (refused 12 0) (refused 12 0)
    ∷ block_judges (asking (minus 8) 32 0 C) accepted accepted
    ∷ block_judges (asking (minus 9) 32 0 C) (refused 10 0) accepted
    ∷ block_judges (asking (minus 8) 33 0 C) (refused 12 0) (refused 12 0)
    ∷ block_judges (asking (minus 8) 31 0 C) (refused 12 0) (refused 12 0)
    ∷ block_judges (asking (minus 8) 221 0 C) (refused 12 0) (refused 12 0)
    ∷ block_judges (asking (pos 0) 68 0 A) accepted accepted
    ∷ block_judges (asking (minus 1) 68 0 A) (refused 10 0) accepted
    ∷ block_judges (asking (pos 10000001) 68 0 A) (refused 8 0) accepted
    -- five processors; the most processors and the most jobs that 220 bytes have
    ∷ block_judges (asking (pos 0) 48 0 (alike 5 1 3)) (refused 21 0) (refused 21 0)
    ∷ block_judges (asking (pos 0) 220 0 (alike 52 0 3)) (refused 21 0) (refused 21 0)
    ∷ block_judges (asking (pos 0) 220 0 (alike 0 13 3)) (refused 1 0) (refused 1 0)
    -- C planned at its least lateness with the interrupt allowed, and row number 1
    ∷ block_reads planned 0 (0 ∷ 5 ∷ 0 ∷ 1 ∷ [])
    ∷ block_reads planned 12 (248 ∷ 255 ∷ 255 ∷ 255 ∷ 1 ∷ 0 ∷ 0 ∷ 0 ∷ 1 ∷ 0 ∷ 0 ∷ 0 ∷ 0 ∷ 0 ∷ 0 ∷ 0 ∷ 3 ∷ 0 ∷ 0 ∷ 0 ∷ [])
    ∷ block_reads planned 252 (zeros 4)
    -- another row number; another bound; the row stays when done is cleared
    ∷ block_reads (storing 10 0 planned) 16 (zeros 16)
    ∷ block_reads (storing 10 2 planned) 16 (zeros 16)
    ∷ block_reads (storing 11 1 planned) 16 (zeros 16)
    ∷ block_reads (storing 4 5 planned) 12 (248 ∷ 255 ∷ 255 ∷ 255 ∷ 1 ∷ [])
    ∷ block_reads (acknowledged 1 planned) 1 (4 ∷ 0 ∷ 1 ∷ [])
    ∷ block_reads (acknowledged 1 planned) 16 (1 ∷ 0 ∷ 0 ∷ 0 ∷ 1 ∷ [])
    -- then refused with 10, the interrupt no more allowed; both bits written; an unknown command; all cleared
    ∷ block_reads too_tight 1 (6 ∷ 10 ∷ 0 ∷ [])
    ∷ block_reads too_tight 12 (zeros 20)
    ∷ block_reads (acknowledged 0 too_tight) 1 (6 ∷ 10 ∷ [])
    ∷ block_reads (acknowledged 6 too_tight) 1 (0 ∷ 10 ∷ [])
    ∷ block_reads (refused_with 0 (begun (acknowledged 6 too_tight))) 1 (2 ∷ 0 ∷ [])
    ∷ block_reads all_zero 0 (zeros 256)
    -- beyond document 01's: of two overfull staircases, the one that ranks first
    ∷ reason_is two_overfull (minus 1) (stairs (pos 4 ∷ pos 2 ∷ [])) 8 (pos 6)
    -- an empty row, and one that goes backwards, beside a right plan
    ∷ wrong_is C (minus 1) (piece 0 3 ∷ piece 3 3 ∷ [])
    ∷ wrong_is C (minus 1) (piece 0 3 ∷ piece 5 4 ∷ [])
    -- a minute too many, and a minute late
    ∷ wrong_is C (minus 1) (piece 0 4 ∷ [])
    ∷ wrong_is C (minus 1) (piece 8 11 ∷ [])
    -- a row of job 2 or job 0 of one job, and on processor 2 or processor 0 of one processor
    ∷ wrong_is C (pos 3) (piece 0 3 ∷ row 2 1 3 4 ∷ [])
    ∷ wrong_is C (pos 3) (piece 0 3 ∷ row 0 1 3 4 ∷ [])
    ∷ wrong_is need_zero (minus 1) (row 1 2 0 1 ∷ [])
    ∷ wrong_is need_zero (minus 1) (row 1 0 0 1 ∷ [])
    -- rows that touch; a job on a processor that is too small; two rows of a processor, and of a job, at once
    ∷ right_is A (pos 0) (row 1 1 0 3 ∷ row 2 2 0 3 ∷ row 3 1 3 4 ∷ row 3 2 4 5 ∷ [])
    ∷ wrong_is A (pos 0) (row 1 2 0 3 ∷ row 2 1 0 3 ∷ row 3 1 3 4 ∷ row 3 2 4 5 ∷ [])
    ∷ wrong_is A (pos 0) (row 1 1 0 3 ∷ row 2 2 0 3 ∷ row 3 1 2 3 ∷ row 3 2 4 5 ∷ [])
    ∷ wrong_is A (pos 0) (row 1 1 0 3 ∷ row 2 2 0 3 ∷ row 3 1 3 4 ∷ row 3 2 3 4 ∷ [])
    ∷ []

-- what a case is about: whether the order is accepted and its least lateness; the reason and its minutes; yes or no
pub data Value : Type 0 where
  least_of : Verdict → ℤ → Value
  reason_at : Found Reason → ℕ → ℤ → Value
  checked : Bool → Value
  lines_at : Verdict → List ℕ → Found Reason → Value
  standing : Bool → List ℕ → Value
  laid_out : List Row → List Row → Bool → Value
  twice : List Row → List Row → Value
  endings : List ℕ → Value
  judged : Verdict → Value
  file : List ℕ → Order → Value
  booked : Verdict → List ℕ → Value
  books : List ℕ → Value
  changed : ℕ → ℕ → Value
  timed_laid : List Row → Bool → Value
  listings : List (List ℕ × List ℕ) → Value
  needs_left : Bool → Verdict → List ℕ → Value
  lying : List ℕ → Value
  spread : Verdict → ℤ → ℤ → List ℤ → Value
  meeting : Verdict → Found (List ℕ) → Value
  to_both : (wide narrow : Verdict) → Value
  reading : List ℕ → Value

-- whether the jobs must have more inside a cut of classes, one for each stretch, than there is room: each its time less what it can have
-- outside, in the stretches whose class is below its own
abbrev inside_of : Flow → (ℕ → ℕ) → ℕ
inside_of flow cut =
    sum flow.n (λ j. flow.time j - sum flow.q (λ s. only (ltb (cut s) (flow.class j)) (flow.cap j s)))

abbrev overfull_by : Order → ℤ → Times → List ℕ → Bool
overfull_by o bound t cut =
    let flow = flow_in o (timed_frame o bound t) in
    ltb (right flow (λ s. get_or cut s 0)) (inside_of flow (λ s. get_or cut s 0))

-- its value as computed, and as the case states it
abbrev pub computed : Case → Value
computed (least_is o least) = least_of (judge (order_rows limits o)) (least_lateness o)
computed (reason_is o bound reason owes hand) =
    reason_at (reason_of o bound) (owed_of o bound reason) (on_hand_of o bound reason)
computed (right_is o bound rows) = checked (is_right o bound (numbers_of rows))
computed (wrong_is o bound rows) = checked (is_right o bound (numbers_of rows))
computed (line_is o bound reason text) =
    lines_at (judge (order_rows limits o)) (composed o bound (found reason)) (read_back o bound (ascii text))
computed (no_line o bound reason) = standing (is_standing o bound reason) (composed o bound (found reason))
computed (laid_is o bound amounts rows plan) =
    laid_out (layout o bound (amounts_of amounts)) (joined rows) (is_right o bound (numbers_of plan))
computed (joined_is rows plan) = twice (joined rows) (joined plan)
computed (ends_is o bound amounts s jobs) = endings (ending_jobs o bound (amounts_of amounts) s)
computed (refused_is o number carried) = judged (judge (order_rows limits o))
computed (file_is o bytes) = file (file_of o) (order_in bytes)
computed (book_is call counts verdict back) = booked (judged_with (call_of call) counts) (given_back (call_of call) counts)
computed (books_are calls counts) = books (book_of calls)
computed (changes_are o bound t count rows) = changed (change_count o bound t) (timed_rows_asked o bound t)
computed (timed_refused_is o bound t numbers verdict) = judged (judge (earlier_timed o bound t numbers))
computed (timed_right_is o bound t rows) = checked (is_right_timed o bound t (numbers_of rows))
computed (timed_wrong_is o bound t rows) = checked (is_right_timed o bound t (numbers_of rows))
computed (timed_laid_is o bound t amounts plan) =
    timed_laid (joined (layout_in o (timed_frame o bound t) (amounts_of amounts))) (is_right_timed o bound t (numbers_of plan))
computed (timed_tight_is o bound t cut) = checked (overfull_by o bound t cut)
computed (passes_as o told) = listings (listings_of o)
computed (needs_are table listed lent verdict needs) =
    needs_left (stopped most_lines (counted table)) (decide most_lines table listed lent)
    (left_by (decide most_lines table listed lent) (needs_of table listed) (sevens lent))
computed (lie_as o numbers) = lying (tabulate (job_count o) (number_at o))
computed (between_is e low high along) =
    spread (judge (estimate_rows limits e)) (least_at_lows e) (least_at_highs e) (tabulate (suc (path_length e)) (least_along e))
computed (met_is e number times) = meeting (judge (estimate_rows limits e)) (first_met e number)
computed (estimate_is e verdict) = judged (judge (estimate_rows limits e))
computed (callers_get o wide narrow) = to_both (judge (order_rows limits o)) (judge (order_rows screen o))
computed (screen_gets o bound numbers verdict) = judged (judge (rows_for Screen o (plan_rows o bound numbers)))
computed (block_judges s first second) = to_both (judge (bound_table s)) (judge (least_table s))
computed (block_reads s address bytes) = reading (tabulate (length bytes) (λ i. read_at s (address + i)))

abbrev pub stated : Case → Value
stated (least_is o least) = least_of accepted least
stated (reason_is o bound reason owes hand) = reason_at (found reason) owes hand
stated (right_is o bound rows) = checked true
stated (wrong_is o bound rows) = checked false
stated (line_is o bound reason text) = lines_at accepted (ascii text) (found reason)
stated (no_line o bound reason) = standing false []
stated (laid_is o bound amounts rows plan) = laid_out rows plan true
stated (joined_is rows plan) = twice plan plan
stated (ends_is o bound amounts s jobs) = endings jobs
stated (refused_is o number carried) = judged (refused number carried)
stated (file_is o bytes) = file bytes o
stated (book_is call counts verdict back) = booked verdict back
stated (books_are calls counts) = books counts
stated (changes_are o bound t count rows) = changed count rows
stated (timed_refused_is o bound t numbers verdict) = judged verdict
stated (timed_right_is o bound t rows) = checked true
stated (timed_wrong_is o bound t rows) = checked false
stated (timed_laid_is o bound t amounts plan) = timed_laid plan true
stated (timed_tight_is o bound t cut) = checked true
stated (passes_as o told) = listings told
stated (needs_are table listed lent verdict needs) = needs_left true verdict needs
stated (lie_as o numbers) = lying numbers
stated (between_is e low high along) = spread accepted low high along
stated (met_is e number times) = meeting accepted times
stated (estimate_is e verdict) = judged verdict
stated (callers_get o wide narrow) = to_both wide narrow
stated (screen_gets o bound numbers verdict) = judged verdict
stated (block_judges s first second) = to_both first second
stated (block_reads s address bytes) = reading bytes

right-rows : (o : Order) (bound : ℤ) (rows : List Row) → is_right o bound (numbers_of rows) ≡ true → Right o bound rows
right-rows o bound rows e =
    let h = (is_right-iff o bound (numbers_of rows)).0 e in
    let same : h.rows ≡ rows
    = sym (rows-of-numbers h.rows) ∙ ap rows_of (sym h.are) ∙ rows-of-numbers rows in
    subst (Right o bound) same h.right

rows_right : (o : Order) (bound : ℤ) (rows : List Row) → Right o bound rows → is_right o bound (numbers_of rows) ≡ true
rows_right o bound rows r = (is_right-iff o bound (numbers_of rows)).1 (record { rows = rows; are = refl; right = r })

timed-rows : (o : Order) (bound : ℤ) (t : Times) (rows : List Row) → is_right_timed o bound t (numbers_of rows) ≡ true →
    RightTimed 1 o bound t rows
timed-rows o bound t rows e =
    let h = (timed-yes o bound t (numbers_of rows)).0 e in
    let same : h.rows ≡ rows
    = sym (rows-of-numbers h.rows) ∙ ap rows_of (sym h.are) ∙ rows-of-numbers rows in
    subst (RightTimed 1 o bound t) same h.right

rows-timed : (o : Order) (bound : ℤ) (t : Times) (rows : List Row) → RightTimed 1 o bound t rows →
    is_right_timed o bound t (numbers_of rows) ≡ true
rows-timed o bound t rows r = (timed-yes o bound t (numbers_of rows)).1 (record { rows = rows; are = refl; right = r })

gate-test : (a b v : ℕ) → gate a b v ≡ only (ltb a b) v
gate-test a b v =
    elim (dec_lt a b) [
      | yes h ↦ gate-in a b v h ∙ sym (ap (λ (x : Bool). only x v) (lt-ltb a b h))
      | no h ↦ gate-out a b v (omega arith) ∙ sym (ap (λ (x : Bool). only x v) (le-ltb a b (omega arith)))
    ]

inside_is : (flow : Flow) (cut : ℕ → ℕ) → left flow cut ≡ inside_of flow cut
unfolding left covered
inside_is flow cut =
    sum-cong flow.n _ _ (λ j l.
    ap (λ (x : ℕ). flow.time j - x) (sum-cong flow.q _ _ (λ s b. gate-test (cut s) (flow.class j) (flow.cap j s))))

-- what the jobs must have inside a cut exceeds the room there: so no rows are right, in any parts
cut-tight : (o : Order) (bound : ℤ) (t : Times) (cut : List ℕ) → overfull_by o bound t cut ≡ true →
    (p : ℕ) → 1 ≤ p → (rows : List Row) → ¬ RightTimed p o bound t rows
cut-tight o bound t cut e p parts rows R =
    let f = timed_frame o bound t in
    feasible-no-cut (plan-amounts-in o f (timed-framed o bound t) (timed-in p o bound t _ _ rows R) parts) (λ s. get_or cut s 0)
    (rw (inside_is (flow_in o f) (λ s. get_or cut s 0)) (ltb-true _ _ e))

-- a case whose value is computed as stated holds
case-holds : (c : Case) → computed c ≡ stated c → Holds c
case-holds (least_is o least) e =
    let a : Accepted o = cc in
    let l : least_lateness o ≡ least = cc in
    subst (IsLeast o) l (is-least o a)
case-holds (reason_is o bound reason owes hand) e =
    let r : reason_of o bound ≡ found reason = cc in
    ((reason-found o bound reason).0 r, cc, cc)
case-holds (right_is o bound rows) e = right-rows o bound rows (cc)
case-holds (wrong_is o bound rows) e =
    let no-plan : is_right o bound (numbers_of rows) ≡ false = cc in
    λ r. true≢false (sym (rows_right o bound rows r) ∙ no-plan)
case-holds (line_is o bound reason text) e =
    let a : Accepted o = cc in
    let back : read_back o bound (ascii text) ≡ found reason = cc in
    (((reads-to o a bound (ascii text) reason).0 back).0, cc, back)
case-holds (no_line o bound reason) e =
    let not-standing : is_standing o bound reason ≡ false = cc in
    (λ s. true≢false (sym ((standing-is o bound reason).1 s) ∙ not-standing), cc)
case-holds (laid_is o bound amounts rows plan) e = (cc, cc, right-rows o bound plan cc)
case-holds (joined_is rows plan) e = (cc, cc)
case-holds (ends_is o bound amounts s jobs) e = cc
case-holds (refused_is o number carried) e = cc
case-holds (file_is o bytes) e = (cc, cc)
case-holds (book_is call counts verdict back) e = (cc, cc)
case-holds (books_are calls counts) e = cc
case-holds (changes_are o bound t count rows) e = (cc, cc)
case-holds (timed_refused_is o bound t numbers verdict) e = cc
case-holds (timed_right_is o bound t rows) e = timed-rows o bound t rows cc
case-holds (timed_wrong_is o bound t rows) e =
    let no-plan : is_right_timed o bound t (numbers_of rows) ≡ false = cc in
    λ r. true≢false (sym (rows-timed o bound t rows r) ∙ no-plan)
case-holds (timed_laid_is o bound t amounts plan) e = (cc, timed-rows o bound t plan cc)
case-holds (timed_tight_is o bound t cut) e = cut-tight o bound t cut cc
case-holds (passes_as o told) e = cc
case-holds (needs_are table listed lent verdict needs) e =
    let stops : stopped most_lines (counted table) ≡ true = cc in
    rw (decided most_lines table listed lent stops) (cc, cc)
case-holds (lie_as o numbers) e = cc
case-holds (between_is e low high along) q = (cc, cc, cc, cc)
case-holds (met_is e number times) q = (cc, cc)
case-holds (estimate_is e verdict) q = cc
case-holds (callers_get o wide narrow) e = (cc, cc)
case-holds (screen_gets o bound numbers verdict) e = cc
case-holds (block_judges s first second) e = (cc, cc)
case-holds (block_reads s address bytes) e = cc

pub all_hold : (cs : List Case) → map computed cs ≡ map stated cs → All Holds cs
all_hold [] e = tt
all_hold (c ∷ cs) e =
    let first : computed c ≡ stated c = cc in
    let rest : map computed cs ≡ map stated cs = cc in
    (case-holds c first, all_hold cs rest)
