-- What a screen's calls say (document 02, §10). Within the screen's limits they reply as the dock's do: the result, the answer, the rows,
-- the line and every other lent number. Over them they are 21 and 20, exactly where the counts are over. A dock never gets 20 or 21.
use Rattle.std.specs.Prelude.{ℕ, ◌+◌, ◌*◌, ◌≤◌, ◌<◌, ◌≡◌, true, false, ◌&&◌, List, [], ◌∷◌, ◌++◌, ◌↔◌, leb, eqb, ℤ, pos, length}
use Rattle.std.proofs.Math.Path.{refl}
use Rattle.std.proofs.Common.{sym, ap, ◌∙◌, subst, arith, ltb-false, le-ltb, eqb-true}
use Rattle.std.proofs.lemmas.Bool.{not-false}
use Rattle.sums.specs.Lists.{All}
use Rattle.sums.specs.Members.{All-map}
use Rattle.sums.specs.Places.{length-tabulate}
use Rattle.order.specs.Order.{Order, processor_count, job_count}
use Rattle.order.specs.Refusals.{
  limits,
  screen,
  shortest_file,
  longest_file,
  TableRow,
  Verdict,
  accepted,
  refused,
  judge,
  left_by,
  job_rows,
  order_rows,
  file_row,
}
use Rattle.order.proofs.RefusalLaws.{judge-accepted, whole-clear, both_true}
use Rattle.order.specs.Callers.{Within, rows_by}
use Rattle.order.proofs.CallerLaws.{Itself, numbered, not-numbered, screen-same, screen-processors, screen-jobs}
use Rattle.order_file.specs.Bytes.{number4}
use Rattle.order_file.specs.File.{
  job_width,
  trailer_width,
  processor_place,
  job_place,
  processors_of,
  jobs_of,
  lists_agree,
  good_file,
  job_in,
  order_in,
  write_rows,
}
use Rattle.plan.specs.Check.{is_right, check_rows}
use Rattle.profile.specs.Least.{least_lateness}
use Rattle.profile.specs.Search.{reason_of}
use Rattle.sentence.specs.Told.{compose_rows, read_rows}
use Rattle.planner.specs.Rows.{rows_asked, least_rows, earlier_rows, plan_rows}
use Rattle.registers.specs.JudgeLaws.{rows_few}
use Rattle.timed.specs.Rows.{asked_rows, earlier_timed, timed_rows, timed_check_rows}
use Rattle.estimate.specs.Estimate.{estimate_rows}
use Rattle.highboyrobin.specs.Results.{result_of, answer_row, file_call, list_call}
use Rattle.highboyrobin.specs.Calls.{
  judge_call,
  sizes_of,
  least_call,
  plan_call,
  PlanBy,
  reason_call,
  reason_numbers,
  line_from,
  sentence_call,
  parse_call,
  check_call,
  yes_or_no,
  write_call,
}
use Rattle.highboyrobin.specs.CallLaws.{plan-by-one}
use Rattle.highboyrobin.specs.BookCalls.{book_least_call, book_plan_call}
use Rattle.highboyrobin.specs.ClassCalls.{classes_call}
use Rattle.highboyrobin.specs.TimedCalls.{timed_call, timed_rows_call, timed_plan_call, timed_check_call}
use Rattle.highboyrobin.specs.BetweenCalls.{between_call, leasts_call, order_call}
use Rattle.highboyrobin.specs.ScreenCalls.{screened}

-- the order of the file is within the screen's limits
abbrev pub Held : List ℕ → Type 0
Held f = Within screen (processor_count (order_in f)) (job_count (order_in f))

-- a reply by a verdict, of a call that leaves these numbers in one lent list, and of one that writes a plan
abbrev pub LeftReply : {A : Type 0} → Verdict → List A → List A → ℕ → List A → Type 0
LeftReply v written entry result exit = (result ≡ result_of v) × (exit ≡ left_by v written entry)

abbrev pub PlanReply : Verdict → Order → ℤ → List ℤ → List ℕ → List ℤ → ℕ → List ℕ → List ℤ → Type 0
PlanReply v o bound first rows answer result rows' answer' = (result ≡ result_of v) × PlanBy v o bound first rows rows' answer answer'

-- replies by equal verdicts are equal
left-same : {A : Type 0} {v w : Verdict} (written entry : List A) {result result' : ℕ} {exit exit' : List A} → v ≡ w →
    LeftReply v written entry result exit → LeftReply w written entry result' exit' → (result ≡ result') × (exit ≡ exit')
left-same written entry e s d = (
  s.0 ∙ ap result_of e ∙ sym d.0,
  s.1 ∙ ap (λ (v : Verdict). left_by v written entry) e ∙ sym d.1,
)

plan-same : (v w : Verdict) (o : Order) (bound : ℤ) (first : List ℤ) (rows : List ℕ) (answer : List ℤ)
    (result result' : ℕ) (rows' rows'' : List ℕ) (answer' answer'' : List ℤ) → v ≡ w →
    PlanReply v o bound first rows answer result rows' answer' → PlanReply w o bound first rows answer result' rows'' answer'' →
    (result ≡ result') × (rows' ≡ rows'') × (answer' ≡ answer'')
plan-same v w o bound first rows answer result result' rows' rows'' answer' answer'' e s d =
    let one = plan-by-one w o bound first rows rows' rows'' answer answer' answer''
    (subst (λ (v : Verdict). PlanBy v o bound first rows rows' answer answer') e s.1) d.1 in
    (s.0 ∙ ap result_of e ∙ sym d.0, one.0, one.1)

-- each table is the dock's: by a dock's limits it is itself
module _ (f : List ℕ) where
  abbrev pub ItselfIn : List TableRow → Type 0
  ItselfIn rows = Itself (processor_count (order_in f)) (job_count (order_in f)) rows

  pub judge-itself : (lent : ℕ) → ItselfIn (judge_call f lent)
  unfolding rows_by file_call
  judge-itself lent = refl

  pub classes-itself : (numbers lent : ℕ) → ItselfIn (classes_call f numbers lent)
  unfolding rows_by list_call
  classes-itself numbers lent = refl

  pub least-itself : (numbers lent : ℕ) → ItselfIn (least_call f numbers lent)
  unfolding rows_by file_call least_rows
  least-itself numbers lent = refl

  pub plan-itself : (bound : ℤ) (numbers lent : ℕ) → ItselfIn (plan_call f bound numbers lent)
  unfolding rows_by file_call earlier_rows plan_rows
  plan-itself bound numbers lent = refl

  pub reason-itself : (bound : ℤ) (lent : ℕ) → ItselfIn (reason_call f bound lent)
  unfolding rows_by file_call
  reason-itself bound lent = refl

  pub sentence-itself : (bound : ℤ) (reason : List ℤ) (line lent : ℕ) → ItselfIn (sentence_call f bound reason line lent)
  unfolding rows_by list_call compose_rows
  sentence-itself bound reason line lent = refl

  pub check-itself : (bound : ℤ) (numbers lent : ℕ) → ItselfIn (check_call f bound numbers lent)
  unfolding rows_by file_call check_rows
  check-itself bound numbers lent = refl

-- "An order within the screen's limits gets the dock's own reply from either caller"
module _ (f : List ℕ) (few : Held f) where
  same-verdict : {rows : List TableRow} → ItselfIn f rows → judge (screened f rows) ≡ judge rows
  same-verdict {rows} itself = screen-same (order_in f) rows itself few

  pub judge-reply : (answer : List ℤ) {result result' : ℕ} {answer' answer'' : List ℤ} →
      LeftReply (judge (screened f (judge_call f (length answer)))) (sizes_of (order_in f)) answer result answer' →
      LeftReply (judge (judge_call f (length answer))) (sizes_of (order_in f)) answer result' answer'' →
      (result ≡ result') × (answer' ≡ answer'')
  judge-reply answer s d = left-same (sizes_of (order_in f)) answer (same-verdict (judge-itself f (length answer))) s d

  pub least-reply : (rows : List ℕ) (answer : List ℤ) {result result' : ℕ} {rows' rows'' : List ℕ} {answer' answer'' : List ℤ} →
      PlanReply (judge (screened f (least_call f (length rows) (length answer)))) (order_in f) (least_lateness (order_in f))
      (least_lateness (order_in f) ∷ []) rows answer result rows' answer' →
      PlanReply (judge (least_call f (length rows) (length answer))) (order_in f) (least_lateness (order_in f))
      (least_lateness (order_in f) ∷ []) rows answer result' rows'' answer'' →
      (result ≡ result') × (rows' ≡ rows'') × (answer' ≡ answer'')
  least-reply rows answer s d =
      plan-same _ _ _ _ _ _ _ _ _ _ _ _ _ (same-verdict (least-itself f (length rows) (length answer))) s d

  pub plan-reply : (bound : ℤ) (rows : List ℕ) (answer : List ℤ) {result result' : ℕ} {rows' rows'' : List ℕ} {answer' answer'' : List ℤ} →
      PlanReply (judge (screened f (plan_call f bound (length rows) (length answer)))) (order_in f) bound [] rows answer
      result rows' answer' →
      PlanReply (judge (plan_call f bound (length rows) (length answer))) (order_in f) bound [] rows answer result' rows'' answer'' →
      (result ≡ result') × (rows' ≡ rows'') × (answer' ≡ answer'')
  plan-reply bound rows answer s d =
      plan-same _ _ _ _ _ _ _ _ _ _ _ _ _ (same-verdict (plan-itself f bound (length rows) (length answer))) s d

  pub reason-reply : (bound : ℤ) (answer : List ℤ) {result result' : ℕ} {answer' answer'' : List ℤ} →
      LeftReply (judge (screened f (reason_call f bound (length answer)))) (reason_numbers (order_in f) (reason_of (order_in f) bound))
      answer result answer' →
      LeftReply (judge (reason_call f bound (length answer))) (reason_numbers (order_in f) (reason_of (order_in f) bound))
      answer result' answer'' →
      (result ≡ result') × (answer' ≡ answer'')
  reason-reply bound answer s d =
      left-same (reason_numbers (order_in f) (reason_of (order_in f) bound)) answer (same-verdict (reason-itself f bound (length answer))) s d

  -- its line, and the length of it in the answer
  module _ (bound : ℤ) (reason : List ℤ) (line : List ℕ) (answer : List ℤ) where
    abbrev asked : List TableRow
    asked = sentence_call f bound reason (length line) (length answer)

    sentence-same : judge (screened f asked) ≡ judge asked
    sentence-same = same-verdict (sentence-itself f bound reason (length line) (length answer))

    pub sentence-line : {result result' : ℕ} {line' line'' : List ℕ} →
        LeftReply (judge (screened f asked)) (line_from f bound reason) line result line' →
        LeftReply (judge asked) (line_from f bound reason) line result' line'' → (result ≡ result') × (line' ≡ line'')
    sentence-line s d = left-same (line_from f bound reason) line sentence-same s d

    pub sentence-answer : {result result' : ℕ} {answer' answer'' : List ℤ} →
        LeftReply (judge (screened f asked)) (pos (length (line_from f bound reason)) ∷ []) answer result answer' →
        LeftReply (judge asked) (pos (length (line_from f bound reason)) ∷ []) answer result' answer'' →
        (result ≡ result') × (answer' ≡ answer'')
    sentence-answer s d = left-same (pos (length (line_from f bound reason)) ∷ []) answer sentence-same s d

  pub check-reply : (bound : ℤ) (rows : List ℕ) (answer : List ℤ) {result result' : ℕ} {answer' answer'' : List ℤ} →
      LeftReply (judge (screened f (check_call f bound (length rows) (length answer)))) (yes_or_no (is_right (order_in f) bound rows))
      answer result answer' →
      LeftReply (judge (check_call f bound (length rows) (length answer))) (yes_or_no (is_right (order_in f) bound rows))
      answer result' answer'' →
      (result ≡ result') × (answer' ≡ answer'')
  check-reply bound rows answer s d =
      left-same (yes_or_no (is_right (order_in f) bound rows)) answer (same-verdict (check-itself f bound (length rows) (length answer))) s d

  -- classes_for judges a screen by this verdict, and all that it leaves hangs on it
  pub classes-verdict : (numbers lent : ℕ) → judge (screened f (classes_call f numbers lent)) ≡ judge (classes_call f numbers lent)
  classes-verdict numbers lent = same-verdict (classes-itself f numbers lent)

-- over the limits, of a call whose answer is long enough for a file that is good: whatever rows follow those of acceptance
module _ (f : List ℕ) (lent asked : ℕ) (later : List TableRow) where
  abbrev m : ℕ
  m = processor_count (order_in f)

  abbrev n : ℕ
  n = job_count (order_in f)

  abbrev table : List TableRow
  table = file_call lent asked f (order_rows limits (order_in f) ++ later)

  abbrev before : List TableRow
  before = answer_row lent asked ∷ file_row (good_file f) ∷ []

  before-passes : (judge before ≡ accepted) ↔ ((asked ≤ lent) × (good_file f ≡ true))
  before-passes = (
    λ a. let c = (judge-accepted before).0 a in
        (ltb-false lent asked (whole-clear _ c.0), not-false (good_file f) (whole-clear _ c.1.0)),
    λ h. (judge-accepted before).1 (rw (le-ltb lent asked h.0) refl, (rw h.1 refl, tt)),
  )

  pub over-processors : numbered 21 (rows_by screen m n later) ≡ false →
      (judge (screened f table) ≡ refused 21 0) ↔ ((asked ≤ lent) × (good_file f ≡ true) × (4 < m))
  unfolding rows_by file_call numbered
  over-processors none =
      let told = screen-processors m n before (job_rows (order_in f) ++ rows_by screen m n later) refl none in (
        λ e. let h = told.0 e in let b = before-passes.0 h.0 in (b.0, b.1, h.1),
        λ h. told.1 (before-passes.1 (h.0, h.1), h.2),
      )

  pub over-jobs : numbered 20 (rows_by screen m n later) ≡ false →
      (judge (screened f table) ≡ refused 20 0) ↔ ((asked ≤ lent) × (good_file f ≡ true) × (1 ≤ m) × (m ≤ 4) × (12 < n))
  unfolding rows_by file_call numbered
  over-jobs none =
      let told = screen-jobs m n before (job_rows (order_in f) ++ rows_by screen m n later) refl none in (
        λ e. let h = told.0 e in let b = before-passes.0 h.0 in (b.0, b.1, h.1, h.2, h.3),
        λ h. told.1 (before-passes.1 (h.0, h.1), h.2, h.3, h.4),
      )

-- what a screen's order asks for: 180 rows at most, and its file has 220 bytes at most
pub rows-held : (f : List ℕ) → Held f → rows_asked (order_in f) ≤ 180
rows-held f few = rows_few (order_in f) few

pub bytes-held : (f : List ℕ) → good_file f ≡ true → Held f → length f ≤ 220
unfolding good_file order_in
bytes-held f good few =
    let size = 4 * processors_of f + job_width * jobs_of f + trailer_width in
    let agree = lists_agree (processors_of f) (jobs_of f) (processor_place f) (job_place f) in
    let short = (both_true (leb shortest_file (length f)) (leb (length f) longest_file && (eqb size (length f) && agree)) good).1 in
    let sized = (both_true (leb (length f) longest_file) (eqb size (length f) && agree) short).1 in
    let bytes = eqb-true size (length f) (both_true (eqb size (length f)) agree sized).0 in
    omega (
      arith,
      bytes,
      few.0,
      few.1,
      length-tabulate (processors_of f) (λ i. number4 f (processor_place f + 4 * i)),
      length-tabulate (jobs_of f) (λ j. job_in f (job_place f + job_width * j)),
    )

-- whatever is lent to a dock's call beside a file
pub record Lent : Type 0 where
  pub bound : ℤ
  pub rows : ℕ
  pub reason : List ℤ
  pub book : List ℕ
  pub ready : List ℕ
  pub windows : List ℕ
  pub highs : List ℕ
  pub buffer : ℕ
  pub answer : ℕ

-- the tables of the dock's calls that take a file, and of the one that writes it
abbrev pub call_tables : List ℕ → Lent → (memories jobs : List ℕ) → List (List TableRow)
call_tables f l memories jobs =
    judge_call f l.answer
    ∷ classes_call f l.rows l.answer
    ∷ least_call f l.rows l.answer
    ∷ plan_call f l.bound l.rows l.answer
    ∷ book_least_call f l.rows l.book l.answer
    ∷ book_plan_call f l.bound l.rows l.book l.answer
    ∷ reason_call f l.bound l.answer
    ∷ sentence_call f l.bound l.reason l.buffer l.answer
    ∷ parse_call f l.bound l.answer
    ∷ check_call f l.bound l.rows l.answer
    ∷ timed_rows_call f l.bound l.ready l.windows l.answer
    ∷ timed_plan_call f l.bound l.ready l.windows l.rows l.answer
    ∷ timed_check_call f l.bound l.ready l.windows l.rows l.answer
    ∷ leasts_call f l.highs l.answer
    ∷ order_call f l.highs l.bound l.buffer l.answer
    ∷ write_call memories jobs l.buffer l.answer
    ∷ []

-- it answers neither 20 nor 21
abbrev pub NotOfScreens : List TableRow → Type 0
NotOfScreens rows = (c : ℕ) → (¬ (judge rows ≡ refused 20 c)) × (¬ (judge rows ≡ refused 21 c))

abbrev Without : List TableRow → Type 0
Without rows = (numbered 20 rows ≡ false) × (numbered 21 rows ≡ false)

none-of-screens : (rows : List TableRow) → Without rows → NotOfScreens rows
none-of-screens rows none c = (not-numbered 20 c rows none.0, not-numbered 21 c rows none.1)

pub never-screens : (f : List ℕ) (l : Lent) (memories jobs : List ℕ) → All NotOfScreens (call_tables f l memories jobs)
unfolding numbered file_call list_call timed_call between_call write_call write_rows least_rows earlier_rows plan_rows compose_rows read_rows
    check_rows asked_rows earlier_timed timed_rows timed_check_rows estimate_rows
never-screens f l memories jobs = All-map Without NotOfScreens (call_tables f l memories jobs) none-of-screens all_without
  where
    all_without : All Without (call_tables f l memories jobs)
    all_without = (
      (refl, refl),
      (
        (refl, refl),
        (
          (refl, refl),
          (
            (refl, refl),
            (
              (refl, refl),
              (
                (refl, refl),
                (
                  (refl, refl),
                  (
                    (refl, refl),
                    (
                      (refl, refl),
                      (
                        (refl, refl),
                        (
                          (refl, refl),
                          (
                            (refl, refl),
                            (
                              (refl, refl),
                              (
                                (refl, refl),
                                (
                                  (refl, refl),
                                  (
                                    (refl, refl),
                                    tt,
                                  ),
                                ),
                              ),
                            ),
                          ),
                        ),
                      ),
                    ),
                  ),
                ),
              ),
            ),
          ),
        ),
      ),
    )
