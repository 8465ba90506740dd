-- What the calls with ready minutes and windows mean: where hbr_timed_plan says 10 there is no right plan that keeps them, whoever made it,
-- in whatever equal parts of a minute; and where it answers, such a plan was written.
use Rattle.std.specs.Prelude.{ℕ, ◌≡◌, List, [], ◌∷◌, ◌++◌, ℤ, length}
use Rattle.std.proofs.Math.Path.{refl}
use Rattle.std.proofs.Common.{sym, ◌∙◌}
use Rattle.order.specs.Order.{Order}
use Rattle.order.specs.Refusals.{TableRow, Verdict, accepted, refused, judge, tight_row, file_row}
use Rattle.order.proofs.RefusalLaws.{judge-accepted, judge-accepted-append, judge-refused-append}
use Rattle.order_file.specs.File.{good_file, order_in}
use Rattle.planner.specs.TenLaws.{never}
use Rattle.wrap.specs.FrameAt.{Times}
use Rattle.timed.proofs.NoneLaws.{NoneInParts}
use Rattle.timed.proofs.Request.{timed-decides, TimedPlanSaid, timed-plan-said}
use Rattle.timed.specs.Rows.{none_timed, asked_rows, earlier_timed, timed_rows}
use Rattle.highboyrobin.specs.Results.{answer_row}
use Rattle.highboyrobin.specs.TimedCalls.{times_in, wrong_times_row, timed_call, timed_plan_call, TimedAnswered}

module _ (f : List ℕ) (bound : ℤ) (ready windows : List ℕ) (numbers lent : ℕ) where
  abbrev o : Order
  o = order_in f

  abbrev t : Times
  t = times_in ready windows

  abbrev first : List TableRow
  first =
      answer_row lent 1
      ∷ file_row (good_file f)
      ∷ wrong_times_row o (length ready) (length windows)
      ∷ earlier_timed o bound t numbers

  abbrev tight : List TableRow
  tight = tight_row (none_timed o bound t) ∷ []

  -- a 10 comes from row 10
  ten-last : judge (first ++ tight) ≡ refused 10 0 → judge first ≡ accepted
  unfolding earlier_timed asked_rows
  ten-last e = decided (judge first) refl
    where
      decided : (v : Verdict) → judge first ≡ v → judge first ≡ accepted
      decided accepted h = h
      decided (refused n c) h =
          absurd (never 10 0 first
          (refl, (refl, (refl, (refl, (refl, (refl, (refl, (refl, (refl, (refl, (refl, (refl, (refl, (refl, (refl, tt)))))))))))))))
          (h ∙ (sym (judge-refused-append first tight n c h) ∙ e)))

  pub timed-ten-means-none : judge (timed_plan_call f bound ready windows numbers lent) ≡ refused 10 0 → NoneInParts o bound t
  unfolding timed_call timed_rows
  timed-ten-means-none e =
      let clear = ten-last e in
      let earlier : judge (earlier_timed o bound t numbers) ≡ accepted
      = (judge-accepted (earlier_timed o bound t numbers)).1 ((judge-accepted first).0 clear).1.1.1 in
      (timed-decides o bound t numbers earlier).none-in-any-parts
      (judge-accepted-append (earlier_timed o bound t numbers) tight earlier ∙ (sym (judge-accepted-append first tight clear) ∙ e))

-- the plan that was written: joined, in its order, and no longer than asked for
pub timed-plan-joined : (o : Order) (bound : ℤ) (t : Times) (rows rows' : List ℕ) (answer answer' : List ℤ) →
    (A : TimedAnswered o bound t rows rows' answer answer') → TimedPlanSaid o bound t A.written.plan
timed-plan-joined o bound t rows rows' answer answer' A = timed-plan-said o bound t A.written.plan A.written.plan-of
