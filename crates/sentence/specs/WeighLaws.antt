-- The two sums of a staircase, as the code makes them, are document 01's, where every job is in time.
use Rattle.std.specs.Prelude.{ℕ, suc, ◌+◌, ◌-◌, ◌*◌, ◌≤◌, ◌<◌, ◌≡◌, true, List, [], ◌∷◌, ℤ, pos, ltb, length, get_or, ◌<ℤ◌}
use Rattle.std.proofs.Common.{sym, ap, ◌∙◌, subst, arith, lt-ltb, le-ltb}
use Rattle.std.proofs.Math.Decide.{dec_lt}
use Rattle.sums.specs.Sum.{sum, sum-none, sum-cong}
use Rattle.sums.specs.Lists.{All}
use Rattle.sums.specs.Members.{All-nth, All-at, All-from}
use Rattle.sums.specs.Totals.{sum_first}
use Rattle.order.specs.Order.{Job, Order, job_count, Numbers, no_job, job_of, end_at, end_of}
use Rattle.order.specs.Class.{classes, processors_in}
use Rattle.order.specs.Lead.{lead, reach_at, last_due}
use Rattle.order.proofs.LeadLaws.{in-time-reach, end-reach, due-by-last}
use Rattle.order.specs.Refusals.{due_in_range}
use Rattle.order.proofs.RefusalLaws.{Acceptable, dues-in-range}
use Rattle.order.specs.Whole.{pos-lt, pos-cut}
use Rattle.profile.specs.Profile.{class_owes, owed_from, on_hand_from, minutes_owed, minutes_on_hand}
use Rattle.profile.specs.Reason.{InTime, stairs, Stands}
use Rattle.profile.proofs.SearchLaws.{in-due, profile-chosen, chosen-profile}
use Rattle.profile.proofs.Weights.{Reached, class-owes}
use Rattle.table.specs.Tabled.{Tabled}
use Rattle.table.specs.declared.Table.{Table}
use Rattle.reason.specs.Asked.{owes_by}
use Rattle.reason.specs.Matching.{owes_same}
use Rattle.std.specs.Bool.{then_some}
use Rattle.sentence.specs.declared.Sums.{Sums}
use Rattle.sentence.specs.Inside.{owed_to, hand_to, StepsReached, StepsFit, WeighedTold}
use Rattle.sentence.specs.StepLaws.{steps-chosen, chosen-steps}

-- sums over the classes from one on, as sums over places
owed-places : (o : Order) (bound : ℤ) (i : ℕ) (dues : List ℤ) →
    owed_from o bound (suc i) dues ≡ sum (length dues) (λ e. class_owes o bound (suc (i + e)) (end_at bound (get_or dues e (pos 0))))
unfolding owed_from
owed-places o bound i [] = sym (sum-none _)
owed-places o bound i (d ∷ dues) =
    let z : i + 0 ≡ i = omega arith in
    let later : sum (length dues) (λ e. class_owes o bound (suc (suc i + e)) (end_at bound (get_or dues e (pos 0))))
    ≡ sum (length dues) (λ e. class_owes o bound (suc (i + suc e)) (end_at bound (get_or dues e (pos 0))))
    = sum-cong (length dues) _ _ (λ e l. ap (λ (x : ℕ). class_owes o bound (suc x) (end_at bound (get_or dues e (pos 0)))) (omega arith)) in
    omega (
      arith,
      ap (λ (x : ℕ). class_owes o bound (suc x) (end_at bound d)) z,
      owed-places o bound (suc i) dues,
      later,
      sum_first (length dues) (λ e. class_owes o bound (suc (i + e)) (end_at bound (get_or (d ∷ dues) e (pos 0)))),
    )

hand-places : (o : Order) (bound : ℤ) (i : ℕ) (dues : List ℤ) (f : ℕ → ℕ) →
    ((e : ℕ) → e < length dues → end_at bound (get_or dues e (pos 0)) ≡ pos (f e)) →
    on_hand_from o bound (suc i) dues ≡ pos (sum (length dues) (λ e. processors_in o (suc (i + e)) * f e))
unfolding on_hand_from
hand-places o bound i [] f h = ap pos (sym (sum-none _))
hand-places o bound i (d ∷ dues) f h =
    let z : i + 0 ≡ i = omega arith in
    let later : sum (length dues) (λ e. processors_in o (suc (suc i + e)) * f (suc e))
    ≡ sum (length dues) (λ e. processors_in o (suc (i + suc e)) * f (suc e))
    = sum-cong (length dues) _ _ (λ e l. ap (λ (x : ℕ). processors_in o (suc x) * f (suc e)) (omega arith)) in
    let n : processors_in o (suc i) * f 0 + sum (length dues) (λ e. processors_in o (suc (suc i + e)) * f (suc e))
    ≡ sum (suc (length dues)) (λ e. processors_in o (suc (i + e)) * f e)
    = omega (
      arith,
      ap (λ (x : ℕ). processors_in o (suc x) * f 0) z,
      later,
      sum_first (length dues) (λ e. processors_in o (suc (i + e)) * f e),
    ) in
    rw (h 0 (omega arith), hand-places o bound (suc i) dues (λ e. f (suc e)) (λ e l. h (suc e) (omega arith))) (ap pos n)

module _ (o : Order) (a : Acceptable o) (bound : ℤ)
    (in-time : (j : ℕ) → Numbers (job_count o) j → InTime bound (job_of o j)) where
  abbrev reach : ℕ
  reach = reach_at last_due bound

  -- where every job is in time, a job's due time is reached
  job-within : (j : ℕ) → Numbers (job_count o) j →
      (due_in_range (job_of o j).due ≡ true) × ((job_of o j).time + lead last_due (job_of o j).due ≤ reach) × (1 ≤ (job_of o j).time)
  unfolding end_of
  job-within j n =
      let d = All-nth (λ (job : Job). due_in_range job.due ≡ true) o.jobs no_job (dues-in-range o a) j n.0 n.1 in
      let t = All-nth _ o.jobs no_job a.times j n.0 n.1 in
      (d, (in-time-reach last_due bound (job_of o j).due (due-by-last _ d) (job_of o j).time t.0).0 (in-time j n), t.0)

  reach-whole : end_at bound last_due ≡ pos reach
  reach-whole = let w = job-within 1 (omega arith, a.some-job) in sym (pos-cut (end_at bound last_due) (omega (arith, w.1, w.2)))

  -- due times of jobs are in range, and their ends are not negative
  pub steps-reached : (dues : List ℤ) → StepsFit o dues → StepsReached reach dues
  steps-reached dues h = record {
    in-range = λ i l. let j = in-due o _ (All-at _ dues (pos 0) h.due i l) in
        subst (λ (z : ℤ). due_in_range z ≡ true) (sym j.2) (job-within j.0 j.1).0;
    within = λ i l. let j = in-due o _ (All-at _ dues (pos 0) h.due i l) in omega (
      arith,
      ap (lead last_due) j.2,
      (job-within j.0 j.1).1,
    );
  }

  jobs-reached : All (λ (job : Job). Reached last_due reach job.due) o.jobs
  jobs-reached = All-from _ o.jobs no_job (λ i l.
      let w = job-within (suc i) (omega arith, l) in
      record { at_most = due-by-last _ w.0; within = omega (arith, w.1) })

  module _ (t : Table) (m : Tabled last_due o t) where
    owes_is : (k : ℕ) (due : ℤ) → Reached last_due reach due → class_owes o bound k (end_at bound due) ≡ owes_by t k (lead last_due due)
    unfolding owes_by
    owes_is k due r =
        class-owes last_due bound reach reach-whole o jobs-reached k due r ∙ owes_same o t m k (lead last_due due)

    module _ (dues : List ℤ) (most : length dues ≤ 16) (r : StepsReached reach dues) where
      reached-at : (i : ℕ) → i < length dues → Reached last_due reach (get_or dues i (pos 0))
      reached-at i l = record { at_most = due-by-last _ (r.in-range i l); within = r.within i l }

      owed-is : minutes_owed o bound dues ≡ owed_to t dues
      owed-is =
          owed-places o bound 0 dues
          ∙ sum-cong (length dues) _ (λ i. owes_by t (suc i) (lead last_due (get_or dues i (pos 0)))) (λ i l.
          let z : 0 + i ≡ i = omega arith in
          rw z (owes_is (suc i) (get_or dues i (pos 0)) (reached-at i l)))

      hand-is : minutes_on_hand o bound dues ≡ pos (hand_to t reach dues)
      hand-is =
          hand-places o bound 0 dues (λ i. reach - lead last_due (get_or dues i (pos 0))) (λ i l.
          end-reach last_due bound _ (reached-at i l).at_most reach reach-whole (reached-at i l).within)
          ∙ ap pos
          (sum-cong (length dues) _ (λ i. get_or t.procs i 0 * (reach - lead last_due (get_or dues i (pos 0)))) (λ i l.
          let z : 0 + i ≡ i = omega arith in
          rw z (ap (λ (x : ℕ). x * (reach - lead last_due (get_or dues i (pos 0)))) (sym (m.procs i (omega arith))))))

      -- the sums told are those of the staircase
      pub weighed-told : StepsFit o dues → length dues ≤ length (classes o) → (s : Sums) → s.owed ≡ owed_to t dues →
          s.on_hand ≡ hand_to t reach dues → s.owed ≤ 76800000 →
          WeighedTold o bound dues (then_some (ltb s.on_hand s.owed) s)
      weighed-told fit classed s owed hand small =
          elim (dec_lt s.on_hand s.owed) [
            | yes h ↦ rw (lt-ltb s.on_hand s.owed h) (
              (
                in-time,
                record {
                  profile = chosen-profile o bound dues classed (steps-chosen o dues fit);
                  exceeds = rw (hand-is, owed-is) ((pos-lt (hand_to t reach dues) (owed_to t dues)).1 (omega (arith, owed, hand, h)));
                },
              ),
              owed ∙ sym owed-is,
              ap pos hand ∙ sym hand-is,
              h,
              small,
            )
            | no h ↦ rw (le-ltb s.on_hand s.owed (omega arith)) (λ stands.
                omega (
                  arith,
                  owed,
                  hand,
                  (pos-lt (hand_to t reach dues) (owed_to t dues)).0
                      (subst (λ (z : ℤ). z <ℤ pos (owed_to t dues)) hand-is
                      (subst (λ (n : ℕ). minutes_on_hand o bound dues <ℤ pos n) owed-is stands.1.exceeds)),
                ))
          ]

-- a staircase that stands has its due times fit, of no more classes than there are
pub stands-fits : (o : Order) (bound : ℤ) (dues : List ℤ) → Stands o bound (stairs dues) →
    StepsFit o dues × (length dues ≤ length (classes o))
stands-fits o bound dues h = (chosen-steps o dues (profile-chosen o bound dues h.1.profile), h.1.profile.of-classes)
