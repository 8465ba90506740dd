-- How a call with highs reads its estimate: the answer's room, the file, the length of the list, then the counts.
use Rattle.std.specs.Prelude.{Option, Some, None, Result, Ok, Err}
use Prim.Native.Nat.{ℕ, ◌≤◌}
use mathlib.Core.Path.{◌≡◌, refl, sym, ap, ◌∙◌}
use mathlib.Core.List.{List}
use mathlib.Core.Logic.{◌≢◌}
use native.Mathlib.Omega.{arith}
use borrow.Author.Tests.{le-ltb, eq-eqb, ne_eqb}
use lib.ListN.{length, get_or}
use Rattle.sums.specs.Lists.{tabulate}
use Rattle.sums.specs.Places.{length-tabulate, get_d_tabulate, tabulate-cong}
use Rattle.order.specs.Order.{Job, Order, no_job, processor_count, job_count}
use Rattle.order.specs.Refusals.{limits, Verdict, refused, judge, count_rows}
use Rattle.order.proofs.RefusalLaws.{counts-in-limits}
use Rattle.order.specs.Table.{order_of, job_at, refusal_told, carried_by}
use Rattle.order.proofs.TableLaws.{refused-told}
use Rattle.order.specs.declared.Order.{Order as OrderTable}
use Rattle.order.specs.declared.Refusal.{Refusal}
use Rattle.order_file.specs.File.{order_in}
use Rattle.order_file.specs.Inside.{trailer_of, Within, Placed}
use Rattle.order_file.specs.ReaderLaws.{read-refused, read-accepted}
use Rattle.order_file.specs.Told.{ReadBy}
use Rattle.order_file.specs.TrailerLaws.{trailer-bad, trailer-good, lists-placed, processors-are, jobs-are}
use Rattle.order_file.specs.declared.Lists.{Lists}
use Rattle.estimate.specs.Estimate.{EstimatedJob, Estimate}
use Rattle.estimate.specs.Told.{estimated, estimated_job, estimate_of, job_between}
use Rattle.estimate.specs.declared.Estimate.{Estimate as EstimateTable}
use Rattle.highboyrobin.specs.BetweenCalls.{between_call, EstimateBy}
use Rattle.highboyrobin.specs.Results.{result_of}
use Rattle.highboyrobin.proofs.Carried.{carried-few, count-carries}
use Rattle.highboyrobin.proofs.StatusTold.{refused-status, read-status}

-- the estimate of a struct, from its order and the list that its highs are from
pub estimate-is : (t : EstimateTable) (o : Order) (highs : List ℕ) → order_of t.order ≡ o →
    t.highs ≡ tabulate 48 (λ (j : ℕ). get_or highs j 0) → job_count o ≤ 48 → estimate_of t ≡ estimated o highs
estimate-is t o highs e h few =
    let n : t.order.jobs ≡ job_count o = sym (length-tabulate t.order.jobs (job_at t.order)) ∙ ap job_count e in
    same _ _ _ _ (ap (λ (o : Order). o.memories) e)
    (tabulate-cong t.order.jobs (job_between t) (λ j. estimated_job (get_or o.jobs j no_job) (get_or highs j 0))
    (λ j l. job j (sym (get_d_tabulate t.order.jobs (job_at t.order) no_job j l)
    ∙ ap (λ (o : Order). get_or o.jobs j no_job) e)
    (ap (λ (xs : List ℕ). get_or xs j 0) h ∙ get_d_tabulate 48 (λ (j : ℕ). get_or highs j 0) 0 j (omega arith)))
    ∙ ap (λ (k : ℕ). tabulate k (λ j. estimated_job (get_or o.jobs j no_job) (get_or highs j 0))) n)
  where
    same : (ms ns : List ℕ) (js ks : List EstimatedJob) → ms ≡ ns → js ≡ ks →
        ◌≡◌ {A = Estimate} (record { memories = ms; jobs = js }) (record { memories = ns; jobs = ks })
    same ms ns js ks p q = cc

    job : (j : ℕ) → job_at t.order j ≡ get_or o.jobs j no_job → get_or t.highs j 0 ≡ get_or highs j 0 →
        job_between t j ≡ estimated_job (get_or o.jobs j no_job) (get_or highs j 0)
    job j p q = ap (λ (x : Job). estimated_job x (get_or t.highs j 0)) p
        ∙ ap (λ (x : ℕ). estimated_job (get_or o.jobs j no_job) x) q

module _ (lent asked : ℕ) (f highs : List ℕ) where
  abbrev verdict : Verdict
  verdict = judge (between_call lent asked f highs (count_rows limits (processor_count (order_in f)) (job_count (order_in f))))

  refuses : (number result : ℕ) → verdict ≡ refused number 0 → result ≡ result_of (refused number 0) →
      EstimateBy verdict f highs (Err result)
  refuses number result v e = refused-status verdict (Err result) _ number 0 v (ap (λ (n : ℕ). Err n) e)

  module _ (room : asked ≤ lent) (t : Option Lists) (is : t ≡ trailer_of f) where
    -- the file is bad
    pub bad-file : t ≡ None → EstimateBy verdict f highs (Err 12)
    unfolding judge between_call
    bad-file e = refuses 12 12 (rw (le-ltb lent asked room, trailer-bad f t is e)) refl

    -- the file is good, and its trailer gives the lists l
    module _ (l : Lists) (w : Within f t) (good : t ≡ Some l) where
      placed : Placed f l.processors_at l.jobs_at l.processors l.jobs
      placed = lists-placed f t l w good

      pub other-jobs : length highs ≢ l.jobs → EstimateBy verdict f highs (Err 253)
      unfolding judge between_call
      other-jobs d =
          refuses 253 253
          (rw (le-ltb lent asked room, trailer-good f t is l good, jobs-are f l placed, ne_eqb (length highs) l.jobs d)) refl

      -- the list is as long: the counts decide
      module _ (ej : length highs ≡ l.jobs) (o : Result OrderTable Refusal)
          (e : ReadBy (judge (count_rows limits l.processors l.jobs)) (order_in f) o) where
        counts-decide : verdict ≡ judge (count_rows limits l.processors l.jobs)
        unfolding judge between_call
        counts-decide =
            rw (
              le-ltb lent asked room,
              trailer-good f t is l good,
              jobs-are f l placed,
              processors-are f l placed,
              eq-eqb (length highs) l.jobs ej,
            )

        counts-told : (why : Refusal) → o ≡ Err why → judge (count_rows limits l.processors l.jobs) ≡ refusal_told why
        counts-told why is = read-refused (judge (count_rows limits l.processors l.jobs)) (order_in f) o e.0 why is

        -- what is carried has room in a result
        pub counts-carry : (why : Refusal) → o ≡ Err why → carried_by (refusal_told why) ≤ 16777215
        counts-carry why is = carried-few _ _ (counts-told why is) (count-carries limits l.processors l.jobs)

        pub counts-refuse : (why : Refusal) → o ≡ Err why → (result : ℕ) → result ≡ result_of (refusal_told why) →
            EstimateBy verdict f highs (Err result)
        counts-refuse why is result er =
            let k = refused-told why in
            refused-status verdict (Err result) _ k.0 k.1 (counts-decide ∙ (counts-told why is ∙ k.2))
            (ap (λ (n : ℕ). Err n) (er ∙ ap result_of k.2))

        pub counts-accept : (order : OrderTable) → o ≡ Ok order → (r : EstimateTable) → r.order ≡ order →
            r.highs ≡ tabulate 48 (λ (j : ℕ). get_or highs j 0) → EstimateBy verdict f highs (Ok r)
        counts-accept order is r eo eh =
            let a = read-accepted (judge (count_rows limits l.processors l.jobs)) (order_in f) o e.0 order is in
            let few : job_count (order_in f) ≤ 48
            = omega (arith, jobs-are f l placed, (counts-in-limits l.processors l.jobs a.0).3) in
            read-status verdict (Ok r) _ (counts-decide ∙ a.0) r refl
            (estimate-is r (order_in f) highs (ap order_of eo ∙ a.1) eh few)
