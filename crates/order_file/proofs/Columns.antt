-- The reader's columns are those of the file's order.
use Prim.Native.Nat.{ℕ, ◌+◌, ◌-◌, ◌*◌, ◌≤◌, ◌<◌}
use mathlib.Core.Path.{◌≡◌, sym, ap, ◌∙◌}
use mathlib.Core.List.{List}
use native.Mathlib.Omega.{arith}
use lib.IntN.{ℤ, pos}
use lib.ListN.{get_or, take, drop}
use Rattle.sums.specs.Lists.{tabulate}
use Rattle.sums.specs.Places.{length-tabulate}
use Rattle.order.specs.Order.{Job, no_job}
use Rattle.order.specs.Table.{table_of}
use Rattle.order.specs.declared.Order.{Order as OrderTable}
use Rattle.order_file.specs.Bytes.{number4, signed}
use Rattle.order_file.specs.File.{job_place, processors_of, jobs_of, job_in, order_in, job_width}
use Rattle.order_file.specs.Inside.{padded_to, Placed}
use Rattle.order_file.specs.PaddedLaws.{padded-cong}
use Rattle.order_file.proofs.Padded.{padded-field, number4-part}

same-table : (p q : ℕ) (ms ns : List ℕ) (j k : ℕ) (ts us : List ℕ) (ds es : List ℤ) (xs ys vs ws : List ℕ) →
    p ≡ q → ms ≡ ns → j ≡ k → ts ≡ us → ds ≡ es → xs ≡ ys → vs ≡ ws →
    ◌≡◌ {A = OrderTable}
    (record { processors = p; memories = ms; jobs = j; times = ts; dues = ds; needs = xs; makers = vs })
    (record { processors = q; memories = ns; jobs = k; times = us; dues = es; needs = ys; makers = ws })
same-table p q ms ns j k ts us ds es xs ys vs ws a b c d e f g = cc

module _ (f : List ℕ) (pa ja p j : ℕ) (at : Placed f pa ja p j) where
  -- the two parts of the file
  abbrev processor-list : List ℕ
  processor-list = take (pa + 4 * p - pa) (drop pa f)

  abbrev job-list : List ℕ
  job-list = take (ja + job_width * j - ja) (drop ja f)

  memories-read : padded_to 16 p 0 (λ i. number4 processor-list (4 * i + 0)) ≡ tabulate 16 (λ i. get_or (order_in f).memories i 0)
  unfolding order_in padded_to
  memories-read =
      padded-cong 16 p 0 _ (λ i. number4 f (pa + 4 * i)) (λ i l. number4-part f pa (pa + 4 * p - pa) (4 * i + 0) (omega arith) ∙ ap (number4 f) (omega arith))
      ∙ ap (λ (n : ℕ). padded_to 16 n 0 (λ i. number4 f (pa + 4 * i))) at.processors-are
      ∙ ap (λ (b : ℕ). padded_to 16 (processors_of f) 0 (λ i. number4 f (b + 4 * i))) at.processors-at

  job-number : (k first : ℕ) → k < j → first ≤ 12 → number4 job-list (job_width * k + first) ≡ number4 f (ja + job_width * k + first)
  job-number k first l s =
      number4-part f ja (ja + job_width * j - ja) (job_width * k + first) (omega arith) ∙ ap (number4 f) (omega arith)

  -- one field of each job
  field-read : {B : Type 0} (g : Job → B) →
      padded_to 48 j (g no_job) (λ k. g (job_in f (ja + job_width * k))) ≡ tabulate 48 (λ k. g (get_or (order_in f).jobs k no_job))
  unfolding order_in
  field-read g =
      ap (λ (n : ℕ). padded_to 48 n (g no_job) (λ k. g (job_in f (ja + job_width * k)))) at.jobs-are
      ∙ ap (λ (b : ℕ). padded_to 48 (jobs_of f) (g no_job) (λ k. g (job_in f (b + job_width * k)))) at.jobs-at
      ∙ padded-field g 48 (jobs_of f) no_job (λ k. job_in f (job_place f + job_width * k))

  -- the struct of the columns that were read is that of the file's order
  pub columns-read : (ms ts : List ℕ) (ds : List ℤ) (ns vs : List ℕ) →
      ms ≡ padded_to 16 p 0 (λ i. number4 processor-list (4 * i + 0)) →
      ts ≡ padded_to 48 j 0 (λ k. number4 job-list (job_width * k + 0)) →
      ds ≡ padded_to 48 j (pos 0) (λ k. signed (number4 job-list (job_width * k + 4))) →
      ns ≡ padded_to 48 j 0 (λ k. number4 job-list (job_width * k + 8)) →
      vs ≡ padded_to 48 j 0 (λ k. number4 job-list (job_width * k + 12)) →
      ◌≡◌ {A = OrderTable}
      (record { processors = p; memories = ms; jobs = j; times = ts; dues = ds; needs = ns; makers = vs })
      (table_of (order_in f))
  unfolding table_of order_in
  columns-read ms ts ds ns vs em et ed en ev =
      same-table _ _ _ _ _ _ _ _ _ _ _ _ _ _
      (at.processors-are ∙ sym (length-tabulate (processors_of f) _))
      (em ∙ memories-read)
      (at.jobs-are ∙ sym (length-tabulate (jobs_of f) _))
      (et
      ∙ padded-cong 48 j 0 _ _ (λ k l. job-number k 0 l (omega arith) ∙ ap (number4 f) (omega arith))
      ∙ field-read (λ job. job.time))
      (ed ∙ padded-cong 48 j (pos 0) _ _ (λ k l. ap signed (job-number k 4 l (omega arith))) ∙ field-read (λ job. job.due))
      (en ∙ padded-cong 48 j 0 _ _ (λ k l. job-number k 8 l (omega arith)) ∙ field-read (λ job. job.need))
      (ev ∙ padded-cong 48 j 0 _ _ (λ k l. job-number k 12 l (omega arith)) ∙ field-read (λ job. job.maker))
