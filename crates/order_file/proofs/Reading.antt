-- How the reader puts its answer together: 12, then the counts, then the whole of acceptance decide.
use Rattle.std.specs.Prelude.{ℕ, ◌≤◌, ◌≡◌, refl, List, ◌++◌, Option, Some, None, Result, Ok, Err}
use Rattle.std.proofs.Common.{sym, ap, ◌∙◌, arith}
use Rattle.order.specs.Order.{Order, processor_count, job_count}
use Rattle.order.specs.Refusals.{limits, TableRow, Verdict, accepted, refused, judge, answer, count_rows, job_rows, order_rows}
use Rattle.order.proofs.RefusalLaws.{judge-refused-append, counts-in-limits}
use Rattle.order.specs.Table.{Acceptance, order_of, table_of, refusal_told, acceptance_told}
use Rattle.order.proofs.TableLaws.{refused-told}
use Rattle.order.proofs.StructLaws.{table_of-order_of}
use Rattle.order.specs.declared.Order.{Order as OrderTable}
use Rattle.order.specs.declared.Refusal.{Refusal}
use Rattle.order.specs.declared.Refusal.TheVariants.{BadFile}
use Rattle.order_file.specs.File.{order_in, read_rows}
use Rattle.order_file.specs.ReaderLaws.{read-refused, read-accepted}
use Rattle.order_file.specs.Told.{ReadBy}
use Rattle.order_file.specs.TrailerLaws.{trailer-bad, trailer-good, lists-placed, processors-are, jobs-are}
use Rattle.order_file.specs.Inside.{trailer_of, Within, Placed}
use Rattle.order_file.specs.declared.Lists.{Lists}

-- an answer that is a refusal of this verdict, or an order that is accepted
module _ (v : Verdict) (o : Order) (r : Result OrderTable Refusal) where
  pub refused-read : (why : Refusal) → r ≡ Err why → v ≡ refusal_told why → ReadBy v o r
  refused-read why is e = let t = refused-told why in rw (is, e, t.2) (refl, tt)

  pub accepted-read : (t : OrderTable) → r ≡ Ok t → v ≡ accepted → order_of t ≡ o → t ≡ table_of o → ReadBy v o r
  accepted-read t is e stands whole = rw (is, e) (ap answer stands, whole)

module _ (f : List ℕ) (t : Option Lists) (is : t ≡ trailer_of f) where
  pub bad-file : t ≡ None → judge (read_rows f) ≡ refusal_told BadFile
  unfolding read_rows judge
  bad-file bad = rw (trailer-bad f t is bad)

  -- in a good file the trailer's lists l are judged
  module _ (l : Lists) (w : Within f t) (good : t ≡ Some l) where
    order-decides : judge (read_rows f) ≡ judge (order_rows limits (order_in f))
    unfolding read_rows judge
    order-decides = rw (trailer-good f t is l good)

    counts-are : count_rows limits l.processors l.jobs ≡ count_rows limits (processor_count (order_in f)) (job_count (order_in f))
    counts-are = let p = lists-placed f t l w good in rw (processors-are f l p, jobs-are f l p)

    -- what was read where the counts are judged
    module _ (c : Result OrderTable Refusal) (e : ReadBy (judge (count_rows limits l.processors l.jobs)) (order_in f) c) where
      -- the counts are refused, and the whole table answers the same
      pub counts-refused : (why : Refusal) → c ≡ Err why → judge (read_rows f) ≡ refusal_told why
      counts-refused why is-refused =
          let told = refused-told why in
          let rows = count_rows limits l.processors l.jobs in
          let v : judge rows ≡ refused told.0 told.1 = read-refused (judge rows) (order_in f) c e.0 why is-refused ∙ told.2 in
          order-decides
          ∙ (ap (λ (r : List TableRow). judge (r ++ job_rows (order_in f))) (sym counts-are)
          ∙ (judge-refused-append rows (job_rows (order_in f)) told.0 told.1 v ∙ sym told.2))

      module _ (order : OrderTable) (is-accepted : c ≡ Ok order) where
        pub stands-for : order_of order ≡ order_in f
        stands-for = (read-accepted (judge (count_rows limits l.processors l.jobs)) (order_in f) c e.0 order is-accepted).1

        -- the struct that was read stands for the file's order
        pub stands : order ≡ table_of (order_in f)
        stands = rw is-accepted at e.1

        pub verdict : (a : Acceptance) → acceptance_told a ≡ judge (order_rows limits (order_of order)) →
            judge (read_rows f) ≡ acceptance_told a
        verdict a es = order-decides ∙ ap (λ (o : Order). judge (order_rows limits o)) (sym stands-for) ∙ sym es

-- the reader where the counts are judged: the lists l are the file's
module _ (f : List ℕ) (l : Lists) (p : Placed f l.processors_at l.jobs_at l.processors l.jobs) (counts : Acceptance)
    (e : acceptance_told counts ≡ judge (count_rows limits l.processors l.jobs)) where
  pub few-counted : counts ≡ Ok tt → (l.processors ≤ 16) × (l.jobs ≤ 48)
  few-counted is = let h = counts-in-limits l.processors l.jobs (sym e ∙ ap acceptance_told is) in (h.1, h.3)

  pub counted : (order : OrderTable) → counts ≡ Ok tt → order ≡ table_of (order_in f) → order_of order ≡ order_in f
  counted order is eo =
      let few = few-counted is in
      ap order_of eo ∙ table_of-order_of (order_in f) (omega (arith, few, processors-are f l p)) (omega (arith, few, jobs-are f l p))
