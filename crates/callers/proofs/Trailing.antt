-- What a trailer says by the caller's limits, and what the reader by them answers.
use Prim.Native.Nat.{ℕ, ◌<◌}
use mathlib.Core.Path.{◌≡◌, refl, sym, ◌∙◌, subst}
use mathlib.Core.List.{List}
use native.Mathlib.Omega.{arith}
use Rattle.order.specs.Order.{no_order}
use Rattle.order.specs.Refusals.{Limits, Verdict, judge, count_rows, job_rows}
use Rattle.order.specs.Callers.{limits_of, rows_by, rows_for}
use Rattle.order.specs.Table.{Acceptance, refusal_told, acceptance_told}
use Rattle.order.proofs.TableLaws.{same-refusal}
use Rattle.std.specs.Prelude.{Option, Some, None, Result, Ok, Err}
use Rattle.order.specs.declared.Caller.{Caller}
use Rattle.order.specs.declared.Refusal.{Refusal}
use Rattle.order.specs.declared.Refusal.TheVariants.{BadFile}
use Rattle.order_file.specs.File.{order_in, read_rows}
use Rattle.order_file.specs.Inside.{trailer_of, Within}
use Rattle.order_file.specs.Told.{ReadBy}
use Rattle.order_file.specs.TrailerLaws.{trailer-bad, trailer-good, lists-placed, processors-are, jobs-are}
use Rattle.order_file.specs.declared.Lists.{Lists}
use Rattle.order.specs.declared.Order.{Order as OrderTable}
use Rattle.callers.specs.Trailers.{trailer_rows}
use Rattle.callers.specs.TrailerLaws.{trailer-refused, trailer-passed}

module _ (f : List ℕ) (t : Option Lists) (is : t ≡ trailer_of f) where
  pub file-bad : (most : Limits) → t ≡ None → refusal_told BadFile ≡ judge (trailer_rows most f)
  unfolding judge
  file-bad most bad = rw (trailer-bad f t is bad)

  module _ (l : Lists) (within : Within f t) (good : t ≡ Some l) where
    pub processors-fit : l.processors < 4294967296
    processors-fit = let p = lists-placed f t l within good in omega (arith, p.processors-in, p.short)

    pub jobs-fit : l.jobs < 4294967296
    jobs-fit = let p = lists-placed f t l within good in omega (arith, p.jobs-in, p.short)

    pub file-counted : (most : Limits) (v : Verdict) → v ≡ judge (count_rows most l.processors l.jobs) → v ≡ judge (trailer_rows most f)
    unfolding judge
    file-counted most v e =
        let p = lists-placed f t l within good in
        e ∙ rw (trailer-good f t is l good, processors-are f l p, jobs-are f l p)

-- the reader
module _ (caller : Caller) (f : List ℕ) (a : Acceptance) (e : acceptance_told a ≡ judge (trailer_rows (limits_of caller) f)) where
  abbrev verdict : Verdict
  verdict = judge (rows_for caller (order_in f) (read_rows f))

  pub read-refused : (why : Refusal) → a ≡ Err why → ReadBy verdict (order_in f) (Err why)
  unfolding read_rows
  read-refused why is =
      let v : verdict ≡ refusal_told why = trailer-refused caller f a e why is (job_rows (order_in f)) in
      (same-refusal verdict why no_order (order_in f) v, tt)

  pub read-passed : a ≡ Ok tt → (r : Result OrderTable Refusal) → ReadBy (judge (read_rows f)) (order_in f) r →
      ReadBy verdict (order_in f) r
  unfolding rows_by read_rows
  read-passed is r p =
      subst (λ (v : Verdict). ReadBy v (order_in f) r) (sym (trailer-passed caller f a e is (read_rows f) refl)) p
