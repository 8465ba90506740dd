-- What both checks ask of rows first: none is left over and each is good. Good rows are in range: each ends by its job's end, a small
-- number.
use Rattle.std.specs.Prelude.{ℕ, ◌/◌, ◌%◌, ◌≤◌, ◌≡◌, Bool, ◌&&◌, List, eqb, ℤ, pos, negsuc, length}
use Rattle.std.proofs.Common.{ap, arith, leb-true, to_z, of_z, SFits}
use Rattle.std.proofs.Math.Bool.{true}
use Rattle.std.specs.Int.Signed.{mag, le_z}
use Rattle.std.specs.Int.{w32}
use Rattle.std.proofs.lemmas.Int.{to_z-of_z}
use Rattle.sums.specs.Members.{All-nth}
use Rattle.order.specs.Order.{Order, no_job, job_of, end_at, end_of}
use Rattle.order.specs.Refusals.{Accepted, bound_in_range, due_in_range}
use Rattle.order.proofs.RefusalLaws.{both_true, accepted-iff, true-le_z}
use Rattle.order.proofs.EndLaws.{mag-end}
use Rattle.plan.specs.Plan.{Row}
use Rattle.plan.specs.Check.{row_at, rows_of, every, well_formed, by_end}
use Rattle.plan.specs.EveryLaws.{every-at}
use Rattle.plan.proofs.RuleLaws.{good_row, well-formed-iff}
use Rattle.plan.specs.Inside.{InRange, Ranged}

abbrev pub all_good : Order → ℤ → List ℕ → Bool
all_good o bound numbers = eqb (length numbers % 4) 0 && every (good_row o bound) (rows_of numbers)

-- the bound that the machine reads back is the bound
pub good-back : (o : Order) (bound : ℤ) (numbers : List ℕ) → SFits w32 bound →
    all_good o (to_z w32 (of_z w32 bound)) numbers ≡ all_good o bound numbers
good-back o bound numbers f = ap (λ (z : ℤ). all_good o z numbers) (to_z-of_z w32 bound f)

up_to : (n : ℕ) (z : ℤ) → le_z (pos n) z ≡ true → n ≤ mag z
up_to n (pos k) e = leb-true n k e
up_to n (negsuc k) e = let w : ◌≡◌ {A = ℕ} 0 1 = cc in absurd (omega arith)

module _ (o : Order) (bound : ℤ) (a : Accepted o) (b : bound_in_range bound ≡ true) where
  good-row : (r : Row) → good_row o bound r ≡ true → InRange r
  unfolding end_of
  good-row r e =
      let h = both_true (well_formed o r) (by_end o bound r) e in
      let w = (well-formed-iff o r).0 h.0 in
      let all = (accepted-iff o).0 a in
      let d = All-nth _ o.jobs no_job all.dues r.job w.a-job.0 w.a-job.1 in
      let due = (job_of o r.job).due in
      let in-range : due_in_range due ≡ true = rw (true-le_z _ _ d.0) (true-le_z _ _ d.1) in
      record {
        forward = w.forward;
        short = omega (arith, up_to r.to (end_at bound due) h.1, mag-end due bound in-range b);
        a-job = (w.a-job.0, omega (arith, w.a-job.1, all.few-jobs));
        a-processor = (w.a-processor.0, omega (arith, w.a-processor.1, all.few-processors));
      }

  pub good-ranged : (numbers : List ℕ) → all_good o bound numbers ≡ true → Ranged numbers
  good-ranged numbers e k l =
      let all = (both_true (eqb (length numbers % 4) 0) (every (good_row o bound) (rows_of numbers)) e).1 in
      good-row (row_at numbers k) (every-at (good_row o bound) (length numbers / 4) (row_at numbers) all k l)
