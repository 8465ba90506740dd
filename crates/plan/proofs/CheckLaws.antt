-- The plan check says yes to right plans and to no others. `is_right` computes whether lent numbers are the rows of a right
-- plan; for an accepted order, a bound in range and at most 3,024 rows the check answers what it computes.
use Rattle.std.specs.Prelude.{ℕ, suc, ◌+◌, ◌/◌, ◌%◌, ◌≤◌, ◌≡◌, Bool, true, false, ◌&&◌, List, [], ◌∷◌, ◌↔◌, eqb, ℤ, length}
use Rattle.std.proofs.Common.{sym, ap, ◌∙◌, arith, le-ltb, eqb-true, eq-eqb, ne_eqb}
use Rattle.std.proofs.Math.Bool.{and_assoc}
use Rattle.sums.specs.Lists.{tabulate}
use Rattle.sums.specs.Members.{All-at}
use Rattle.order.specs.Order.{Order, job_count, job_of, no_job}
use Rattle.order.specs.Refusals.{limits, order_rows, bound_row, rows_to_check_row, judge, accepted, Accepted, bound_in_range}
use Rattle.order.specs.Refusals.{answer, answer_by}
use Rattle.order.proofs.RefusalLaws.{both_true, accepted-iff, judge-accepted-append}
use Rattle.plan.specs.Check.{rows_of, RightNumbers, every, every_two, no_overlap, whole_job, is_right, check_rows}
use Rattle.plan.specs.EveryLaws.{every-fails}
use Rattle.plan.proofs.RuleLaws.{good_row, right_rows, right-iff}
use Rattle.plan.specs.NumberLaws.{rows-of-numbers, length-numbers, numbers-of-rows}

-- no numbers are left over, and the rows are right
is_right-is : (o : Order) (bound : ℤ) (numbers : List ℕ) →
    is_right o bound numbers ≡ (eqb (length numbers % 4) 0 && right_rows o bound (rows_of numbers))
unfolding is_right
is_right-is o bound numbers =
    and_assoc (eqb (length numbers % 4) 0) (every (good_row o bound) (rows_of numbers))
    (every_two no_overlap (rows_of numbers) && every (whole_job o (rows_of numbers)) (tabulate (job_count o) suc))

-- the definition answers true for the numbers of a right plan, however many, and for no others
pub right-numbers : (o : Order) (bound : ℤ) (numbers : List ℕ) → is_right o bound numbers ≡ true → RightNumbers o bound numbers
right-numbers o bound numbers e =
    let parts = sym (is_right-is o bound numbers) ∙ e in
    let h = both_true (eqb (length numbers % 4) 0) (right_rows o bound (rows_of numbers)) parts in
    record {
      rows = rows_of numbers;
      are = sym (numbers-of-rows numbers (eqb-true _ _ h.0));
      right = (right-iff o bound (rows_of numbers)).0 h.1;
    }

pub numbers-right : (o : Order) (bound : ℤ) (numbers : List ℕ) → RightNumbers o bound numbers → is_right o bound numbers ≡ true
numbers-right o bound numbers h =
    let whole : length numbers % 4 ≡ 0 = omega (arith, ap length h.are, length-numbers h.rows) in
    let same : rows_of numbers ≡ h.rows = ap rows_of h.are ∙ rows-of-numbers h.rows in
    is_right-is o bound numbers
    ∙ rw (eq-eqb (length numbers % 4) 0 whole)
    (ap (right_rows o bound) same ∙ (right-iff o bound h.rows).1 h.right)

-- the check's definition answers true exactly for the numbers of a right plan
pub is_right-iff : (o : Order) (bound : ℤ) (numbers : List ℕ) → (is_right o bound numbers ≡ true) ↔ RightNumbers o bound numbers
is_right-iff o bound numbers = (right-numbers o bound numbers, numbers-right o bound numbers)

-- none of the check's conditions holds for an accepted order, a bound in range and at most 3,024 rows
pub check-judges : (o : Order) (bound : ℤ) (n : ℕ) → Accepted o → bound_in_range bound ≡ true → n ≤ 12096 →
    judge (check_rows o bound n) ≡ accepted
unfolding check_rows judge
check-judges o bound n a b l =
    judge-accepted-append (order_rows limits o) (bound_row bound ∷ rows_to_check_row n ∷ []) a
    ∙ rw (b, le-ltb 3024 ((n + 3) / 4) (omega arith))

said : (a b : Bool) → answer a ≡ answer b → a ≡ b
said a b e = cc

-- for these the plan check says yes to right plans and to no others
pub check-yes : (o : Order) (bound : ℤ) (numbers : List ℕ) → Accepted o → bound_in_range bound ≡ true → length numbers ≤ 12096 →
    (answer_by (judge (check_rows o bound (length numbers))) (is_right o bound numbers) ≡ answer true)
    ↔ RightNumbers o bound numbers
check-yes o bound numbers a b l =
    let e = check-judges o bound (length numbers) a b l in (
      (λ h. right-numbers o bound numbers (said _ _ (rw e at h))),
      λ r. rw e (ap answer (numbers-right o bound numbers r)),
    )

-- numbers that leave a row unfinished are answered no
pub malformed-no : (o : Order) (bound : ℤ) (numbers : List ℕ) → ¬ (length numbers % 4 ≡ 0) → is_right o bound numbers ≡ false
malformed-no o bound numbers h = is_right-is o bound numbers ∙ rw (ne_eqb (length numbers % 4) 0 h)

-- an empty list is answered no: an accepted order has a first job, and it takes time
pub empty-no : (o : Order) (bound : ℤ) → Accepted o → is_right o bound [] ≡ false
unfolding is_right every every_two
empty-no o bound a =
    let h = (accepted-iff o).0 a in
    every-fails (whole_job o []) (job_count o) suc 0 h.some-job
    (ne_eqb 0 (job_of o 1).time (omega (arith, All-at _ o.jobs no_job h.times 0 h.some-job)))
