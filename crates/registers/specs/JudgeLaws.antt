-- What the tables of the block's commands answer: 12 where the length is over 220, else what the screen's reader and the planner answer.
-- 9 and 20 are not answered: 720 numbers are room for every screen's order, and no file of 220 bytes has a processor and thirteen jobs.
use Rattle.std.specs.Prelude.{ℕ, ◌+◌, ◌-◌, ◌/◌, ◌≤◌, ◌<◌, ◌≡◌, List, [], ◌∷◌, ℤ, length}
use Rattle.std.proofs.Math.Path.{refl, sym, ap}
use Rattle.std.proofs.Common.{◌∙◌, arith, mul-le-mul_left, mul-le-mul_right, le-ltb, lt-ltb}
use Rattle.order.specs.Order.{Order, processor_count, job_count}
use Rattle.order.specs.Refusals.{limits, screen, accepted, refused, clear, judge, count_rows, order_rows, bound_row, tight_row}
use Rattle.order.proofs.RefusalLaws.{judge-accepted, judge-refused-append, judge-accepted-append, accepted-first}
use Rattle.order.specs.SortedLaws.{dues-few}
use Rattle.order.specs.Callers.{Within, rows_by, rows_for}
use Rattle.order.proofs.CallerLaws.{counts-within, same-within}
use Rattle.order.specs.declared.Caller.TheVariants.{Screen}
use Rattle.order_file.specs.File.{read_rows}
use Rattle.plan.specs.Plan.{Row}
use Rattle.wrap.specs.Stretches.{stretch_count}
use Rattle.profile.specs.Search.{reason_of}
use Rattle.planner.specs.Rows.{rows_asked, buffer_row, is_found, least_rows, plan_rows}
use Rattle.planner.specs.Written.{PlanOf}
use Rattle.planner.specs.JoinedPlan.{plan-joined}
use Rattle.planner.specs.AnswerLaws.{least-begins, plan-begins}
use Rattle.registers.specs.Registers.{Registers, bound_of, length_of, file_in, stored_order, least_table, bound_table}

-- what a screen's order asks for
pub rows_few : (o : Order) → Within screen (processor_count o) (job_count o) → rows_asked o ≤ 180
rows_few o few =
    let most : job_count o + processor_count o - 1 ≤ 15 = omega (arith, few.0, few.1) in
    let dues : stretch_count o ≤ 12 = omega (arith, dues-few o, few.1) in
    omega (arith, mul-le-mul_right (job_count o + processor_count o - 1) dues, mul-le-mul_left 12 most)

pub plan-few : (o : Order) (z : ℤ) (plan : List Row) → Within screen (processor_count o) (job_count o) → PlanOf o z plan → length plan ≤ 180
plan-few o z plan few P = omega (arith, (plan-joined o z plan P).few, rows_few o few)

module _ (s : Registers) where
  abbrev o : Order
  o = stored_order s

  -- "A file length over 220 gives 12", before all
  pub least-long : 220 < length_of s → judge (least_table s) ≡ refused 12 0
  unfolding judge least_table
  least-long h = rw (lt-ltb 220 (length_of s) h) refl

  -- else as the screen's reader judges the file
  pub least-short : length_of s ≤ 220 → judge (least_table s) ≡ judge (rows_for Screen o (read_rows (file_in s)))
  unfolding judge least_table rows_by read_rows
  least-short h = rw (le-ltb 220 (length_of s) h) refl

  pub bound-refused : (number carried : ℕ) → judge (least_table s) ≡ refused number carried → judge (bound_table s) ≡ refused number carried
  unfolding bound_table
  bound-refused number carried e = judge-refused-append (least_table s) _ number carried e

  -- an order that is accepted is within the screen's limits, and the dock's table accepts it
  module _ (taken : judge (least_table s) ≡ accepted) where
    accepted-screen : judge (order_rows screen o) ≡ accepted
    unfolding least_table
    accepted-screen = (judge-accepted (order_rows screen o)).1 ((judge-accepted (least_table s)).0 taken).1.1

    pub stored-within : Within screen (processor_count o) (job_count o)
    stored-within =
        counts-within Screen (processor_count o) (job_count o)
        (accepted-first (count_rows screen (processor_count o) (job_count o)) _ accepted-screen)

    pub stored-accepted : judge (order_rows limits o) ≡ accepted
    unfolding rows_by
    stored-accepted = sym (same-within (processor_count o) (job_count o) stored-within (order_rows limits o)) ∙ accepted-screen

    -- its rows fit into 720 numbers
    module _ (numbers : ℕ) (room : 720 ≤ numbers) where
      pub buffer-clear : (buffer_row o numbers).finding ≡ clear
      buffer-clear = rw (le-ltb (numbers / 4) (rows_asked o) (omega (arith, rows_few o stored-within))) refl

      -- so the planner plans at the least lateness, and at the bound it judges as the block's table does
      pub least-planned : judge (least_rows o numbers) ≡ accepted
      unfolding judge
      least-planned =
          ap judge (least-begins o numbers)
          ∙ judge-accepted-append (order_rows limits o) (buffer_row o numbers ∷ []) stored-accepted
          ∙ rw buffer-clear refl

      pub bound-planned : judge (bound_table s) ≡ judge (plan_rows o (bound_of s) numbers)
      unfolding judge bound_table
      bound-planned =
          let tight = tight_row (is_found (reason_of o (bound_of s))) in
          judge-accepted-append (least_table s) (bound_row (bound_of s) ∷ tight ∷ []) taken
          ∙ sym
          (ap judge (plan-begins o (bound_of s) numbers)
          ∙ judge-accepted-append (order_rows limits o) (bound_row (bound_of s) ∷ buffer_row o numbers ∷ tight ∷ []) stored-accepted
          ∙ rw buffer-clear refl)
