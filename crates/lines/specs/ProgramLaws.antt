-- What plan-order writes is determined by the file.
use Rattle.std.specs.Prelude.{ℕ, ◌≡◌, Bool, List, length, take}
use Rattle.std.proofs.Common.{sym, ap, ◌∙◌, arith}
use Rattle.order.specs.Order.{Order}
use Rattle.order.specs.Refusals.{Verdict, accepted, refused, judge}
use Rattle.order_file.specs.File.{order_in}
use Rattle.profile.specs.Least.{least_lateness}
use Rattle.planner.specs.WrittenOne.{plan-one}
use Rattle.text.specs.TextLaws.{put_first}
use Rattle.lines.specs.Lines.{plan_lines}
use Rattle.lines.specs.Programs.{plan_order_rows, PlanOrderText, PlanOrderOutput}
use Rattle.lines.specs.declared.Output.{Output}

text-one : (v : Verdict) (o : Order) (text text' : List ℕ) → PlanOrderText v o text → PlanOrderText v o text' → text ≡ text'
text-one accepted o text text' T U =
    T.text-is ∙ ap (plan_lines (least_lateness o)) (plan-one o (least_lateness o) T.plan U.plan T.plan-of U.plan-of)
    ∙ sym U.text-is
text-one (refused number carried) o text text' T U = T ∙ sym U

-- the bytes written and the answer, whatever buffer is lent
pub plan-order-one : (file buffer after buffer' after' : List ℕ) (r r' : Output) →
    PlanOrderOutput file buffer after r → PlanOrderOutput file buffer' after' r' →
    (take r.length after ≡ take r'.length after') × (r ≡ r')
plan-order-one file buffer after buffer' after' r r' P Q =
    let same : P.text ≡ Q.text
    = text-one (judge (plan_order_rows file)) (order_in file) P.text Q.text P.text-is Q.text-is in
    let size : r.length ≡ r'.length = omega (arith, P.put.next-is, Q.put.next-is, ap length same) in
    let told : r.refused ≡ r'.refused = P.told ∙ sym Q.told in (
      put_first P.put ∙ same ∙ sym (put_first Q.put),
      ap (λ (n : ℕ). record { length = n; refused = r.refused }) size
          ∙ ap (λ (b : Bool). record { length = r'.length; refused = b }) told,
    )
