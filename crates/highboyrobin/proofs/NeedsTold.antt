-- What a refusal of filling in carries has room in a result of hbr_needs.
use Rattle.std.specs.Prelude.{Result}
use Prim.Native.Nat.{ℕ, ◌≤◌}
use mathlib.Core.Path.{◌≡◌, sym, ◌∙◌, subst}
use mathlib.Core.List.{List}
use lib.ListN.{length}
use Rattle.order.specs.Refusals.{Verdict, judge, refusal, answer_by}
use Rattle.order.specs.Table.{carried_by}
use Rattle.order.proofs.TableLaws.{refused-by}
use Rattle.needs.specs.NeedTable.{need_rows}
use Rattle.needs.specs.Told.{filled_told}
use Rattle.needs.specs.declared.Unfilled.{Unfilled}
use Rattle.highboyrobin.proofs.Carried.{needs-carries}
use Rattle.highboyrobin.specs.NeedCalls.{most_lengths}

pub carried-fits : (table listed : List ℕ) (lent : ℕ) → length listed ≤ most_lengths → (r : Result ℕ Unfilled) →
    filled_told r ≡ answer_by (judge (need_rows table listed lent)) (length listed) → (number carried : ℕ) →
    filled_told r ≡ refusal number carried → carried ≤ most_lengths
carried-fits table listed lent few r told number carried is =
    subst (λ (v : Verdict). carried_by v ≤ most_lengths) (refused-by _ number carried (length listed) (sym is ∙ told))
    (needs-carries table listed lent few)
