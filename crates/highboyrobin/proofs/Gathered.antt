-- The order of a struct that was filled from lists of numbers.
use Prim.Native.Nat.{ℕ, ◌+◌, ◌*◌, ◌/◌, ◌≤◌}
use mathlib.Core.Path.{◌≡◌, refl, sym, ap, ◌∙◌}
use mathlib.Core.List.{List}
use native.Mathlib.Omega.{arith}
use lib.IntN.{pos}
use lib.ListN.{length, get_or}
use Rattle.sums.specs.Lists.{tabulate}
use Rattle.std.specs.Prelude.{◌<◌, take}
use Rattle.std.proofs.Common.{get_or-take}
use Rattle.sums.specs.Places.{get_d_tabulate, tabulate-cong, tabulate-get_or}
use Rattle.order.proofs.StructLaws.{same-order, same-job}
use Rattle.order.specs.Table.{order_of, job_at}
use Rattle.order.specs.declared.Order.{Order as OrderTable}
use Rattle.order_file.specs.Bytes.{signed}
use Rattle.highboyrobin.specs.Calls.{order_from}

module _ (ms js : List ℕ) (t : OrderTable) (m n : ℕ) (few : m ≤ 16) (few' : n ≤ 48) (em : t.processors ≡ m) (en : t.jobs ≡ n)
    (lm : length ms ≡ m) (ln : length js / 4 ≡ n) where
  -- the numbers at a place in each job, of the jobs alone
  abbrev pub Column : ℕ → List ℕ → Type 0
  Column place xs = xs ≡ tabulate 48 (λ j. get_or (take (4 * n) js) (4 * j + place) 0)

  column-at : (place j : ℕ) (xs : List ℕ) → place < 4 → j < n → Column place xs → get_or xs j 0 ≡ get_or js (4 * j + place) 0
  column-at place j xs p l e =
      ap (λ (ys : List ℕ). get_or ys j 0) e
      ∙ (get_d_tabulate 48 (λ j. get_or (take (4 * n) js) (4 * j + place) 0) 0 j (omega arith)
      ∙ get_or-take (4 * n) js (4 * j + place) 0 (omega arith))

  first_of : (j : ℕ) → get_or js (4 * j + 0) 0 ≡ get_or js (4 * j) 0
  first_of j = let e : 4 * j + 0 ≡ 4 * j = omega arith in rw e refl

  pub gathered : (dues : List ℕ) → t.memories ≡ tabulate 16 (λ i. get_or ms i 0) → Column 0 t.times → Column 1 dues →
      ((j : ℕ) → j < 48 → get_or t.dues j (pos 0) ≡ signed (get_or dues j 0)) → Column 2 t.needs → Column 3 t.makers →
      order_of t ≡ order_from ms js
  unfolding order_from
  gathered dues hm ht hd made hn hv =
      same-order _ _ _ _
      (rw em (tabulate-cong m _ (λ i. get_or ms i 0)
      (λ i l. ap (λ (l : List ℕ). get_or l i 0) hm ∙ get_d_tabulate 16 (λ i. get_or ms i 0) 0 i (omega arith))
      ∙ (ap (λ (k : ℕ). tabulate k (λ i. get_or ms i 0)) (sym lm) ∙ tabulate-get_or ms 0)))
      (rw (en, ln)
      (tabulate-cong n (job_at t) _
      (λ j l. same-job _ _ _ _ _ _ _ _
      (column-at 0 j t.times (omega arith) l ht ∙ first_of j)
      (made j (omega arith) ∙ ap signed (column-at 1 j dues (omega arith) l hd))
      (column-at 2 j t.needs (omega arith) l hn)
      (column-at 3 j t.makers (omega arith) l hv))))
