-- Which job each processor ends a stretch with: the numbers of last rows tell it of the rows that stand, and these end a stretch as its
-- layout does, where the rows before it ended before.
use Prim.Native.Nat.{ℕ, ◌+◌, ◌*◌, ◌≤◌, ◌<◌}
use mathlib.Core.Path.{◌≡◌, refl, sym, ap, ◌∙◌}
use mathlib.Core.Bool.{false, cond}
use mathlib.Core.List.{List, [], ◌∷◌, append-nil}
use mathlib.Core.Logic.{inl, inr}
use native.Mathlib.Omega.{arith}
use native.Mathlib.Decide.{ℕ_discrete}
use borrow.Author.Tests.{eq-eqb}
use lib.ListN.{length}
use Rattle.sums.specs.Lists.{All}
use Rattle.sums.specs.Members.{All-map, All-both}
use Rattle.order.proofs.RefusalLaws.{true-or-false}
use Rattle.plan.specs.Plan.{Row, Forward}
use Rattle.plan.specs.Join.{join_row, join_rows}
use Rattle.plan.proofs.JoinLaws.{join-case, all-rows, Standing, standing-more, standing-all}
use Rattle.plan.proofs.JoinAgain.{Rises, rises-kept}
use Rattle.wrap.specs.Ending.{ends_at, ends_with, job_where}
use Rattle.wrap.specs.EndingLaws.{where-none, ends-at-true}
use Rattle.layout.specs.Sheet.{Sheet, added_all}
use Rattle.layout.specs.Planned.{Named}
use Rattle.layout.specs.Laid.{EndsTold}
use Rattle.layout.proofs.Holding.{not-ending, held-length, holds-tell, all_hold}

module _ (minute i : ℕ) where
  -- one row more that ends with the minute on the processor
  ending-row : (rows : List Row) (x : Row) → All (λ (r : Row). Rises r x) rows → Forward x → x.processor ≡ i → x.to ≡ minute →
      ends_with (join_row rows x) minute i ≡ x.job
  unfolding join_row job_where
  ending-row [] x h f p e = rw (eq-eqb x.processor i p, eq-eqb x.to minute e) refl
  ending-row (r ∷ rows) x h f p e =
      elim (join-case r rows x) [
        | inl c ↦ rw c.1 (rw (eq-eqb r.processor i (c.0.1 ∙ p), eq-eqb x.to minute e) c.0.0)
        | inr c ↦ rw (c.1, no_more) (ending-row rows x h.1 f p e)
      ]
    where
      no_more : ends_at minute i r ≡ false
      no_more =
          elim (ℕ_discrete r.processor i) [
            | yes k ↦ not-ending minute i r (inr (λ d. omega (arith, h.0 (k ∙ sym p))))
            | no k ↦ not-ending minute i r (inl k)
          ]

  -- and one that does not
  other_row : (rows : List Row) (x : Row) → Forward x → x.to ≤ minute → ends_at minute i x ≡ false →
      ends_with (join_row rows x) minute i ≡ ends_with rows minute i
  unfolding join_row job_where
  other_row [] x f l e = rw e refl
  other_row (r ∷ rows) x f l e =
      elim (join-case r rows x) [
        | inl c ↦
            let n : ends_at minute i r ≡ false = not-ending minute i r (inr (λ d. omega (arith, c.0.2))) in
            rw (c.1, n) (rw (c.0.1, e) refl)
        | inr c ↦ rw c.1 (ap (λ (n : ℕ). cond (ends_at minute i r) r.job n) (other_row rows x f l e))
      ]

  other-rows : (rows xs : List Row) → Standing Forward Rises rows xs → All (λ (x : Row). x.to ≤ minute) xs →
      All (λ (x : Row). ends_at minute i x ≡ false) xs → ends_with (join_rows rows xs) minute i ≡ ends_with rows minute i
  unfolding join_rows
  other-rows rows [] b l e = refl
  other-rows rows (x ∷ xs) b l e =
      other-rows (join_row rows x) xs (standing-more Forward Rises rises-kept rows x xs b) l.1 e.1
      ∙ other_row rows x b.each-to-come.0 l.0 e.0

  -- where no row that stood ends with the minute on the processor, the rows that come say which job does
  ends-rows : (rows xs : List Row) → Standing Forward Rises rows xs → All (λ (x : Row). x.to ≤ minute) xs →
      ends_with rows minute i ≡ 0 → ends_with (join_rows rows xs) minute i ≡ ends_with xs minute i
  unfolding join_rows job_where
  ends-rows rows [] b l z = z
  ends-rows rows (x ∷ xs) b l z =
      elim (true-or-false (ends_at minute i x)) [
        | inl e ↦
            let h = ends-at-true minute i x e in
            rw e
            (other-rows (join_row rows x) xs more l.1 (later h)
            ∙ ending-row rows x (All-map _ _ rows (λ (r : Row) w. w.0) b.across) b.each-to-come.0 h.0 h.1)
        | inr e ↦ rw e (ends-rows (join_row rows x) xs more l.1 (other_row rows x b.each-to-come.0 l.0 e ∙ z))
      ]
    where
      more : Standing Forward Rises (join_row rows x) xs
      more = standing-more Forward Rises rises-kept rows x xs b

      later : (x.processor ≡ i) × (x.to ≡ minute) → All (λ (y : Row). ends_at minute i y ≡ false) xs
      later e =
          All-map _ _ xs
          (λ (y : Row) w.
          elim (ℕ_discrete y.processor i) [
            | yes k ↦ absurd (omega (arith, e.1, w.0, w.1.0 (e.0 ∙ sym k), w.1.1))
            | no k ↦ not-ending minute i y (inl k)
          ])
          (All-both Forward _ xs b.each-to-come.1 (All-both (Rises x) _ xs b.to-come.0 l.1))

-- so the numbers of last rows tell which job each processor ends the rows that came with
pub ends-told : (rows : List Row) (end : ℕ) (s : Sheet) → All Named rows → All (λ (r : Row). r.to ≤ end) rows →
    4 * (s.count + length rows) ≤ length s.buffer → EndsTold rows end s (added_all s rows)
ends-told rows end s named by_end room lent done holds standing before i n =
    let by-then = All-map _ _ done (λ (r : Row) (l : r.to < end). let k : r.to ≤ end = omega arith in k) before in
    let stand = standing-all Forward Rises rises-kept done rows [] (rw (append-nil rows) standing) in
    let last = all-rows (λ (r : Row). r.to ≤ end) (λ r x g p q. q) done rows by-then by_end in
    let none = where-none (ends_at end i) done
    (All-map _ _ done (λ (r : Row) (l : r.to < end). not-ending end i r (inr (λ e. omega arith))) before) in
    holds-tell (all_hold done rows holds standing named (omega (arith, holds.count-is, held-length holds)))
    stand.each stand.pairs end i n (All-map _ _ (join_rows done rows) (λ (r : Row) l _. l) last)
    ∙ ends-rows end i done rows standing by_end none
