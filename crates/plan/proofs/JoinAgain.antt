-- Document 02, §2: "a second joining finds nothing to join", where the rows of each processor rise.
use Rattle.std.specs.Prelude.{◌≤◌, ◌≡◌, refl, List, [], ◌∷◌, ◌++◌}
use Rattle.std.proofs.Common.{sym, ap, ◌∙◌, append-nil, append_assoc, inl, inr, arith}
use Rattle.sums.specs.Lists.{All, Pairwise}
use Rattle.sums.specs.Members.{All-map, All-both, All-append}
use Rattle.sums.specs.Pairs.{Pairwise-map, Pairwise-both, Pairwise-with}
use Rattle.plan.specs.Plan.{Row, Forward}
use Rattle.plan.specs.Join.{GoesOnAs, join_row, join_rows, joined}
use Rattle.plan.proofs.JoinLaws.{
  join-case,
  all_row,
  forward-one,
  Standing,
  standing-none,
  Kept,
  standing-more,
  joined-all,
  joined-pairs,
}

-- rows of one processor rise: the earlier one ends before the later begins
abbrev pub Rises : Row → Row → Type 0
Rises r s = r.processor ≡ s.processor → r.to ≤ s.from

pub rises-kept : Kept Forward Rises
rises-kept =
    record {
      one = forward-one;
      between = λ r t x g f _ p q e. absurd (omega (arith, g.2, p e, q (sym e ∙ g.1)));
      before = λ u r x g f p q e. p e;
      behind = λ r x t g f p q e. q (sym g.1 ∙ e);
    }

-- two rows that stay two: the one does not go on as the other
abbrev pub Separate : Row → Row → Type 0
Separate r s = ¬ GoesOnAs r s

separate-row : (rows : List Row) (x : Row) → All Forward rows → Forward x → All (λ (r : Row). Rises r x) rows → Pairwise Separate rows →
    Pairwise Separate (join_row rows x)
unfolding join_row
separate-row [] x f k a h = (tt, tt)
separate-row (r ∷ rows) x f k a h =
    elim (join-case r rows x) [
      | inl c ↦ rw c.1 (
        All-map _ _ rows (λ (t : Row) w g. omega (arith, w.0, w.1 (sym g.1 ∙ c.0.1), g.2))
            (All-both Forward _ rows f.1 a.1),
        h.1,
      )
      | inr c ↦ rw c.1 (
        all_row (Separate r) (λ t y g p q. p) rows x h.0 c.0,
        separate-row rows x f.1 k a.1 h.1,
      )
    ]

separate-rows : (rows xs : List Row) → Standing Forward Rises rows xs → Pairwise Separate rows → Pairwise Separate (join_rows rows xs)
unfolding join_rows
separate-rows rows [] s h = h
separate-rows rows (x ∷ xs) s h =
    separate-rows (join_row rows x) xs (standing-more Forward Rises rises-kept rows x xs s)
    (separate-row rows x s.each s.each-to-come.0 (All-map _ _ rows (λ (r : Row) a. a.0) s.across) h)

-- no two of the joined rows go on as one another, in either order
pub joined-separate : (rows : List Row) → All Forward rows → Pairwise Rises rows →
    Pairwise (λ (r s : Row). Separate r s × Separate s r) (joined rows)
joined-separate rows f h =
    Pairwise-with Forward _ _ (joined rows)
    (λ r s k l w. (w.1, λ g. omega (arith, w.0 (sym g.1), g.2)))
    (joined-all Forward rows forward-one f)
    (Pairwise-both Rises Separate (joined rows) (joined-pairs Forward Rises rows rises-kept f h)
    (separate-rows [] rows (standing-none Forward Rises rows f h) tt))

-- a row that none goes on as stands behind all
pub row-behind : (rows : List Row) (x : Row) → All (λ (r : Row). Separate r x) rows → join_row rows x ≡ rows ++ (x ∷ [])
unfolding join_row
row-behind [] x h = refl
row-behind (r ∷ rows) x h =
    elim (join-case r rows x) [
      | inl c ↦ absurd (h.0 c.0)
      | inr c ↦ c.1 ∙ ap (λ (l : List Row). r ∷ l) (row-behind rows x h.1)
    ]

rows_behind : (rows xs : List Row) → All (λ (r : Row). All (Separate r) xs) rows → Pairwise Separate xs → join_rows rows xs ≡ rows ++ xs
unfolding join_rows
rows_behind rows [] a h = sym (append-nil rows)
rows_behind rows (x ∷ xs) a h =
    ap (λ (l : List Row). join_rows l xs) (row-behind rows x (All-map _ _ rows (λ (r : Row) w. w.0) a))
    ∙ rows_behind (rows ++ (x ∷ [])) xs
    (All-append _ rows (x ∷ []) (All-map _ _ rows (λ (r : Row) w. w.1) a) (h.0, tt)) h.1
    ∙ append_assoc rows (x ∷ []) xs

-- where no row goes on as a later one there is nothing to join
pub nothing-joined : (rows : List Row) → Pairwise Separate rows → joined rows ≡ rows
nothing-joined rows h = rows_behind [] rows tt h

-- "a second joining finds nothing to join"
pub joined-again : (rows : List Row) → All Forward rows → Pairwise Rises rows → joined (joined rows) ≡ joined rows
joined-again rows f h =
    nothing-joined (joined rows) (Pairwise-map _ Separate (joined rows) (λ r s w. w.0) (joined-separate rows f h))
