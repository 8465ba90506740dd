-- The rows that stand in a buffer after one row more are the joined ones: where the rows of each processor rise, the only row that can
-- go on as the next one is the last of its processor.
use Prim.Native.Nat.{ℕ, suc, ◌+◌, ◌-◌, ◌*◌, ◌≤◌, ◌<◌}
use mathlib.Core.Path.{◌≡◌, refl, sym, ap, ◌∙◌}
use mathlib.Core.Bool.{Bool, true, false, cond, ◌&&◌}
use mathlib.Core.List.{List, [], ◌∷◌, ◌++◌, append_assoc}
use mathlib.Core.Logic.{◌⊎◌, ◌≢◌, inl, inr}
use native.Mathlib.Omega.{arith}
use native.Mathlib.Decide.{ℕ_discrete}
use borrow.Author.Tests.{eq-eqb, ne_eqb}
use lib.Dec.{eqb}
use lib.ListN.{length, get_or, take, drop, replicate, length-append, length-drop}
use lib.Seq.{take_at, drop-append-add, drop-drop, set-append_left}
use Rattle.sums.specs.Lists.{All, Pairwise, only}
use Rattle.sums.specs.Members.{All-map, All-in, in-All}
use Rattle.sums.specs.Places.{get_d_tabulate, tabulate-cong, set-tabulate, replicate-tabulate}
use Rattle.order.specs.Order.{Numbers}
use Rattle.plan.specs.Plan.{Row, Forward}
use Rattle.plan.specs.Check.{numbers_of}
use Rattle.plan.specs.NumberLaws.{length-numbers}
use Rattle.plan.specs.Join.{GoesOnAs, join_row, join_rows}
use Rattle.plan.proofs.JoinLaws.{join-case, Standing, standing-more, row_count}
use Rattle.plan.proofs.JoinAgain.{Rises, Separate, rises-kept, row-behind}
use Rattle.wrap.specs.Ending.{ends_at, ends_with, job_where}
use Rattle.wrap.specs.EndingLaws.{where-none, ends_is}
use Rattle.layout.specs.Sheet.{Sheet, sheet, ending_job, last_for, last_of, added, added_all, Holds}
use Rattle.layout.specs.Planned.{Named}
use Rattle.layout.proofs.LastRows.{
  last-case,
  last_some,
  last_none,
  last-behind,
  lengthen_at,
  lengthen-length,
  lengthen-last,
  lengthen-numbers,
}
use Rattle.layout.proofs.Writing.{numbers-append, numbers-one, longer, behind_all, added-longer, added-behind}

-- The job that a processor ends with -------------------------------------------------------------------------------------------------

-- behind one row more, the numbers of a row stand four places further on
ending-later : (r : Row) (rows : List Row) (rest : List ℕ) (k minute : ℕ) →
    ending_job (numbers_of (r ∷ rows) ++ rest) (suc (suc k)) minute ≡ ending_job (numbers_of rows ++ rest) (suc k) minute
unfolding numbers_of
ending-later r rows rest k minute =
    let e : 4 * suc (suc k) - 1 ≡ suc (suc (suc (suc (4 * suc k - 1)))) = omega arith in
    let f : 4 * suc (suc k) - 4 ≡ suc (suc (suc (suc (4 * suc k - 4)))) = omega arith in
    rw (ne_eqb (suc (suc k)) 0 (λ e. omega arith), ne_eqb (suc k) 0 (λ e. omega arith), e, f) refl

-- a row of another processor, and one that ends at another minute
pub not-ending : (minute i : ℕ) (r : Row) → (r.processor ≢ i) ⊎ (r.to ≢ minute) → ends_at minute i r ≡ false
not-ending minute i r (inl ne) = rw (ne_eqb r.processor i ne) refl
not-ending minute i r (inr ne) = rw (ne_eqb r.to minute ne) (and-false (eqb r.processor i))
  where
    and-false : (b : Bool) → (b && false) ≡ false
    and-false true = refl
    and-false false = refl

none-ending : (rows : List Row) (minute i : ℕ) → All (λ (r : Row). r.processor ≢ i) rows → ends_with rows minute i ≡ 0
none-ending rows minute i h = where-none (ends_at minute i) rows (All-map _ _ rows (λ (r : Row) ne. not-ending minute i r (inl ne)) h)

-- the number of a processor's last row tells the job that the processor ends with, at a minute behind which it has no row
module _ (rest : List ℕ) (minute i : ℕ) where
  ending-is : (rows : List Row) → All Forward rows → Pairwise Rises rows → All (λ (r : Row). r.processor ≡ i → r.to ≤ minute) rows →
      ending_job (numbers_of rows ++ rest) (last_of rows i) minute ≡ ends_with rows minute i
  unfolding last_of job_where numbers_of
  ending-is [] f h b = refl
  ending-is (r ∷ rows) f h b =
      elim (last-case r rows i) [
        | inl c ↦
            let t = last_some rows i c.0 in
            let later = All-in Forward rows f.1 t.0 t.1 in
            let latest = All-in _ rows b.1 t.0 t.1 t.2 in
            let no_more : ends_at minute i r ≡ false =
            ends-before t.0 later latest t.2 (All-in _ rows h.0 t.0 t.1) in
            let e : last_of rows i ≡ suc (last_of rows i - 1) = omega (arith, c.0) in
            ap (λ (k : ℕ). ending_job (numbers_of (r ∷ rows) ++ rest) k minute) (c.1 ∙ ap suc e)
            ∙ ending-later r rows rest (last_of rows i - 1) minute
            ∙ ap (λ (k : ℕ). ending_job (numbers_of rows ++ rest) k minute) (sym e)
            ∙ ending-is rows f.1 h.1 b.1
            ∙ ap (λ (b : Bool). cond b r.job (ends_with rows minute i)) (sym no_more)
        | inr c ↦
            let none : ends_with rows minute i ≡ 0 = none-ending rows minute i (last_none rows i c.0) in
            elim (ℕ_discrete r.processor i) [
              | yes e ↦ rw (c.1, none, eq-eqb r.processor i e) refl
              | no ne ↦ rw (c.1, none, ne_eqb r.processor i ne) refl
            ]
      ]
    where
      ends-before : (t : Row) → Forward t → t.to ≤ minute → t.processor ≡ i → Rises r t → ends_at minute i r ≡ false
      ends-before t g l e rise =
          elim (ℕ_discrete r.processor i) [
            | yes k ↦ not-ending minute i r (inr (λ d. omega (arith, rise (k ∙ sym e))))
            | no k ↦ not-ending minute i r (inl k)
          ]

-- One row more -----------------------------------------------------------------------------------------------------------------------

-- a processor that ends with the row's job where the row begins has the row that it lengthens as its last
module _ (x : Row) (some : 1 ≤ x.job) where
  join_last : (rows : List Row) → All Forward rows → Pairwise Rises rows → All (λ (r : Row). Rises r x) rows →
      ends_with rows x.from x.processor ≡ x.job →
      (k : ℕ) × (k < length rows) × (last_of rows x.processor ≡ suc k) × (join_row rows x ≡ lengthen_at rows k x.to)
  unfolding job_where lengthen_at
  join_last [] f h b e = absurd (omega arith)
  join_last (r ∷ rows) f h b e =
      elim (join-case r rows x) [
        | inl c ↦
            elim (last-case r rows x.processor) [
              | inl d ↦
                  let t = last_some rows x.processor d.0 in
                  absurd (omega (
                    arith,
                    c.0.2,
                    All-in Forward rows f.1 t.0 t.1,
                    All-in (Rises r) rows h.0 t.0 t.1 (c.0.1 ∙ sym t.2),
                    All-in _ rows b.1 t.0 t.1 t.2,
                  ))
              | inr d ↦ (
                0,
                omega arith,
                d.1 ∙ ap (λ (b : Bool). only b 1) (eq-eqb r.processor x.processor c.0.1),
                c.1,
              )
            ]
        | inr c ↦
            let later = rest c in
            let k = join_last rows f.1 h.1 b.1 later in
            elim (last-case r rows x.processor) [
              | inl d ↦ (suc k.0, omega (arith, k.1), d.1 ∙ ap suc k.2, c.1 ∙ ap (λ (l : List Row). r ∷ l) k.3)
              | inr d ↦ absurd (omega (arith, d.0, k.2))
            ]
      ]
    where
      rest : (¬ GoesOnAs r x) × (join_row (r ∷ rows) x ≡ r ∷ join_row rows x) → ends_with rows x.from x.processor ≡ x.job
      rest c =
          elim (ℕ_discrete r.processor x.processor) [
            | no ne ↦ rw (not-ending x.from x.processor r (inl ne)) at e
            | yes p ↦
                elim (ℕ_discrete r.to x.from) [
                  | no ne ↦ rw (not-ending x.from x.processor r (inr ne)) at e
                  | yes q ↦
                      let j : r.job ≡ x.job = rw (eq-eqb r.processor x.processor p, eq-eqb r.to x.from q) at e in
                      absurd (c.0 (j, p, q))
                ]
          ]

-- and else no row goes on as it
join-none : (x : Row) (rows : List Row) → All Forward rows → Pairwise Rises rows →
    ends_with rows x.from x.processor ≢ x.job → join_row rows x ≡ rows ++ (x ∷ [])
join-none x rows f h ne =
    row-behind rows x
    (in-All (λ (r : Row). Separate r x) rows (λ (r : Row) i g.
    ne (rw (sym g.1, sym g.2) (ends_is rows f h r i) ∙ g.0)))

module _ {lent : List ℕ} {rows : List Row} {s : Sheet} (holds : Holds lent rows s) where
  -- the number of a processor's last row
  last-at : (i : ℕ) → Numbers 16 i → get_or s.last (i - 1) 0 ≡ last_of rows i
  last-at i n =
      let e : suc (i - 1) ≡ i = omega (arith, n.0) in
      ap (λ (l : List ℕ). get_or l (i - 1) 0) holds.last-is
      ∙ get_d_tabulate 16 (λ k. last_of rows (suc k)) 0 (i - 1) (omega (arith, n.0, n.1))
      ∙ ap (last_of rows) e

  -- tells the job that the processor ends with
  pub holds-tell : All Forward rows → Pairwise Rises rows → (minute i : ℕ) → Numbers 16 i →
      All (λ (r : Row). r.processor ≡ i → r.to ≤ minute) rows →
      ending_job s.buffer (get_or s.last (i - 1) 0) minute ≡ ends_with rows minute i
  holds-tell f h minute i n b =
      rw (last-at i n, holds.buffer-is) (ending-is (drop (4 * length rows) lent) minute i rows f h b)

  module _ (x : Row) where
    -- a row that lengthens the one at place k
    longer-holds : (k : ℕ) → k < length rows → last_for s x ≡ suc k → Holds lent (lengthen_at rows k x.to) (longer s x)
    longer-holds k l e =
        let same = lengthen-length rows k x.to in
        let i : 4 * last_for s x - 1 ≡ 4 * k + 3 = omega (arith, e) in
        record {
          count-is = holds.count-is ∙ sym same;
          last-is = holds.last-is ∙ tabulate-cong 16 _ _ (λ i _. sym (lengthen-last rows k x.to (suc i)));
          buffer-is =
              rw (i, holds.buffer-is, same, lengthen-numbers rows k x.to l)
              (set-append_left (numbers_of rows) (drop (4 * length rows) lent) (4 * k + 3) x.to
              (omega (arith, length-numbers rows)));
          room = rw same holds.room;
        }

    -- a row behind all others
    behind-holds : Numbers 16 x.processor → 4 * length rows + 4 ≤ length lent → Holds lent (rows ++ (x ∷ [])) (behind_all s x)
    behind-holds n room =
        let more : length (rows ++ (x ∷ [])) ≡ length rows + 1 = length-append rows (x ∷ []) in
        record {
          count-is = omega (arith, holds.count-is, more);
          last-is = rw (holds.last-is, holds.count-is) (set-tabulate 16 _ _ (x.processor - 1) (length rows + 1) own others);
          buffer-is = buffer more;
          room = omega (arith, more);
        }
      where
        own : last_of (rows ++ (x ∷ [])) (suc (x.processor - 1)) ≡ length rows + 1
        own =
            let e : suc (x.processor - 1) ≡ x.processor = omega (arith, n.0) in
            elim (last-behind rows x (suc (x.processor - 1))) [ inl c ↦ c.1 | inr c ↦ absurd (c.0 (sym e)) ]

        others : (k : ℕ) → k < 16 → k ≢ x.processor - 1 → last_of rows (suc k) ≡ last_of (rows ++ (x ∷ [])) (suc k)
        others k l ne =
            elim (last-behind rows x (suc k)) [
              | inl c ↦ absurd (ne (omega (arith, c.0)))
              | inr c ↦ sym c.1
            ]

        four : List ℕ
        four = x.job ∷ x.processor ∷ x.from ∷ x.to ∷ []

        own-numbers : numbers_of (x ∷ []) ≡ four
        own-numbers = numbers-one x

        buffer : length (rows ++ (x ∷ [])) ≡ length rows + 1 →
            (behind_all s x).buffer ≡ numbers_of (rows ++ (x ∷ [])) ++ drop (4 * length (rows ++ (x ∷ []))) lent
        buffer more =
            let c : 4 * s.count ≡ length (numbers_of rows) = omega (arith, holds.count-is, length-numbers rows) in
            let front : take (4 * s.count) s.buffer ≡ numbers_of rows =
            rw holds.buffer-is (take_at (numbers_of rows) _ (4 * s.count) (sym c)) in
            let n : 4 * length rows + 4 ≡ 4 * length (rows ++ (x ∷ [])) = omega (arith, more) in
            let back : drop (4 * s.count + 4) s.buffer ≡ drop (4 * length (rows ++ (x ∷ []))) lent =
            rw holds.buffer-is (ap (λ (k : ℕ). drop (k + 4) (numbers_of rows ++ drop (4 * length rows) lent)) c
            ∙ drop-append-add (numbers_of rows) (drop (4 * length rows) lent) 4
            ∙ drop-drop 4 (4 * length rows) lent
            ∙ ap (λ (k : ℕ). drop k lent) n) in
            rw (front, back, numbers-append rows (x ∷ []), own-numbers, append_assoc (numbers_of rows) four) refl

    -- one row more, joined
    pub added-holds : All Forward rows → Pairwise Rises rows → All (λ (r : Row). Rises r x) rows → 1 ≤ x.job →
        Numbers 16 x.processor → 4 * length rows + 4 ≤ length lent → Holds lent (join_row rows x) (added s x)
    added-holds f h b some n room =
        let told = holds-tell f h x.from x.processor n (All-map _ _ rows (λ (r : Row) w. w) b) in
        elim (ℕ_discrete (ends_with rows x.from x.processor) x.job) [
          | yes e ↦
              let k = join_last x some rows f h b e in
              rw (k.3, added-longer s x (told ∙ e)) (longer-holds k.0 k.1 (last-at x.processor n ∙ k.2))
          | no ne ↦
              rw (join-none x rows f h ne, added-behind s x (λ e. ne (sym told ∙ e))) (behind-holds n room)
        ]

-- the buffer has its length
pub held-length : {lent : List ℕ} {rows : List Row} {s : Sheet} → Holds lent rows s → length s.buffer ≡ length lent
held-length {lent} {rows} h =
    ap length h.buffer-is ∙ length-append (numbers_of rows) (drop (4 * length rows) lent)
    ∙ omega (arith, length-numbers rows, length-drop (4 * length rows) lent, h.room)

-- All rows -----------------------------------------------------------------------------------------------------------------------------

pub all_hold : {lent : List ℕ} (rows xs : List Row) {s : Sheet} → Holds lent rows s → Standing Forward Rises rows xs → All Named xs →
    4 * (length rows + length xs) ≤ length lent → Holds lent (join_rows rows xs) (added_all s xs)
unfolding join_rows added_all
all_hold rows [] h b n room = h
all_hold rows (x ∷ xs) h b n room =
    all_hold (join_row rows x) xs
    (added-holds h x b.each b.pairs (All-map _ _ rows (λ (r : Row) w. w.0) b.across) n.0.0 n.0.1 (omega arith))
    (standing-more Forward Rises rises-kept rows x xs b) n.1 (omega (arith, row_count rows x))

-- an empty sheet
pub holds-none : (lent : List ℕ) → Holds lent [] (sheet 0 (replicate 16 0) lent)
unfolding last_of numbers_of
holds-none lent =
    record { count-is = refl; last-is = replicate-tabulate 16 0; buffer-is = refl; room = omega arith }
