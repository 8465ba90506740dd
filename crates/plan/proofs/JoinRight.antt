-- Document 02, §2: "Joined plans are still right plans", in any parts of a minute.
use Rattle.std.specs.Prelude.{ℕ, ◌+◌, ◌-◌, ◌≡◌, refl, Bool, true, false, eqb, ℤ}
use Rattle.std.proofs.Common.{sym, ap, ◌∙◌}
use mathlib.Core.List.{List, [], ◌∷◌}
use Rattle.std.proofs.Math.Logic.{inl, inr}
use native.Mathlib.Omega.{arith}
use Rattle.sums.specs.Lists.{All, Pairwise, total, only}
use Rattle.order.specs.Order.{Order}
use Rattle.plan.specs.Plan.{Row, Forward, WellFormed, Apart, lengths_of, RightInParts}
use Rattle.plan.proofs.RuleLaws.{forwards}
use Rattle.plan.specs.Join.{GoesOnAs, lengthened, join_row, join_rows, joined}
use Rattle.plan.proofs.JoinLaws.{join-case, all_row, forward-one, Kept, joined-all, joined-pairs}

-- rows of one job, or of one processor, stay apart
module _ (key : Row → ℕ) (blind : (r : Row) (to : ℕ) → key (lengthened r to) ≡ key r)
    (same : (r x : Row) → GoesOnAs r x → key r ≡ key x) where
  abbrev KeyApart : Row → Row → Type 0
  KeyApart r s = key r ≡ key s → Apart r s

  -- a row that lies behind r and before x lies in no minute
  apart-long : (r x t : Row) → GoesOnAs r x → Forward t → Apart r t → Apart x t → Apart (lengthened r x.to) t
  apart-long r x t g f (inr h) k = inr h
  apart-long r x t g f (inl h) (inl k) = inl k
  apart-long r x t g f (inl h) (inr k) = absurd (omega (arith, g.2))

  turned : (r s : Row) → Apart r s → Apart s r
  turned r s (inl h) = inr h
  turned r s (inr h) = inl h

  apart-kept : Kept Forward KeyApart
  apart-kept =
      record {
        one = forward-one;
        between = λ r t x g f _ p q e.
            let d : key r ≡ key t = sym (blind r x.to) ∙ e in
            apart-long r x t g f (p d) (turned t x (q (sym d ∙ same r x g)));
        before = λ u r x g f p q e.
            let d : key u ≡ key r = e ∙ blind r x.to in
            turned (lengthened r x.to) u
            (apart-long r x u g f (turned u r (p d)) (turned u x (q (d ∙ same r x g))));
        behind = λ r x t g f p q e.
            let d : key r ≡ key t = sym (blind r x.to) ∙ e in
            apart-long r x t g f (p d) (q (sym (same r x g) ∙ d));
      }

  pub joined-apart : (rows : List Row) → All Forward rows → Pairwise KeyApart rows → Pairwise KeyApart (joined rows)
  joined-apart rows h p = joined-pairs Forward KeyApart rows apart-kept h p

-- the lengths of a job's rows add up to what they did
module _ (j : ℕ) where
  abbrev length_of : Row → ℕ
  length_of r = only (eqb r.job j) (r.to - r.from)

  length-one : (r x : Row) → GoesOnAs r x → Forward r → Forward x → length_of (lengthened r x.to) ≡ length_of r + length_of x
  length-one r x g h k =
      split (eqb r.job j) (eqb x.job j) (ap (λ (i : ℕ). eqb i j) g.0)
    where
      split : (b c : Bool) → b ≡ c → only b (x.to - r.from) ≡ only b (r.to - r.from) + only c (x.to - x.from)
      split true c e = rw (← e) (omega (arith, g.2))
      split false c e = rw (← e) refl

  lengths-row : (rows : List Row) (x : Row) → All Forward rows → Forward x →
      total (join_row rows x) length_of ≡ total rows length_of + length_of x
  unfolding join_row
  lengths-row [] x h k = omega arith
  lengths-row (r ∷ rows) x h k =
      elim (join-case r rows x) [
        | inl c ↦ rw c.1 (omega (arith, length-one r x c.0 h.0 k))
        | inr c ↦ rw c.1 (omega (arith, lengths-row rows x h.1 k))
      ]

  lengths-rows : (rows xs : List Row) → All Forward rows → All Forward xs →
      total (join_rows rows xs) length_of ≡ total rows length_of + total xs length_of
  unfolding join_rows
  lengths-rows rows [] h k = omega arith
  lengths-rows rows (x ∷ xs) h k =
      omega (
        arith,
        lengths-rows (join_row rows x) xs (all_row Forward forward-one rows x h k.0) k.1,
        lengths-row rows x h k.0,
      )

pub joined-lengths : (j : ℕ) (rows : List Row) → All Forward rows → lengths_of j (joined rows) ≡ lengths_of j rows
joined-lengths j rows h = omega (arith, lengths-rows j [] rows tt h)

pub joined-well-formed : (o : Order) (rows : List Row) → All (WellFormed o) rows → All (WellFormed o) (joined rows)
joined-well-formed o rows h =
    joined-all (WellFormed o) rows
    (λ r x g p q.
    record { a-job = p.a-job; a-processor = p.a-processor; fits = p.fits; forward = omega (arith, g.2, p.forward, q.forward) })
    h

-- "Joined plans are still right plans", in any parts of a minute
pub joined-right : (p : ℕ) (o : Order) (bound : ℤ) (rows : List Row) → RightInParts p o bound rows →
    RightInParts p o bound (joined rows)
joined-right p o bound rows h =
    let f = forwards o rows h.well-formed in
    record {
      well-formed = joined-well-formed o rows h.well-formed;
      by_end = joined-all _ rows (λ r x g _ q. rw g.0 q) h.by_end;
      jobs-apart = joined-apart (λ (r : Row). r.job) (λ r to. refl) (λ r x g. g.0) rows f h.jobs-apart;
      processors-apart = joined-apart (λ (r : Row). r.processor) (λ r to. refl) (λ r x g. g.1) rows f h.processors-apart;
      whole = λ j n. joined-lengths j rows f ∙ h.whole j n;
    }
