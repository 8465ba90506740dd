-- A right plan stays right when each of its minutes is cut into p equal parts: the rules in parts are those of whole minutes with p
-- times every minute.
use Rattle.std.specs.Prelude.{ℕ, ◌-◌, ◌*◌, ◌≤◌, ◌≡◌, Bool, true, false, List, [], ◌∷◌, map, eqb, ℤ, pos, negsuc, ◌*ℤ◌, ◌≤ℤ◌}
use Rattle.std.proofs.Common.{ap, ◌∙◌, inl, inr, arith, mul-le-mul_left, leb→le, le→leb}
use Rattle.std.proofs.Math.Nat.{mul-sub}
use Rattle.sums.specs.Lists.{All, Pairwise, only}
use Rattle.order.specs.Order.{Order, job_of, end_of}
use Rattle.plan.specs.Plan.{Row, WellFormed, Apart, lengths_of, RightInParts, Right}
use Rattle.plan.proofs.RuleLaws.{one-part}

-- a row in parts
abbrev pub finer : ℕ → Row → Row
finer p r = record { job = r.job; processor = r.processor; from = p * r.from; to = p * r.to }

module _ (p : ℕ) where
  all-finer : (P Q : Row → Type 0) → ((r : Row) → P r → Q (finer p r)) → (rows : List Row) → All P rows → All Q (map (finer p) rows)
  all-finer P Q f [] h = tt
  all-finer P Q f (r ∷ rows) h = (f r h.0, all-finer P Q f rows h.1)

  pairs-finer : (R S : Row → Row → Type 0) → ((r s : Row) → R r s → S (finer p r) (finer p s)) → (rows : List Row) →
      Pairwise R rows → Pairwise S (map (finer p) rows)
  pairs-finer R S f [] h = tt
  pairs-finer R S f (r ∷ rows) h = (all-finer (R r) (S (finer p r)) (f r) rows h.0, pairs-finer R S f rows h.1)

  apart-finer : (r s : Row) → Apart r s → Apart (finer p r) (finer p s)
  apart-finer r s (inl h) = inl (mul-le-mul_left p h)
  apart-finer r s (inr h) = inr (mul-le-mul_left p h)

  by-end-finer : (n : ℕ) (z : ℤ) → pos n ≤ℤ (pos 1 *ℤ z) → pos (p * n) ≤ℤ (pos p *ℤ z)
  by-end-finer n (pos m) h =
      let k : n ≤ m = leb→le n m (rw one-part at h).le in record { le = le→leb (p * n) (p * m) (mul-le-mul_left p k) }
  by-end-finer n (negsuc m) h = absurd (rw one-part at h).le

  length-finer : (b : Bool) (from to : ℕ) → only b (p * to - p * from) ≡ p * only b (to - from)
  length-finer true from to = rw mul-sub
  length-finer false from to = omega arith

  lengths-finer : (j : ℕ) (rows : List Row) → lengths_of j (map (finer p) rows) ≡ p * lengths_of j rows
  lengths-finer j [] = omega arith
  lengths-finer j (r ∷ rows) =
      omega (arith, length-finer (eqb r.job j) r.from r.to, lengths-finer j rows)

  module _ (some : 1 ≤ p) (o : Order) (bound : ℤ) where
    well-formed-finer : (r : Row) → WellFormed o r → WellFormed o (finer p r)
    well-formed-finer r h =
        record {
          a-job = h.a-job;
          a-processor = h.a-processor;
          fits = h.fits;
          forward = omega (arith, mul-le-mul_left p h.forward);
        }

    pub right-finer : (rows : List Row) → Right o bound rows → RightInParts p o bound (map (finer p) rows)
    right-finer rows h =
        record {
          well-formed = all-finer _ _ well-formed-finer rows h.well-formed;
          by_end = all-finer _ _ (λ r. by-end-finer r.to (end_of bound (job_of o r.job))) rows h.by_end;
          jobs-apart = pairs-finer _ _ (λ r s apart e. apart-finer r s (apart e)) rows h.jobs-apart;
          processors-apart = pairs-finer _ _ (λ r s apart e. apart-finer r s (apart e)) rows h.processors-apart;
          whole = λ j n. lengths-finer j rows ∙ ap (λ (k : ℕ). p * k) (h.whole j n ∙ omega arith);
        }
