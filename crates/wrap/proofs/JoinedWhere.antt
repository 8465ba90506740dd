-- Document 02, §2: "Where a job ends a stretch on a processor and opens the next stretch on that processor, makers want one row". Rows of
-- the layout go on as one another there and nowhere else.
use Rattle.std.specs.Prelude.{ℕ, suc, ◌≤◌, ◌<◌, ◌≡◌, List, ◌↔◌}
use Rattle.std.proofs.Common.{sym, ap, ◌∙◌, inl, inr, arith}
use Rattle.std.proofs.Math.Decide.{dec_lt, ℕ_discrete}
use Rattle.sums.specs.Lists.{In, Pairwise}
use Rattle.sums.specs.Members.{All-in}
use Rattle.sums.specs.Pairs.{Pairwise-map, pairs-in}
use Rattle.order.specs.Order.{Order}
use Rattle.plan.specs.Plan.{Row, Forward}
use Rattle.plan.specs.Join.{GoesOnAs}
use Rattle.plan.proofs.JoinAgain.{Rises}
use Rattle.wrap.specs.Frame.{Frame, FeasibleIn, stretch_rows_in, InStretchOf, Rising}
use Rattle.wrap.specs.FrameLaws.{marks-mono}
use Rattle.wrap.proofs.FrameRight.{
  stretches-apart,
  stands-rise,
  stretch-in,
  stretch-ordered,
  stretch-once,
  rows-forward,
  rows-well-formed,
}
use Rattle.wrap.specs.Ending.{ends_at, begins_at, stretch_ends_with, stretch_opens_with}
use Rattle.wrap.specs.EndingLaws.{where_found, ends-at-true, begins-at-true, ends_is, begins-is}

-- no stretch but the first is of no length
abbrev pub Climbing : Frame → Type 0
Climbing f = (s : ℕ) → 1 ≤ s → s < f.stretches → f.mark s < f.mark (suc s)

module _ (o : Order) (f : Frame) (up : Rising f) (a : ℕ → ℕ → ℕ) (F : FeasibleIn o f a) where
  abbrev rows : ℕ → List Row
  rows s = stretch_rows_in o f a s

  stretch-rises : (s : ℕ) → Pairwise Rises (rows s)
  stretch-rises s = Pairwise-map _ Rises (rows s) (stands-rise o f up a) (stretch-ordered o f up a s)

  lies : (s : ℕ) → s < f.stretches → (r : Row) → In r (rows s) → InStretchOf f s r × Forward r
  lies s l r i = (All-in _ (rows s) (stretch-in o f up a s l) r i, All-in _ (rows s) (rows-forward o f up a F s l) r i)

  -- stretches s and s + 1 have rows on a processor of which one goes on as the other exactly if the job that the processor ends stretch
  -- s with opens stretch s + 1 on it
  pub joined-where : (s : ℕ) → suc s < f.stretches → (processor : ℕ) →
      ((r : Row) × (t : Row) × In r (rows s) × In t (rows (suc s)) × (r.processor ≡ processor) × GoesOnAs r t)
      ↔ ((1 ≤ stretch_ends_with o f a s processor) × (stretch_ends_with o f a s processor ≡ stretch_opens_with o f a (suc s) processor))
  joined-where s l p = (there, back)
    where
      m : s < f.stretches
      m = omega arith

      at_mark : (r t : Row) → In r (rows s) → In t (rows (suc s)) → r.to ≡ t.from →
          (r.to ≡ f.mark (suc s)) × (t.from ≡ f.mark (suc s))
      at_mark r t i k e =
          let b = (lies s m r i).0.ends in
          let c = (lies (suc s) l t k).0.begins in
          (omega arith, omega arith)

      ending : (r : Row) → In r (rows s) → r.processor ≡ p → r.to ≡ f.mark (suc s) → stretch_ends_with o f a s p ≡ r.job
      ending r i e g = rw (sym e, sym g) (ends_is (rows s) (rows-forward o f up a F s m) (stretch-rises s) r i)

      opening : (t : Row) → In t (rows (suc s)) → t.processor ≡ p → t.from ≡ f.mark (suc s) →
          stretch_opens_with o f a (suc s) p ≡ t.job
      opening t k e g = rw (sym e, sym g) (begins-is (rows (suc s)) (rows-forward o f up a F (suc s) l) (stretch-rises (suc s)) t k)

      there : (r : Row) × (t : Row) × In r (rows s) × In t (rows (suc s)) × (r.processor ≡ p) × GoesOnAs r t →
          (1 ≤ stretch_ends_with o f a s p) × (stretch_ends_with o f a s p ≡ stretch_opens_with o f a (suc s) p)
      there (r, t, i, k, e, g) =
          let b = at_mark r t i k g.2 in
          let c = ending r i e b.0 in
          let d = opening t k (sym g.1 ∙ e) b.1 in
          let n = (All-in _ (rows s) (rows-well-formed o f up a F s m) r i).a-job in
          (omega (arith, n.0), c ∙ g.0 ∙ sym d)

      back : (1 ≤ stretch_ends_with o f a s p) × (stretch_ends_with o f a s p ≡ stretch_opens_with o f a (suc s) p) →
          (r : Row) × (t : Row) × In r (rows s) × In t (rows (suc s)) × (r.processor ≡ p) × GoesOnAs r t
      back (n, e) =
          let r = where_found (ends_at (f.mark (suc s)) p) (rows s) n in
          let t = where_found (begins_at (f.mark (suc s)) p) (rows (suc s)) (omega (arith, n, e)) in
          let b = ends-at-true (f.mark (suc s)) p r.0 r.2 in
          let c = begins-at-true (f.mark (suc s)) p t.0 t.2 in
          (r.0, t.0, r.1, t.1, b.0, (r.3 ∙ e ∙ sym t.3, b.0 ∙ sym c.0, b.1 ∙ sym c.1))

  -- and rows of no other two stretches go on as one another
  pub joined-next : Climbing f → (i k : ℕ) → i < f.stretches → k < f.stretches → (r t : Row) → In r (rows i) → In t (rows k) →
      GoesOnAs r t → k ≡ suc i
  joined-next climb i k l m r t u v g =
      let b = lies i l r u in
      let c = lies k m t v in
      elim (dec_lt i k) [
        | yes h ↦
            elim (dec_lt (suc i) k) [
              | yes w ↦ absurd (omega (
                arith,
                b.0.ends,
                c.0.begins,
                g.2,
                climb (suc i) (omega arith) (omega arith),
                marks-mono f up (suc (suc i)) k w (omega arith),
              ))
              | no w ↦ omega arith
            ]
        | no h ↦
            elim (ℕ_discrete i k) [
              | yes e ↦ absurd (one-stretch e)
              | no ne ↦ absurd (omega (arith, b.1, c.1, g.2, stretches-apart o f up a k i t r (omega arith) c.0 b.0))
            ]
      ]
    where
      one-stretch : i ≡ k → ⊥
      one-stretch e =
          elim (pairs-in _ (rows i) (stretch-once o f up a i) r t u (rw e v)) [
            | inl s ↦ omega (arith, (lies i l r u).1, ap (λ (x : Row). x.to) s, ap (λ (x : Row). x.from) s, g.2)
            | inr s ↦ elim s [ inl w ↦ w g.0 g.1 | inr w ↦ w (sym g.0) (sym g.1) ]
          ]
