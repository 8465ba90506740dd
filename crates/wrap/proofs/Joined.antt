-- Document 02, §2, of the layout in a frame: joined, it is right in the frame, a second joining finds nothing, and rows stand by the
-- stretch in which they begin.
use Rattle.std.specs.Prelude.{ℕ, suc, ◌+◌, ◌-◌, ◌*◌, ◌≤◌, ◌<◌, ◌≡◌, refl, List, ◌⊎◌, length}
use Rattle.std.proofs.Common.{◌∙◌, inl, inr, arith}
use Rattle.sums.specs.Lists.{All, Pairwise}
use Rattle.sums.specs.Pairs.{Pairwise-map, Pairwise-with}
use Rattle.order.specs.Order.{Order, job_count, processor_count}
use Rattle.plan.specs.Plan.{Row, Forward}
use Rattle.plan.proofs.RuleLaws.{forwards}
use Rattle.plan.specs.Join.{lengthened, joined}
use Rattle.plan.proofs.JoinLaws.{joined-all, joined-count, Blind, joined-order}
use Rattle.plan.proofs.JoinRight.{joined-well-formed, joined-apart, joined-lengths}
use Rattle.plan.proofs.JoinAgain.{Rises, Separate, joined-separate, joined-again}
use Rattle.wrap.specs.RowOrder.{place_of, StandsBefore}
use Rattle.wrap.specs.Frame.{Frame, RightIn, FeasibleIn, layout_in, InStretchOf, RowBeforeIn, Rising}
use Rattle.wrap.proofs.FrameRight.{stretches-apart, stands-rise, layout-right-in, layout-ordered-in, layout-count-in}

-- the row begins in stretch s
pub record BeginsIn (f : Frame) (s : ℕ) (r : Row) : Type 0 where
  pub a-stretch : s < f.stretches
  pub begins : f.mark s ≤ r.from
  pub before-its-end : r.from < f.mark (suc s)

-- row r stands before row t: it begins in an earlier stretch, or in the same one by processor order, then by `from`
pub record BeginsBefore (o : Order) (f : Frame) (r t : Row) : Type 0 where
  pub stretch : ℕ
  pub other : ℕ
  pub begins-in : BeginsIn f stretch r
  pub other-begins : BeginsIn f other t
  pub before : (stretch < other) ⊎ ((stretch ≡ other) × ((place_of o r.processor < place_of o t.processor)
      ⊎ ((r.processor ≡ t.processor) × (r.from < t.from))))

-- right rows stay right, in any parts
pub joined-right-in : (p : ℕ) (o : Order) (f : Frame) (rows : List Row) → RightIn p o f rows → RightIn p o f (joined rows)
joined-right-in p o f rows h =
    let g = forwards o rows h.well-formed in
    record {
      well-formed = joined-well-formed o rows h.well-formed;
      in-interval = joined-all _ rows (λ r x e v w. (v.0, rw e.0 w.1)) h.in-interval;
      in_window = joined-all _ rows (λ r x e v w. (v.0, rw e.1 w.1)) h.in_window;
      jobs-apart = joined-apart (λ (r : Row). r.job) (λ r to. refl) (λ r x e. e.0) rows g h.jobs-apart;
      processors-apart = joined-apart (λ (r : Row). r.processor) (λ r to. refl) (λ r x e. e.1) rows g h.processors-apart;
      whole = λ j n. joined-lengths j rows g ∙ h.whole j n;
    }

-- where a row ends plays no part in that
begins-longer : (f : Frame) (s : ℕ) (r : Row) (to : ℕ) → BeginsIn f s r → BeginsIn f s (lengthened r to)
begins-longer f s r to b = record { a-stretch = b.a-stretch; begins = b.begins; before-its-end = b.before-its-end }

begins-blind : (o : Order) (f : Frame) → Blind (BeginsBefore o f)
begins-blind o f =
    record {
      first = λ r s to b.
          record {
            stretch = b.stretch;
            other = b.other;
            begins-in = begins-longer f b.stretch r to b.begins-in;
            other-begins = b.other-begins;
            before = b.before;
          };
      second = λ r s to b.
          record {
            stretch = b.stretch;
            other = b.other;
            begins-in = b.begins-in;
            other-begins = begins-longer f b.other s to b.other-begins;
            before = b.before;
          };
    }

module _ (o : Order) (f : Frame) (up : Rising f) (a : ℕ → ℕ → ℕ) where
  -- rows of one processor rise, whatever the amounts
  pub layout-rises : Pairwise Rises (layout_in o f a)
  layout-rises = Pairwise-map _ Rises (layout_in o f a) one (layout-ordered-in o f up a)
    where
      one : (r t : Row) → RowBeforeIn o f r t → Rises r t
      one r t b e =
          elim b.before [
            | inl l ↦ stretches-apart o f up a b.stretch b.other r t l b.lies_in b.other-lies
            | inr w ↦ stands-rise o f up a r t w.1 e
          ]

  -- at most stretches × (n + m - 1) rows
  pub joined-count-in : length (joined (layout_in o f a)) ≤ f.stretches * (job_count o + processor_count o - 1)
  joined-count-in = omega (arith, joined-count (layout_in o f a), layout-count-in o f up a)

  module _ (F : FeasibleIn o f a) where
    pub layout-forward : All Forward (layout_in o f a)
    layout-forward = forwards o (layout_in o f a) (layout-right-in o f up a F).well-formed

    pub joined-layout-right : RightIn 1 o f (joined (layout_in o f a))
    joined-layout-right = joined-right-in 1 o f (layout_in o f a) (layout-right-in o f up a F)

    -- no two rows go on as one another, and a second joining changes nothing
    pub joined-layout-separate : Pairwise (λ (r s : Row). Separate r s × Separate s r) (joined (layout_in o f a))
    joined-layout-separate = joined-separate (layout_in o f a) layout-forward layout-rises

    pub joined-layout-again : joined (joined (layout_in o f a)) ≡ joined (layout_in o f a)
    joined-layout-again = joined-again (layout_in o f a) layout-forward layout-rises

    -- rows stand by the stretch in which they begin, then by processor order, then by `from`
    pub joined-ordered-in : Pairwise (BeginsBefore o f) (joined (layout_in o f a))
    joined-ordered-in =
        joined-order (BeginsBefore o f) (begins-blind o f) (layout_in o f a)
        (Pairwise-with Forward _ _ (layout_in o f a) begins layout-forward (layout-ordered-in o f up a))
      where
        in-it : (s : ℕ) (r : Row) → Forward r → InStretchOf f s r → BeginsIn f s r
        in-it s r g h = record { a-stretch = h.a-stretch; begins = h.begins; before-its-end = omega (arith, h.ends) }

        there : (r t : Row) → Forward r → StandsBefore o r t →
            (place_of o r.processor < place_of o t.processor) ⊎ ((r.processor ≡ t.processor) × (r.from < t.from))
        there r t g (inl w) = inl w
        there r t g (inr w) = inr (w.0, omega (arith, w.1))

        begins : (r t : Row) → Forward r → Forward t → RowBeforeIn o f r t → BeginsBefore o f r t
        begins r t g k b =
            record {
              stretch = b.stretch;
              other = b.other;
              begins-in = in-it b.stretch r g b.lies_in;
              other-begins = in-it b.other t k b.other-lies;
              before = elim b.before [ inl l ↦ inl l | inr w ↦ inr (w.0, there r t g w.1) ];
            }
