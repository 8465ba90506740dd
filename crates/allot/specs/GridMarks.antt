-- Document 01's frame as lent numbers, from an order's table: every job is ready at 0, a deadline is the reach less a lead, a mark the
-- reach less an entry of the grid, and every processor is open from 0 to the reach.
use Rattle.std.specs.Prelude.{ℕ, zero, suc, ◌-◌, ◌≤◌, ◌<◌, ◌≡◌, List, reverse, ℤ, pos, length, get_or}
use Rattle.std.proofs.Common.{sym, ap, ◌∙◌, arith}
use Rattle.sums.specs.Arrays.{RowOf}
use Rattle.sums.specs.Lists.{nth}
use Rattle.sums.specs.Members.{All-at}
use Rattle.sums.specs.Downwards.{length-down, down-reversed}
use Rattle.order.specs.Order.{Order, processor_count, job_count, Numbers, no_job, job_of, end_at, end_of}
use Rattle.order.specs.Deadline.{cut, deadline_of}
use Rattle.order.specs.Sorted.{due_times}
use Rattle.order.specs.Lead.{due_at, reach_at, Workable}
use Rattle.order.proofs.LeadLaws.{deadline-lead, deadline-of-lead}
use Rattle.wrap.specs.Stretches.{stretch_count, mark}
use Rattle.wrap.specs.Marks.{mark-zero, mark-is, mark-mono}
use Rattle.wrap.specs.Frame.{Frame, open_in}
use Rattle.wrap.specs.FrameLaws.{lies-is}
use Rattle.wrap.proofs.FrameBase.{base_frame}
use Rattle.layout.specs.Planned.{frame_lent}
use Rattle.table.specs.Held.{Reading, ReadingOf}
use Rattle.table.specs.Tabled.{GridOf, TabledBy}
use Rattle.table.specs.declared.Members.{Members}
use Rattle.table.specs.declared.Table.{Table}
use Rattle.allot.specs.InFrame.{Agrees}

pub grid-counted : (top : ℤ) (o : Order) (m : Members) → GridOf top o m → m.count ≡ stretch_count o
grid-counted top o m g = sym (ap length g.dues ∙ length-down (λ i. due_at top (get_or m.at i 0)) m.count)

-- the deadlines of an order, from the leads of its jobs in input order
pub deadlines-are : {top : ℤ} (o : Order) → Workable top o → (bound : ℤ) (r : Reading) → ReadingOf top o r → (reach : ℕ) →
    reach ≡ reach_at top bound → (ds : List ℕ) → RowOf (λ j. reach - r.lead j) (job_count o) ds →
    (j : ℕ) → j < job_count o → get_or ds j 0 ≡ deadline_of bound (job_of o (suc j))
unfolding deadline_of end_of
deadlines-are {top} o work bound r R reach e ds hd j l =
    hd.at j l
    ∙ omega (
      arith,
      e,
      R.leads j l,
      deadline-lead top bound (job_of o (suc j)).due (All-at _ o.jobs no_job work.dues j l),
    )

module _ {top : ℤ} {number : ℕ → ℕ} (o : Order) (work : Workable top o) (bound : ℤ) (t : Table) (m : TabledBy number top o t)
    (r : Reading) (R : ReadingOf top o r) (reach : ℕ) (e : reach ≡ reach_at top bound) (ds ms : List ℕ)
    (hd : RowOf (λ j. reach - r.lead j) t.n ds) (hm : RowOf (λ i. reach - get_or t.grid i 0) 48 ms) where
  stretches-are : t.q ≡ stretch_count o
  stretches-are = grid-counted top o _ m.grid

  marks-are : (s : ℕ) → s ≤ stretch_count o → nth ms s 0 ≡ mark o bound s
  marks-are zero l = sym (mark-zero o bound)
  marks-are (suc s) l =
      let n : s < t.q = omega (arith, stretches-are) in
      let due : get_or (reverse (due_times o)) s (pos 0) ≡ due_at top (get_or t.grid s 0)
      = ap (λ (xs : List ℤ). get_or (reverse xs) s (pos 0)) m.grid.dues
      ∙ down-reversed (λ i. due_at top (get_or t.grid i 0)) (pos 0) t.q s n in
      hm.at s (omega (arith, m.grid.few))
      ∙ omega (
        arith,
        e,
        mark-is o bound s l,
        ap (λ (d : ℤ). cut (end_at bound d)) due,
        deadline-of-lead top bound (get_or t.grid s 0),
      )

  module _ (zs opens closes : List ℕ) (hz : (j : ℕ) → j < 48 → get_or zs j 0 ≡ 0) (ho : (i : ℕ) → i < 16 → get_or opens i 0 ≡ 0)
      (hc : (i : ℕ) → i < 16 → get_or closes i 0 ≡ reach) where
    abbrev lent : Frame
    lent = frame_lent t.q ms zs ds opens closes

    all-open : (s i : ℕ) → s < stretch_count o → Numbers (processor_count o) i → open_in lent s i ≡ open_in (base_frame o bound) s i
    all-open s zero l b = absurd (omega (arith, b.0))
    all-open s (suc i) l b =
        let few : i < 16 = omega (arith, b.1, m.processors, m.few-processors) in
        lies-is lent (get_or opens i 0) (get_or closes i 0) s (omega (arith, ho i few))
        (omega (arith, hc i few, hm.at s (omega (arith, stretches-are, m.grid.few))))
        ∙ sym (lies-is (base_frame o bound) 0 (mark o bound (stretch_count o)) s (omega arith)
        (mark-mono o bound (suc s) (stretch_count o) l (omega arith)))

    ready : (j : ℕ) → Numbers (job_count o) j → lent.ready j ≡ 0
    ready zero b = absurd (omega arith)
    ready (suc j) b = hz j (omega (arith, b.1, m.jobs, m.few-jobs))

    until : (j : ℕ) → Numbers (job_count o) j → lent.until j ≡ deadline_of bound (job_of o j)
    until zero b = absurd (omega arith)
    until (suc j) b =
        deadlines-are o work bound r R reach e ds (record { at = λ j l. hd.at j (omega (arith, m.jobs)) }) j b.1

    pub lent-agrees : Agrees o (base_frame o bound) lent
    lent-agrees =
        record {
          stretches-same = stretches-are;
          marks-same = marks-are;
          ready-same = ready;
          until-same = until;
          open-same = all-open;
        }
