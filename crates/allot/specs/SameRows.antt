-- Document 02, §8: "rows are equal to those of the input-order table". Rows from a table are the layout of the amounts of the run on its
-- flow, joined. The flow takes the jobs in input order wherever they lie, so its run, and the rows laid out of it, are the same.
use Rattle.std.specs.Prelude.{ℕ, zero, suc, ◌-◌, ◌*◌, ◌<◌, ◌≡◌, Bool, true, List, ◌++◌, ℤ, length, drop}
use Rattle.std.proofs.Common.{sym, ap, ◌∙◌, subst, arith}
use Rattle.sums.specs.Lists.{tabulate}
use Rattle.engine.specs.Run.{RunOf}
use Rattle.engine.specs.RunLaws.{run-one}
use Rattle.engine.specs.View.{grid}
use Rattle.order.specs.Order.{Order, job_count, Numbers}
use Rattle.order.specs.Class.{classes}
use Rattle.plan.specs.Check.{numbers_of}
use Rattle.plan.specs.Join.{joined}
use Rattle.plan.specs.Plan.{Row}
use Rattle.wrap.specs.Flows.{amount_in}
use Rattle.wrap.specs.Frame.{Frame, layout_in, Rising}
use Rattle.wrap.specs.FrameFlow.{flow_in}
use Rattle.wrap.specs.LayoutSame.{layout-in-same}
use Rattle.layout.specs.Planned.{frame_lent, planned}
use Rattle.table.specs.Held.{Reading, ReadingOf}
use Rattle.table.specs.Tabled.{TabledBy}
use Rattle.table.specs.declared.Table.{Table}
use Rattle.allot.specs.Flows.{flow_from}
use Rattle.allot.specs.InFrame.{Agrees, run-in-frame, run-of-frame}
use Rattle.allot.specs.LaidInFrame.{planned-is}

-- a plan over a buffer: its rows, and what stood beyond them
abbrev pub over : List Row → List ℕ → List ℕ
over plan entry = numbers_of plan ++ drop (4 * length plan) entry

-- the ends at a reach, in input order
abbrev pub ends_from : Reading → Table → ℕ → List ℕ
ends_from r t reach = tabulate t.n (λ j. reach - r.lead j)

-- a frame as it is lent
pub record LentNumbers : Type 0 where
  pub stretches : ℕ
  pub marks : List ℕ
  pub ready : List ℕ
  pub until : List ℕ
  pub opens : List ℕ
  pub closes : List ℕ

abbrev pub frame_of : LentNumbers → Frame
frame_of l = frame_lent l.stretches l.marks l.ready l.until l.opens l.closes

-- the layout of flat amounts in it, joined
abbrev pub plan_of : Table → LentNumbers → List ℕ → List Row
plan_of t l w = joined (planned t l.stretches l.marks l.opens l.closes w)

-- the answer of the run on a table whose jobs are so read, with its amounts
abbrev pub AnswerFrom : Reading → Table → LentNumbers → List ℕ → Bool → Type 0
AnswerFrom r t l w b = RunOf (flow_from r t (frame_of l)) (suc t.s) (grid l.stretches w) b

-- `count` rows from it
pub record RowsFrom (r : Reading) (t : Table) (l : LentNumbers) (entry exit : List ℕ) (count : ℕ) : Type 0 where
  pub amounts : List ℕ
  pub run : AnswerFrom r t l amounts true
  pub rows_are : exit ≡ over (plan_of t l amounts) entry
  pub count-is : count ≡ length (plan_of t l amounts)

-- rows of an order in a frame
pub record RowsIn (o : Order) (f : Frame) (entry exit : List ℕ) (count : ℕ) : Type 0 where
  pub amounts : ℕ → ℕ → ℕ
  pub run : RunOf (flow_in o f) (suc (length (classes o))) (λ j s. amounts (suc j) s) true
  pub rows_are : exit ≡ over (joined (layout_in o f amounts)) entry
  pub count-is : count ≡ length (joined (layout_in o f amounts))

-- they are determined
module _ (o : Order) (f : Frame) (entry exit exit' : List ℕ) (count count' : ℕ) where
  pub rows-one : RowsIn o f entry exit count → RowsIn o f entry exit' count' → (exit ≡ exit') × (count ≡ count')
  rows-one X Y =
      let e : layout_in o f X.amounts ≡ layout_in o f Y.amounts = layout-in-same o f X.amounts Y.amounts same in (
        X.rows_are ∙ ap (λ (l : List Row). over (joined l) entry) e ∙ sym Y.rows_are,
        X.count-is ∙ ap (λ (l : List Row). length (joined l)) e ∙ sym Y.count-is,
      )
    where
      same : (j s : ℕ) → Numbers (job_count o) j → s < f.stretches → X.amounts j s ≡ Y.amounts j s
      same zero s n l = absurd (omega arith)
      same (suc j) s n l = (run-one _ _ _ _ _ _ X.run Y.run).1 j s n.1 l

module _ {top : ℤ} (o : Order) (f : Frame) (up : Rising f) where
  -- rows from a table of the order are the order's
  module _ {number : ℕ → ℕ} (t : Table) (m : TabledBy number top o t) (r : Reading) (R : ReadingOf top o r) (l : LentNumbers)
      (A : Agrees o f (frame_of l)) where
    laid : (w : List ℕ) → planned t l.stretches l.marks l.opens l.closes w ≡ layout_in o f (amount_in l.stretches w)
    laid w = planned-is o t m l.stretches l.marks l.ready l.until l.opens l.closes w f A up

    pub rows_in : (entry exit : List ℕ) (count : ℕ) → RowsFrom r t l entry exit count → RowsIn o f entry exit count
    rows_in entry exit count X =
        let w = X.amounts in
        record {
          amounts = amount_in l.stretches w;
          run = run-in-frame o t m f (frame_of l) A r R (grid l.stretches w) true X.run;
          rows_are = X.rows_are ∙ ap (λ (rows : List Row). over (joined rows) entry) (laid w);
          count-is = X.count-is ∙ ap (λ (rows : List Row). length (joined rows)) (laid w);
        }

  -- two tables of the order, each in lent numbers of the frame
  module _ {number number' : ℕ → ℕ} (t u : Table) (m : TabledBy number top o t) (n : TabledBy number' top o u) (r r' : Reading)
      (R : ReadingOf top o r) (R' : ReadingOf top o r') (l l' : LentNumbers) (A : Agrees o f (frame_of l))
      (B : Agrees o f (frame_of l')) where
    stretches-are : l.stretches ≡ l'.stretches
    stretches-are = A.stretches-same ∙ sym B.stretches-same

    pub answer-carried : (w : List ℕ) (b : Bool) → AnswerFrom r t l w b → AnswerFrom r' u l' w b
    answer-carried w b h =
        run-of-frame o u n f (frame_of l') B r' R' (grid l'.stretches w) b
        (subst (λ (q : ℕ). RunOf (flow_in o f) (suc (length (classes o))) (grid q w) b) stretches-are
        (run-in-frame o t m f (frame_of l) A r R (grid l.stretches w) b h))

    pub rows-carried : (entry exit : List ℕ) (count : ℕ) → RowsFrom r t l entry exit count → RowsFrom r' u l' entry exit count
    rows-carried entry exit count X =
        let w = X.amounts in
        let e : plan_of t l w ≡ plan_of u l' w
        = ap joined (laid t m r R l A w ∙ ap (λ (q : ℕ). layout_in o f (amount_in q w)) stretches-are ∙ sym (laid u n r' R' l' B w)) in
        record {
          amounts = w;
          run = answer-carried w true X.run;
          rows_are = X.rows_are ∙ ap (λ (plan : List Row). over plan entry) e;
          count-is = X.count-is ∙ ap (λ (plan : List Row). length plan) e;
        }
