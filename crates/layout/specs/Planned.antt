-- A plan as it is lent to the layout: the orders of processors and jobs, where each stretch ends, when each processor opens and closes,
-- flat amounts. The jobs' intervals play no part in it.
use Rattle.std.specs.Prelude.{ℕ, suc, pred, ◌≤◌, Bool, ◌&&◌, List, [], leb, get_or, take}
use Rattle.sums.specs.Lists.{All, Pairwise, nth, keep}
use Rattle.order.specs.Order.{Numbers}
use Rattle.plan.specs.Plan.{Row, Forward}
use Rattle.plan.proofs.JoinAgain.{Rises}
use Rattle.wrap.specs.Layout.{fill, shares_of}
use Rattle.wrap.specs.Flows.{amount_in}
use Rattle.wrap.specs.Frame.{Frame, open_in, in_turn}
use Rattle.table.specs.declared.Table.{Table}

-- processor number i is open from minute start to minute end
abbrev pub open_at : (opens closes : List ℕ) (start end : ℕ) → ℕ → Bool
open_at opens closes start end i = leb (get_or opens (pred i) 0) start && leb end (get_or closes (pred i) 0)

-- the frame of lent numbers: stretch s ends at marks[s], the first begins at minute 0
abbrev pub frame_lent : ℕ → (marks ready until opens closes : List ℕ) → Frame
frame_lent q marks ready until opens closes =
    record {
      stretches = q;
      mark = λ s. nth marks s 0;
      ready = λ j. get_or ready (pred j) 0;
      until = λ j. get_or until (pred j) 0;
      opens = λ i. get_or opens (pred i) 0;
      closes = λ i. get_or closes (pred i) 0;
    }

-- where the jobs' intervals play no part
abbrev pub lent_frame : ℕ → (marks opens closes : List ℕ) → Frame
lent_frame q marks opens closes = frame_lent q marks [] [] opens closes

-- the rows of a stretch of a frame, and of all, with processors and jobs in these orders
unfoldable pub rows_in : (processors jobs : List ℕ) → Frame → (ℕ → ℕ → ℕ) → ℕ → List Row
rows_in processors jobs f a s =
    fill (f.mark s) (f.mark (suc s)) (keep (open_in f s) processors) (f.mark s) (shares_of a s jobs)

unfoldable pub laid_out : (processors jobs : List ℕ) → Frame → (ℕ → ℕ → ℕ) → List Row
laid_out processors jobs f a = in_turn (rows_in processors jobs f a) f.stretches

-- the plan of a table's orders and flat amounts in a lent frame
abbrev pub planned : Table → ℕ → (marks opens closes w : List ℕ) → List Row
planned t q marks opens closes w =
    laid_out (take t.m t.by_memory) (take t.n t.by_need) (lent_frame q marks opens closes) (amount_in q w)

-- a row that names a job and one of 16 processors
abbrev pub Named : Row → Type 0
Named r = (1 ≤ r.job) × Numbers 16 r.processor

-- rows that can be joined while they are written: each is named, none is empty, and those of one processor rise
pub record Joinable (rows : List Row) : Type 0 where
  pub named : All Named rows
  pub forward : All Forward rows
  pub rises : Pairwise Rises rows
