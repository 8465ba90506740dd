-- A table in a frame as the engine's flow.
use Rattle.std.specs.Prelude.{ℕ, suc, pred, ◌*◌, ◌-◌, ◌≤◌, ◌<◌, ◌&&◌, List, leb, length, get_or, take}
use Rattle.sums.specs.Lists.{total, only, nth, keep}
use Rattle.amounts.specs.Flow.{Flow}
use Rattle.wrap.specs.Frame.{Frame, length_in, cap_in, open_in, Rising}
use Rattle.layout.specs.Laid.{Numbered}
use Rattle.layout.specs.Planned.{open_at}
use Rattle.table.specs.Held.{EachOnce, beside, Reading, by_number}
use Rattle.table.specs.declared.Table.{Table}
use Rattle.allot.specs.Tables.{Kinds}

-- how many of the processors that are open in stretch s are of the classes up to k
abbrev pub open_on : Table → Frame → ℕ → ℕ → ℕ
open_on t f s k = total (keep (open_in f s) (take t.m t.by_memory)) (λ i. only (leb (get_or t.kinds (pred i) 0) k) 1)

-- the flow takes the jobs in input order, however the table's jobs are read
abbrev pub flow_from : Reading → Table → Frame → Flow
flow_from r t f = record {
  q = f.stretches;
  n = t.n;
  time = r.time;
  class = r.class;
  cap = λ j s. cap_in f (suc j) s;
  room = λ s k. open_on t f s k * length_in f s;
}

-- of §8's table: by the numbers beside its places
abbrev pub flow_on : Table → Frame → Flow
flow_on t f = flow_from (by_number t) t f

-- its caps and rooms by lent numbers: stretch s ends at marks[s], the first begins at minute 0
abbrev pub cap_at : List ℕ → (ready until s : ℕ) → ℕ
cap_at marks ready until s = only (leb ready (nth marks s 0) && leb (get_or marks s 0) until) (get_or marks s 0 - nth marks s 0)

abbrev pub cap_on : (marks ready until : List ℕ) → (j s : ℕ) → ℕ
cap_on marks ready until j s = cap_at marks (get_or ready j 0) (get_or until j 0) s

abbrev pub room_on : (processors kinds marks opens closes : List ℕ) → (s k : ℕ) → ℕ
room_on processors kinds marks opens closes s k =
    total (keep (open_at opens closes (nth marks s 0) (get_or marks s 0)) processors) (λ i. only (leb (get_or kinds (pred i) 0) k) 1)
    * (get_or marks s 0 - nth marks s 0)

-- the numbers are so small that no sum overflows, also where each minute is cut into 16 parts; the marks rise, and jobs and processors
-- have classes
pub record Sized (t : Table) (f : Frame) : Type 0 where
  pub few-jobs : t.n ≤ 48
  pub few-processors : t.m ≤ 16
  pub few-classes : t.s ≤ 16
  pub few-stretches : f.stretches ≤ 128
  pub job-numbers : EachOnce t.n (beside t.by_need)
  pub classed : (k : ℕ) → k < t.n → (1 ≤ get_or t.classes k 0) × (get_or t.classes k 0 ≤ t.s)
  pub numbered : Numbered t.m t.by_memory
  pub kinds : Kinds t.s t.kinds (take t.m t.by_memory)
  pub rising : Rising f
  pub marks-small : (s : ℕ) → s < f.stretches → f.mark (suc s) ≤ 176000016

-- the lent lists are long enough for its jobs, its processors and q stretches
pub record Long (t : Table) (q : ℕ) (marks ready until opens closes w : List ℕ) : Type 0 where
  pub l-marks : q ≤ length marks
  pub l-ready : t.n ≤ length ready
  pub l-until : t.n ≤ length until
  pub l-opens : t.m ≤ length opens
  pub l-closes : t.m ≤ length closes
  pub l-w : suc t.n * q ≤ length w

-- and those that are written over
pub record Lent (t : Table) (q : ℕ) (marks ready until opens closes cap room slack w : List ℕ) : Type 0 where
  pub long : Long t q marks ready until opens closes w
  pub l-cap : t.n * q ≤ length cap
  pub l-room : q * suc t.s ≤ length room
  pub l-slack : q * suc t.s ≤ length slack
