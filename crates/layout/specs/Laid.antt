-- Rows written behind one another or joined, and what is still to be written.
use Rattle.std.specs.Prelude.{ℕ, ◌+◌, ◌-◌, ◌≤◌, ◌<◌, ◌≡◌, cond, List, [], ◌∷◌, ◌++◌, ltb, length, get_or, drop}
use Rattle.sums.specs.Lists.{All}
use Rattle.order.specs.Order.{Numbers}
use Rattle.plan.specs.Plan.{Row, Forward}
use Rattle.plan.proofs.JoinLaws.{Standing}
use Rattle.plan.proofs.JoinAgain.{Rises}
use Rattle.wrap.specs.Ending.{ends_with}
use Rattle.wrap.specs.Layout.{Share, fill, shares_of}
use Rattle.wrap.specs.Shares.{share}
use Rattle.layout.specs.Sheet.{Sheet, Good, Holds, added_all, ending_job}
use Rattle.layout.specs.declared.Place.{Place}

-- of the rows `whole` all but `rest` were written
pub record Laid (whole rest : List Row) (before after : Sheet) : Type 0 where
  pub laid : List Row
  pub split : whole ≡ laid ++ rest
  pub sheet-is : after ≡ added_all before laid
  pub few : after.count ≤ before.count + length laid
  pub good : Good after
  pub same_length : length after.buffer ≡ length before.buffer

-- a job's part of the shares: none where it has no minute
abbrev pub portion : ℕ → ℕ → List Share
portion job minutes = cond (ltb 0 minutes) (share job minutes ∷ []) []

-- the rows of shares from a place on
abbrev pub rows_from : (start end : ℕ) → List ℕ → Place → List Share → List Row
rows_from start end processors place shares =
    fill start end (drop place.processor processors) place.at shares

-- the rows of a stretch
abbrev pub rows_between : (start end : ℕ) → (processors jobs : List ℕ) → (ℕ → ℕ → ℕ) → ℕ → List Row
rows_between start end processors jobs a s = fill start end processors start (shares_of a s jobs)

-- the row of one piece of a share, on the processor with this number; and where the next piece goes on
abbrev pub piece : ℕ → Place → ℕ → ℕ → Row
piece number place job minutes =
    record { job = job; processor = number; from = place.at; to = place.at + minutes }

abbrev pub behind : (start end : ℕ) → Place → ℕ → Place
behind start end place minutes =
    cond (ltb (place.at + minutes) end)
    (record { processor = place.processor; at = place.at + minutes })
    (record { processor = place.processor + 1; at = start })

-- a place among n processors, inside a stretch
pub record Inside (start end n : ℕ) (place : Place) : Type 0 where
  pub a-processor : place.processor ≤ n
  pub from_start : start ≤ place.at
  pub by_end : place.at ≤ end

-- shares were laid from one place to the next: whatever shares follow, their rows go on from there; they took no more rows
-- than the processors that they filled and one
pub record ShareLaid (start end : ℕ) (processors : List ℕ) (place next : Place) (shares : List Share) (before after : Sheet)
    : Type 0 where
  pub goes_on : (later : List Share) →
      Laid (rows_from start end processors place (shares ++ later)) (rows_from start end processors next later) before after
  pub inside : Inside start end (length processors) next
  pub few : after.count + place.processor ≤ before.count + next.processor + 1

-- the first n places of an array of jobs hold numbers from 1 to n
pub record Numbered (n : ℕ) (jobs : List ℕ) : Type 0 where
  pub at : (k : ℕ) → k < n → (1 ≤ get_or jobs k 0) × (get_or jobs k 0 ≤ n)

-- processors, each with a number from 1 to 16
abbrev pub Numbering : List ℕ → Type 0
Numbering processors = All (Numbers 16) processors

-- the numbers of last rows tell which job each processor ends a stretch with: "the layout of a stretch must therefore say which job each
-- processor ends with"; whatever rows stood before, if they end before the stretch does and the rows of each processor rise
abbrev pub EndsTold : List Row → ℕ → Sheet → Sheet → Type 0
EndsTold rows end before after =
    (lent : List ℕ) (done : List Row) → Holds lent done before → Standing Forward Rises done rows →
    All (λ (r : Row). r.to < end) done → (i : ℕ) → Numbers 16 i →
    ending_job after.buffer (get_or after.last (i - 1) 0) end ≡ ends_with rows end i
