-- A stretch laid job by job: the rows written and those of the jobs still to come are the stretch's.
use Prim.Native.Nat.{ℕ, suc, ◌+◌, ◌-◌, ◌*◌, ◌≤◌, ◌<◌, pred}
use mathlib.Core.Path.{◌≡◌}
use mathlib.Core.List.{List, [], ◌++◌}
use native.Mathlib.Omega.{arith}
use native.Mathlib.Numerals.{add-one}
use lib.ListN.{length, get_or, drop, drop_of_length-le}
use lib.Seq.{drop-cons}
use Rattle.sums.specs.Lists.{All}
use Rattle.sums.specs.Members.{All-map, All-both, All-from}
use Rattle.order.specs.Order.{Numbers}
use Rattle.plan.specs.Plan.{Row}
use Rattle.wrap.specs.Layout.{Share, shares_of}
use Rattle.wrap.specs.Filled.{Filled, fill-filled}
use Rattle.wrap.specs.FilledRows.{filled-jobs, filled-processors, filled-between}
use Rattle.wrap.specs.Shares.{shares-all}
use Rattle.wrap.specs.Flows.{amount_in}
use Rattle.layout.specs.Sheet.{Sheet, Good}
use Rattle.layout.specs.Laid.{Laid, EndsTold, portion, rows_from, rows_between, Inside, ShareLaid, Numbered, Numbering}
use Rattle.layout.specs.declared.Place.{Place}
use Rattle.layout.proofs.Writing.{laid_none, laid_then, laid-room, laid-all}
use Rattle.layout.proofs.Telling.{ends-told}
use Rattle.layout.proofs.Filling.{fill-no-share, portion-alone, shares-more, shares-none}

-- a stretch under way: the shares of the jobs from place k on are still to be laid, from `place` on
pub record Stretching (start end : ℕ) (processors jobs : List ℕ) (q : ℕ) (w : List ℕ) (s : ℕ) (before : Sheet) (place : Place) (k : ℕ)
    (after : Sheet) : Type 0 where
  pub goes_on : Laid (rows_between start end processors jobs (amount_in q w) s)
      (rows_from start end processors place (shares_of (amount_in q w) s (drop k jobs))) before after
  pub inside : Inside start end (length processors) place
  pub few : after.count ≤ before.count + k + place.processor

pub stretching-start : (start end : ℕ) (processors jobs : List ℕ) (q : ℕ) (w : List ℕ) (s : ℕ) (b : Sheet) → start ≤ end → Good b →
    Stretching start end processors jobs q w s b (record { processor = 0; at = start }) 0 b
stretching-start start end processors jobs q w s b h g =
    record {
      goes_on = laid_none _ b g;
      inside = record { a-processor = omega arith; from_start = omega arith; by_end = h };
      few = omega arith;
    }

module _ {start end : ℕ} {processors jobs : List ℕ} {q : ℕ} {w : List ℕ} {s : ℕ} {b : Sheet} {place : Place} {k : ℕ} {c : Sheet}
    (g : Stretching start end processors jobs q w s b place k c) where
  -- no job is left
  pub stretching-end : k ≡ length jobs →
      Laid (rows_between start end processors jobs (amount_in q w) s) [] b c
      × (c.count ≤ b.count + length jobs + length processors)
  stretching-end l =
      let none : drop k jobs ≡ [] = drop_of_length-le jobs {i = k} (omega arith) in
      let f : rows_from start end processors place (shares_of (amount_in q w) s (drop k jobs)) ≡ [] =
      rw (none, shares-none (amount_in q w) s) (fill-no-share start end (drop place.processor processors) place.at) in
      (rw f at g.goes_on, omega (arith, g.few, g.inside.a-processor))

  module _ (numbered : Numbered (length jobs) jobs) (l : k < length jobs)
      (room : 4 * (b.count + length (rows_between start end processors jobs (amount_in q w) s)) ≤ length b.buffer) where
    -- the next job, and its minutes as the code reads them
    abbrev job : ℕ
    job = get_or jobs k 0

    abbrev minutes : ℕ
    minutes = get_or w ((job - 1) * q + s) 0

    abbrev later : List Share
    later = shares_of (amount_in q w) s (drop (k + 1) jobs)

    -- the shares still to be laid begin with the next job's
    next-shares : shares_of (amount_in q w) s (drop k jobs) ≡ portion job minutes ++ later
    next-shares =
        let e : job - 1 ≡ pred job = omega (arith, (numbered.at k l).0) in
        rw (add-one, drop-cons jobs k 0 l, e) (shares-more (amount_in q w) s job (drop (suc k) jobs))

    rest : Laid (rows_between start end processors jobs (amount_in q w) s)
        (rows_from start end processors place (portion job minutes ++ later)) b c
    rest = rw next-shares at g.goes_on

    pub share-room : 4 * (c.count + length (rows_from start end processors place (portion job minutes))) ≤ length c.buffer
    share-room =
        omega (
          arith,
          room,
          rest.same_length,
          laid-room rest,
          portion-alone start end (drop place.processor processors) place.at job minutes later,
        )

    pub stretching-more : {next : Place} {d : Sheet} → ShareLaid start end processors place next (portion job minutes) c d →
        Stretching start end processors jobs q w s b next (k + 1) d
    stretching-more h =
        record {
          goes_on = laid_then rest (h.goes_on later);
          inside = h.inside;
          few = omega (arith, h.few, g.few);
        }

-- the rows of a stretch name jobs and processors and end by its end, so they tell which job each processor ends it with
pub stretching-told : (start end : ℕ) (processors jobs : List ℕ) (a : ℕ → ℕ → ℕ) (s : ℕ) (b c : Sheet) →
    start ≤ end → Numbering processors → Numbered (length jobs) jobs →
    4 * (b.count + length (rows_between start end processors jobs a s)) ≤ length b.buffer →
    Laid (rows_between start end processors jobs a s) [] b c →
    EndsTold (rows_between start end processors jobs a s) end b c
stretching-told start end processors jobs a s b c up numbering numbered room laid =
    rw (laid-all laid)
    (ends-told rows end b
    (All-both _ _ rows
    (filled-jobs (λ j. 1 ≤ j) filled (shares-all a s (λ j. 1 ≤ j) _ jobs (λ j h _. h) some-jobs))
    (filled-processors (Numbers 16) filled numbering))
    (All-map _ _ rows (λ (r : Row) h. h.1) (filled-between filled (omega arith) up)) room)
  where
    rows : List Row
    rows = rows_between start end processors jobs a s

    filled : Filled start end processors start (shares_of a s jobs) rows
    filled = fill-filled start end processors start (shares_of a s jobs)

    some-jobs : All (λ j. 1 ≤ j) jobs
    some-jobs = All-from _ jobs 0 (λ i l. (numbered.at i l).0)
