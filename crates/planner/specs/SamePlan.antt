-- Document 02, §8, of the planner: "For every order the least lateness, reasons, refusals and rows are equal to those of the input-order
-- table." Least lateness and reasons stand in reason/specs/SameTold.antt; acceptance and the bound are judged of the order itself, 9 and 10
-- of the table.
use Rattle.std.specs.Prelude.{ℕ, ◌+◌, ◌-◌, ◌*◌, ◌/◌, ◌≡◌, refl, Bool, true, false, List, [], ◌∷◌, ◌↔◌, ℤ, Option, None, Some, length, get_or, replicate}
use Rattle.std.proofs.Common.{sym, ap, ◌∙◌}
use Rattle.std.proofs.lemmas.List.{get_or-replicate}
use Rattle.sums.specs.Lists.{tabulate}
use Rattle.sums.specs.Places.{get_d_tabulate}
use Rattle.order.specs.Order.{Order}
use Rattle.order.specs.Lead.{last_due, reach_at}
use Rattle.order.proofs.LeadLaws.{workable}
use Rattle.order.specs.Refusals.{Accepted, TableRow, room_row, tight_row}
use Rattle.order.proofs.RefusalLaws.{accepted-iff}
use Rattle.plan.specs.Join.{joined}
use Rattle.plan.specs.Plan.{Row}
use Rattle.wrap.proofs.FrameBase.{base_frame, layout_is}
use Rattle.wrap.specs.Marks.{mark-up}
use Rattle.table.specs.Held.{Reading, by_number, by_place, ReadingOf}
use Rattle.table.specs.HeldLaws.{held-read, input-read}
use Rattle.table.specs.Tabled.{TabledBy, Tabled, InInputOrder}
use Rattle.table.specs.declared.Table.{Table}
use Rattle.allot.specs.GridMarks.{grid-counted, lent-agrees}
use Rattle.allot.specs.InFrame.{Agrees}
use Rattle.allot.specs.SameRows.{over, ends_from, LentNumbers, frame_of, RowsFrom, RowsIn, rows-one, rows_in, rows-carried}
use Rattle.reason.specs.Asked.{told_of, told_in_order}
use Rattle.reason.specs.SameTold.{reason-same}
use Rattle.reason.specs.declared.Reason.{Reason}
use Rattle.reason.specs.declared.Why.{Why}
use Rattle.planner.specs.Written.{Written}

-- Refusals ---------------------------------------------------------------------------------------------------------------------

abbrev is_tight : Option Reason → Bool
is_tight (Some reason) = true
is_tight None = false

-- rows 9 and 10 as they are read from a table and from what is told of it
abbrev pub rows_read : Table → Why → ℕ → List TableRow
rows_read t why numbers = room_row (numbers / 4) (t.q * (t.n + t.m - 1)) ∷ tight_row (is_tight why.reason) ∷ []

-- Rows -------------------------------------------------------------------------------------------------------------------------

-- document 01's frame from a table whose jobs are so read, at a reach: each job is ready at 0, each processor open from 0 to the reach
abbrev pub lent_at : Reading → Table → ℕ → LentNumbers
lent_at r t reach =
    record {
      stretches = t.q;
      marks = tabulate 48 (λ s. reach - get_or t.grid s 0);
      ready = replicate 48 0;
      until = ends_from r t reach;
      opens = replicate 16 0;
      closes = replicate 16 reach;
    }

-- `count` rows from it
abbrev pub PlanFrom : Reading → Table → ℕ → (entry exit : List ℕ) → ℕ → Type 0
PlanFrom r t reach entry exit count = RowsFrom r t (lent_at r t reach) entry exit count

module _ (o : Order) (ok : Accepted o) (bound : ℤ) where
  abbrev reach : ℕ
  reach = reach_at last_due bound

  framed : {number : ℕ → ℕ} (t : Table) → TabledBy number last_due o t → (r : Reading) → ReadingOf last_due o r →
      Agrees o (base_frame o bound) (frame_of (lent_at r t reach))
  framed t m r R =
      let l = lent_at r t reach in
      lent-agrees o (workable o ((accepted-iff o).0 ok)) bound t m r R reach refl l.until l.marks
      (record { at = λ j b. get_d_tabulate t.n (λ j. reach - r.lead j) 0 j b })
      (record { at = λ s b. get_d_tabulate 48 (λ s. reach - get_or t.grid s 0) 0 s b })
      l.ready l.opens l.closes (λ j b. get_or-replicate 48 j 0 0 b) (λ i b. get_or-replicate 16 i 0 0 b)
      (λ i b. get_or-replicate 16 i reach 0 b)

  written_in : (entry exit : List ℕ) (count : ℕ) → Written o bound entry exit count → RowsIn o (base_frame o bound) entry exit count
  written_in entry exit count W =
      let p = W.plan-of in
      let e : W.plan ≡ joined _ = p.plan-is ∙ ap joined (sym (layout_is o bound p.amounts)) in
      record {
        amounts = p.amounts;
        run = p.chosen;
        rows_are = W.rows_are ∙ ap (λ (plan : List Row). over plan entry) e;
        count-is = W.count-is ∙ ap (λ (plan : List Row). length plan) e;
      }

  module _ (t u : Table) (m : Tabled last_due o t) (i : InInputOrder last_due o u) where
    -- 9 and 10 are told of both tables or of neither
    pub refusals-same : (numbers : ℕ) → rows_read t (told_of t reach) numbers ≡ rows_read u (told_in_order u reach) numbers
    refusals-same numbers =
        rw (
          reason-same o t u m i ok bound,
          grid-counted last_due o _ m.grid ∙ sym (grid-counted last_due o _ i.grid),
          m.jobs ∙ sym i.jobs,
          m.processors ∙ sym i.processors,
        ) refl

    held : Agrees o (base_frame o bound) (frame_of (lent_at (by_number t) t reach))
    held = framed t m (by_number t) (held-read o t m)

    input : Agrees o (base_frame o bound) (frame_of (lent_at (by_place u) u reach))
    input = framed u i (by_place u) (input-read o u i)

    module _ (entry exit : List ℕ) (count : ℕ) where
      -- rows from §8's table are rows from the input-order table, and the other way round
      pub rows_same : PlanFrom (by_number t) t reach entry exit count ↔ PlanFrom (by_place u) u reach entry exit count
      rows_same =
          let f = lent_at (by_number t) t reach in
          let g = lent_at (by_place u) u reach in (
            rows-carried o (base_frame o bound) (mark-up o bound) t u m i (by_number t) (by_place u) (held-read o t m) (input-read o u i) f g
                held input entry exit count,
            rows-carried o (base_frame o bound) (mark-up o bound) u t i m (by_place u) (by_number t) (input-read o u i) (held-read o t m) g f
                input held entry exit count,
          )

      -- what the planner leaves by its contract are the rows from the input-order table, and there are no others
      pub rows-planned : Written o bound entry exit count → (exit' : List ℕ) (count' : ℕ) →
          PlanFrom (by_place u) u reach entry exit' count' → (exit ≡ exit') × (count ≡ count')
      rows-planned W exit' count' X =
          rows-one o (base_frame o bound) entry exit exit' count count' (written_in entry exit count W)
          (rows_in o (base_frame o bound) (mark-up o bound) u i (by_place u) (input-read o u i) (lent_at (by_place u) u reach) input entry
          exit' count' X)
