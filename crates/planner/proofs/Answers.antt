-- How the planner puts its answers together: a refusal stands whatever rows follow, 10 comes with its reason, and where the table
-- accepts a plan was written.
use Rattle.std.specs.Prelude.{Option, None, Some, Result, Ok, Err}
use Prim.Native.Nat.{ℕ, ◌/◌, ◌≤◌, ◌<◌}
use mathlib.Core.Path.{◌≡◌, refl, sym, ap, ◌∙◌, subst}
use mathlib.Core.Bool.{Bool, true, false, not}
use mathlib.Core.List.{List, [], ◌∷◌, ◌++◌}
use native.Mathlib.Omega.{arith}
use borrow.Author.Tests.{lt-ltb, le-ltb, ltb-false, not-true, not-false}
use lib.IntN.{ℤ}
use lib.ListN.{length}
use Rattle.order.specs.Order.{Order}
use Rattle.sums.specs.Lists.{All}
use Rattle.order.specs.Refusals.{
  limits,
  clear,
  TableRow,
  Verdict,
  accepted,
  refused,
  judge,
  answer_by,
  order_rows,
  bound_row,
  tight_row,
  bound_in_range,
  Accepted,
}
use Rattle.order.specs.Class.{classes}
use Rattle.order.proofs.RefusalLaws.{
  judge-accepted,
  judge-refused-append,
  judge-accepted-append,
  accepted-first,
  whole-clear,
  accepted-iff,
}
use Rattle.order.specs.Table.{Acceptance, refusal_told, acceptance_told}
use Rattle.order.proofs.TableLaws.{refused-told}
use Rattle.order.specs.declared.Refusal.{Refusal}
use Rattle.order.specs.declared.Refusal.TheVariants.{BoundOutOfRange, BufferTooShort}
use Rattle.plan.specs.IsLeast.{IsLeast}
use Rattle.profile.specs.Least.{least_lateness}
use Rattle.profile.specs.Reason.{Reason, over_end, stairs}
use Rattle.profile.proofs.ReasonLaws.{NoReason, reason-none}
use Rattle.profile.specs.Search.{Found, nothing, found, reason_of}
use Rattle.reason.specs.Told.{why_of}
use Rattle.reason.specs.ToldLaws.{why-told}
use Rattle.order.specs.Lead.{reach_at, bound_at, last_due}
use Rattle.reason.specs.Asked.{told_of, least_reach_of}
use Rattle.table.specs.Tabled.{Tabled}
use Rattle.table.specs.declared.Table.{Table}
use Rattle.reason.specs.Matching.{reach-same}
use Rattle.reason.specs.Telling.{told_is}
use Rattle.reason.specs.declared.Reason.{Reason as CodeReason}
use Rattle.reason.specs.declared.Why.{Why}
use Rattle.planner.specs.DemandMet.{not_found}
use Rattle.planner.specs.AnswerLaws.{carried_none, plan-begins}
use Rattle.planner.specs.Rows.{rows_asked, buffer_row, is_found, least_rows, earlier_rows, plan_rows}
use Rattle.planner.specs.Told.{planned_told, rows_of, reason_carried, ReasonTold, least_told, least_count, LeastIn}
use Rattle.planner.specs.Judged.{JudgedAt, JudgedLeast}
use Rattle.planner.specs.Written.{Written, BufferBy}
use Rattle.planner.specs.Making.{MadeOf}
use Rattle.profile.specs.LeastRead.{read-least}
use Rattle.order.proofs.LeadLaws.{workable}
use Rattle.profile.proofs.LeastRange.{least-in-range}
use Rattle.profile.proofs.Threshold.{no-reason-from}
use lib.Signed.{≤ℤ_refl}
use mir.Val.{to_z, of_z}
use mir.Syntax.{w32}
use Rattle.planner.specs.declared.Least.{Least}
use Rattle.planner.specs.declared.NoPlan.{NoPlan}
use Rattle.planner.specs.declared.NoPlan.TheVariants.{Refused, TooTight}

-- a refusal leaves the buffer
buffer-kept : (rf : Refusal) (o : Order) (bound : ℤ) (entry : List ℕ) → BufferBy (refusal_told rf) o bound entry entry 0
buffer-kept rf o bound entry =
    let t = refused-told rf in
    subst (λ (v : Verdict). BufferBy v o bound entry entry 0) (sym t.2) (refl, refl)

-- a refusal stands whatever rows follow
stands : (rows later : List TableRow) (rf : Refusal) → refusal_told rf ≡ judge rows → refusal_told rf ≡ judge (rows ++ later)
stands rows later rf e =
    let t = refused-told rf in
    t.2 ∙ sym (judge-refused-append rows later t.0 t.1 (sym e ∙ t.2))

-- what acceptance says of the first rows
pub order-refused : (o : Order) (a : Acceptance) (rf : Refusal) → acceptance_told a ≡ judge (order_rows limits o) → a ≡ Err rf →
    refusal_told rf ≡ judge (order_rows limits o)
order-refused o a rf e is = sym (ap acceptance_told is) ∙ e

pub order-accepted : (o : Order) (a : Acceptance) → acceptance_told a ≡ judge (order_rows limits o) → a ≡ Ok tt → Accepted o
order-accepted o a e is = sym e ∙ ap acceptance_told is

-- what is told is tight exactly where there is a reason
tight-found : (o : Order) (f : Found Reason) (r : CodeReason) → (why_of o f).reason ≡ Some r → is_found f ≡ true
tight-found o nothing r e = let z : ◌≡◌ {A = ℕ} 0 1 = cc in absurd (omega arith)
tight-found o (found reason) r e = refl

met-none : (o : Order) (f : Found Reason) → (why_of o f).reason ≡ None → f ≡ nothing
met-none o nothing e = refl
met-none o (found (over_end j)) e = let z : ◌≡◌ {A = ℕ} 0 1 = cc in absurd (omega arith)
met-none o (found (stairs dues)) e = let z : ◌≡◌ {A = ℕ} 0 1 = cc in absurd (omega arith)

pub told-met : (o : Order) (f : Found Reason) (w : Why) → w ≡ why_of o f → w.reason ≡ None → f ≡ nothing
told-met o f w e h = met-none o f (sym (ap (λ (w : Why). w.reason) e) ∙ h)

-- a table has room for sixteen classes
pub classes-few : (o : Order) {t : Table} → Tabled last_due o t → length (classes o) ≤ 16
classes-few o m = omega (arith, m.classed, m.few-classes)

-- what an answer at a bound has to hold, by what the table answers
abbrev pub EnsuredBy : Verdict → Order → ℤ → List ℕ → List ℕ → Result ℕ NoPlan → Type 0
EnsuredBy v o bound entry exit r =
    (planned_told r ≡ answer_by v (rows_of r))
    × (ReasonTold o (reason_carried v (reason_of o bound)) r × BufferBy v o bound entry exit (rows_of r))

-- the verdicts, row by row
module _ (o : Order) (bound : ℤ) (n : ℕ) where
  pub refused-first : (rf : Refusal) → refusal_told rf ≡ judge (order_rows limits o) → refusal_told rf ≡ judge (plan_rows o bound n)
  unfolding plan_rows earlier_rows
  refused-first rf e = stands (earlier_rows o bound n) _ rf (stands (order_rows limits o) _ rf e)

  module _ (ok : Accepted o) where
    pub refused-8 : bound_in_range bound ≡ false → refused 8 0 ≡ judge (plan_rows o bound n)
    unfolding plan_rows earlier_rows judge
    refused-8 h =
        stands (earlier_rows o bound n) (tight_row (is_found (reason_of o bound)) ∷ []) BoundOutOfRange
        (sym (judge-accepted-append (order_rows limits o) (bound_row bound ∷ buffer_row o n ∷ []) ok ∙ rw h))

    module _ (in-range : bound_in_range bound ≡ true) where
      pub refused-9 : n / 4 < rows_asked o → refused 9 0 ≡ judge (plan_rows o bound n)
      unfolding plan_rows earlier_rows judge
      refused-9 h =
          stands (earlier_rows o bound n) (tight_row (is_found (reason_of o bound)) ∷ []) BufferTooShort
          (sym (judge-accepted-append (order_rows limits o) (bound_row bound ∷ buffer_row o n ∷ []) ok
          ∙ rw (in-range, lt-ltb (n / 4) (rows_asked o) h)))

      module _ (room : rows_asked o ≤ n / 4) where
        earlier : judge (earlier_rows o bound n) ≡ accepted
        unfolding earlier_rows judge
        earlier =
            judge-accepted-append (order_rows limits o) (bound_row bound ∷ buffer_row o n ∷ []) ok
            ∙ rw (in-range, le-ltb (n / 4) (rows_asked o) room)

        pub last_row : judge (plan_rows o bound n) ≡ judge (tight_row (is_found (reason_of o bound)) ∷ [])
        unfolding plan_rows
        last_row = judge-accepted-append (earlier_rows o bound n) _ earlier

  -- what judge_bound ensures
  module _ (r : Result Table NoPlan) where
    pub refused-judged : (rf : Refusal) → refusal_told rf ≡ judge (plan_rows o bound n) → r ≡ Err (Refused rf) → JudgedAt o bound n r
    refused-judged rf v e =
        let none : nothing ≡ reason_carried (judge (plan_rows o bound n)) (reason_of o bound)
        = sym (carried_none rf (reason_of o bound)) ∙ ap (λ (v : Verdict). reason_carried v (reason_of o bound)) v in
        rw e (record { verdict = v; reason-told = (none, ap (why_of o) none); table_is = tt })

    module _ (ok : Accepted o) (in-range : bound_in_range bound ≡ true) (room : rows_asked o ≤ n / 4) (t : Table)
        (m : Tabled last_due o t) (w : Why) (f : w ≡ why_of o (reason_of o bound)) where
      pub tight-judged : (reason : CodeReason) → w.reason ≡ Some reason → r ≡ Err (TooTight reason w.dues) → JudgedAt o bound n r
      unfolding judge
      tight-judged reason h e =
          let is : record { reason = Some reason; dues = w.dues } ≡ w
          = ap (λ (t : Option CodeReason). record { reason = t; dues = w.dues }) (sym h) in
          let v : judge (plan_rows o bound n) ≡ refused 10 0
          = last_row ok in-range room ∙ rw (tight-found o (reason_of o bound) reason (sym (ap (λ (w : Why). w.reason) f) ∙ h)) in
          rw e (record {
            verdict = sym v;
            reason-told = rw v (why-told o bound (classes-few o m) _ (is ∙ f), is ∙ f);
            table_is = tt;
          })

      pub open-judged : w.reason ≡ None → r ≡ Ok t → JudgedAt o bound n r
      unfolding judge
      open-judged h e =
          let none = told-met o (reason_of o bound) w f h in
          let v : judge (plan_rows o bound n) ≡ accepted = last_row ok in-range room ∙ rw none in
          rw e (record { verdict = sym v; reason-told = rw v (refl, refl); table_is = m })

  -- what plan_at ensures
  abbrev pub Ensured : List ℕ → List ℕ → Result ℕ NoPlan → Type 0
  Ensured entry exit r = EnsuredBy (judge (plan_rows o bound n)) o bound entry exit r

  module _ (r : Result Table NoPlan) (judged : JudgedAt o bound n r) where
    -- what refuses the judgement is handed on
    pub refused-ensured : (entry : List ℕ) (no_plan : NoPlan) → r ≡ Err no_plan → Ensured entry entry (Err no_plan)
    refused-ensured entry (Refused rf) e =
        let j = subst (JudgedAt o bound n) e judged in (
          ap (λ (v : Verdict). answer_by v 0) j.verdict,
          (j.reason-told, subst (λ (v : Verdict). BufferBy v o bound entry entry 0) j.verdict (buffer-kept rf o bound entry)),
        )
    refused-ensured entry (TooTight reason dues) e =
        let j = subst (JudgedAt o bound n) e judged in (
          ap (λ (v : Verdict). answer_by v 0) j.verdict,
          (j.reason-told, subst (λ (v : Verdict). BufferBy v o bound entry entry 0) j.verdict (refl, refl)),
        )

    module _ (t : Table) (e : r ≡ Ok t) where
      abbrev at : JudgedAt o bound n (Ok t)
      at = subst (JudgedAt o bound n) e judged

      pub opened : judge (plan_rows o bound n) ≡ accepted
      opened = sym at.verdict

      pub rows-ensured : (entry exit : List ℕ) (count : ℕ) → Written o bound entry exit count → Ensured entry exit (Ok count)
      rows-ensured entry exit count written = (
        ap (λ (v : Verdict). answer_by v count) (sym opened),
        (at.reason-told, subst (λ (v : Verdict). BufferBy v o bound entry exit count) (sym opened) written),
      )

      -- what planning goes on with
      order-good : Accepted o
      unfolding plan_rows earlier_rows
      order-good =
          accepted-first (order_rows limits o) (bound_row bound ∷ buffer_row o n ∷ [])
          (accepted-first (earlier_rows o bound n) (tight_row (is_found (reason_of o bound)) ∷ []) opened)

      rows-clear : All (λ (x : TableRow). x.finding ≡ clear) (bound_row bound ∷ buffer_row o n ∷ tight_row (is_found (reason_of o bound)) ∷ [])
      unfolding plan_rows earlier_rows
      rows-clear =
          (judge-accepted (bound_row bound ∷ buffer_row o n ∷ tight_row (is_found (reason_of o bound)) ∷ [])).0
          (sym (judge-accepted-append (order_rows limits o) _ order-good) ∙ (ap judge (sym (plan-begins o bound n)) ∙ opened))

      bound-good : bound_in_range bound ≡ true
      bound-good = not-false (bound_in_range bound) (whole-clear _ rows-clear.0)

      room-good : rows_asked o ≤ n / 4
      room-good = ltb-false (n / 4) (rows_asked o) (whole-clear _ rows-clear.1.0)

      reason-good : NoReason o bound
      reason-good = (reason-none o bound).0 (not_found (reason_of o bound) (whole-clear _ rows-clear.1.1.0))

      pub made : MadeOf o t bound n
      made =
          record {
            accepted = order-good;
            bound-good = bound-good;
            no-reason = reason-good;
            room = omega (arith, room-good);
            tabled = at.table_is;
          }

-- what judge_least ensures
module _ (o : Order) (n : ℕ) (r : Result Table Refusal) where
  pub least-refused-judged : (rf : Refusal) → refusal_told rf ≡ judge (least_rows o n) → r ≡ Err rf → JudgedLeast o n r
  least-refused-judged rf v e = rw e (record { verdict = v; table_is = tt })

  pub least-open : Accepted o → rows_asked o ≤ n / 4 → (t : Table) → Tabled last_due o t → r ≡ Ok t → JudgedLeast o n r
  unfolding least_rows judge
  least-open ok room t m e =
      rw e (record {
        verdict =
            sym (judge-accepted-append (order_rows limits o) (buffer_row o n ∷ []) ok
            ∙ rw (le-ltb (n / 4) (rows_asked o) room));
        table_is = m;
      })

module _ (o : Order) (n : ℕ) where
  pub least-refused-first : (rf : Refusal) → refusal_told rf ≡ judge (order_rows limits o) → refusal_told rf ≡ judge (least_rows o n)
  unfolding least_rows
  least-refused-first rf e = stands (order_rows limits o) (buffer_row o n ∷ []) rf e

  pub least-refused-9 : Accepted o → n / 4 < rows_asked o → refused 9 0 ≡ judge (least_rows o n)
  unfolding least_rows judge
  least-refused-9 ok h =
      sym (judge-accepted-append (order_rows limits o) (buffer_row o n ∷ []) ok ∙ rw (lt-ltb (n / 4) (rows_asked o) h))

-- what least_lateness ensures
abbrev pub LeastEnsuredBy : Verdict → Order → List ℕ → List ℕ → Result Least Refusal → Type 0
LeastEnsuredBy v o entry exit r =
    (least_told r ≡ answer_by v (least_lateness o)) × (LeastIn o r × BufferBy v o (least_lateness o) entry exit (least_count r))

module _ (o : Order) (n : ℕ) where
  abbrev pub LeastEnsured : List ℕ → List ℕ → Result Least Refusal → Type 0
  LeastEnsured entry exit r = LeastEnsuredBy (judge (least_rows o n)) o entry exit r

  module _ (r : Result Table Refusal) (judged : JudgedLeast o n r) where
    pub least-refused : (entry : List ℕ) (rf : Refusal) → r ≡ Err rf → LeastEnsured entry entry (Err rf)
    least-refused entry rf e =
        let t = refused-told rf in
        let v : refusal_told rf ≡ judge (least_rows o n) = (subst (JudgedLeast o n) e judged).verdict in (
          rw (t.2, sym v ∙ t.2),
          (
            tt,
            subst (λ (v : Verdict). BufferBy v o (least_lateness o) entry entry 0) v (buffer-kept rf o (least_lateness o) entry),
          ),
        )

    module _ (t : Table) (e : r ≡ Ok t) where
      pub least-opened : judge (least_rows o n) ≡ accepted
      least-opened = sym (subst (JudgedLeast o n) e judged).verdict

      pub least-tabled : Tabled last_due o t
      least-tabled = (subst (JudgedLeast o n) e judged).table_is

      pub least-order-good : Accepted o
      unfolding least_rows
      least-order-good = accepted-first (order_rows limits o) (buffer_row o n ∷ []) least-opened

      pub least-room-good : rows_asked o ≤ n / 4
      unfolding least_rows
      least-room-good =
          ltb-false (n / 4) (rows_asked o)
          (whole-clear _ ((judge-accepted (buffer_row o n ∷ [])).0
          (sym (judge-accepted-append (order_rows limits o) (buffer_row o n ∷ []) least-order-good) ∙ least-opened)).0)

      pub least-ensured : IsLeast o (least_lateness o) → (entry exit : List ℕ) (k : Least) →
          k.lateness ≡ least_lateness o → Written o (least_lateness o) entry exit k.rows → LeastEnsured entry exit (Ok k)
      least-ensured least entry exit k f written = rw (least-opened, f) (refl, (least, written))

-- what the test of the bound says, of the bound as passed and as read back
module _ (bound read : ℤ) (same : read ≡ bound) (b : Bool) (e : b ≡ bound_in_range read) where
  pub out_of_range : not b ≡ true → bound_in_range bound ≡ false
  out_of_range h = sym (ap bound_in_range same) ∙ sym e ∙ not-true b h

  pub read-in : not b ≡ false → bound_in_range read ≡ true
  read-in h = sym e ∙ not-false b h

  pub within-range : not b ≡ false → bound_in_range bound ≡ true
  within-range h = sym (ap bound_in_range same) ∙ read-in h

pub written_at : {o : Order} {bound read : ℤ} {entry exit : List ℕ} {count : ℕ} → read ≡ bound →
    Written o read entry exit count → Written o bound entry exit count
written_at {o} {bound} {read} {entry} {exit} {count} e w = subst (λ (z : ℤ). Written o z entry exit count) e w

-- what a table of the order tells is told of the order
module _ (o : Order) (a : Accepted o) (t : Table) (m : Tabled last_due o t) where
  pub reason-told : (bound read : ℤ) → read ≡ bound → (reach : ℕ) → reach ≡ reach_at last_due read → (w : Why) →
      w ≡ told_of t reach → w ≡ why_of o (reason_of o bound)
  reason-told bound read same reach e w h =
      h
      ∙ (ap (told_of t) (e ∙ ap (reach_at last_due) same) ∙ told_is o t m ((accepted-iff o).0 a) bound)

  pub least-told : (z : ℤ) → z ≡ bound_at last_due (least_reach_of t) → z ≡ least_lateness o
  unfolding least_lateness
  least-told z e = e ∙ ap (bound_at last_due) (sym (reach-same o t m))

pub judged-at : {o : Order} {bound read : ℤ} {n : ℕ} {r : Result Table NoPlan} → read ≡ bound → JudgedAt o read n r → JudgedAt o bound n r
judged-at {o} {bound} {read} {n} {r} e judged = subst (λ (z : ℤ). JudgedAt o z n r) e judged

-- the least lateness, as the machine reads it, may be planned at
pub least-made : (o : Order) (n : ℕ) (r : Result Table Refusal) → JudgedLeast o n r → (t : Table) → r ≡ Ok t → (z : ℤ) →
    z ≡ bound_at last_due (least_reach_of t) → MadeOf o t (to_z w32 (of_z w32 z)) n
unfolding least_lateness
least-made o n r judged t e z is =
    let ok = least-order-good o n r judged t e in
    let m = least-tabled o n r judged t e in
    let read = read-least z (least_lateness o) (least-told o ok t m z is) (least-in-range o ok) in
    record {
      accepted = ok;
      bound-good = ap bound_in_range read ∙ least-in-range o ok;
      no-reason = subst (NoReason o) (sym read)
          (no-reason-from last_due o (workable o ((accepted-iff o).0 ok)) (least_lateness o) (≤ℤ_refl (least_lateness o)));
      room = omega (arith, least-room-good o n r judged t e);
      tabled = m;
    }
