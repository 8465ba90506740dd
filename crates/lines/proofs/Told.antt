-- What the answers of the code say of the text that is written.
use Rattle.std.specs.Prelude.{Some, Result, Ok, Err}
use Prim.Native.Nat.{ℕ, ◌-◌, ◌*◌, ◌≤◌, ◌<◌}
use mathlib.Core.Path.{◌≡◌, refl, sym, ap, ◌∙◌, subst}
use mathlib.Core.Bool.{true, false}
use mathlib.Core.List.{List, ◌++◌}
use native.Mathlib.Omega.{arith}
use borrow.Author.Tests.{lt-ltb, le-ltb}
use lib.IntN.{ℤ}
use lib.ListN.{length, take, drop, replicate, length-drop, length-append, length-replicate}
use lib.Seq.{take_all}
use mir.Syntax.{w32}
use mir.Val.{to_z, of_z, SFits}
use mir.ValLaws.{to_z-of_z}
use Rattle.sums.specs.Lists.{tabulate}
use Rattle.order.specs.Order.{Order}
use Rattle.order.specs.Refusals.{Verdict, accepted, refused, judge, answer_by}
use Rattle.order.specs.Table.{order_of, refusal_told, number_by, carried_by}
use Rattle.order.proofs.TableLaws.{refused-told}
use Rattle.order.specs.declared.Order.{Order as OrderTable}
use Rattle.order.specs.declared.Refusal.{Refusal}
use Rattle.order.specs.declared.Refusal.TheVariants.{BadFile}
use Rattle.order_file.specs.Bytes.{number4, signed}
use Rattle.order_file.specs.File.{order_in, read_rows}
use Rattle.order_file.specs.Told.{read_told}
use Rattle.plan.specs.Plan.{Row}
use Rattle.plan.specs.Check.{numbers_of, row_at}
use Rattle.plan.specs.NumberLaws.{length-numbers}
use Rattle.profile.specs.Least.{least_lateness}
use Rattle.profile.specs.Reason.{Reason}
use Rattle.profile.specs.Search.{Found, nothing, found, reason_of}
use Rattle.reason.specs.Told.{reason_told, why_told, why_of}
use Rattle.reason.specs.declared.Reason.{Reason as CodeReason}
use Rattle.reason.specs.declared.Why.{Why}
use Rattle.planner.specs.Rows.{least_rows, plan_rows}
use Rattle.planner.specs.Told.{reason_carried, why_in, ReasonTold}
use Rattle.planner.specs.Written.{Written}
use Rattle.planner.specs.AnswerLaws.{
  carried_none,
  LeastTold,
  least-refused,
  least_at,
  PlanTold,
  planned-refused,
  planned-tight,
  planned-rows,
}
use Rattle.planner.specs.declared.Least.{Least}
use Rattle.planner.specs.declared.NoPlan.{NoPlan}
use Rattle.planner.specs.declared.NoPlan.TheVariants.{Refused, TooTight}
use Rattle.sentence.specs.Handed.{handed}
use Rattle.sentence.specs.Line.{composed}
use Rattle.lines.specs.Lines.{refused_line, plan_lines, meets_line, tight_line, bound_line}
use Rattle.lines.specs.LineLaws.{rows-first}
use Rattle.text.specs.Text.{line_end}
use Rattle.text.specs.TextLaws.{put_as}
use Rattle.text.specs.SignedLaws.{signed-fits}
use Rattle.lines.specs.Programs.{
  rows_lent,
  is_refused,
  plan_order_rows,
  PlanText,
  PlanOrderText,
  PlanOrderOutput,
  try_bound_rows,
  bound_in,
  try_bound_verdict,
  try_bound_text,
  TryBoundOutput,
}
use Rattle.lines.specs.Inside.{refusal_line, LeastOutput, BoundOutput}
use Rattle.lines.specs.declared.Output.{Output}
use Rattle.planner.specs.TenLaws.{ten-accepted}
use Rattle.lines.proofs.Reasons.{composed-of}

-- the rows that a program lends
abbrev pub blank : List ℕ
blank = replicate 12096 0

pub blank-size : length blank ≡ rows_lent
blank-size = length-replicate {A = ℕ} 12096 0

-- a refusal of the code is told by its line
pub refused-text : (v : Verdict) (o : Order) (why : Refusal) → v ≡ refusal_told why → PlanOrderText v o (refusal_line why)
refused-text v o why e =
    let t = refused-told why in
    subst (λ (v : Verdict). PlanOrderText v o (refusal_line why)) (sym (e ∙ t.2))
    (ap (λ (w : Verdict). refused_line (number_by w) (carried_by w)) t.2)

pub refused-true : (v : Verdict) (why : Refusal) → v ≡ refusal_told why → true ≡ is_refused v
refused-true v why e = let t = refused-told why in sym (ap is_refused (e ∙ t.2))

pub accepted-false : (v : Verdict) → v ≡ accepted → false ≡ is_refused v
accepted-false v e = sym (ap is_refused e)

-- the rows written are in the buffer
pub written-room : {o : Order} {bound : ℤ} {rows rows' : List ℕ} {count : ℕ} → Written o bound rows rows' count →
    4 * count ≤ length rows'
written-room {rows = rows} w =
    let plan = w.plan in
    omega (
      arith,
      w.count-is,
      ap length w.rows_are ∙ length-append (numbers_of plan) (drop (4 * length plan) rows),
      length-numbers plan,
    )

-- at the least lateness
module _ (o : Order) (rows rows' : List ℕ) (l : Result Least Refusal) (t : LeastTold o rows rows' l) (size : length rows ≡ rows_lent) where
  same_rows : judge (least_rows o (length rows)) ≡ judge (least_rows o rows_lent)
  same_rows = ap (λ (n : ℕ). judge (least_rows o n)) size

  pub least-told : (why : Refusal) → l ≡ Err why → judge (least_rows o rows_lent) ≡ refusal_told why
  least-told why e = sym same_rows ∙ (least-refused o rows rows' l t why e).0

  pub least-written : (k : Least) → l ≡ Ok k →
      (judge (least_rows o rows_lent) ≡ accepted) × (k.lateness ≡ least_lateness o) × Written o (least_lateness o) rows rows' k.rows
  least-written k e = let h = least_at o rows rows' l t k e in (sym same_rows ∙ h.0, h.1, h.2)

pub plan-text : (o : Order) (rows rows' : List ℕ) (z : ℤ) (count : ℕ) → z ≡ least_lateness o →
    Written o (least_lateness o) rows rows' count → PlanText o (plan_lines z (tabulate count (row_at rows')))
plan-text o rows rows' z count e w =
    let plan : List Row = w.plan in
    let same : tabulate count (row_at rows') ≡ plan
    = ap (λ (n : ℕ). tabulate n (row_at rows')) w.count-is
    ∙ (ap (λ (ns : List ℕ). tabulate (length plan) (row_at ns)) w.rows_are ∙ rows-first plan (drop (4 * length plan) rows)) in
    record {
      plan = plan;
      plan-of = w.plan-of;
      text-is = ap (λ (y : ℤ). plan_lines y (tabulate count (row_at rows'))) e ∙ ap (plan_lines (least_lateness o)) same;
    }

pub plan-order-text : (v : Verdict) (o : Order) (text : List ℕ) → v ≡ accepted → PlanText o text → PlanOrderText v o text
plan-order-text v o text e h = subst (λ (v : Verdict). PlanOrderText v o text) (sym e) h

-- at a bound
module _ (o : Order) (bound : ℤ) (rows rows' : List ℕ) (a : Result ℕ NoPlan) (t : PlanTold o bound rows rows' a)
    (size : length rows ≡ rows_lent) where
  abbrev v : Verdict
  v = judge (plan_rows o bound rows_lent)

  same-plan-rows : judge (plan_rows o bound (length rows)) ≡ v
  same-plan-rows = ap (λ (n : ℕ). judge (plan_rows o bound n)) size

  -- the reason, and what is written
  abbrev reason : Found Reason
  reason = reason_carried v (reason_of o bound)

  abbrev text : List ℕ
  text = bound_line o bound v reason

  text-by : (w : Verdict) (f : Found Reason) → v ≡ w → reason ≡ f → bound_line o bound w f ≡ text
  text-by w f e h = sym (ap (λ (x : Verdict). bound_line o bound x reason) e ∙ ap (bound_line o bound w) h)

  -- of a bound that is met
  pub met-text : (count : ℕ) → a ≡ Ok count → (meets_line ≡ text) × (false ≡ is_refused v)
  met-text count e =
      let w : v ≡ accepted = sym same-plan-rows ∙ (planned-rows o bound rows rows' a t count e).0 in
      (text-by accepted reason w refl, accepted-false v w)

  -- of one that is not judged
  pub unjudged-text : (why : Refusal) → a ≡ Err (Refused why) → (refusal_line why ≡ text) × (true ≡ is_refused v)
  unjudged-text why e =
      let w : v ≡ refusal_told why = sym same-plan-rows ∙ (planned-refused o bound rows rows' a t why e).0 in
      let q = refused-told why in (
        ap (λ (x : Verdict). refused_line (number_by x) (carried_by x)) q.2
            ∙ text-by (refused q.0 q.1) nothing (w ∙ q.2)
            (ap (λ (x : Verdict). reason_carried x (reason_of o bound)) w ∙ carried_none why (reason_of o bound)),
        refused-true v why w,
      )

  -- of one that is too tight
  module _ (code : CodeReason) (dues : List ℤ) (e : a ≡ Err (TooTight code dues)) where
    pub tight-verdict : v ≡ refused 10 0
    tight-verdict = sym same-plan-rows ∙ (planned-tight o bound rows rows' a t code dues e).0

    abbrev why : Why
    why = record { reason = Some code; dues = dues }

    why-as : why_in a ≡ why
    why-as = ap why_in e

    pub tight-text : ReasonTold o reason a →
        (tight_line (reason_told code dues) ++ (composed o bound (handed o why) ++ line_end) ≡ text) × (true ≡ is_refused v)
    tight-text r =
        let told : Reason = reason_told code dues in
        let carried : reason ≡ found told = sym r.0 ∙ ap why_told why-as in
        let is : reason_of o bound ≡ found told
        = sym (ap (λ (x : Verdict). reason_carried x (reason_of o bound)) tight-verdict) ∙ carried in
        let whole : why ≡ why_of o (found told) = sym why-as ∙ (r.1 ∙ ap (why_of o) carried) in (
          ap (λ (line : List ℕ). tight_line told ++ (line ++ line_end))
              (composed-of o bound (ten-accepted o bound rows_lent tight-verdict) told is why whole)
              ∙ text-by (refused 10 0) (found told) tight-verdict carried,
          sym (ap is_refused tight-verdict),
        )

-- what is written for the order that was read is written for the file
pub least-moved : (f : List ℕ) (t : OrderTable) (buffer after : List ℕ) (r : Output) → order_of t ≡ order_in f →
    judge (plan_order_rows f) ≡ judge (least_rows (order_in f) rows_lent) → LeastOutput (order_of t) buffer after r →
    PlanOrderOutput f buffer after r
least-moved f t buffer after r same e h =
    let k = subst (λ (o : Order). LeastOutput o buffer after r) same h in
    record {
      text = k.text;
      text-is = subst (λ (v : Verdict). PlanOrderText v (order_in f) k.text) (sym e) k.text-is;
      put = k.put;
      told = k.told ∙ sym (ap is_refused e);
    }

pub bound-moved : (o o' : Order) (read bound : ℤ) (buffer after : List ℕ) (r : Output) → o ≡ o' → read ≡ bound →
    BoundOutput o read buffer after r → BoundOutput o' bound buffer after r
bound-moved o o' read bound buffer after r e f h =
    subst (λ (z : ℤ). BoundOutput o' z buffer after r) f (subst (λ (x : Order). BoundOutput x read buffer after r) e h)

-- the reader is handed all that stands behind the bound
pub read-part : (input : List ℕ) (r : Result OrderTable Refusal) →
    read_told r ≡ answer_by (judge (read_rows (take (length input - 4) (drop 4 input)))) (order_in (take (length input - 4) (drop 4 input))) →
    read_told r ≡ answer_by (judge (read_rows (drop 4 input))) (order_in (drop 4 input))
read-part input r e =
    subst (λ (f : List ℕ). read_told r ≡ answer_by (judge (read_rows f)) (order_in f))
    (take_all (length input - 4) (drop 4 input) (omega (arith, length-drop 4 input))) e

-- the bound as the machine reads it back
pub bound-read : (input : List ℕ) (n : ℕ) (z : ℤ) → n < 4294967296 → n ≡ number4 input 0 → z ≡ signed n →
    to_z w32 (of_z w32 z) ≡ bound_in input
bound-read input n z h e f =
    to_z-of_z w32 z (subst (SFits w32) (sym f) (signed-fits n h)) ∙ (f ∙ ap signed e)

-- try-bound: a refusal of the reader, and what the planner decides
module _ (input : List ℕ) where
  abbrev f : List ℕ
  f = drop 4 input

  abbrev line_by : Verdict → Found Reason → List ℕ
  line_by v reason = bound_line (order_in f) (bound_in input) v reason

  pub tried-short : length input < 4 → (try_bound_verdict input ≡ refused 12 0) × (refusal_line BadFile ≡ try_bound_text input)
  unfolding try_bound_text try_bound_verdict
  tried-short h = rw (lt-ltb (length input) 4 h) (refl, refl)

  module _ (h : 4 ≤ length input) where
    tried-rows : try_bound_verdict input ≡ judge (try_bound_rows f (bound_in input))
    unfolding try_bound_verdict
    tried-rows = rw (le-ltb (length input) 4 h)

    line_of : (v : Verdict) → try_bound_verdict input ≡ v →
        line_by v (reason_carried v (reason_of (order_in f) (bound_in input))) ≡ try_bound_text input
    unfolding try_bound_text
    line_of v e = ap (λ (w : Verdict). line_by w (reason_carried w (reason_of (order_in f) (bound_in input)))) (sym e)

    pub tried-refused : (why : Refusal) → judge (try_bound_rows f (bound_in input)) ≡ refusal_told why →
        (try_bound_verdict input ≡ refusal_told why) × (refusal_line why ≡ try_bound_text input)
    tried-refused why e =
        let v : try_bound_verdict input ≡ refusal_told why = tried-rows ∙ e in
        let t = refused-told why in (
          v,
          sym (ap (line_by (refusal_told why)) (carried_none why (reason_of (order_in f) (bound_in input)))
              ∙ (ap (λ (w : Verdict). line_by w nothing) t.2 ∙ sym
              (ap (λ (w : Verdict). refused_line (number_by w) (carried_by w)) t.2)))
              ∙ line_of (refusal_told why) v,
        )

    pub tried-moved : (o : Order) (read : ℤ) (buffer after : List ℕ) (r : Output) → o ≡ order_in f → read ≡ bound_in input →
        judge (try_bound_rows f (bound_in input)) ≡ judge (plan_rows (order_in f) (bound_in input) rows_lent) →
        BoundOutput o read buffer after r → TryBoundOutput input buffer after r
    tried-moved o read buffer after r same bound e k =
        let b = bound-moved o (order_in f) read (bound_in input) buffer after r same bound k in
        let v = tried-rows ∙ e in
        (put_as (line_of _ v) b.0, b.1 ∙ sym (ap is_refused v))
