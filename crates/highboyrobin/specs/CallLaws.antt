-- What a call's answer says of every plan: the least lateness answered is least, a 10 means that there is no right plan, a reason
-- is told exactly where there is none, and the check answers 1 exactly for right plans. Rows are joined, and a call has one outcome.
use Rattle.std.specs.Prelude.{ℕ, ◌+◌, ◌/◌, ◌≤◌, ◌≡◌, Bool, true, false, cond, ◌↔◌, ℤ, pos, length, get_or, take, drop}
use Rattle.std.proofs.Math.Path.{refl, sym}
use Rattle.std.proofs.Common.{ap, ◌∙◌, arith, le-ltb, ltb-false, take_at}
use mathlib.Core.List.{List, [], ◌∷◌, ◌++◌}
use Rattle.sums.specs.Lists.{All}
use Rattle.sums.specs.Members.{All-append}
use Rattle.order.specs.Order.{Order}
use Rattle.order.specs.Refusals.{
  limits,
  clear,
  TableRow,
  Verdict,
  accepted,
  refused,
  judge,
  order_rows,
  whole,
  file_row,
  tight_row,
  bound_row,
  Accepted,
}
use Rattle.order.proofs.RefusalLaws.{judge-accepted, judge-clear, judge-accepted-append, judge-refused-append, accepted-first, whole-clear}
use Rattle.order_file.specs.File.{good_file, order_in}
use Rattle.plan.specs.Plan.{Row, RightInParts, Meets}
use Rattle.plan.specs.Check.{RightNumbers, is_right}
use Rattle.plan.proofs.CheckLaws.{is_right-iff}
use Rattle.profile.specs.Least.{least_lateness}
use Rattle.profile.specs.Reason.{Reason, over_end, stairs}
use Rattle.profile.specs.Search.{Found, nothing, found, reason_of}
use Rattle.planner.specs.NoPlan.{NoPlan, reason-no-plan, none-where-met}
use Rattle.planner.specs.TenLaws.{never}
use Rattle.planner.specs.Rows.{rows_asked, buffer_row, is_found, least_rows, earlier_rows, plan_rows}
use Rattle.planner.specs.Demand.{Demand3}
use Rattle.planner.specs.DemandMet.{tight-refused, not_found, demand-3}
use Rattle.planner.specs.WrittenOne.{written_one}
use Rattle.planner.specs.JoinedPlan.{JoinedPlan, plan-joined}
use Rattle.highboyrobin.specs.Results.{answer_row, file_call}
use Rattle.highboyrobin.specs.Calls.{least_call, plan_call, PlanBy, reason_call, reason_numbers, reason_answer, check_call, check_answer}

kind-none : (o : Order) (r : Found Reason) → (get_or (reason_numbers o r) 0 (pos 0) ≡ pos 0) ↔ (is_found r ≡ false)
kind-none o nothing = (λ e. refl, λ e. refl)
kind-none o (found (over_end j)) =
    (λ e. let z : ◌≡◌ {A = ℕ} 1 0 = cc in absurd (omega arith), λ e. let z : ◌≡◌ {A = ℕ} 1 0 = cc in absurd (omega arith))
kind-none o (found (stairs dues)) =
    (λ e. let z : ◌≡◌ {A = ℕ} 2 0 = cc in absurd (omega arith), λ e. let z : ◌≡◌ {A = ℕ} 1 0 = cc in absurd (omega arith))

-- what row 10 alone says, and what a count of 1 or 0 stands for
tight-found : (f : Found Reason) → ¬ (f ≡ nothing) → judge (tight_row (is_found f) ∷ []) ≡ refused 10 0
unfolding judge
tight-found nothing h = absurd (h refl)
tight-found (found r) h = refl

one-true : (b : Bool) → pos (cond b 1 0) ≡ pos 1 → b ≡ true
one-true true e = refl
one-true false e = let z : ◌≡◌ {A = ℕ} 0 1 = cc in absurd (omega arith)

zero_of : (b : Bool) → ¬ (b ≡ true) → pos (cond b 1 0) ≡ pos 0
zero_of true h = absurd (h refl)
zero_of false h = refl

-- rows and answer of hbr_least and hbr_plan are determined by the verdict, the order, the bound and what was lent
pub plan-by-one : (v : Verdict) (o : Order) (bound : ℤ) (first : List ℤ) (rows rows' rows'' : List ℕ) (answer answer' answer'' : List ℤ) →
    PlanBy v o bound first rows rows' answer answer' → PlanBy v o bound first rows rows'' answer answer'' →
    (rows' ≡ rows'') × (answer' ≡ answer'')
plan-by-one accepted o bound first rows rows' rows'' answer answer' answer'' P Q =
    let same = written_one o bound rows rows' rows'' P.count Q.count P.written Q.written in (
      same.0,
      P.answered ∙ ap (λ (n : ℕ). (first ++ (pos n ∷ [])) ++ drop (length first + 1) answer) same.1 ∙ sym Q.answered,
    )
plan-by-one (refused number job) o bound first rows rows' rows'' answer answer' answer'' P Q = (P.0 ∙ sym Q.0, P.1 ∙ sym Q.1)

-- the rows that hbr_least and hbr_plan leave are joined: none begins where another of its job on its processor ends
pub plan-by-joined : (o : Order) (bound : ℤ) (first : List ℤ) (rows rows' : List ℕ) (answer answer' : List ℤ)
    (P : PlanBy accepted o bound first rows rows' answer answer') →
    JoinedPlan o bound P.written.plan-of.amounts P.written.plan
plan-by-joined o bound first rows rows' answer answer' P = plan-joined o bound P.written.plan P.written.plan-of

-- a reason is nineteen numbers
pub numbers-count : (o : Order) (r : Found Reason) → length (reason_numbers o r) ≡ 19
numbers-count o nothing = refl
numbers-count o (found (over_end j)) = refl
numbers-count o (found (stairs dues)) = refl

module _ (f : List ℕ) (lent asked : ℕ) (later : List TableRow) where
  -- a call that succeeds had an accepted order
  accepted-order : judge (file_call lent asked f (order_rows limits (order_in f) ++ later)) ≡ accepted → Accepted (order_in f)
  unfolding file_call
  accepted-order e =
      let rows = order_rows limits (order_in f) ++ later in
      accepted-first (order_rows limits (order_in f)) later
      ((judge-accepted rows).1 ((judge-accepted (answer_row lent asked ∷ file_row (good_file f) ∷ rows)).0 e).1.1)

-- what hbr_least answers meets demand 3: it is least among all plans, whoever made them
pub least-answered : (f : List ℕ) (numbers lent : ℕ) → judge (least_call f numbers lent) ≡ accepted →
    Demand3 (order_in f) (least_lateness (order_in f))
unfolding least_rows
least-answered f numbers lent e =
    demand-3 (order_in f) (accepted-order f lent 2 (buffer_row (order_in f) numbers ∷ []) e)

module _ (f : List ℕ) (bound : ℤ) (numbers lent : ℕ) where
  abbrev o : Order
  o = order_in f

  -- the rows of hbr_plan before 10, and 10
  abbrev first : List TableRow
  first = answer_row lent 1 ∷ file_row (good_file f) ∷ earlier_rows o bound numbers

  abbrev tight : List TableRow
  tight = tight_row (is_found (reason_of o bound)) ∷ []

  -- a 10 comes from row 10
  ten-last : judge (plan_call f bound numbers lent) ≡ refused 10 0 → (judge first ≡ accepted) × (judge tight ≡ refused 10 0)
  unfolding file_call plan_rows earlier_rows
  ten-last e = decided (judge first) refl
    where
      decided : (v : Verdict) → judge first ≡ v → (judge first ≡ accepted) × (judge tight ≡ refused 10 0)
      decided accepted h = (h, sym (judge-accepted-append first tight h) ∙ e)
      decided (refused n c) h =
          absurd (never 10 0 first (refl, (refl, (refl, (refl, (refl, (refl, (refl, (refl, (refl, (refl, (refl, (refl, tt))))))))))))
          (h ∙ (sym (judge-refused-append first tight n c h) ∙ e)))

  -- where hbr_plan says 10 there is no right plan, whoever made it, in whatever equal parts of a minute
  pub ten-means-none : judge (plan_call f bound numbers lent) ≡ refused 10 0 →
      (p : ℕ) → 1 ≤ p → (rows : List Row) → RightInParts p o bound rows → ⊥
  unfolding earlier_rows
  ten-means-none e p parts rows right =
      let t = ten-last e in
      let earlier : judge (earlier_rows o bound numbers) ≡ accepted
      = (judge-accepted (earlier_rows o bound numbers)).1 ((judge-accepted first).0 t.0).1.1 in
      let ok : Accepted o = accepted-first (order_rows limits o) (bound_row bound ∷ buffer_row o numbers ∷ []) earlier in
      let r = tight-refused (reason_of o bound) t.1 in
      (reason-no-plan o ok bound r.0 r.1).none-in-parts p parts rows right

-- hbr_reason, where it succeeds
module _ (f : List ℕ) (bound : ℤ) (answer : List ℤ) (e : judge (reason_call f bound (length answer)) ≡ accepted) where
  abbrev reason : Found Reason
  reason = reason_of (order_in f) bound

  -- the kind that it answers
  abbrev pub kind : ℤ
  kind = get_or (reason_answer f bound answer) 0 (pos 0)

  ok : Accepted (order_in f)
  ok = accepted-order f (length answer) 19 (bound_row bound ∷ []) e

  answer-is : reason_answer f bound answer ≡ reason_numbers (order_in f) reason ++ drop (length (reason_numbers (order_in f) reason)) answer
  answer-is = rw e

  kind-is : kind ≡ get_or (reason_numbers (order_in f) reason) 0 (pos 0)
  kind-is = ap (λ (l : List ℤ). get_or l 0 (pos 0)) answer-is ∙ first_of reason
    where
      first_of : (r : Found Reason) → get_or (reason_numbers (order_in f) r ++ drop (length (reason_numbers (order_in f) r)) answer) 0 (pos 0)
          ≡ get_or (reason_numbers (order_in f) r) 0 (pos 0)
      first_of nothing = refl
      first_of (found (over_end j)) = refl
      first_of (found (stairs dues)) = refl

  none_is : (kind ≡ pos 0) ↔ (reason ≡ nothing)
  none_is = (λ h. not_found reason ((kind-none (order_in f) reason).0 (sym kind-is ∙ h)), λ h. kind-is ∙ rw h)

  -- none exactly where some right plan meets the bound
  pub none-where-plan : (kind ≡ pos 0) ↔ ((rows : List Row) × Meets (order_in f) bound rows)
  none-where-plan =
      let met = none-where-met (order_in f) ok bound in (λ h. met.0 (none_is.0 h), λ plan. none_is.1 (met.1 plan))

  -- else the numbers of a reason: document 01's, owed exceeds on hand, and there is no right plan in any parts
  pub reason-answered : ¬ (kind ≡ pos 0) →
      (r : Reason) × (take 19 (reason_answer f bound answer) ≡ reason_numbers (order_in f) (found r)) × NoPlan (order_in f) bound r
  reason-answered h = at reason refl
    where
      at : (g : Found Reason) → reason ≡ g →
          (r : Reason) × (take 19 (reason_answer f bound answer) ≡ reason_numbers (order_in f) (found r)) × NoPlan (order_in f) bound r
      at nothing g = absurd (h (none_is.1 g))
      at (found r) g =
          let whole_is : reason_answer f bound answer ≡ reason_numbers (order_in f) (found r) ++ drop 19 answer
          = answer-is ∙ (ap (λ (x : Found Reason). reason_numbers (order_in f) x ++ drop (length (reason_numbers (order_in f) x)) answer) g
          ∙ ap (λ (n : ℕ). reason_numbers (order_in f) (found r) ++ drop n answer) (numbers-count (order_in f) (found r))) in (
            r,
            ap (take 19) whole_is ∙ take_at (reason_numbers (order_in f) (found r)) (drop 19 answer) 19 (numbers-count (order_in f) (found r)),
            reason-no-plan (order_in f) ok bound r g,
          )

  -- 10 from hbr_plan exactly where a reason is told and the rows suffice
  pub ten-where-reason : (numbers lent : ℕ) → 1 ≤ lent →
      (judge (plan_call f bound numbers lent) ≡ refused 10 0) ↔ ((¬ (kind ≡ pos 0)) × (rows_asked (order_in f) ≤ numbers / 4))
  unfolding file_call plan_rows earlier_rows
  ten-where-reason numbers lent room = (told, says)
    where
      rows : List TableRow
      rows = answer_row lent 1 ∷ file_row (good_file f) ∷ earlier_rows (order_in f) bound numbers

      told : judge (plan_call f bound numbers lent) ≡ refused 10 0 → (¬ (kind ≡ pos 0)) × (rows_asked (order_in f) ≤ numbers / 4)
      told t =
          let last = ten-last f bound numbers lent t in
          let r = tight-refused reason last.1 in
          let clears = (judge-accepted rows).0 last.0 in (
            λ h. let z : ◌≡◌ {A = ℕ} 0 1 = cc (sym (none_is.0 h) ∙ r.1) in omega arith,
            ltb-false (numbers / 4) (rows_asked (order_in f)) (whole-clear _ clears.1.1.1.1.1.1.1.1.1.1.1.0),
          )

      says : (¬ (kind ≡ pos 0)) × (rows_asked (order_in f) ≤ numbers / 4) → judge (plan_call f bound numbers lent) ≡ refused 10 0
      says h =
          let c = (judge-accepted (reason_call f bound (length answer))).0 e in
          let clears : All (λ (r : TableRow). r.finding ≡ clear) rows
          = (
            ap whole (le-ltb lent 1 room),
            All-append (λ (r : TableRow). r.finding ≡ clear)
                (file_row (good_file f) ∷ (order_rows limits (order_in f) ++ (bound_row bound ∷ [])))
                (buffer_row (order_in f) numbers ∷ []) c.1 (ap whole (le-ltb (numbers / 4) (rows_asked (order_in f)) h.1), tt),
          ) in
          judge-clear rows (tight_row (is_found reason) ∷ []) clears ∙ tight-found reason (λ n. h.0 (none_is.1 n))

-- hbr_check, where it succeeds: 1 exactly for the numbers of a right plan, else 0
module _ (f : List ℕ) (bound : ℤ) (rows : List ℕ) (answer : List ℤ)
    (e : judge (check_call f bound (length rows) (length answer)) ≡ accepted) where
  abbrev pub said : ℤ
  said = get_or (check_answer f bound rows answer) 0 (pos 0)

  said-is : said ≡ pos (cond (is_right (order_in f) bound rows) 1 0)
  said-is = rw e

  pub one-where-right : (said ≡ pos 1) ↔ RightNumbers (order_in f) bound rows
  one-where-right =
      let iff = is_right-iff (order_in f) bound rows in
      (λ h. iff.0 (one-true (is_right (order_in f) bound rows) (sym said-is ∙ h)), λ r. said-is ∙ rw (iff.1 r))

  pub zero-where-wrong : (said ≡ pos 0) ↔ (¬ RightNumbers (order_in f) bound rows)
  zero-where-wrong =
      let iff = is_right-iff (order_in f) bound rows in (
        λ h r. let z : ◌≡◌ {A = ℕ} 0 1 = cc (sym h ∙ one-where-right.1 r) in omega arith,
        λ n. said-is ∙ zero_of (is_right (order_in f) bound rows) (λ t. n (iff.0 t)),
      )
