-- The order that is stored as a part of the bytes, and how a command that plans ended.
use Prim.Native.Nat.{ℕ, ◌+◌, ◌-◌, ◌≤◌, ◌<◌}
use mathlib.Core.Path.{◌≡◌, refl, sym, ap, ◌∙◌, subst}
use mathlib.Core.List.{List}
use native.Mathlib.Omega.{arith}
use lib.IntN.{ℤ}
use lib.ListN.{length, get_or, take, drop, length-drop}
use lib.Seq.{get_or-drop, get_or-take, length-take-le}
use Rattle.sums.specs.Lists.{tabulate}
use Rattle.sums.specs.Places.{tabulate-cong, tabulate-get_or}
use Rattle.order.specs.Order.{Order, processor_count, job_count}
use Rattle.order.specs.Refusals.{screen, Verdict, accepted, judge, answer_by}
use Rattle.order.specs.Callers.{Within, rows_for}
use Rattle.order.specs.Table.{order_of, refusal_told, number_by}
use Rattle.order.proofs.RefusalLaws.{accepted≢refused}
use Rattle.order.proofs.TableLaws.{refused-told}
use Rattle.order.specs.declared.Order.{Order as OrderTable}
use Rattle.order.specs.declared.Caller.TheVariants.{Screen}
use Rattle.order.specs.declared.Refusal.{Refusal}
use Rattle.order.specs.declared.Refusal.TheVariants.{BadFile}
use Rattle.order_file.specs.Bytes.{number2}
use Rattle.order_file.specs.File.{order_in, read_rows}
use Rattle.order_file.specs.Told.{read_told, ReadBy}
use Rattle.order_file.specs.ReaderLaws.{read-refused, read-accepted}
use Rattle.profile.specs.Least.{least_lateness}
use Rattle.planner.specs.Rows.{plan_rows}
use Rattle.planner.specs.Written.{Written}
use Rattle.planner.specs.AnswerLaws.{
  PlanTold,
  plan-moved,
  planned-refused,
  planned-tight,
  planned-rows,
  LeastTold,
  least-moved,
  least-refused,
  least_at,
}
use Rattle.planner.specs.declared.Least.{Least}
use Rattle.planner.specs.declared.NoPlan.{NoPlan}
use Rattle.planner.specs.declared.NoPlan.TheVariants.{Refused, TooTight}
use Rattle.reason.specs.declared.Reason.{Reason}
use Rattle.registers.specs.Registers.{Registers, place_of, bound_of, file_in, stored_order, least_table, bound_table}
use Rattle.registers.specs.Memory.{stored_by, bytes_alone, OutcomeBy}
use Rattle.registers.specs.PlaceLaws.{file-at}
use Rattle.registers.specs.JudgeLaws.{
  plan-few,
  least-long,
  least-short,
  bound-refused,
  stored-within,
  least-planned,
  bound-planned,
}
use Rattle.std.specs.Prelude.{Result, Ok, Err}
use Rattle.registers.specs.declared.Place.{Place}

module _ (xs : List ℕ) (long : 256 ≤ length xs) where
  abbrev s : Registers
  s = bytes_alone xs

  abbrev o : Order
  o = stored_order s

  abbrev n : ℕ
  n = number2 xs 8

  -- the file is the part of the bytes from 32 on
  file-part : n ≤ 220 → take (32 + n - 32) (drop 32 xs) ≡ file_in s
  file-part few =
      let k : 32 + n - 32 ≡ n = omega arith in
      let room : n ≤ length (drop 32 xs) = omega (arith, length-drop 32 xs) in
      ap (λ (m : ℕ). take m (drop 32 xs)) k
      ∙ sym (tabulate-get_or (take n (drop 32 xs)) 0)
      ∙ ap (λ (m : ℕ). tabulate m (λ i. get_or (take n (drop 32 xs)) i 0)) (length-take-le n (drop 32 xs) room)
      ∙ tabulate-cong n _ _ (λ i h. get_or-take n (drop 32 xs) i 0 h ∙ get_or-drop 32 xs i 0 ∙ sym (at i (omega arith)))
    where
      at : (i : ℕ) → i < 220 → stored_by (place_of (32 + i)) (get_or xs (32 + i) 0) ≡ get_or xs (32 + i) 0
      at i h =
          ap (λ (p : Place). stored_by p (get_or xs (32 + i) 0))
          (file-at (32 + i) (omega arith) (omega arith) (omega arith) (omega arith))

  -- the order, read: 12 where the length is over 220, else as a screen's file
  pub read-long : 220 < n → ReadBy (judge (least_table s)) o (Err BadFile)
  read-long h = rw (least-long s h) (refl, tt)

  pub read_short : n ≤ 220 → (f : List ℕ) → f ≡ take (32 + n - 32) (drop 32 xs) → (r : Result OrderTable Refusal) →
      ReadBy (judge (rows_for Screen (order_in f) (read_rows f))) (order_in f) r → ReadBy (judge (least_table s)) o r
  read_short few f e r b =
      subst (λ (v : Verdict). ReadBy v o r) (sym (least-short s few))
      (subst (λ (f : List ℕ). ReadBy (judge (rows_for Screen (order_in f) (read_rows f))) (order_in f) r) (e ∙ file-part few) b)

  -- how a command that plans ended
  outcome-refused : (v : Verdict) (z : ℤ) (rows rows' : List ℕ) (why : Refusal) → v ≡ refusal_told why → (k : ℕ) →
      k ≡ number_by (refusal_told why) → rows' ≡ rows → OutcomeBy v o z rows rows' (Err k)
  outcome-refused v z rows rows' why e k is same =
      let t = refused-told why in
      subst (λ (v : Verdict). OutcomeBy v o z rows rows' (Err k)) (sym (e ∙ t.2)) (ap Err (is ∙ ap number_by t.2), same)

  outcome-done : (v : Verdict) (z : ℤ) (rows rows' : List ℕ) (count : ℕ) → v ≡ accepted → Within screen (processor_count o) (job_count o) →
      Written o z rows rows' count → (told : ℤ) → told ≡ z → OutcomeBy v o z rows rows' (Ok told)
  outcome-done v z rows rows' count e few w told is =
      subst (λ (v : Verdict). OutcomeBy v o z rows rows' (Ok told)) (sym e)
      (record {
        plan = w.plan;
        plan-of = w.plan-of;
        few = plan-few o z w.plan few w.plan-of;
        rows_are = w.rows_are;
        told = ap Ok is;
      })

  module _ (r : Result OrderTable Refusal) (e : read_told r ≡ answer_by (judge (least_table s)) o) where
    -- the order was refused
    pub least-ends : (rows : List ℕ) (why : Refusal) → r ≡ Err why → (k : ℕ) → k ≡ number_by (refusal_told why) →
        OutcomeBy (judge (least_table s)) o (least_lateness o) rows rows (Err k)
    least-ends rows why is k number =
        outcome-refused (judge (least_table s)) (least_lateness o) rows rows why
        (read-refused (judge (least_table s)) o r e why is) k number refl

    pub bound-ends : (rows : List ℕ) (why : Refusal) → r ≡ Err why → (k : ℕ) → k ≡ number_by (refusal_told why) →
        OutcomeBy (judge (bound_table s)) o (bound_of s) rows rows (Err k)
    bound-ends rows why is k number =
        let t = refused-told why in
        outcome-refused (judge (bound_table s)) (bound_of s) rows rows why
        (bound-refused s t.0 t.1 (read-refused (judge (least_table s)) o r e why is ∙ t.2) ∙ sym t.2) k number refl

    -- it was read, and the planner told of it
    module _ (table : OrderTable) (ok : r ≡ Ok table) (rows rows' : List ℕ) (room : 720 ≤ length rows) where
      taken : judge (least_table s) ≡ accepted
      taken = (read-accepted (judge (least_table s)) o r e table ok).0

      is-order : order_of table ≡ o
      is-order = (read-accepted (judge (least_table s)) o r e table ok).1

      few : Within screen (processor_count o) (job_count o)
      few = stored-within s taken

      module _ (l : Result Least Refusal) (t : LeastTold (order_of table) rows rows' l) where
        abbrev told : LeastTold o rows rows' l
        told = least-moved (order_of table) o rows rows' l is-order t

        pub least-never : (why : Refusal) → l ≡ Err why → ⊥
        least-never why is =
            let h = refused-told why in
            accepted≢refused (sym (least-planned s taken (length rows) room) ∙ (least-refused o rows rows' l told why is).0 ∙ h.2)

        pub least-done : (k : Least) → l ≡ Ok k → (held : ℤ) → held ≡ k.lateness →
            OutcomeBy (judge (least_table s)) o (least_lateness o) rows rows' (Ok held)
        least-done k is held same =
            let h = least_at o rows rows' l told k is in
            outcome-done (judge (least_table s)) (least_lateness o) rows rows' k.rows taken few h.2 held (same ∙ h.1)

      module _ (read : ℤ) (same : read ≡ bound_of s) (p : Result ℕ NoPlan) (t : PlanTold (order_of table) read rows rows' p) where
        abbrev z : ℤ
        z = bound_of s

        abbrev plan-told : PlanTold o z rows rows' p
        plan-told = plan-moved (order_of table) o read z rows rows' p is-order same t

        abbrev asked : judge (bound_table s) ≡ judge (plan_rows o z (length rows))
        asked = bound-planned s taken (length rows) room

        pub bound-refuses : (why : Refusal) → p ≡ Err (Refused why) → (k : ℕ) → k ≡ number_by (refusal_told why) →
            OutcomeBy (judge (bound_table s)) o z rows rows' (Err k)
        bound-refuses why is k number =
            let h = planned-refused o z rows rows' p plan-told why is in
            outcome-refused (judge (bound_table s)) z rows rows' why (asked ∙ h.0) k number h.1

        pub bound-tight : (reason : Reason) (dues : List ℤ) → p ≡ Err (TooTight reason dues) → OutcomeBy (judge (bound_table s)) o z rows rows' (Err 10)
        bound-tight reason dues is =
            let h = planned-tight o z rows rows' p plan-told reason dues is in
            subst (λ (v : Verdict). OutcomeBy v o z rows rows' (Err 10)) (sym (asked ∙ h.0)) (refl, h.1)

        pub bound-done : (count : ℕ) → p ≡ Ok count → (told : ℤ) → told ≡ z →
            OutcomeBy (judge (bound_table s)) o z rows rows' (Ok told)
        bound-done count is told e =
            let h = planned-rows o z rows rows' p plan-told count is in
            outcome-done (judge (bound_table s)) z rows rows' count (asked ∙ h.0) few h.1 told e
