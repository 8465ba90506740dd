-- Lent memory after a command, and after a write to any other address.
use Rattle.std.specs.Prelude.{ℕ, ◌≤◌, ◌≡◌, refl, Bool, true, false, cond, ◌&&◌, List, [], ◌++◌, leb, eqb, ℤ, get_or, drop, replicate}
use Rattle.std.proofs.Common.{sym, ap, ◌∙◌, append-nil, arith, ne_eqb, drop_at}
use Rattle.std.proofs.Math.Path.{subst, fun_ext}
use Rattle.std.proofs.Math.Decide.{dec_lt}
use Rattle.std.proofs.lemmas.Bool.{lt-leb}
use Rattle.std.proofs.lemmas.List.{length-replicate}
use Rattle.sums.specs.Members.{All-map}
use Rattle.order.specs.Order.{Order}
use Rattle.order.specs.Refusals.{Verdict, accepted, refused, judge}
use Rattle.plan.specs.Plan.{Row, WellFormed}
use Rattle.plan.specs.Check.{row_at}
use Rattle.profile.specs.Least.{least_lateness}
use Rattle.planner.specs.Written.{PlanOf}
use Rattle.registers.specs.Registers.{
  Registers,
  place_of,
  bound_of,
  stored_order,
  all_zero,
  begun,
  finished_with,
  refused_with,
  least_table,
  bound_table,
  PlannedBy,
  WroteBy,
}
use Rattle.registers.specs.Memory.{
  stored_by,
  spare_by,
  block_of,
  rows_held,
  registers_of,
  bytes_alone,
  spare_of,
  WroteIn,
  Moved,
  OutcomeBy,
  concluded,
}
use Rattle.registers.specs.PlaceLaws.{kind, nothing-at, zero-from, not-zero}
use Rattle.registers.specs.MemoryLaws.{alike}
use Rattle.registers.specs.HeldLaws.{OfJobs, laid-beyond, held_none, held-plan, zero-at, zeros-none}
use Rattle.std.specs.Prelude.{Result, Err}
use Rattle.registers.specs.declared.Place.{Place}
use Rattle.registers.specs.declared.Place.TheVariants.{Command, Flag, Number, Allow, Stored, Lateness, Held, Nothing}

-- memory of zeros is a cleared block
module _ (x : List ℕ) where
  abbrev zeros : List ℕ
  zeros = replicate 256 0 ++ x

  none-stored : (a : ℕ) → stored_by (place_of a) (get_or zeros a 0) ≡ 0
  none-stored a = elim (dec_lt a 256) [
    | yes h ↦ ap (stored_by (place_of a)) (zero-at 256 x a h) ∙ of_zero (place_of a)
    | no h ↦ ap (λ (p : Place). stored_by p (get_or zeros a 0)) (nothing-at a (omega arith) (omega arith) (omega arith))
  ]
    where
      of_zero : (p : Place) → stored_by p 0 ≡ 0
      of_zero Command = refl
      of_zero Flag = refl
      of_zero Number = refl
      of_zero Allow = refl
      of_zero Stored = refl
      of_zero Lateness = refl
      of_zero Held = refl
      of_zero Nothing = refl

  none-spare : (k : ℕ) → spare_of zeros k ≡ 0
  none-spare k = elim (dec_lt k 256) [
    | yes h ↦ ap (λ (v : ℕ). cond (leb k 255) (spare_by (place_of k) v) 0) (zero-at 256 x k h) ∙ either (leb k 255) (place_of k)
    | no h ↦ ap (λ (b : Bool). cond b (spare_by (place_of k) (get_or zeros k 0)) 0) (lt-leb k 255 (omega arith))
  ]
    where
      of_zero : (p : Place) → spare_by p 0 ≡ 0
      of_zero Command = refl
      of_zero Flag = refl
      of_zero Number = refl
      of_zero Allow = refl
      of_zero Stored = refl
      of_zero Lateness = refl
      of_zero Held = refl
      of_zero Nothing = refl

      either : (b : Bool) (p : Place) → cond b (spare_by p 0) 0 ≡ 0
      either true p = of_zero p
      either false p = refl

  pub zeros-clear : (y : List ℕ) → registers_of zeros (replicate 720 0 ++ y) ≡ all_zero
  zeros-clear y =
      alike _ _ refl refl refl refl refl refl (fun_ext none-stored) (held_none (replicate 720 0 ++ y) (zeros-none y))

-- and so is the one that `cleared` makes
pub cleared-is : registers_of (replicate 256 0) (replicate 720 0) ≡ all_zero
cleared-is =
    ap (λ (l : List ℕ). registers_of l (replicate 720 0)) (sym (append-nil (replicate 256 0)))
    ∙ ap (registers_of (replicate 256 0 ++ [])) (sym (append-nil (replicate 720 0)))
    ∙ zeros-clear [] []

-- a command: every one begins so
module _ (bytes numbers bytes₁ numbers₁ : List ℕ) (m : Moved begun bytes bytes₁)
    (z : numbers₁ ≡ replicate 720 0 ++ drop 720 numbers) where
  abbrev s : Registers
  s = registers_of bytes numbers

  begins : bytes_alone bytes₁ ≡ begun s
  begins = m.block (rows_held numbers)

  no_rows : rows_held numbers₁ ≡ []
  no_rows = ap rows_held z ∙ held_none _ (zeros-none (drop 720 numbers))

  same-beyond : drop 720 numbers₁ ≡ drop 720 numbers
  same-beyond = ap (drop 720) z ∙ drop_at (replicate 720 0) (drop 720 numbers) 720 (length-replicate {A = ℕ} 720 0)

  -- "3 clear"
  pub cleared-in : (bytes₂ : List ℕ) → bytes₂ ≡ replicate 256 0 ++ drop 256 bytes₁ → (v : ℕ) → v ≡ 3 →
      WroteIn 0 v bytes numbers bytes₂ numbers₁
  cleared-in bytes₂ e v is = subst (λ (v : ℕ). WroteIn 0 v bytes numbers bytes₂ numbers₁) (sym is) (record {
    wrote = ap (λ (l : List ℕ). registers_of l numbers₁) e
        ∙ ap (registers_of (replicate 256 0 ++ drop 256 bytes₁)) z
        ∙ zeros-clear (drop 256 bytes₁) (drop 720 numbers);
    spare = λ k. ap (λ (l : List ℕ). spare_of l k) e ∙ none-spare (drop 256 bytes₁) k;
    beyond-bytes = ap (drop 256) e ∙ drop_at (replicate 256 0) (drop 256 bytes₁) 256 (length-replicate {A = ℕ} 256 0) ∙ m.beyond;
    beyond-numbers = same-beyond;
  })

  -- a command that is concluded
  module _ (outcome : Result ℤ ℕ) (bytes₂ numbers₂ : List ℕ) (n : Moved (concluded outcome) bytes₁ bytes₂) where
    both-spare : (k : ℕ) → spare_of bytes₂ k ≡ spare_of bytes k
    both-spare k = n.spare k ∙ m.spare k

    both-beyond : drop 256 bytes₂ ≡ drop 256 bytes
    both-beyond = n.beyond ∙ m.beyond

    refused_as : (number : ℕ) → outcome ≡ Err number → numbers₂ ≡ numbers₁ →
        registers_of bytes₂ numbers₂ ≡ refused_with number (begun s)
    refused_as number e same =
        let moved : Moved (refused_with number) bytes₁ bytes₂ = subst (λ (x : Result ℤ ℕ). Moved (concluded x) bytes₁ bytes₂) e n in
        ap (block_of bytes₂) (ap rows_held same ∙ no_rows)
        ∙ moved.block []
        ∙ ap (refused_with number) begins

    pub unknown-in : outcome ≡ Err 0 → numbers₂ ≡ numbers₁ → (v : ℕ) → (v ≡ 1 → ⊥) → (v ≡ 2 → ⊥) → (v ≡ 3 → ⊥) →
        WroteIn 0 v bytes numbers bytes₂ numbers₂
    unknown-in e same v not-one not-two not_three = record {
      wrote = rw (ne_eqb v 1 not-one, ne_eqb v 2 not-two, ne_eqb v 3 not_three) (refused_as 0 e same);
      spare = λ k. both-spare k ∙ ap (λ (b : Bool). cond (true && b) 0 (spare_of bytes k)) (sym (ne_eqb v 3 not_three));
      beyond-bytes = both-beyond;
      beyond-numbers = ap (drop 720) same ∙ same-beyond;
    }

    of-jobs : (o : Order) (lateness : ℤ) (plan : List Row) → PlanOf o lateness plan → OfJobs plan
    of-jobs o lateness plan P = All-map (WellFormed o) (λ (r : Row). 1 ≤ r.job) plan (λ r w. w.a-job.0) P.right.well-formed

    planned-as : (v : Verdict) (o : Order) (lateness : ℤ) → OutcomeBy v o lateness numbers₁ numbers₂ outcome →
        PlannedBy v s o lateness (registers_of bytes₂ numbers₂)
    planned-as accepted o lateness L =
        let moved = subst (λ (x : Result ℤ ℕ). Moved (concluded x) bytes₁ bytes₂) L.told n in
        let held : rows_held numbers₂ ≡ L.plan =
        ap rows_held L.rows_are
        ∙ held-plan L.plan numbers₁ (of-jobs o lateness L.plan L.plan-of) L.few
        (λ i h. ap (λ (l : List ℕ). row_at l i) z ∙ zeros-none (drop 720 numbers) i h) in
        record {
          plan = L.plan;
          plan-of = L.plan-of;
          leaves = ap (block_of bytes₂) held ∙ moved.block L.plan ∙ ap (finished_with lateness L.plan) begins;
        }
    planned-as (refused number carried) o lateness L = refused_as number L.0 L.1

    rows-beyond : (v : Verdict) (o : Order) (lateness : ℤ) → OutcomeBy v o lateness numbers₁ numbers₂ outcome →
        drop 720 numbers₂ ≡ drop 720 numbers
    rows-beyond accepted o lateness L = ap (drop 720) L.rows_are ∙ laid-beyond L.plan numbers₁ L.few ∙ same-beyond
    rows-beyond (refused number carried) o lateness L = ap (drop 720) L.1 ∙ same-beyond

    pub bound-in :
        OutcomeBy (judge (bound_table (bytes_alone bytes₁))) (stored_order (bytes_alone bytes₁)) (bound_of (bytes_alone bytes₁))
        numbers₁ numbers₂ outcome → (v : ℕ) → v ≡ 1 → WroteIn 0 v bytes numbers bytes₂ numbers₂
    unfolding bound_table least_table
    bound-in L v is = subst (λ (v : ℕ). WroteIn 0 v bytes numbers bytes₂ numbers₂) (sym is) (record {
      wrote = planned-as (judge (bound_table s)) (stored_order s) (bound_of s) told;
      spare = both-spare;
      beyond-bytes = both-beyond;
      beyond-numbers = rows-beyond (judge (bound_table s)) (stored_order s) (bound_of s) told;
    })
      where
        told : OutcomeBy (judge (bound_table s)) (stored_order s) (bound_of s) numbers₁ numbers₂ outcome
        told =
            subst (λ (t : Registers). OutcomeBy (judge (bound_table t)) (stored_order t) (bound_of t) numbers₁ numbers₂ outcome) begins L

    pub least-in :
        OutcomeBy (judge (least_table (bytes_alone bytes₁))) (stored_order (bytes_alone bytes₁))
        (least_lateness (stored_order (bytes_alone bytes₁))) numbers₁ numbers₂ outcome → (v : ℕ) → v ≡ 2 →
        WroteIn 0 v bytes numbers bytes₂ numbers₂
    unfolding least_table
    least-in L v is = subst (λ (v : ℕ). WroteIn 0 v bytes numbers bytes₂ numbers₂) (sym is) (record {
      wrote = planned-as (judge (least_table s)) (stored_order s) (least_lateness (stored_order s)) told;
      spare = both-spare;
      beyond-bytes = both-beyond;
      beyond-numbers = rows-beyond (judge (least_table s)) (stored_order s) (least_lateness (stored_order s)) told;
    })
      where
        told : OutcomeBy (judge (least_table s)) (stored_order s) (least_lateness (stored_order s)) numbers₁ numbers₂ outcome
        told =
            subst
            (λ (t : Registers).
            OutcomeBy (judge (least_table t)) (stored_order t) (least_lateness (stored_order t)) numbers₁ numbers₂ outcome)
            begins L

-- a write to an address of this place
module _ (a v : ℕ) (p : Place) (e : p ≡ place_of a) (bytes numbers bytes' numbers' : List ℕ) where
  pub command-in : p ≡ Command → WroteIn 0 v bytes numbers bytes' numbers' → WroteIn a v bytes numbers bytes' numbers'
  command-in is w = subst (λ (k : ℕ). WroteIn k v bytes numbers bytes' numbers') (sym (zero-from a (sym e ∙ is))) w

  pub place_in : (q : Place) → p ≡ q → 1 ≤ kind q → WroteBy q (registers_of bytes numbers) a v (registers_of bytes' numbers') →
      ((k : ℕ) → spare_of bytes' k ≡ spare_of bytes k) → drop 256 bytes' ≡ drop 256 bytes → drop 720 numbers' ≡ drop 720 numbers →
      WroteIn a v bytes numbers bytes' numbers'
  place_in q is other w spare bytes-beyond numbers-beyond = record {
    wrote = subst (λ (x : Place). WroteBy x (registers_of bytes numbers) a v (registers_of bytes' numbers')) (sym is ∙ e) w;
    spare = λ k. spare k ∙ ap (λ (b : Bool). cond (b && eqb v 3) 0 (spare_of bytes k)) (sym (not-zero a q (sym e ∙ is) other));
    beyond-bytes = bytes-beyond;
    beyond-numbers = numbers-beyond;
  }
