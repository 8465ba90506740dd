-- Where every job is in time, a profile is overfull exactly if its weight exceeds the processors of its classes times the
-- reach: document 01's two sums without the bound.
use Prim.Native.Nat.{ℕ, suc, ◌+◌, ◌-◌, ◌*◌, ◌≤◌, ◌<◌}
use Rattle.std.specs.Prelude.{◌≡◌, refl, cond, ◌↔◌, ltb, eqb, ℤ, ◌-ℤ◌, ◌≤ℤ◌, ◌<ℤ◌}
use Rattle.std.proofs.Common.{sym, ◌∙◌, le-leb}
use Rattle.std.proofs.Math.Path.{ap, subst}
use mathlib.Core.List.{List, [], ◌∷◌}
use native.Mathlib.Omega.{arith}
use Rattle.std.proofs.Math.Decide.{dec_le}
use Rattle.std.proofs.lemmas.Bool.{lt-leb}
use Rattle.std.proofs.Math.IntN.{pos}
use Rattle.std.proofs.Math.ListN.{length}
use Rattle.std.specs.Int.Signed.{le_z}
use Rattle.sums.specs.Sum.{sum}
use Rattle.sums.specs.Lists.{All, total, only}
use Rattle.sums.specs.Members.{All-map}
use Rattle.sums.specs.Totals.{total-cong}
use Rattle.order.specs.Order.{Job, Order, end_at, end_of}
use Rattle.order.specs.Class.{class_of, processors_in, processors_to}
use Rattle.order.specs.Deadline.{cut}
use Rattle.order.specs.Lead.{lead}
use Rattle.order.proofs.LeadLaws.{end-reach}
use Rattle.order.specs.Whole.{pos-lt, pos-minus, cut-minus, lt_z-is-ltb}
use Rattle.profile.specs.Profile.{owed, class_owes, owed_from, on_hand_from, minutes_owed, minutes_on_hand}
use Rattle.profile.specs.Search.{is_overfull}
use Rattle.profile.specs.Least.{owed_at, weight_at, weight_from}

-- minutes owed between two naturals
pub owed-between : (time a b : ℕ) → cond (le_z (pos a) (pos b)) time (cut (pos time -ℤ (pos a -ℤ pos b))) ≡ time - (a - b)
owed-between time a b =
    elim (dec_le a b) [
      | yes h ↦ rw (le-leb a b h) (omega arith)
      | no h ↦ rw (lt-leb a b (omega arith), pos-minus a b (omega arith)) (cut-minus time (a - b))
    ]

-- a due time that `top` does not precede and whose end is not negative
pub record Reached (top : ℤ) (reach : ℕ) (due : ℤ) : Type 0 where
  pub at_most : due ≤ℤ top
  pub within : lead top due ≤ reach

module _ (top bound : ℤ) (reach : ℕ) (e : end_at bound top ≡ pos reach) where
  -- an end is the reach less the lead
  end_is : (due : ℤ) → Reached top reach due → end_at bound due ≡ pos (reach - lead top due)
  end_is due h = end-reach top bound due h.at_most reach e h.within

  -- what a job owes depends on the leads alone
  pub owed-is : (due : ℤ) (job : Job) → Reached top reach due → Reached top reach job.due →
      owed bound (end_at bound due) job ≡ owed_at top (lead top due) job
  unfolding owed end_of
  owed-is due job h k =
      rw (end_is due h, end_is job.due k)
      (owed-between job.time (reach - lead top job.due) (reach - lead top due)
      ∙ ap (λ (x : ℕ). job.time - x) (omega (arith, h.within, k.within)))

  module _ (o : Order) (jobs : All (λ (job : Job). Reached top reach job.due) o.jobs) where
    pub class-owes : (k : ℕ) (due : ℤ) → Reached top reach due →
        class_owes o bound k (end_at bound due)
        ≡ total o.jobs (λ (job : Job). only (eqb (class_of o job) k) (owed_at top (lead top due) job))
    unfolding class_owes
    class-owes k due h =
        total-cong o.jobs _ _
        (All-map _ _ o.jobs (λ (job : Job) r. ap (only (eqb (class_of o job) k)) (owed-is due job h r)) jobs)

    -- the minutes on hand are a natural number, and with the weight they come to the minutes owed and the reach of all
    -- processors of the classes
    record Balance (i : ℕ) (dues : List ℤ) : Type 0 where
      hand : ℕ
      on-hand : on_hand_from o bound (suc i) dues ≡ pos hand
      balance : processors_to o (i + length dues) * reach + owed_from o bound (suc i) dues
          ≡ processors_to o i * reach + hand + weight_from top o (suc i) dues

    balanced : (i : ℕ) (dues : List ℤ) → All (Reached top reach) dues → Balance i dues
    unfolding owed_from on_hand_from weight_from weight_at processors_to sum
    balanced i [] h = record { hand = 0; on-hand = refl; balance = let z : i + 0 ≡ i = omega arith in rw z (omega arith) }
    balanced i (d ∷ ds) h =
        let b = balanced (suc i) ds h.1 in
        let z : i + suc (length ds) ≡ suc i + length ds = omega arith in
        let f : (reach - lead top d) + lead top d ≡ reach = omega (arith, h.0.within) in
        record {
          hand = processors_in o (suc i) * (reach - lead top d) + b.hand;
          on-hand = rw (end_is d h.0, b.on-hand);
          balance = omega (
            arith,
            ap (λ (x : ℕ). processors_to o x * reach) z,
            class-owes (suc i) d h.0,
            b.balance,
            ap (λ (x : ℕ). processors_in o (suc i) * x) f,
          );
        }

    -- the minutes owed exceed those on hand exactly if the weight exceeds the processors times the reach
    pub exceeds-weight : (dues : List ℤ) → All (Reached top reach) dues →
        (minutes_on_hand o bound dues <ℤ pos (minutes_owed o bound dues))
        ↔ (processors_to o (length dues) * reach < weight_from top o 1 dues)
    unfolding processors_to sum
    exceeds-weight dues h =
        let b = balanced 0 dues h in
        let z : 0 + length dues ≡ length dues = omega arith in
        let q = pos-lt b.hand (minutes_owed o bound dues) in (
          λ l. omega (
            arith,
            b.balance,
            ap (λ (x : ℕ). processors_to o x * reach) z,
            q.0 (subst (λ (x : ℤ). x <ℤ pos (minutes_owed o bound dues)) b.on-hand l),
          ),
          λ l. subst (λ (x : ℤ). x <ℤ pos (minutes_owed o bound dues)) (sym b.on-hand)
              (q.1 (omega (arith, b.balance, ap (λ (x : ℕ). processors_to o x * reach) z))),
        )

    -- the signed test of document 01 is the test of the weight
    pub overfull-weighs : (dues : List ℤ) → All (Reached top reach) dues →
        is_overfull o bound dues ≡ ltb (processors_to o (length dues) * reach) (weight_from top o 1 dues)
    overfull-weighs dues h =
        lt_z-is-ltb (minutes_on_hand o bound dues) (pos (minutes_owed o bound dues)) (processors_to o (length dues) * reach)
        (weight_from top o 1 dues) (exceeds-weight dues h)
