-- Whether a staircase that is handed in stands, from the tests of the code.
use Prim.Native.Nat.{ℕ, ◌≤◌}
use mathlib.Core.Path.{◌≡◌, sym, ap, ◌∙◌, subst}
use mathlib.Core.Bool.{true, false, true≢false}
use mathlib.Core.List.{List, ◌++◌}
use native.Mathlib.Omega.{arith}
use lib.IntN.{ℤ, pos}
use lib.ListN.{length, get_or}
use Rattle.sums.specs.Lists.{tabulate}
use Rattle.order.specs.Class.{classes}
use Rattle.order.specs.Lead.{reach_at, last_due}
use Rattle.order.specs.Order.{Order, processor_count, job_count, Numbers, job_of}
use Rattle.order.specs.Refusals.{Finding, clear, holds, first}
use Rattle.order.proofs.RefusalLaws.{Acceptable}
use Rattle.profile.specs.Profile.{minutes_owed}
use Rattle.profile.specs.Reason.{InTime, stairs, Stands}
use Rattle.profile.proofs.ReasonLaws.{none-over-end}
use Rattle.profile.specs.Search.{found, first_over_end}
use Rattle.reason.specs.Asked.{late, FirstLate}
use Rattle.reason.proofs.LateFirst.{none-late, one-late}
use Rattle.reason.specs.Telling.{same-job}
use Rattle.table.specs.Held.{by_number}
use Rattle.table.specs.HeldLaws.{held-read}
use Rattle.table.specs.Making.{fine_of}
use Rattle.table.specs.Passed.{listing}
use Rattle.table.specs.Tabled.{Tabled}
use Rattle.table.specs.declared.Listing.{Listing}
use Rattle.table.specs.declared.Table.{Table}
use Rattle.sentence.specs.Inside.{owed_to, hand_to, StepsReached, StepsFit, WeighedTold}
use Rattle.sentence.specs.Line.{classes_from, sums_text, line_of, composed}
use Rattle.sentence.specs.LineLaws.{composed-line}
use Rattle.sentence.specs.WeighLaws.{steps-reached, weighed-told}
use Rattle.sentence.specs.declared.Sums.{Sums}
use Rattle.std.specs.Prelude.{ltb}
use Rattle.std.specs.Option.{is_some}
use Rattle.std.specs.declared.option.Option.{Option}
use Rattle.std.specs.declared.option.Option.TheVariants.{Some, None}
use Rattle.std.specs.Bool.{then_some}
use Rattle.sentence.proofs.Classes.{classes-told}

module _ (o : Order) (a : Acceptable o) (t : Table) (m : Tabled last_due o t) (bound : ℤ) (reach : ℕ)
    (e : reach ≡ reach_at last_due bound) (place : Option ℕ) (told : FirstLate t reach place) where
  abbrev first-of : Finding
  first-of = first (late (by_number t) reach) (tabulate t.n (λ j. j))

  finding : first_over_end o bound ≡ first-of
  finding =
      same-job o t m (by_number t) (held-read o t m) a bound
      ∙ ap (λ (x : ℕ). first (late (by_number t) x) (tabulate t.n (λ j. j))) (sym e)

  -- no job is late, or one is
  pub all-in-time : is_some place ≡ false → (j : ℕ) → Numbers (job_count o) j → InTime bound (job_of o j)
  all-in-time h = (none-over-end o bound).0 (finding ∙ at place h told)
    where
      at : (place : Option ℕ) → is_some place ≡ false → FirstLate t reach place → first-of ≡ clear
      at None h told = none-late t reach (fine_of o t m a) told
      at (Some k) h told = absurd (true≢false h)

  pub some-late : is_some place ≡ true → (dues : List ℤ) → ¬ Stands o bound (stairs dues)
  some-late h dues s = at place h told (sym finding ∙ (none-over-end o bound).1 s.0)
    where
      at : (place : Option ℕ) → is_some place ≡ true → FirstLate t reach place → ¬ (first-of ≡ clear)
      at None h told z = true≢false (sym h)
      at (Some k) h told z =
          let w : holds (get_or t.by_need k 0) ≡ clear = sym (one-late t reach (fine_of o t m a) k told) ∙ z in
          let x : ◌≡◌ {A = ℕ} 0 1 = cc in
          omega arith

  -- due times that fit are reached, and their sums decide
  module _ (none : is_some place ≡ false) (dues : List ℤ) (most : length dues ≤ 16) (fit : StepsFit o dues) where
    pub reached : StepsReached reach dues
    reached = subst (λ (x : ℕ). StepsReached x dues) (sym e) (steps-reached o a bound (all-in-time none) dues fit)

    pub weighed : length dues ≤ t.s → (s : Sums) → s.owed ≡ owed_to t dues → s.on_hand ≡ hand_to t reach dues → s.owed ≤ 76800000 →
        WeighedTold o bound dues (then_some (ltb s.on_hand s.owed) s)
    weighed classed s owed hand small =
        weighed-told o a bound (all-in-time none) t m dues most
        (steps-reached o a bound (all-in-time none) dues fit) fit (omega (arith, m.classed)) s owed
        (hand ∙ ap (λ (x : ℕ). hand_to t x dues) e) small

-- what is told at a bound as the machine reads it back
pub told-at-bound : (o : Order) (read bound : ℤ) (dues : List ℤ) (w : Option Sums) → read ≡ bound → WeighedTold o read dues w →
    WeighedTold o bound dues w
told-at-bound o read bound dues w e h = subst (λ (z : ℤ). WeighedTold o z dues w) e h

-- what is told of a staircase that stands, and of another
pub weighed-stands : (o : Order) (bound : ℤ) (dues : List ℤ) (w : Option Sums) (s : Sums) → w ≡ Some s →
    WeighedTold o bound dues w → WeighedTold o bound dues (Some s)
weighed-stands o bound dues w s e h = subst (WeighedTold o bound dues) e h

pub weighed-falls : (o : Order) (bound : ℤ) (dues : List ℤ) (w : Option Sums) → w ≡ None → WeighedTold o bound dues w →
    ¬ Stands o bound (stairs dues)
weighed-falls o bound dues w e h = subst (WeighedTold o bound dues) e h

-- its line
pub stairs-line : (o : Order) (bound : ℤ) → processor_count o ≤ 16 → (l : Listing) → l ≡ listing o → (dues : List ℤ) (s : Sums) →
    WeighedTold o bound dues (Some s) →
    classes_from l.memories 0 dues ++ sums_text s.owed (pos s.on_hand) ≡ composed o bound (found (stairs dues))
unfolding line_of
stairs-line o bound few l e dues s h =
    ap (λ (l : List ℕ). l ++ sums_text s.owed (pos s.on_hand)) (classes-told o few l e dues h.0.1.profile.of-classes)
    ∙ (ap (λ (n : ℕ). classes_from (classes o) 0 dues ++ sums_text n (pos s.on_hand)) h.1
    ∙ (ap (λ (z : ℤ). classes_from (classes o) 0 dues ++ sums_text (minutes_owed o bound dues) z) h.2
    ∙ sym (composed-line o bound (stairs dues) h.0)))
