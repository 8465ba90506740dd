-- What a call with times leaves behind, by the table's verdict.
use Prim.Native.Nat.{ℕ}
use mathlib.Core.Path.{◌≡◌, refl, ap, ◌∙◌}
use mathlib.Core.List.{List}
use lib.IntN.{ℤ}
use Rattle.order.specs.Order.{Order}
use Rattle.order.specs.Refusals.{Verdict, accepted, refused}
use Rattle.order.specs.Table.{refusal_told}
use Rattle.order.proofs.TableLaws.{refused-told}
use Rattle.order.specs.declared.Refusal.{Refusal}
use Rattle.wrap.specs.FrameAt.{Times}
use Rattle.highboyrobin.specs.Results.{result_of}
use Rattle.highboyrobin.specs.TimedCalls.{TimedAnswered, TimedPlanBy}

-- a call that writes a plan
module _ (v : Verdict) (o : Order) (bound : ℤ) (t : Times) (rows : List ℕ) (entry : List ℤ) where
  abbrev pub TimedEnded : ℕ → List ℕ → List ℤ → Type 0
  TimedEnded result rows' exit = (result ≡ result_of v) × TimedPlanBy v o bound t rows rows' entry exit

  pub timed-ended-refused : (number carried : ℕ) → v ≡ refused number carried → (result : ℕ) →
      result ≡ result_of (refused number carried) → (rows' : List ℕ) → rows' ≡ rows → TimedEnded result rows' entry
  timed-ended-refused number carried e result r rows' k = rw e (r, (k, refl))

  pub timed-ended-told : (why : Refusal) → v ≡ refusal_told why → (result : ℕ) → result ≡ result_of (refusal_told why) →
      (rows' : List ℕ) → rows' ≡ rows → TimedEnded result rows' entry
  timed-ended-told why e result r rows' k =
      let t = refused-told why in
      timed-ended-refused t.0 t.1 (e ∙ t.2) result (r ∙ ap result_of t.2) rows' k

  pub timed-ended-done : v ≡ accepted → (rows' : List ℕ) (exit : List ℤ) → TimedAnswered o bound t rows rows' entry exit →
      TimedEnded 0 rows' exit
  timed-ended-done e rows' exit w = rw e (refl, w)
