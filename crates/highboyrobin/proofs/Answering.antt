-- What a call leaves behind, by the table's verdict.
use Prim.Native.Nat.{ℕ, ◌+◌, ◌*◌}
use mathlib.Core.Path.{◌≡◌, refl, sym, ap, ◌∙◌, subst}
use mathlib.Core.List.{List, ◌++◌}
use lib.IntN.{ℤ}
use lib.ListN.{length, drop, take-append-drop}
use Rattle.order.specs.Order.{Order}
use Rattle.order.specs.Refusals.{most_makers, Verdict, accepted, refused, left_by}
use Rattle.order.specs.Table.{refusal_told}
use Rattle.order.proofs.TableLaws.{refused-told}
use Rattle.order.specs.declared.Refusal.{Refusal}
use Rattle.highboyrobin.specs.Results.{result_of}
use Rattle.book.specs.Book.{booked_by}
use Rattle.highboyrobin.specs.Calls.{PlanAnswered, PlanBy}
use Rattle.highboyrobin.specs.BookCalls.{counts_in, book_left}

-- what a call leaves behind, by the verdict
module _ (v : Verdict) (numbers entry : List ℤ) where
  abbrev pub Ended : ℕ → List ℤ → Type 0
  Ended result exit = (result ≡ result_of v) × (exit ≡ left_by v numbers entry)

  pub ended-refused : (number job : ℕ) → v ≡ refused number job → Ended (number + 256 * job) entry
  ended-refused number job e = rw e (refl, refl)

  pub ended-told : (why : Refusal) → v ≡ refusal_told why → (result : ℕ) → result ≡ result_of (refusal_told why) → Ended result entry
  ended-told why e result r =
      let t = refused-told why in
      subst (λ (k : ℕ). Ended k entry) (sym (r ∙ ap result_of t.2)) (ended-refused t.0 t.1 (e ∙ t.2))

  pub ended-done : (exit : List ℤ) → v ≡ accepted → exit ≡ numbers ++ drop (length numbers) entry → Ended 0 exit
  ended-done exit e x = rw e (refl, x)

-- a result that was found while reading
pub read-ended : (v : Verdict) (numbers entry : List ℤ) (number carried result : ℕ) → v ≡ refused number carried →
    result ≡ result_of (refused number carried) → Ended v numbers entry result entry
read-ended v numbers entry number carried result e r = rw e (r, refl)

-- the same of a call that writes a plan
module _ (v : Verdict) (o : Order) (bound : ℤ) (first : List ℤ) (rows : List ℕ) (entry : List ℤ) where
  abbrev pub PlanEnded : ℕ → List ℕ → List ℤ → Type 0
  PlanEnded result rows' exit = (result ≡ result_of v) × PlanBy v o bound first rows rows' entry exit

  pub plan-refused : (number job : ℕ) → v ≡ refused number job → (rows' : List ℕ) → rows' ≡ rows →
      PlanEnded (number + 256 * job) rows' entry
  plan-refused number job e rows' k = rw e (refl, (k, refl))

  pub plan-told : (why : Refusal) → v ≡ refusal_told why → (result : ℕ) → result ≡ result_of (refusal_told why) →
      (rows' : List ℕ) → rows' ≡ rows → PlanEnded result rows' entry
  plan-told why e result r rows' k =
      let t = refused-told why in
      subst (λ (k : ℕ). PlanEnded k rows' entry) (sym (r ∙ ap result_of t.2))
      (plan-refused t.0 t.1 (e ∙ t.2) rows' k)

  pub plan-done : v ≡ accepted → (rows' : List ℕ) (exit : List ℤ) → PlanAnswered o bound first rows rows' entry exit →
      PlanEnded 0 rows' exit
  plan-done e rows' exit w = rw e (refl, w)

-- and of one that books it
module _ (v : Verdict) (o : Order) (bound : ℤ) (first : List ℤ) (rows : List ℕ) (entry : List ℤ) (book : List ℕ) where
  abbrev pub BookEnded : ℕ → List ℕ → List ℤ → List ℕ → Type 0
  BookEnded result rows' exit book' =
      (result ≡ result_of v) × (PlanBy v o bound first rows rows' entry exit × (book' ≡ book_left v o book))

  pub book-refused : (number job : ℕ) → v ≡ refused number job → (rows' : List ℕ) → rows' ≡ rows →
      BookEnded (number + 256 * job) rows' entry book
  book-refused number job e rows' k = rw e (refl, ((k, refl), sym (take-append-drop most_makers book)))

  pub book-told : (why : Refusal) → v ≡ refusal_told why → (result : ℕ) → result ≡ result_of (refusal_told why) →
      (rows' : List ℕ) → rows' ≡ rows → BookEnded result rows' entry book
  book-told why e result r rows' k =
      let t = refused-told why in
      subst (λ (k : ℕ). BookEnded k rows' entry book) (sym (r ∙ ap result_of t.2)) (book-refused t.0 t.1 (e ∙ t.2) rows' k)

  pub book-done : (u : Verdict) → v ≡ u → u ≡ accepted → (rows' : List ℕ) (exit : List ℤ) (book' counts : List ℕ) →
      PlanAnswered o bound first rows rows' entry exit → counts ≡ booked_by u o (counts_in book) →
      book' ≡ counts ++ drop most_makers book → BookEnded 0 rows' exit book'
  book-done u d e rows' exit book' counts w given put =
      (rw (d, e) refl, (rw (d, e) w, rw d (put ∙ ap (λ (cs : List ℕ). cs ++ drop most_makers book) given)))
