-- Document 02, §4, over every list of calls from opening on: each count is the times of that maker's jobs in the orders whose plans
-- were written, the sixteen together are the times of all their jobs, and a refused call gives the same book.
use Rattle.std.specs.Prelude.{ℕ, zero, suc, ◌+◌, ◌≤◌, ◌<◌, ◌≡◌, length, get_or}
use Rattle.std.proofs.Math.Path.{refl, sym}
use Rattle.std.proofs.Common.{ap, ◌∙◌, arith}
use mathlib.Core.List.{List, [], ◌∷◌, ◌++◌, map}
use Rattle.sums.specs.Sum.{sum, sum-cong}
use Rattle.sums.specs.Lists.{All, total, nth}
use Rattle.sums.specs.Members.{All-map}
use Rattle.sums.specs.Places.{get_d_tabulate}
use Rattle.sums.specs.Totals.{total-cong, total-places, sum-total}
use Rattle.order.specs.Order.{Order, Numbers}
use Rattle.order.specs.Refusals.{most_makers, Verdict, accepted, refused, judge, Accepted}
use Rattle.order.proofs.RefusalLaws.{judge-accepted, judge-accepted-append, accepted-first, whole-clear}
use Rattle.book.specs.Book.{opened, minutes_for, minutes_of, minutes_by, booked, most_booked, book_row, booked_by}
use Rattle.book.specs.BookLaws.{minutes-all, added-length, added-at, added-few}
use Rattle.book.specs.Calls.{Call, judged_with, given_back, book_after, planned_by, orders_written}

-- "a refused plan books nothing": a refused call gives the book that it was given
pub refused-keeps : (call : Call) (book : List ℕ) (number carried : ℕ) → judged_with call book ≡ refused number carried →
    given_back call book ≡ book
refused-keeps call book number carried e = rw e

-- so among calls, of whatever kind, one that is refused could as well be left out
module _ {A : Type 0} (call_of : A → Call) where
  after_more : (earlier later : List A) (book : List ℕ) →
      book_after (map call_of (earlier ++ later)) book ≡ book_after (map call_of later) (book_after (map call_of earlier) book)
  unfolding book_after
  after_more [] later book = refl
  after_more (call ∷ earlier) later book = after_more earlier later (given_back (call_of call) book)

  pub refused-left-out : (earlier : List A) (call : A) (later : List A) (book : List ℕ) (number carried : ℕ) →
      judged_with (call_of call) (book_after (map call_of earlier) book) ≡ refused number carried →
      book_after (map call_of (earlier ++ (call ∷ later))) book ≡ book_after (map call_of (earlier ++ later)) book
  unfolding book_after
  refused-left-out earlier call later book number carried e =
      after_more earlier (call ∷ later) book
      ∙ (ap (book_after (map call_of later)) (refused-keeps (call_of call) (book_after (map call_of earlier) book) number carried e)
      ∙ sym (after_more earlier later book))

-- what one order adds to a count
booked-at : (o : Order) (book : List ℕ) (i : ℕ) → i < most_makers → get_or (booked o book) i 0 ≡ get_or book i 0 + minutes_for o (suc i)
unfolding minutes_by
booked-at o book i l =
    added-at book (minutes_by o) i l
    ∙ ap (λ (m : ℕ). get_or book i 0 + m) (get_d_tabulate most_makers (λ i. minutes_for o (suc i)) 0 i l)

-- from any book on
count-after : (calls : List Call) (book : List ℕ) (i : ℕ) → i < most_makers →
    get_or (book_after calls book) i 0 ≡ get_or book i 0 + total (orders_written calls book) (λ (o : Order). minutes_for o (suc i))
unfolding book_after orders_written
count-after [] book i l = omega arith
count-after (call ∷ calls) book i l =
    count-after calls (given_back call book) i l ∙ by (judged_with call book) (orders_written calls (given_back call book))
  where
    by : (v : Verdict) (later : List Order) →
        get_or (booked_by v call.order book) i 0 + total later (λ (o : Order). minutes_for o (suc i))
        ≡ get_or book i 0 + total (planned_by v call.order later) (λ (o : Order). minutes_for o (suc i))
    by accepted later = omega (arith, booked-at call.order book i l)
    by (refused number carried) later = refl

opened-at : (i : ℕ) → i < most_makers → get_or opened i 0 ≡ 0
opened-at i l = get_d_tabulate {A = ℕ} most_makers (λ _. 0) 0 i l

-- "each count equals the times of that maker's jobs in all plans written with it, worked out from the orders"
pub book-counts : (calls : List Call) (maker : ℕ) → Numbers most_makers maker →
    nth (book_after calls opened) maker 0 ≡ total (orders_written calls opened) (λ (o : Order). minutes_for o maker)
book-counts calls zero n = absurd (omega arith)
book-counts calls (suc i) n = omega (arith, count-after calls opened i n.1, opened-at i n.1)

-- sixteen counts stay sixteen
pub book-length : (calls : List Call) (book : List ℕ) → length book ≡ most_makers → length (book_after calls book) ≡ most_makers
unfolding book_after
book-length [] book e = e
book-length (call ∷ calls) book e = book-length calls (given_back call book) (by (judged_with call book))
  where
    by : (v : Verdict) → length (booked_by v call.order book) ≡ most_makers
    by accepted = added-length book (minutes_by call.order)
    by (refused number carried) = e

-- a call whose earlier rows accept is about an accepted order
abbrev pub Judges : Call → Type 0
Judges call = judge call.rows ≡ accepted → Accepted call.order

-- so every order whose plan was written was accepted
orders-accepted : (calls : List Call) → All Judges calls → (book : List ℕ) → All Accepted (orders_written calls book)
unfolding orders_written
orders-accepted [] judges book = tt
orders-accepted (call ∷ calls) judges book =
    by (judged_with call book) refl (orders-accepted calls judges.1 (given_back call book))
  where
    by : (v : Verdict) → judged_with call book ≡ v → All Accepted (orders_written calls (given_back call book)) →
        All Accepted (planned_by v call.order (orders_written calls (given_back call book)))
    by accepted e later = (judges.0 (accepted-first call.rows (book_row call.order book ∷ []) e), later)
    by (refused number carried) e later = later

-- "The sum of the sixteen counts equals the times of all their jobs"
pub book-sum : (calls : List Call) → All Judges calls →
    total (book_after calls opened) (λ n. n) ≡ total (orders_written calls opened) minutes_of
book-sum calls judges =
    total-places (book_after calls opened) 0 (λ n. n)
    ∙ (ap (λ (k : ℕ). sum k (λ i. get_or (book_after calls opened) i 0)) (book-length calls opened refl)
    ∙ (sum-cong most_makers _ _ (λ i l. book-counts calls (suc i) (omega arith, l))
    ∙ (sum-total most_makers (orders_written calls opened) (λ i (o : Order). minutes_for o (suc i))
    ∙ total-cong (orders_written calls opened) _ _
    (All-map _ _ (orders_written calls opened) (λ (o : Order) ok. minutes-all o ok) (orders-accepted calls judges opened)))))

-- no count is over the limit, from opening on
abbrev Few : List ℕ → Type 0
Few book = (k : ℕ) → k < most_makers → get_or book k 0 ≤ most_booked

few-next : (call : Call) (book : List ℕ) → Few book → (v : Verdict) → judged_with call book ≡ v → Few (booked_by v call.order book)
few-next call book few accepted e k l =
    let earlier = accepted-first call.rows (book_row call.order book ∷ []) e in
    let room = sym (judge-accepted-append call.rows (book_row call.order book ∷ []) earlier) ∙ e in
    let none = whole-clear _ ((judge-accepted (book_row call.order book ∷ [])).0 room).0 in
    omega (arith, added-at book (minutes_by call.order) k l, added-few book (minutes_by call.order) none k l)
few-next call book few (refused number carried) e k l = few k l

few-after : (calls : List Call) (book : List ℕ) → Few book → Few (book_after calls book)
unfolding book_after
few-after [] book few = few
few-after (call ∷ calls) book few = few-after calls (given_back call book) (few-next call book few (judged_with call book) refl)

pub book-most : (calls : List Call) (maker : ℕ) → Numbers most_makers maker → nth (book_after calls opened) maker 0 ≤ most_booked
book-most calls zero n = absurd (omega arith)
book-most calls (suc i) n = few-after calls opened (λ k l. omega (arith, opened-at k l)) i n.1
