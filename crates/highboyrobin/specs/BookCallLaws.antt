-- What hbr_book_least and hbr_book_plan say: their tables are those of hbr_least and hbr_plan and 14 last of all; and, over every list of
-- their calls from sixteen zeros on, each lent the book that the last one left, what document 02, §4, asks of the counts.
use Rattle.std.specs.Prelude.{ℕ, ◌≤◌, ◌≡◌, refl, List, [], ◌∷◌, ◌++◌, map, ℤ, length, drop}
use Rattle.std.proofs.Common.{sym, ap, ◌∙◌, arith, le-ltb, length-append, take-append-drop, take_at, drop_at, length-take-le}
use Rattle.sums.specs.Lists.{total, nth}
use Rattle.sums.specs.Members.{All-of-map, in-All}
use Rattle.order.specs.Order.{Order, Numbers}
use Rattle.order.specs.Refusals.{
  limits,
  most_makers,
  TableRow,
  Verdict,
  accepted,
  refused,
  judge,
  order_rows,
  bound_row,
  tight_row,
  file_row,
}
use Rattle.order.proofs.RefusalLaws.{judge-accepted, accepted-first}
use Rattle.order_file.specs.File.{good_file, order_in}
use Rattle.book.specs.Book.{opened, minutes_for, minutes_of, minutes_by, most_booked, book_row, booked_by}
use Rattle.book.specs.BookLaws.{added-length}
use Rattle.book.specs.Calls.{Call, given_back, book_after, orders_written}
use Rattle.book.proofs.CallLaws.{Judges, book-counts, book-length, book-sum, book-most}
use Rattle.profile.specs.Search.{reason_of}
use Rattle.planner.specs.AnswerLaws.{least-begins, plan-begins}
use Rattle.planner.specs.Rows.{buffer_row, is_found, least_rows, plan_rows}
use Rattle.highboyrobin.specs.Results.{answer_row, file_call, list_call}
use Rattle.highboyrobin.specs.Calls.{least_call, plan_call}
use Rattle.highboyrobin.specs.BookCalls.{book_call, counts_in, book_least_call, book_plan_call, book_left}

-- a book of sixteen numbers or more is no mistake
long-enough : (lent asked : ℕ) (book file : List ℕ) (rows : List TableRow) → most_makers ≤ length book →
    judge (book_call lent asked (length book) file rows) ≡ judge (file_call lent asked file rows)
unfolding list_call file_call judge
long-enough lent asked book file rows h = rw (le-ltb (length book) most_makers h)

-- a call of either kind: the file, the bound where there is one, how many numbers are lent for rows and answer
pub data Lent : Type 0 where
  least : List ℕ → ℕ → ℕ → Lent
  bound : List ℕ → ℤ → ℕ → ℕ → Lent

-- its table without a book, and with one
abbrev pub unbooked : Lent → List TableRow
unbooked (least file numbers lent) = least_call file numbers lent
unbooked (bound file b numbers lent) = plan_call file b numbers lent

abbrev pub with_book : Lent → List ℕ → List TableRow
with_book (least file numbers lent) book = book_least_call file numbers book lent
with_book (bound file b numbers lent) book = book_plan_call file b numbers book lent

abbrev pub order_for : Lent → Order
order_for (least file numbers lent) = order_in file
order_for (bound file b numbers lent) = order_in file

abbrev pub call_of : Lent → Call
call_of call = record { order = order_for call; rows = unbooked call }

-- with a book the table is the same, and 14 stands last of all
pub booked-last : (call : Lent) (book : List ℕ) → most_makers ≤ length book →
    judge (with_book call book) ≡ judge (unbooked call ++ (book_row (order_for call) (counts_in book) ∷ []))
unfolding file_call
booked-last (least file numbers lent) book h = long-enough lent 2 book file _ h
booked-last (bound file b numbers lent) book h = long-enough lent 1 book file _ h

-- the lent book after all calls, each lent what the last one left
abbrev pub left_by : Lent → List ℕ → List ℕ
left_by call book = book_left (judge (with_book call book)) (order_for call) book

unfoldable pub left_after : List Lent → List ℕ → List ℕ
left_after [] book = book
left_after (call ∷ calls) book = left_after calls (left_by call book)

-- its first sixteen numbers are the counts that the calls give back, and the others as they were
counts-length : (call : Lent) (book : List ℕ) → most_makers ≤ length book →
    length (booked_by (judge (with_book call book)) (order_for call) (counts_in book)) ≡ most_makers
counts-length call book h = by (judge (with_book call book))
  where
    by : (v : Verdict) → length (booked_by v (order_for call) (counts_in book)) ≡ most_makers
    by accepted = added-length (counts_in book) (minutes_by (order_for call))
    by (refused number carried) = length-take-le most_makers book h

pub left_is : (calls : List Lent) (book : List ℕ) → most_makers ≤ length book →
    left_after calls book ≡ book_after (map call_of calls) (counts_in book) ++ drop most_makers book
unfolding left_after book_after
left_is [] book h = sym (take-append-drop most_makers book)
left_is (call ∷ calls) book h =
    let counts = booked_by (judge (with_book call book)) (order_for call) (counts_in book) in
    let size = counts-length call book h in
    let given : counts ≡ given_back (call_of call) (counts_in book)
    = ap (λ (v : Verdict). booked_by v (order_for call) (counts_in book)) (booked-last call book h) in
    left_is calls (counts ++ drop most_makers book) (omega (arith, size, length-append counts (drop most_makers book)))
    ∙ rw (take_at counts (drop most_makers book) most_makers size, drop_at counts (drop most_makers book) most_makers size, given)

-- where the earlier rows accept, so do the order's
judges : (call : Lent) → Judges (call_of call)
unfolding file_call
judges (least file numbers lent) e =
    let rows = least_rows (order_in file) numbers in
    let passed = (judge-accepted rows).1 ((judge-accepted (answer_row lent 2 ∷ file_row (good_file file) ∷ rows)).0 e).1.1 in
    accepted-first (order_rows limits (order_in file)) (buffer_row (order_in file) numbers ∷ [])
    (ap judge (sym (least-begins (order_in file) numbers)) ∙ passed)
judges (bound file b numbers lent) e =
    let rows = plan_rows (order_in file) b numbers in
    let passed = (judge-accepted rows).1 ((judge-accepted (answer_row lent 1 ∷ file_row (good_file file) ∷ rows)).0 e).1.1 in
    accepted-first (order_rows limits (order_in file))
    (bound_row b ∷ buffer_row (order_in file) numbers ∷ tight_row (is_found (reason_of (order_in file) b)) ∷ [])
    (ap judge (sym (plan-begins (order_in file) b numbers)) ∙ passed)

-- a refused call leaves the lent book as it was
pub refused-leaves : (call : Lent) (book : List ℕ) (number carried : ℕ) → judge (with_book call book) ≡ refused number carried →
    left_by call book ≡ book
refused-leaves call book number carried e = rw e (take-append-drop most_makers book)

-- so among calls one that is refused could as well be left out
after_more : (earlier later : List Lent) (book : List ℕ) → left_after (earlier ++ later) book ≡ left_after later (left_after earlier book)
unfolding left_after
after_more [] later book = refl
after_more (call ∷ earlier) later book = after_more earlier later (left_by call book)

pub refused-left-out : (earlier : List Lent) (call : Lent) (later : List Lent) (book : List ℕ) (number carried : ℕ) →
    judge (with_book call (left_after earlier book)) ≡ refused number carried →
    left_after (earlier ++ (call ∷ later)) book ≡ left_after (earlier ++ later) book
unfolding left_after
refused-left-out earlier call later book number carried e =
    after_more earlier (call ∷ later) book
    ∙ (ap (left_after later) (refused-leaves call (left_after earlier book) number carried e) ∙ sym (after_more earlier later book))

-- from sixteen zeros on, whatever stands beyond them
module _ (calls : List Lent) (beyond : List ℕ) where
  abbrev pub left : List ℕ
  left = left_after calls (opened ++ beyond)

  -- the orders whose plans were written
  abbrev pub planned : List Order
  planned = orders_written (map call_of calls) opened

  left-parts : left ≡ book_after (map call_of calls) opened ++ beyond
  left-parts = left_is calls (opened ++ beyond) (omega (arith, length-append opened beyond))

  left-first : counts_in left ≡ book_after (map call_of calls) opened
  left-first = ap counts_in left-parts ∙ take_at _ beyond most_makers (book-length (map call_of calls) opened refl)

  -- "each count equals the times of that maker's jobs in all plans written with it, worked out from the orders"
  pub lent-counts : (maker : ℕ) → Numbers most_makers maker →
      nth (counts_in left) maker 0 ≡ total planned (λ (o : Order). minutes_for o maker)
  lent-counts maker n = ap (λ (counts : List ℕ). nth counts maker 0) left-first ∙ book-counts (map call_of calls) maker n

  -- "The sum of the sixteen counts equals the times of all their jobs"
  pub lent-together : total (counts_in left) (λ n. n) ≡ total planned minutes_of
  lent-together =
      ap (λ (counts : List ℕ). total counts (λ n. n)) left-first
      ∙ book-sum (map call_of calls) (All-of-map call_of Judges calls (in-All _ calls (λ call _. judges call)))

  -- no count is over the limit, and what stands beyond the sixteen is as it was
  pub lent-few : (maker : ℕ) → Numbers most_makers maker → nth (counts_in left) maker 0 ≤ most_booked
  lent-few maker n = rw left-first (book-most (map call_of calls) maker n)

  pub lent-beyond : drop most_makers left ≡ beyond
  lent-beyond =
      ap (drop most_makers) left-parts
      ∙ drop_at (book_after (map call_of calls) opened) beyond most_makers (book-length (map call_of calls) opened refl)
