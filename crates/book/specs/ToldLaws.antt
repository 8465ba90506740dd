-- What a booking says: that some count would be over the limit, or that none is, with the order's minutes in the counts.
use Rattle.std.specs.Prelude.{◌≡◌, refl, Bool, true, false, cond, Result, Ok, Err}
use Rattle.std.proofs.Math.Path.{sym}
use Rattle.std.proofs.Common.{ap, ◌∙◌}
use Rattle.order.specs.Order.{Order}
use Rattle.order.specs.declared.Refusal.{Refusal}
use Rattle.order.specs.declared.Refusal.TheVariants.{BookFull}
use Rattle.book.specs.Book.{booked, over_booked}
use Rattle.book.specs.Told.{booking_of}
use Rattle.book.specs.declared.Book.{Book}

refused_by : (b : Bool) (after : Book) (f : Refusal) → Err f ≡ cond b (Err BookFull) (Ok after) → (f ≡ BookFull) × (b ≡ true)
refused_by true after f e = (cc, refl)
refused_by false after f e = absurd cc

made_by : (b : Bool) (after book : Book) → Ok book ≡ cond b (Err BookFull) (Ok after) → (b ≡ false) × (book ≡ after)
made_by true after book e = absurd cc
made_by false after book e = (refl, cc)

module _ (o : Order) (book : Book) (r : Result Book Refusal) (e : r ≡ booking_of o book) where
  pub booking-full : (f : Refusal) → r ≡ Err f → (f ≡ BookFull) × (over_booked o book.counts ≡ true)
  unfolding booking_of
  booking-full f is = refused_by (over_booked o book.counts) _ f (sym is ∙ e)

  pub booking-made : (after : Book) → r ≡ Ok after →
      (over_booked o book.counts ≡ false) × (after.counts ≡ booked o book.counts)
  unfolding booking_of
  booking-made after is =
      let m = made_by (over_booked o book.counts) _ after (sym is ∙ e) in
      (m.0, ap (λ (b : Book). b.counts) m.1)
