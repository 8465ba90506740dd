-- What is answered, by the table's verdict.
use Prim.Native.Nat.{ℕ, ◌+◌, ◌≤◌, ◌<◌}
use mathlib.Core.Path.{◌≡◌, refl, sym, ap, ◌∙◌}
use mathlib.Core.Bool.{true, false}
use mathlib.Core.List.{List, [], ◌∷◌, ◌++◌}
use native.Mathlib.Omega.{arith}
use borrow.Author.Tests.{lt-ltb, le-ltb}
use lib.IntN.{ℤ}
use lib.ListN.{length, drop}
use Rattle.order.specs.Order.{Order}
use Rattle.order.specs.Refusals.{
  limits,
  TableRow,
  Verdict,
  accepted,
  refused,
  judge,
  answer,
  answer_by,
  left_by,
  order_rows,
  bound_row,
  room_row,
  Accepted,
  bound_in_range,
}
use Rattle.order.proofs.RefusalLaws.{judge-accepted-append, judge-refused-append}
use Rattle.order.specs.Table.{Acceptance, refusal_told, acceptance_told}
use Rattle.order.proofs.TableLaws.{refused-told}
use Rattle.std.specs.Prelude.{Err}
use Rattle.order.specs.declared.Refusal.{Refusal}
use Rattle.order.specs.declared.Refusal.TheVariants.{BoundOutOfRange, BufferTooShort}
use Rattle.reason.specs.declared.Why.{Why}
use Rattle.text.specs.Text.{Put}
use Rattle.sentence.specs.Handed.{handed}
use Rattle.sentence.specs.Line.{composed}
use Rattle.sentence.specs.Told.{compose_rows, read_rows}

-- the rows of acceptance, then 8, then others
module _ (o : Order) (bound : ℤ) (later : List TableRow) where
  abbrev rows : List TableRow
  rows = order_rows limits o ++ (bound_row bound ∷ later)

  order-refused : (a : Acceptance) (r : Refusal) → acceptance_told a ≡ judge (order_rows limits o) → a ≡ Err r →
      judge rows ≡ refusal_told r
  order-refused a r e is =
      let t = refused-told r in
      judge-refused-append (order_rows limits o) (bound_row bound ∷ later) t.0 t.1
      (sym e ∙ (ap acceptance_told is ∙ t.2)) ∙ sym t.2

  bound-refused : Accepted o → bound_in_range bound ≡ false → judge rows ≡ refused 8 0
  unfolding judge
  bound-refused a h = judge-accepted-append (order_rows limits o) (bound_row bound ∷ later) a ∙ rw h refl

  bound-passed : Accepted o → bound_in_range bound ≡ true → judge rows ≡ judge later
  unfolding judge
  bound-passed a h = judge-accepted-append (order_rows limits o) (bound_row bound ∷ later) a ∙ rw h refl

-- composing
module _ (o : Order) (bound : ℤ) (why : Why) (entry : List ℕ) where
  abbrev text : List ℕ
  text = composed o bound (handed o why)

  abbrev v : Verdict
  v = judge (compose_rows o bound why (length entry))

  -- a refusal leaves the buffer
  refuses : (r : Refusal) → v ≡ refusal_told r → (answer_by (refusal_told r) 0 ≡ answer_by v (length text)) ×
      (entry ≡ left_by v text entry)
  refuses r e = let t = refused-told r in rw (e, t.2) (refl, refl)

  pub compose-order : (a : Acceptance) (r : Refusal) → acceptance_told a ≡ judge (order_rows limits o) → a ≡ Err r →
      (answer_by (refusal_told r) 0 ≡ answer_by v (length text)) × (entry ≡ left_by v text entry)
  unfolding compose_rows
  compose-order a r e is = refuses r (order-refused o bound (room_row (length entry) (length text) ∷ []) a r e is)

  module _ (a : Accepted o) where
    pub compose-bound : bound_in_range bound ≡ false →
        (answer_by (refusal_told BoundOutOfRange) 0 ≡ answer_by v (length text)) × (entry ≡ left_by v text entry)
    unfolding compose_rows
    compose-bound h = refuses BoundOutOfRange (bound-refused o bound (room_row (length entry) (length text) ∷ []) a h)

    module _ (b : bound_in_range bound ≡ true) where
      pub compose-short : length entry < length text →
          (answer_by (refusal_told BufferTooShort) 0 ≡ answer_by v (length text)) × (entry ≡ left_by v text entry)
      unfolding compose_rows judge
      compose-short h =
          refuses BufferTooShort
          (bound-passed o bound (room_row (length entry) (length text) ∷ []) a b ∙ rw (lt-ltb (length entry) (length text) h) refl)

      -- else the line stands in it
      pub compose-done : (after : List ℕ) (n r : ℕ) → length text ≤ length entry → n ≡ length text → Put entry 0 text after r →
          (answer n ≡ answer_by v (length text)) × (after ≡ left_by v text entry)
      unfolding compose_rows judge
      compose-done after n r h size p =
          let open_is : v ≡ accepted
          = bound-passed o bound (room_row (length entry) (length text) ∷ []) a b ∙ rw
          (le-ltb (length entry) (length text) h) refl in
          let place : 0 + length text ≡ length text = omega arith in
          rw open_is (ap answer size, p.after_is ∙ ap (λ (k : ℕ). text ++ drop k entry) place)

-- reading back
module _ (o : Order) (bound : ℤ) where
  abbrev read : Verdict
  read = judge (read_rows o bound)

  pub read-order : (a : Acceptance) (r : Refusal) → acceptance_told a ≡ judge (order_rows limits o) → a ≡ Err r → refusal_told r ≡ read
  unfolding read_rows
  read-order a r e is = sym (order-refused o bound [] a r e is)

  pub read-bound : Accepted o → bound_in_range bound ≡ false → refusal_told BoundOutOfRange ≡ read
  unfolding read_rows
  read-bound a h = sym (bound-refused o bound [] a h)

  pub read_done : Accepted o → bound_in_range bound ≡ true → accepted ≡ read
  unfolding read_rows judge
  read_done a b = sym (bound-passed o bound [] a b)
