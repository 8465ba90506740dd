-- What the answers of both entry points with times between say of the verdict, and what is left behind.
use Rattle.std.specs.Prelude.{Option, Some, None, Result, Ok, Err}
use Prim.Native.Nat.{ℕ}
use mathlib.Core.Path.{◌≡◌, refl, sym, ap, ◌∙◌, subst}
use mathlib.Core.List.{List, [], ◌∷◌, ◌++◌}
use native.Mathlib.Omega.{arith}
use borrow.Author.Tests.{le-ltb}
use lib.IntN.{ℤ, pos}
use lib.ListN.{length, drop}
use mir.Syntax.{w32}
use mir.Val.{to_z, of_z}
use Rattle.order.specs.Order.{Order}
use Rattle.order.specs.Refusals.{
  limits,
  TableRow,
  Verdict,
  accepted,
  refused,
  judge,
  answer_by,
  left_by,
  room_row,
  order_rows,
  Accepted,
}
use Rattle.order.proofs.RefusalLaws.{judge-accepted-append, judge-refused-append}
use Rattle.order.specs.Table.{order_of, refusal_told}
use Rattle.order.proofs.TableLaws.{refused-told, verdict-refused, verdict-accepted}
use Rattle.order.specs.declared.Order.{Order as OrderTable}
use Rattle.order.specs.declared.Refusal.{Refusal}
use Rattle.order_file.specs.File.{file_of, file_length, write_rows, written_by, ReadBackBy}
use Rattle.order_file.proofs.RoundTrip.{file_of-length}
use Rattle.profile.proofs.LeastRange.{least-in-range}
use Rattle.profile.specs.LeastRead.{read-least}
use Rattle.profile.specs.Search.{Found, nothing, found}
use Rattle.estimate.specs.AcceptLaws.{uncrossed, between-accepted}
use Rattle.estimate.specs.Estimate.{Estimate, order_with, lows, highs, least_at_lows, least_at_highs, first_met, order_found, order_met, estimate_rows}
use Rattle.estimate.specs.PathLaws.{lows-between, highs-between}
use Rattle.estimate.specs.Request.{met-between}
use Rattle.estimate.specs.Told.{leasts_told, met_told}
use Rattle.estimate.specs.declared.Leasts.{Leasts}
use Rattle.highboyrobin.specs.BetweenCalls.{file_met, BackBy, HandedBy}
use Rattle.highboyrobin.specs.Results.{result_of}
use Rattle.highboyrobin.proofs.FilesTold.{WriteTold, writer-refused, writer-wrote}

-- the two numbers
abbrev pub LeastsSay : Result Leasts Refusal → Estimate → Type 0
LeastsSay a e = leasts_told a ≡ answer_by (judge (estimate_rows limits e)) (least_at_lows e, least_at_highs e)

module _ (e : Estimate) where
  pub leasts-refused : (why : Refusal) → LeastsSay (Err why) e → judge (estimate_rows limits e) ≡ refusal_told why
  leasts-refused why h = verdict-refused _ why (pos 0, pos 0) (least_at_lows e, least_at_highs e) h

  pub leasts-are : (a : Leasts) → LeastsSay (Ok a) e →
      (judge (estimate_rows limits e) ≡ accepted) × (a.low ≡ least_at_lows e) × (a.high ≡ least_at_highs e)
  leasts-are a h =
      let v = verdict-accepted _ (a.low, a.high) (least_at_lows e, least_at_highs e) h in
      (v.0, ap (λ (p : ℤ × ℤ). p.0) v.1, ap (λ (p : ℤ × ℤ). p.1) v.1)

-- both are read back as they are
module _ (e : Estimate) (ok : judge (estimate_rows limits e) ≡ accepted) (z : ℤ) where
  pub low_read : z ≡ least_at_lows e → to_z w32 (of_z w32 z) ≡ least_at_lows e
  low_read is =
      read-least z (least_at_lows e) is
      (least-in-range (order_with e (lows e)) (between-accepted e ok (lows e) (lows-between e.jobs (uncrossed e ok))))

  pub high_read : z ≡ least_at_highs e → to_z w32 (of_z w32 z) ≡ least_at_highs e
  high_read is =
      read-least z (least_at_highs e) is
      (least-in-range (order_with e (highs e)) (between-accepted e ok (highs e) (highs-between e.jobs (uncrossed e ok))))

pub two-same : {x y low high : ℤ} {rest : List ℤ} → x ≡ low → y ≡ high → x ∷ (y ∷ rest) ≡ low ∷ (high ∷ rest)
two-same e f = cc

-- the order met
abbrev pub MetSays : Result (Option OrderTable) Refusal → Estimate → ℤ → Type 0
MetSays m e number = met_told m ≡ answer_by (judge (estimate_rows limits e)) (order_met e number)

module _ (e : Estimate) (number : ℤ) where
  pub met-refused : (why : Refusal) → MetSays (Err why) e number → judge (estimate_rows limits e) ≡ refusal_told why
  met-refused why h = verdict-refused _ why nothing (order_met e number) h

  pub met-nowhere : MetSays (Ok None) e number → (judge (estimate_rows limits e) ≡ accepted) × (nothing ≡ order_met e number)
  met-nowhere h = verdict-accepted _ nothing (order_met e number) h

  module _ (t : OrderTable) (h : MetSays (Ok (Some t)) e number) where
    pub met-order : (judge (estimate_rows limits e) ≡ accepted) × (found (order_of t) ≡ order_met e number)
    met-order = verdict-accepted _ (found (order_of t)) (order_met e number) h

    -- it is accepted, since its times lie between
    pub met-accepted : Accepted (order_of t)
    met-accepted = found-accepted met-order.0 (first_met e number) refl (order_of t) met-order.1
      where
        found-accepted : judge (estimate_rows limits e) ≡ accepted → (times : Found (List ℕ)) → first_met e number ≡ times →
            (o : Order) → found o ≡ order_found e times → Accepted o
        found-accepted ok nothing f o eq = let z : ◌≡◌ {A = ℕ} 0 1 = cc in absurd (omega arith)
        found-accepted ok (found times) f o eq =
            let same : o ≡ order_with e times = cc in
            subst Accepted (sym same) (between-accepted e ok times (met-between e ok number times f))

-- the answer, the estimate and the number are told twice, as they were read and as they were lent
pub met-moved : (m m' : Result (Option OrderTable) Refusal) (d e : Estimate) (read number : ℤ) → m ≡ m' → d ≡ e → read ≡ number →
    MetSays m d read → MetSays m' e number
met-moved m m' d e read number o p q h =
    subst (λ (x : Result (Option OrderTable) Refusal). MetSays x e number) o
    (subst (λ (z : ℤ). MetSays m e z) q (subst (λ (x : Estimate). MetSays m x read) p h))

-- row 9 alone
no_bytes : (lent : ℕ) → judge (room_row lent 0 ∷ []) ≡ accepted
unfolding judge
no_bytes lent = rw (le-ltb lent 0 (omega arith))

-- the file of an accepted order is handed out: row 9 decides
module _ (o : Order) (ok : Accepted o) (buffer buffer' : List ℕ) (entry : List ℤ) where
  abbrev room : Verdict
  room = judge (room_row (length buffer) (length (file_of o)) ∷ [])

  room-decides : judge (write_rows o (length buffer)) ≡ room
  unfolding write_rows
  room-decides =
      judge-accepted-append (order_rows limits o) (room_row (length buffer) (file_length o) ∷ []) ok
      ∙ ap (λ (n : ℕ). judge (room_row (length buffer) n ∷ [])) (sym (file_of-length o))

  pub handed-refused : (why : Refusal) → WriteTold o buffer buffer' (Err why) → (result : ℕ) → result ≡ result_of (refusal_told why) →
      HandedBy o buffer buffer' entry entry result
  handed-refused why t result e =
      let h = writer-refused o buffer buffer' why t in
      let k = refused-told why in
      let v : room ≡ refused k.0 k.1 = sym room-decides ∙ (h.0 ∙ k.2) in
      rw v (e ∙ ap result_of k.2, h.1, tt, refl)

  pub handed-done : (n : ℕ) → WriteTold o buffer buffer' (Ok n) → (exit : List ℤ) → exit ≡ pos n ∷ drop 1 entry →
      HandedBy o buffer buffer' entry exit 0
  handed-done n t exit e =
      let h = writer-wrote o buffer buffer' n t in
      let v : room ≡ accepted = sym room-decides ∙ h.0 in
      let back : ReadBackBy accepted o buffer' = subst (λ (v : Verdict). ReadBackBy v o buffer') h.0 h.3 in
      rw v (
        refl,
        h.2
            ∙ (ap (λ (v : Verdict). written_by v o buffer) h.0
            ∙ ap (λ (n : ℕ). file_of o ++ drop n buffer) (sym (file_of-length o))),
        back,
        e ∙ ap (λ (n : ℕ). pos n ∷ drop 1 entry) (h.1 ∙ sym (file_of-length o)),
      )

-- result, buffer and answer of hbr_between_order, by the verdict
module _ (v : Verdict) (met : Found Order) (buffer : List ℕ) (entry : List ℤ) where
  abbrev pub OrderEnded : ℕ → List ℕ → List ℤ → Type 0
  OrderEnded result buffer' exit =
      (result ≡ result_of v)
      × ((buffer' ≡ left_by v (file_met met) buffer) × (BackBy v met buffer' × (exit ≡ left_by v (pos (length (file_met met)) ∷ []) entry)))

  no-back : (number carried : ℕ) (f : Found Order) (b : List ℕ) → BackBy (refused number carried) f b
  no-back number carried nothing b = tt
  no-back number carried (found o) b = tt

  pub order-refused : (number carried : ℕ) → v ≡ refused number carried → (result : ℕ) → result ≡ result_of (refused number carried) →
      OrderEnded result buffer entry
  order-refused number carried e result r = rw e (r, (refl, (no-back number carried met buffer, refl)))

  pub order-told : (why : Refusal) → v ≡ refusal_told why → (result : ℕ) → result ≡ result_of (refusal_told why) →
      OrderEnded result buffer entry
  order-told why e result r =
      let t = refused-told why in
      order-refused t.0 t.1 (e ∙ t.2) result (r ∙ ap result_of t.2)

-- by what the entry point answers, where the call's rows are the estimate's and 9
module _ (v : Verdict) (e : Estimate) (number : ℤ) (buffer : List ℕ)
    (called : v ≡ judge (estimate_rows limits e ++ (room_row (length buffer) (length (file_met (order_met e number))) ∷ [])))
    (entry : List ℤ) where
  abbrev rooms : Found Order → List TableRow
  rooms met = room_row (length buffer) (length (file_met met)) ∷ []

  pub met-told : (why : Refusal) → MetSays (Err why) e number → (result : ℕ) → result ≡ result_of (refusal_told why) →
      OrderEnded v (order_met e number) buffer entry result buffer entry
  met-told why h result r =
      let t = refused-told why in
      let u = met-refused e number why h in
      order-told v (order_met e number) buffer entry why
      (called ∙ (judge-refused-append (estimate_rows limits e) (rooms (order_met e number)) t.0 t.1 (u ∙ t.2) ∙ sym t.2))
      result r

  nine-decides : judge (estimate_rows limits e) ≡ accepted → (met : Found Order) → met ≡ order_met e number → v ≡ judge (rooms met)
  nine-decides ok met is =
      called
      ∙ (judge-accepted-append (estimate_rows limits e) (rooms (order_met e number)) ok ∙ ap (λ (f : Found Order). judge (rooms f)) (sym is))

  pub met-none : MetSays (Ok None) e number → (exit : List ℤ) → exit ≡ pos 0 ∷ drop 1 entry →
      OrderEnded v (order_met e number) buffer entry 0 buffer exit
  met-none h exit x =
      let u = met-nowhere e number h in
      let w = nine-decides u.0 nothing u.1 ∙ no_bytes (length buffer) in
      rw (w, ← u.1) (refl, (refl, (tt, x)))

  pub met-handed : (t : OrderTable) → MetSays (Ok (Some t)) e number → (buffer' : List ℕ) (exit : List ℤ) (result : ℕ) →
      HandedBy (order_of t) buffer buffer' entry exit result → OrderEnded v (order_met e number) buffer entry result buffer' exit
  met-handed t h buffer' exit result g =
      let u = met-order e number t h in
      rw (nine-decides u.0 (found (order_of t)) u.1, ← u.1) (g.0, (g.1, (g.2, g.3)))
