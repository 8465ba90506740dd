-- What hbr_sentence and hbr_parse leave behind, by the table's verdict and by what composing and reading back answer.
use Rattle.std.specs.Prelude.{Result, Ok, Err, IfOk}
use Prim.Native.Nat.{ℕ, ◌+◌, ◌*◌, ◌≤◌}
use mathlib.Core.Path.{◌≡◌, refl, sym, ap, ◌∙◌, subst}
use mathlib.Core.List.{List, [], ◌∷◌, ◌++◌}
use lib.IntN.{ℤ, pos}
use lib.ListN.{length, drop}
use Rattle.order.specs.Order.{Order}
use Rattle.order.specs.Refusals.{limits, Verdict, accepted, refused, judge, answer_by, left_by, order_rows, bound_row, room_row}
use Rattle.order.specs.Table.{refusal_told}
use Rattle.order.proofs.TableLaws.{refused-told, verdict-refused, verdict-accepted}
use Rattle.order.specs.declared.Refusal.{Refusal}
use Rattle.reason.specs.Told.{why_of}
use Rattle.reason.specs.declared.Why.{Why}
use Rattle.sentence.specs.Handed.{handed}
use Rattle.sentence.specs.Line.{composed, read_back}
use Rattle.sentence.specs.Told.{compose_rows, composed_told, length_told, read_rows as line_rows, recovered_told}
use Rattle.highboyrobin.specs.Results.{result_of}

-- what hbr_sentence leaves behind
module _ (v : Verdict) (text line : List ℕ) (answer : List ℤ) where
  abbrev pub SentenceEnded : ℕ → List ℕ → List ℤ → Type 0
  SentenceEnded result line' answer' =
      (result ≡ result_of v) × ((line' ≡ left_by v text line) × (answer' ≡ left_by v (pos (length text) ∷ []) answer))

  pub sentence-refused : (number job : ℕ) → v ≡ refused number job → (line' : List ℕ) → line' ≡ line →
      SentenceEnded (number + 256 * job) line' answer
  sentence-refused number job e line' k = rw e (refl, (k, refl))

  pub sentence-told : (why : Refusal) → v ≡ refusal_told why → (result : ℕ) → result ≡ result_of (refusal_told why) →
      (line' : List ℕ) → line' ≡ line → SentenceEnded result line' answer
  sentence-told why e result r line' k =
      let t = refused-told why in
      subst (λ (n : ℕ). SentenceEnded n line' answer) (sym (r ∙ ap result_of t.2))
      (sentence-refused t.0 t.1 (e ∙ t.2) line' k)

  pub sentence-done : v ≡ accepted → (n : ℕ) → n ≡ length text → (line' : List ℕ) → line' ≡ text ++ drop (length text) line →
      (answer' : List ℤ) → answer' ≡ pos n ∷ drop 1 answer → SentenceEnded 0 line' answer'
  sentence-done e n size line' l answer' a = rw e (refl, (l, a ∙ ap (λ (k : ℕ). pos k ∷ drop 1 answer) size))

-- its table begins with the order's rows
pub compose-begins : (o : Order) (bound : ℤ) (why : Why) (lent : ℕ) →
    compose_rows o bound why lent ≡ order_rows limits o ++ (bound_row bound ∷ room_row lent (length (composed o bound (handed o why))) ∷ [])
unfolding compose_rows
compose-begins o bound why lent = refl

-- what composing answers, for the order that was read and the bound as the machine reads it back
abbrev pub ComposeTold : Order → ℤ → Why → List ℕ → List ℕ → Result ℕ Refusal → Type 0
ComposeTold o bound why line line' c =
    (composed_told c ≡ answer_by (judge (compose_rows o bound why (length line))) (length (composed o bound (handed o why))))
    × ((line' ≡ left_by (judge (compose_rows o bound why (length line))) (composed o bound (handed o why)) line)
    × (length_told c ≤ 598))

pub compose-moved : (o o' : Order) (read bound : ℤ) (why why' : Why) (line line' : List ℕ) (c : Result ℕ Refusal) → o ≡ o' →
    read ≡ bound → why ≡ why' → ComposeTold o read why line line' c → ComposeTold o' bound why' line line' c
compose-moved o o' read bound why why' line line' c e f g t =
    subst (λ (w : Why). ComposeTold o' bound w line line' c) g
    (subst (λ (z : ℤ). ComposeTold o' z why line line' c) f (subst (λ (x : Order). ComposeTold x read why line line' c) e t))

module _ (o : Order) (bound : ℤ) (why : Why) (line line' : List ℕ) where
  abbrev v : Verdict
  v = judge (compose_rows o bound why (length line))

  abbrev text : List ℕ
  text = composed o bound (handed o why)

  pub compose-refused : (r : Refusal) → ComposeTold o bound why line line' (Err r) → (v ≡ refusal_told r) × (line' ≡ line)
  compose-refused r t =
      let w = verdict-refused v r 0 (length text) t.0 in
      let k = refused-told r in
      (w, t.1.0 ∙ ap (λ (x : Verdict). left_by x text line) (w ∙ k.2))

  pub compose-wrote : (n : ℕ) → ComposeTold o bound why line line' (Ok n) →
      (v ≡ accepted) × (n ≡ length text) × (line' ≡ text ++ drop (length text) line) × (n ≤ 598)
  compose-wrote n t =
      let w = verdict-accepted v n (length text) t.0 in
      (w.0, w.1, t.1.0 ∙ ap (λ (x : Verdict). left_by x text line) w.0, t.1.1)

-- what reading back answers
abbrev pub BackTold : Order → ℤ → List ℕ → Result Why Refusal → Type 0
BackTold o bound line r =
    (recovered_told r ≡ judge (line_rows o bound)) × IfOk r (λ why. why ≡ why_of o (read_back o bound line))

pub back-moved : (o o' : Order) (read bound : ℤ) (line : List ℕ) (r : Result Why Refusal) → o ≡ o' → read ≡ bound →
    BackTold o read line r → BackTold o' bound line r
back-moved o o' read bound line r e f t =
    subst (λ (z : ℤ). BackTold o' z line r) f (subst (λ (x : Order). BackTold x read line r) e t)

-- its table begins with the order's rows
pub back-begins : (o : Order) (bound : ℤ) → line_rows o bound ≡ order_rows limits o ++ (bound_row bound ∷ [])
unfolding line_rows
back-begins o bound = refl
