-- The text of one class more.
use Prim.Native.Nat.{ℕ, suc, ◌+◌, ◌≤◌, ◌<◌}
use mathlib.Core.Path.{◌≡◌, refl, sym, ap, ◌∙◌}
use mathlib.Core.List.{List, [], ◌∷◌, ◌++◌, append_assoc, append-nil}
use native.Mathlib.Omega.{arith}
use lib.IntN.{ℤ, pos}
use lib.ListN.{length, get_or, take}
use lib.Seq.{length-take-le, take-suc}
use Rattle.sums.specs.Lists.{nth}
use Rattle.sums.specs.Places.{get_d_tabulate}
use Rattle.order.specs.Order.{Order, processor_count}
use Rattle.order.specs.Class.{classes}
use Rattle.order.proofs.ClassLaws.{classes-few}
use Rattle.table.specs.Passed.{listing}
use Rattle.table.specs.declared.Listing.{Listing}
use Rattle.sentence.specs.Line.{between, class_text, classes_from}

pub classes-none : (memories : List ℕ) (before : ℕ) → classes_from memories before [] ≡ []
unfolding classes_from
classes-none memories before = refl

classes-snoc : (memories : List ℕ) (before : ℕ) (dues : List ℤ) (due : ℤ) →
    classes_from memories before (dues ++ (due ∷ []))
    ≡ classes_from memories before dues
    ++ (between (before + length dues) ++ class_text (nth memories (suc (before + length dues)) 0) due)
unfolding classes_from
classes-snoc memories before [] due =
    let e : before + 0 ≡ before = omega arith in
    rw e (ap (λ (l : List ℕ). between before ++ l) (append-nil (class_text (nth memories (suc before) 0) due)))
classes-snoc memories before (d ∷ dues) due =
    let e : before + suc (length dues) ≡ suc before + length dues = omega arith in
    let class = class_text (nth memories (suc before) 0) d in
    let more = between (suc before + length dues) ++ class_text (nth memories (suc (suc before + length dues)) 0) due in
    rw e
    (ap (λ (l : List ℕ). between before ++ (class ++ l)) (classes-snoc memories (suc before) dues due)
    ∙ (ap (λ (l : List ℕ). between before ++ l) (sym (append_assoc class (classes_from memories (suc before) dues) more))
    ∙ sym (append_assoc (between before) (class ++ classes_from memories (suc before) dues) more)))

pub classes-more : (memories : List ℕ) (dues : List ℤ) (i : ℕ) → i < length dues →
    classes_from memories 0 (take i dues) ++ (between i ++ class_text (get_or memories i 0) (get_or dues i (pos 0)))
    ≡ classes_from memories 0 (take (i + 1) dues)
classes-more memories dues i l =
    let n : i + 1 ≡ suc i = omega arith in
    let e : 0 + length (take i dues) ≡ i = omega (arith, length-take-le i dues (omega arith)) in
    let s = classes-snoc memories 0 (take i dues) (get_or dues i (pos 0)) in
    rw (n, take-suc dues i (pos 0) l) (sym (rw e at s))

-- two lists of memories that agree on the classes told
classes-same : (ms ns : List ℕ) (before : ℕ) (dues : List ℤ) →
    ((i : ℕ) → i < before + length dues → get_or ms i 0 ≡ get_or ns i 0) → classes_from ms before dues ≡ classes_from ns before dues
unfolding classes_from
classes-same ms ns before [] h = refl
classes-same ms ns before (d ∷ dues) h =
    rw (h before (omega arith), classes-same ms ns (suc before) dues (λ i l. h i (omega arith))) refl

-- an order's classes, as the code's struct holds them
pub classes-told : (o : Order) → processor_count o ≤ 16 → (l : Listing) → l ≡ listing o → (dues : List ℤ) →
    length dues ≤ length (classes o) → classes_from l.memories 0 dues ≡ classes_from (classes o) 0 dues
classes-told o few l e dues told =
    classes-same l.memories (classes o) 0 dues (λ i b.
    ap (λ (l : Listing). get_or l.memories i 0) e
    ∙ get_d_tabulate 16 (λ i. get_or (classes o) i 0) 0 i (omega (arith, classes-few o)))
