-- What hbr_classes tells, where it succeeds: at its places the list has each class's memory and how many processors have it, the memories
-- fall, all processors are counted, and hbr_reason speaks of no class that is not among them.
use Prim.Native.Nat.{ℕ, zero, suc, ◌+◌, ◌*◌, ◌≤◌, ◌<◌}
use Rattle.std.specs.Prelude.{◌≡◌, List, [], ◌∷◌, ◌++◌, eqb, leb, ℤ, length, get_or, drop}
use Rattle.std.proofs.Math.Path.{refl}
use Rattle.std.proofs.Common.{sym, ap, ◌∙◌, append_assoc, le-leb}
use Rattle.std.proofs.Math.Decide.{dec_lt}
use native.Mathlib.Omega.{arith}
use Rattle.std.proofs.Math.ListN.{length-append}
use Rattle.std.proofs.lemmas.List.{get_or_at}
use Rattle.sums.specs.Lists.{only, total}
use Rattle.sums.specs.Members.{in-All}
use Rattle.sums.specs.Sum.{sum, sum-cong}
use Rattle.sums.specs.Totals.{total-cong, total-ones}
use Rattle.order.specs.Order.{Order, processor_count}
use Rattle.order.specs.Class.{class_for, memory_of_class, processors_in, processors_to}
use Rattle.order.proofs.ClassLaws.{classes-fall, class-of-processor, processors_in-is, processors_to-is}
use Rattle.order.specs.Refusals.{accepted, judge, left_by}
use Rattle.order_file.specs.File.{order_in}
use Rattle.profile.specs.Reason.{stairs}
use Rattle.profile.proofs.ReasonLaws.{reason-found}
use Rattle.profile.specs.Search.{found, reason_of}
use Rattle.highboyrobin.specs.ClassCalls.{classes_call, pairs_to, class_count, class_pairs}

-- two numbers behind a list
first-behind : (xs : List ℕ) (a b n : ℕ) (rest : List ℕ) → length xs ≡ n →
    (get_or (xs ++ (a ∷ b ∷ rest)) n 0 ≡ a) × (get_or (xs ++ (a ∷ b ∷ rest)) (n + 1) 0 ≡ b)
first-behind xs a b n rest e = (
  get_or_at xs a (b ∷ rest) 0 n e,
  ap (λ (l : List ℕ). get_or l (n + 1) 0) (sym (append_assoc xs (a ∷ []) (b ∷ rest)))
      ∙ get_or_at (xs ++ (a ∷ [])) b rest 0 (n + 1) (length-append xs (a ∷ []) ∙ omega arith),
)

module _ (f g : ℕ → ℕ) where
  pub pairs-length : (k : ℕ) → length (pairs_to f g k) ≡ 2 * k
  unfolding pairs_to
  pairs-length zero = refl
  pairs-length (suc k) = length-append (pairs_to f g k) (f k ∷ g k ∷ []) ∙ omega (arith, pairs-length k)

  -- the two numbers of each pair, whatever lies behind
  pub pair-at : (n k : ℕ) (rest : List ℕ) → k < n →
      (get_or (pairs_to f g n ++ rest) (2 * k) 0 ≡ f k) × (get_or (pairs_to f g n ++ rest) (2 * k + 1) 0 ≡ g k)
  unfolding pairs_to
  pair-at zero k rest l = absurd (omega arith)
  pair-at (suc n) k rest l =
      rw (append_assoc (pairs_to f g n) (f n ∷ g n ∷ []) rest)
      (elim (dec_lt k n) [
        | yes b ↦ pair-at n k (f n ∷ g n ∷ rest) b
        | no b ↦ let e : k ≡ n = omega arith in rw e (first-behind (pairs_to f g n) (f n) (g n) (2 * n) rest (pairs-length n))
      ])

module _ (file list : List ℕ) (answer : List ℤ) (e : judge (classes_call file (length list) (length answer)) ≡ accepted) where
  abbrev o : Order
  o = order_in file

  -- the list that is left
  abbrev pub told : List ℕ
  told = left_by (judge (classes_call file (length list) (length answer))) (class_pairs o) list

  pub class-told : (k : ℕ) → k < class_count o →
      (get_or told (2 * k) 0 ≡ memory_of_class o (suc k)) × (get_or told (2 * k + 1) 0 ≡ processors_in o (suc k))
  class-told k l = rw e (pair-at _ _ (class_count o) k (drop (length (class_pairs o)) list) l)

  -- each class has as many processors as have its memory
  pub processors-have : (k : ℕ) → k < class_count o →
      get_or told (2 * k + 1) 0 ≡ total o.memories (λ m. only (eqb m (get_or told (2 * k) 0)) 1)
  processors-have k l =
      (class-told k l).1 ∙ processors_in-is o k l
      ∙ ap (λ (x : ℕ). total o.memories (λ m. only (eqb m x) 1)) (sym (class-told k l).0)

  pub memories-fall : (i k : ℕ) → i < k → k < class_count o → get_or told (2 * k) 0 < get_or told (2 * i) 0
  unfolding memory_of_class
  memories-fall i k l b = omega (arith, (class-told i (omega arith)).0, (class-told k b).0, classes-fall o i k l b)

  pub processors-told : sum (class_count o) (λ k. get_or told (2 * k + 1) 0) ≡ processor_count o
  unfolding processors_to
  processors-told =
      sum-cong (class_count o) _ _ (λ k l. (class-told k l).1)
      ∙ processors_to-is o (class_count o)
      ∙ total-cong o.memories (λ m. only (leb (class_for o m) (class_count o)) 1) (λ _. 1)
      (in-All _ o.memories (λ m i. rw (le-leb _ _ (class-of-processor o m i).1) refl))
      ∙ total-ones o.memories

  pub reason-classes : (bound : ℤ) (dues : List ℤ) → reason_of o bound ≡ found (stairs dues) → length dues ≤ class_count o
  reason-classes bound dues h = ((reason-found o bound (stairs dues)).0 h).stairs.overfull.profile.of-classes
