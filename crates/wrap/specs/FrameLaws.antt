-- Laws of frames: when a stretch lies between two minutes, the marks, the processors that are open, rows in turn.
use Prim.Native.Nat.{ℕ, zero, suc, ◌*◌, ◌≤◌, ◌<◌}
use Rattle.std.specs.Prelude.{◌≡◌, Bool, true, false, List, ◌≢◌, ◌↔◌, leb, length, get_or}
use Rattle.std.proofs.Math.Path.{refl}
use Rattle.std.proofs.Common.{ap, ◌∙◌}
use native.Mathlib.Omega.{arith}
use Rattle.std.proofs.Math.Decide.{ℕ_discrete}
use borrow.Author.Tests.{leb-true, le-leb}
use Rattle.std.proofs.Math.ListN.{length-append}
use Rattle.sums.specs.Sum.{sum}
use Rattle.sums.specs.Lists.{All, Pairwise, total, only}
use Rattle.sums.specs.Members.{All-map, All-append, All-in, in-All}
use Rattle.sums.specs.Pairs.{Pairwise-map, Pairwise-append}
use Rattle.sums.specs.Kept.{keep_all, keep-pairs, keep-total, keep-few}
use Rattle.sums.specs.Totals.{only-le, total-append, total-le, total-ones, total-tabulate}
use Rattle.order.specs.Order.{Order, processor_count, Numbers, memory_of}
use Rattle.order.proofs.RefusalLaws.{both_true}
use Rattle.order.specs.Sorted.{processor_order}
use Rattle.order.specs.Class.{class_for}
use Rattle.order.proofs.ClassLaws.{class-antitone}
use Rattle.order.specs.OrderingLaws.{processors-ordered, prefix-counted}
use Rattle.plan.specs.Plan.{Row}
use Rattle.wrap.specs.Frame.{Frame, lies, open_in, open_order, open_to, in_turn, Rising}

-- a stretch that lies between two minutes, and one that does not
module _ (f : Frame) (from to s : ℕ) where
  pub lies-true : lies f from to s ≡ true → (from ≤ f.mark s) × (f.mark (suc s) ≤ to)
  unfolding lies
  lies-true e =
      let h = both_true (leb from (f.mark s)) (leb (f.mark (suc s)) to) e in
      (leb-true from (f.mark s) h.0, leb-true (f.mark (suc s)) to h.1)

  pub lies-is : from ≤ f.mark s → f.mark (suc s) ≤ to → lies f from to s ≡ true
  unfolding lies
  lies-is h k = rw (le-leb from (f.mark s) h, le-leb (f.mark (suc s)) to k) refl

-- what is behind a test and not 0 passed it
pub only-some : (b : Bool) (x : ℕ) → 0 < only b x → b ≡ true
only-some true x h = refl
only-some false x h = absurd (omega arith)

-- marks never fall
pub marks-mono : (f : Frame) → Rising f → (i k : ℕ) → i ≤ k → k ≤ f.stretches → f.mark i ≤ f.mark k
marks-mono f up i zero h l = let e : i ≡ 0 = omega arith in omega (arith, ap f.mark e)
marks-mono f up i (suc k) h l =
    elim (ℕ_discrete i (suc k)) [
      | yes e ↦ omega (arith, ap f.mark e)
      | no e ↦ omega (arith, marks-mono f up i k (omega arith) (omega arith), up k l)
    ]

-- the class of the processor with a number
abbrev pub processor_class : Order → ℕ → ℕ
processor_class o i = class_for o (memory_of o i)

-- the processors in their order stand by class
pub processors-by-class : (o : Order) → Pairwise (λ i k. processor_class o i ≤ processor_class o k) (processor_order o)
processors-by-class o =
    Pairwise-map _ _ (processor_order o) (λ x y h. class-antitone o (memory_of o y) (memory_of o x) h)
    (processors-ordered o).falls

module _ (o : Order) (f : Frame) (s : ℕ) where
  -- the open processors are processors, each once
  pub open-are : All (λ i. Numbers (processor_count o) i × (open_in f s i ≡ true)) (open_order o f s)
  unfolding open_order
  open-are =
      keep_all (open_in f s) _ (processor_order o)
      (All-map (Numbers (processor_count o)) _ (processor_order o) (λ i h e. (h, e)) (processors-ordered o).no_other)

  pub open-once : Pairwise (λ x y. x ≢ y) (open_order o f s)
  unfolding open_order
  open-once = keep-pairs (open_in f s) (λ x y. x ≢ y) (processor_order o) (processors-ordered o).once

  pub open-few : length (open_order o f s) ≤ processor_count o
  unfolding open_order
  open-few = omega (arith, keep-few (open_in f s) (processor_order o), (processors-ordered o).count)

  -- the first open ones, as many as are of the first k classes, are exactly those of these classes
  pub open-class : (k i : ℕ) → i < length (open_order o f s) →
      (processor_class o (get_or (open_order o f s) i 0) ≤ k) ↔ (i < open_to o f s k)
  unfolding open_to open_order
  open-class k i l =
      prefix-counted (processor_class o) k (open_order o f s)
      (keep-pairs (open_in f s) _ (processor_order o) (processors-by-class o)) i l

  -- no classes have more open processors than are open
  pub open_to-at-most : (k : ℕ) → open_to o f s k ≤ length (open_order o f s)
  unfolding open_to
  open_to-at-most k =
      omega (
        arith,
        total-ones (open_order o f s),
        total-le (open_order o f s) (λ i. only (leb (processor_class o i) k) 1) (λ i. 1)
            (in-All _ (open_order o f s) (λ i h. only-le (leb (processor_class o i) k) 1)),
      )

  -- counted by their numbers
  pub open_to-is : (k : ℕ) → open_to o f s k
      ≡ sum (processor_count o) (λ i. only (open_in f s (suc i)) (only (leb (processor_class o (suc i)) k) 1))
  unfolding open_to open_order
  open_to-is k =
      keep-total (open_in f s) _ (processor_order o)
      ∙ (processors-ordered o).sums (λ i. only (open_in f s i) (only (leb (processor_class o i) k) 1))
      ∙ total-tabulate (processor_count o) suc (λ i. only (open_in f s i) (only (leb (processor_class o i) k) 1))

-- rows in turn: what holds of each row of each stretch, of each two of one and of different stretches, their sum and number
module _ (rows : ℕ → List Row) where
  pub turn-all : (P : Row → Type 0) (n : ℕ) → ((s : ℕ) → s < n → All P (rows s)) → All P (in_turn rows n)
  unfolding in_turn
  turn-all P zero h = tt
  turn-all P (suc n) h =
      All-append P (in_turn rows n) (rows n) (turn-all P n (λ s l. h s (omega arith))) (h n (omega arith))

  -- In s says that a row lies in stretch s
  pub turn-pairs : (In : ℕ → Row → Type 0) (R : Row → Row → Type 0) (n : ℕ) →
      ((s : ℕ) → s < n → All (In s) (rows s)) → ((s : ℕ) → s < n → Pairwise R (rows s)) →
      ((i k : ℕ) (r s : Row) → i < k → In i r → In k s → R r s) → Pairwise R (in_turn rows n)
  unfolding in_turn
  turn-pairs In R zero b h c = tt
  turn-pairs In R (suc n) b h c =
      Pairwise-append R (in_turn rows n) (rows n)
      (turn-pairs In R n (λ s l. b s (omega arith)) (λ s l. h s (omega arith)) c)
      (h n (omega arith))
      (λ (r t : Row) i m.
      let w = All-in (λ (r : Row). (s : ℕ) × (s < n) × In s r) (in_turn rows n)
      (turn-all _ n (λ s l. All-map _ _ (rows s) (λ (r : Row) h. (s, l, h)) (b s (omega arith)))) r i in
      c w.0 n r t w.1 w.2 (All-in (In n) (rows n) (b n (omega arith)) t m))

  pub turn-total : (g : Row → ℕ) (n : ℕ) → total (in_turn rows n) g ≡ sum n (λ s. total (rows s) g)
  unfolding in_turn sum
  turn-total g zero = refl
  turn-total g (suc n) = omega (arith, turn-total g n, total-append (in_turn rows n) (rows n) g)

  pub turn-few : (c n : ℕ) → ((s : ℕ) → s < n → length (rows s) ≤ c) → length (in_turn rows n) ≤ n * c
  unfolding in_turn
  turn-few c zero h = omega arith
  turn-few c (suc n) h =
      omega (arith, turn-few c n (λ s l. h s (omega arith)), h n (omega arith), length-append (in_turn rows n) (rows n))
