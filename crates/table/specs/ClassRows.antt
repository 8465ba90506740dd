-- Classes from the listed memories: the last that suffices, counted in a walk.
use Rattle.std.specs.Prelude.{ℕ, zero, suc, ◌≤◌, ◌<◌, ◌≡◌, refl, length, get_or, MatchOption, Some, None}
use Rattle.std.specs.Option.{unwrap_or}
use Rattle.std.specs.declared.option.Option.{Option}
use Rattle.std.proofs.Math.Path.{ap}
use Rattle.std.proofs.Common.{sym, ◌∙◌, arith, le-leb}
use Rattle.std.proofs.Math.Decide.{dec_lt}
use Rattle.std.proofs.lemmas.Bool.{lt-leb}
use Rattle.sums.specs.Lists.{tabulate}
use Rattle.sums.specs.Places.{get_d_tabulate, tabulate-cong, tabulate-get_or}
use Rattle.order.specs.Order.{Order, Job, processor_count}
use Rattle.order.specs.Class.{classes, last_that_suffices, class_for, class_of}
use Rattle.order.proofs.ClassLaws.{class-suffices, class-at-most, classes-few}
use Rattle.order.specs.Table.{padded}
use Rattle.table.specs.Passed.{listing}
use Rattle.table.specs.declared.Listing.{Listing}

-- the first k suffice and the next does not; or all do
pub last-stops : (need n k : ℕ) (f : ℕ → ℕ) → k < n → ((i : ℕ) → i < k → need ≤ f i) → f k < need →
    last_that_suffices need (tabulate n f) ≡ k
unfolding last_that_suffices
last-stops need zero k f l h s = absurd (omega arith)
last-stops need (suc n) zero f l h s = rw (lt-leb need (f 0) s)
last-stops need (suc n) (suc k) f l h s =
    rw (le-leb need (f 0) (h 0 (omega arith)))
    (ap suc (last-stops need n k (λ i. f (suc i)) (omega arith) (λ i b. h (suc i) (omega arith)) s))

pub last-all : (need n k : ℕ) (f : ℕ → ℕ) → n ≡ k → ((i : ℕ) → i < k → need ≤ f i) → last_that_suffices need (tabulate n f) ≡ k
unfolding last_that_suffices
last-all need zero k f e h = e
last-all need (suc n) zero f e h = absurd (omega arith)
last-all need (suc n) (suc k) f e h =
    rw (le-leb need (f 0) (h 0 (omega arith)))
    (ap suc (last-all need n k (λ i. f (suc i)) (omega arith) (λ i b. h (suc i) (omega arith))))

-- those before one suffice: so the first one from there on that does not is the last that suffices, or all do
module _ (need n from : ℕ) (f : ℕ → ℕ) (l : from ≤ n) (before : (i : ℕ) → i < from → need ≤ f i) where
  abbrev sufficing : ℕ → Type 0
  sufficing k = (i : ℕ) → from ≤ i → i < k → need ≤ f i

  each : (k : ℕ) → sufficing k → (i : ℕ) → i < k → need ≤ f i
  each k after i b = elim (dec_lt i from) [ yes h ↦ before i h | no h ↦ after i (omega arith) b ]

  pub first-short : (found : Option ℕ) →
      MatchOption found (sufficing n) (λ k. (from ≤ k) × (k < n) × (f k < need) × sufficing k) →
      (unwrap_or found n ≤ n) × (unwrap_or found n ≡ last_that_suffices need (tabulate n f))
  first-short None after = (omega arith, sym (last-all need n n f refl (each n after)))
  first-short (Some k) after = (omega arith, sym (last-stops need n k f after.1 (each k after.3) after.2))

-- the classes that a listing of an order holds
module _ (o : Order) (few : processor_count o ≤ 16) (l : Listing) (e : l ≡ listing o) where
  pub few-listed : l.count ≤ 16
  few-listed = omega (arith, ap (λ (l : Listing). l.count) e, classes-few o)

  pub listed-is : tabulate l.count (λ i. get_or l.memories i 0) ≡ classes o
  listed-is =
      ap (λ (l : Listing). tabulate l.count (λ i. get_or l.memories i 0)) e
      ∙ tabulate-cong (length (classes o)) (λ i. get_or (padded 16 (classes o)) i 0) (λ i. get_or (classes o) i 0)
      (λ i b. get_d_tabulate 16 (λ i. get_or (classes o) i 0) 0 i (omega (arith, classes-few o)))
      ∙ tabulate-get_or (classes o) 0

  pub class-is : (need : ℕ) → last_that_suffices need (tabulate l.count (λ i. get_or l.memories i 0)) ≡ class_for o need
  unfolding class_for
  class-is need = ap (last_that_suffices need) listed-is

  -- the classes up to a need's own suffice for it
  pub listed-suffices : (need i : ℕ) → i < class_for o need → need ≤ get_or l.memories i 0
  listed-suffices need i b =
      let n : i < length (classes o) = omega (arith, class-at-most o need) in
      let e : get_or l.memories i 0 ≡ get_or (classes o) i 0
      = ap (λ (l : Listing). get_or l.memories i 0) e
      ∙ get_d_tabulate 16 (λ i. get_or (classes o) i 0) 0 i (omega (arith, classes-few o)) in
      omega (arith, e, (class-suffices o need i n).0 b)

  pub class-of-is : (job : Job) →
      last_that_suffices job.need (tabulate l.count (λ i. get_or l.memories i 0)) ≡ class_of o job
  unfolding class_of
  class-of-is job = class-is job.need
