-- A search through all lengths, as facts: it finds none that passes a test, or the smallest.
use Rattle.std.specs.Prelude.{ℕ, zero, suc, ◌+◌, ◌≤◌, ◌<◌, ◌≡◌, Bool, true, false, get_or}
use Rattle.std.proofs.Common.{sym, ap, ◌∙◌, subst, true≢false, le_of_suc-le-suc, arith}
use Rattle.sums.specs.Lists.{All, tabulate}
use Rattle.sums.specs.Members.{All-at}
use Rattle.sums.specs.Places.{length-tabulate, get_d_tabulate}
use Rattle.order.proofs.FindingLaws.{Outcome, none_passes, passes_at, outcome}
use Rattle.order.specs.Refusals.{Finding, clear, holds, first}
use Rattle.order.proofs.RefusalLaws.{clear≢holds}
use Rattle.needs.specs.NeedTable.{longest, every_length}
use Rattle.needs.specs.Inside.{Smallest}

-- a length, in minutes
abbrev pub Length : ℕ → Type 0
Length x = (1 ≤ x) × (x ≤ longest)

-- a search through 1 to n finds none that passes, or the smallest
data Searched (n : ℕ) (test : ℕ → Bool) (found : Finding) : Type 0 where
  nowhere : found ≡ clear → ((x : ℕ) → 1 ≤ x → x ≤ n → test x ≡ false) → Searched n test found
  smallest : (x : ℕ) → found ≡ holds x → 1 ≤ x → x ≤ n → ((y : ℕ) → 1 ≤ y → y < x → test y ≡ false) → test x ≡ true →
      Searched n test found

searched : (n : ℕ) (test : ℕ → Bool) → Searched n test (first test (tabulate n suc))
searched n test = go (outcome test 0 0 (tabulate n suc))
  where
    at : (i : ℕ) → i < n → test (get_or (tabulate n suc) i 0) ≡ test (suc i)
    at i l = ap test (get_d_tabulate n suc 0 i l)

    passed : All (λ x. test x ≡ false) (tabulate n suc) → (x : ℕ) → 1 ≤ x → x ≤ n → test x ≡ false
    passed a zero h l = absurd (omega arith)
    passed a (suc i) h l =
        sym (at i l) ∙ All-at (λ x. test x ≡ false) (tabulate n suc) 0 a i (omega (arith, length-tabulate n suc))

    earlier : (i : ℕ) → i < n → ((e : ℕ) → e < i → test (get_or (tabulate n suc) e 0) ≡ false) → (y : ℕ) → 1 ≤ y → y < suc i →
        test y ≡ false
    earlier i l f zero h k = absurd (omega arith)
    earlier i l f (suc y) h k = sym (at y (omega arith)) ∙ f y (le_of_suc-le-suc k)

    go : Outcome test 0 0 (tabulate n suc) → Searched n test (first test (tabulate n suc))
    go (none_passes e a) = nowhere e (passed a)
    go (passes_at i e l f p) =
        let b : i < n = omega (arith, length-tabulate n suc) in
        let is : 0 + i ≡ i = omega arith in
        smallest (suc i) (e ∙ ap (λ (k : ℕ). holds (suc k)) is) (omega arith) b (earlier i b f) (sym (at i b) ∙ p)

-- and so through all lengths
through : (test : ℕ → Bool) → Searched longest test (first test every_length)
unfolding every_length
through test = searched longest test

module _ (test : ℕ → Bool) where
  pub clear-means : first test every_length ≡ clear → (x : ℕ) → Length x → test x ≡ false
  clear-means e x l = go (through test)
    where
      go : Searched longest test (first test every_length) → test x ≡ false
      go (nowhere f h) = h x l.0 l.1
      go (smallest r f o b p h) = absurd (clear≢holds (sym e ∙ f))

  pub means-clear : ((x : ℕ) → Length x → test x ≡ false) → first test every_length ≡ clear
  means-clear h = go (through test)
    where
      go : Searched longest test (first test every_length) → first test every_length ≡ clear
      go (nowhere f g) = f
      go (smallest r f o b p t) = absurd (true≢false (sym t ∙ h r (o, b)))

  pub holds-means : (x : ℕ) → first test every_length ≡ holds x → (x ≤ longest) × Smallest test x
  holds-means x e = go (through test)
    where
      go : Searched longest test (first test every_length) → (x ≤ longest) × Smallest test x
      go (nowhere f h) = absurd (clear≢holds (sym f ∙ e))
      go (smallest r f o b p t) =
          let is : r ≡ x = cc in
          (omega arith, subst (Smallest test) is (record { from_one = o; most = omega arith; before = p; here = λ l. t }))
