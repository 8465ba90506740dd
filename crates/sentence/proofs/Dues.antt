-- Due times as the code asks for them.
use Rattle.std.proofs.Common.{ℕ, zero, suc, ◌+◌, ◌<◌, ◌≤◌, ◌≡◌, refl, sym, ap, ◌∙◌, subst, Bool, true, false, ◌||◌, List, [], ◌∷◌, ◌↔◌, ℤ, pos, length, get_or, take, arith, length-take-le, get_or-take, int_le, ◌≤ℤ◌, int_eq}
use Rattle.std.proofs.Math.Bool.{true≢false}
use Rattle.std.proofs.Math.Decide.{ℕ_discrete}
use Rattle.std.specs.Cmp.{signed_Decides}
use Rattle.std.specs.List.{list_any, list_all, AllAdjacentBelow, IsAllAdjacentAnswer}
use Rattle.std.proofs.lemmas.List.Folds.{list_any_at}
use Rattle.sums.specs.Lists.{All, In}
use Rattle.sums.specs.Pairs.{Pairwise-at, Pairwise-from}
use Rattle.sums.specs.Places.{get_d_tabulate}
use Rattle.order.specs.Order.{Job, no_job, job_count, Numbers, job_of}
use Rattle.order.proofs.RefusalLaws.{both_true, le_z-true, true-le_z}
use Rattle.order.specs.Whole.{≤ℤ-trans}
use Rattle.order.specs.Sorted.{due_times}
use Rattle.order.specs.Table.{order_of, job_at}
use Rattle.order.proofs.StructLaws.{job-count}
use Rattle.order.specs.declared.Order.{Order as OrderTable}
use Rattle.profile.proofs.SearchLaws.{due_in, in-due}
use Rattle.profile.proofs.StandingLaws.{z-tells}
use Rattle.profile.specs.Standing.{same_z}
use Rattle.sentence.specs.Handed.{all_zero}
use Rattle.sentence.specs.Inside.{is_due, StepsFit}

-- all zero, as the code asks it
both-ways : (a b : Bool) → (a ≡ true → b ≡ true) → (b ≡ true → a ≡ true) → a ≡ b
both-ways true b f g = sym (f refl)
both-ways false true f g = g refl
both-ways false false f g = refl

zero-told : (d : ℤ) → int_eq d (pos 0) ≡ same_z d (pos 0)
zero-told d =
    both-ways _ _ (λ e. (z-tells d (pos 0)).1 ((signed_Decides d (pos 0)).0 e)) (λ e. (signed_Decides d (pos 0)).1 ((z-tells d (pos 0)).0 e))

pub zeros-told : (dues : List ℤ) → list_all (λ (d : ℤ). int_eq d (pos 0)) dues ≡ all_zero dues
unfolding all_zero
zeros-told [] = refl
zeros-told (d ∷ dues) = rw (zero-told d, zeros-told dues)

-- a due time is one of an order's jobs exactly if it stands at some place
pub due-listed : (t : OrderTable) (i : ℕ) → i < t.jobs → In (get_or t.dues i (pos 0)) (due_times (order_of t))
due-listed t i l =
    subst (λ (d : ℤ). In d (due_times (order_of t))) (ap (λ (job : Job). job.due) (get_d_tabulate t.jobs (job_at t) no_job i l))
    (due_in (order_of t) (suc i) (omega arith, omega (arith, job-count t)))

pub listed-due : (t : OrderTable) (d : ℤ) → In d (due_times (order_of t)) → (i : ℕ) × (i < t.jobs) × (get_or t.dues i (pos 0) ≡ d)
listed-due t d h = at (in-due (order_of t) d h)
  where
    at : (j : ℕ) × Numbers (job_count (order_of t)) j × (d ≡ (job_of (order_of t) j).due) →
        (i : ℕ) × (i < t.jobs) × (get_or t.dues i (pos 0) ≡ d)
    at (zero, n, e) = absurd (omega (arith, n.0))
    at (suc i, n, e) =
        let l : i < t.jobs = omega (arith, n.1, job-count t) in
        (i, l, sym (e ∙ ap (λ (job : Job). job.due) (get_d_tabulate t.jobs (job_at t) no_job i l)))

any-place : (p : ℤ → Bool) (xs : List ℤ) → list_any p xs ≡ true → (i : ℕ) × (i < length xs) × (p (get_or xs i (pos 0)) ≡ true)
any-place p [] e = absurd (true≢false (sym e))
any-place p (x ∷ xs) e = at (p x) refl e (any-place p xs)
  where
    at : (b : Bool) → p x ≡ b → (b || list_any p xs) ≡ true →
        (list_any p xs ≡ true → (i : ℕ) × (i < length xs) × (p (get_or xs i (pos 0)) ≡ true)) →
        (i : ℕ) × (i < suc (length xs)) × (p (get_or (x ∷ xs) i (pos 0)) ≡ true)
    at true q e later = (0, omega arith, q)
    at false q e later = let r = later e in (suc r.0, omega (arith, r.1), r.2)

module _ (t : OrderTable) (room : t.jobs ≤ length t.dues) where
  size : length (take t.jobs t.dues) ≡ t.jobs
  size = length-take-le t.jobs t.dues room

  asked-told : (due : ℤ) → is_due t due ≡ true → In due (due_times (order_of t))
  asked-told due e =
      let r = any-place (λ (d : ℤ). int_eq d due) (take t.jobs t.dues) e in
      let l : r.0 < t.jobs = omega (arith, r.1, size) in
      let same : get_or t.dues r.0 (pos 0) ≡ due
      = sym (get_or-take t.jobs t.dues r.0 (pos 0) l) ∙ (signed_Decides _ _).0 r.2 in
      subst (λ (d : ℤ). In d (due_times (order_of t))) same (due-listed t r.0 l)

  told-asked : (due : ℤ) → In due (due_times (order_of t)) → is_due t due ≡ true
  told-asked due m =
      let r = listed-due t due m in
      list_any_at (λ (d : ℤ). int_eq d due) (take t.jobs t.dues) r.0 (pos 0) (omega (arith, r.1, size))
      ((signed_Decides _ _).1 (get_or-take t.jobs t.dues r.0 (pos 0) r.1 ∙ r.2))

  due-all : (dues : List ℤ) → list_all (is_due t) dues ≡ true → All (λ (d : ℤ). In d (due_times (order_of t))) dues
  due-all [] e = tt
  due-all (d ∷ dues) e =
      let h = both_true (is_due t d) (list_all (is_due t) dues) e in
      (asked-told d h.0, due-all dues h.1)

  all-due : (dues : List ℤ) → All (λ (d : ℤ). In d (due_times (order_of t))) dues → list_all (is_due t) dues ≡ true
  all-due [] h = refl
  all-due (d ∷ dues) h = rw (told-asked d h.0, all-due dues h.1) refl

  -- whether due times fit: all are some job's, and they are sorted
  module _ (dues : List ℤ) where
    falls-to : AllAdjacentBelow (λ x y. true ≡ int_le y x) dues (length dues) → (i e : ℕ) → i < e → e < length dues →
        get_or dues e (pos 0) ≤ℤ get_or dues i (pos 0)
    falls-to h i zero l m = absurd (omega arith)
    falls-to h i (suc e) l m =
        let n : e + 1 ≡ suc e = omega arith in
        let next : get_or dues (suc e) (pos 0) ≤ℤ get_or dues e (pos 0)
        = subst (λ (k : ℕ). get_or dues k (pos 0) ≤ℤ get_or dues e (pos 0)) n
        (le_z-true _ _ (sym (h e (pos 0) (omega arith)))) in
        elim (ℕ_discrete i e) [
          | yes q ↦ rw q next
          | no q ↦ ≤ℤ-trans _ _ _ next (falls-to h i e (omega arith) (omega arith))
        ]

    pub fit-told : list_all (is_due t) dues ≡ true → (sorted : Bool) →
        IsAllAdjacentAnswer (λ x y b. b ≡ int_le y x) dues sorted → (sorted ≡ true) ↔ StepsFit (order_of t) dues
    fit-told e true h = (
      λ _. record { due = due-all dues e; falls = Pairwise-from (λ (d e : ℤ). e ≤ℤ d) dues (pos 0) (falls-to h) },
      λ _. refl,
    )
    fit-told e false h = (
      λ f. absurd (true≢false (sym f)),
      λ s. absurd (true≢false (sym (true-le_z _ _ (Pairwise-at (λ (d e : ℤ). e ≤ℤ d) dues (pos 0) s.falls h.0 (h.0 + 1)
          (omega arith) h.1)) ∙ sym (h.2 (pos 0)))),
    )

    pub unfit-told : (b : Bool) → b ≡ list_all (is_due t) dues → b ≡ false → (b ≡ true) ↔ StepsFit (order_of t) dues
    unfit-told b a f = (λ e. absurd (true≢false (sym e ∙ f)), λ s. a ∙ all-due dues s.due)
