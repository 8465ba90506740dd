-- The reasons listed are those that stand, and document 01's reason is the first of them.
use Rattle.std.specs.Prelude.{ℕ, suc, ◌<◌, Bool, cond, ◌||◌, ◌⊎◌, ◌↔◌, ℤ, pos, negsuc, length, ◌<ℤ◌}
use Rattle.std.proofs.Math.Path.{◌≡◌, refl, sym, ap, subst}
use Rattle.std.proofs.Common.{◌∙◌, arith, eqb-true, eq-eqb}
use Rattle.std.proofs.Math.Bool.{true, false}
use mathlib.Core.List.{List, [], ◌∷◌, map}
use Rattle.std.proofs.Math.Logic.{inl, inr}
use Rattle.std.specs.Int.Signed.{lt_z, clash_ℤ}
use Rattle.sums.specs.Lists.{In, keep, tabulate}
use Rattle.sums.specs.Members.{All-in, in_map, map-in}
use Rattle.sums.specs.Places.{numbers-are, numbers-in, numbers-rise}
use Rattle.sums.specs.Same.{Tells, list_tells}
use Rattle.order.specs.Order.{Order, job_count, Numbers, job_of, end_of}
use Rattle.order.specs.Sorted.{due_times}
use Rattle.order.specs.Class.{classes}
use Rattle.order.specs.Refusals.{clear}
use Rattle.order.specs.Whole.{lt_z-true, true-lt_z, lt_z-false}
use Rattle.profile.specs.Profile.{Overfull}
use Rattle.profile.specs.Reason.{Reason, over_end, stairs, OverEnd, InTime, FirstOverEnd, IsReason, Stands, owed_of, on_hand_of}
use Rattle.profile.proofs.ReasonLaws.{reason-found, reason-none}
use Rattle.profile.specs.Search.{Found, nothing, found, ranked, first_such, is_overfull, first_overfull, reason_by, reason_of}
use Rattle.profile.proofs.SearchLaws.{
  found-passes,
  found_first,
  profile-ranked,
  overfull-some,
  first_overfull-found,
  first_overfull-none,
}
use Rattle.profile.specs.Standing.{jobs_over_end, overfull_stairs, or_else, reasons_at, head_of, same_z, same_reason, is_one_of, is_standing}

-- document 01's reason stands
pub reason-stands : (o : Order) (bound : ℤ) (r : Reason) → IsReason o bound r → Stands o bound r
reason-stands o bound (over_end j) h = (h.a-job, h.over)
reason-stands o bound (stairs dues) h = (h.all-in-time, h.stairs.overfull)

-- in a reason that stands the minutes owed exceed those on hand
pub stands-exceeds : (o : Order) (bound : ℤ) (r : Reason) → Stands o bound r → on_hand_of o bound r <ℤ pos (owed_of o bound r)
stands-exceeds o bound (over_end j) h = h.1
stands-exceeds o bound (stairs dues) h = h.1.exceeds

-- the tests tell what is equal
pub z-tells : Tells same_z
z-tells (pos m) (pos n) = (λ e. ap pos (eqb-true m n e), λ e. eq-eqb m n (cc))
z-tells (pos m) (negsuc n) = (
  λ e. let z : ◌≡◌ {A = ℕ} 0 1 = cc in absurd (omega arith),
  λ e. let z : ◌≡◌ {A = ℕ} 0 1 = cc in absurd (omega arith),
)
z-tells (negsuc m) (pos n) = (
  λ e. let z : ◌≡◌ {A = ℕ} 0 1 = cc in absurd (omega arith),
  λ e. let z : ◌≡◌ {A = ℕ} 0 1 = cc in absurd (omega arith),
)
z-tells (negsuc m) (negsuc n) = (λ e. ap negsuc (eqb-true m n e), λ e. eq-eqb m n (cc))

pub reason-tells : Tells same_reason
reason-tells (over_end i) (over_end j) = (λ e. ap over_end (eqb-true i j e), λ e. eq-eqb i j (cc))
reason-tells (over_end i) (stairs es) = (
  λ e. let z : ◌≡◌ {A = ℕ} 0 1 = cc in absurd (omega arith),
  λ e. let z : ◌≡◌ {A = ℕ} 0 1 = cc in absurd (omega arith),
)
reason-tells (stairs ds) (over_end j) = (
  λ e. let z : ◌≡◌ {A = ℕ} 0 1 = cc in absurd (omega arith),
  λ e. let z : ◌≡◌ {A = ℕ} 0 1 = cc in absurd (omega arith),
)
reason-tells (stairs ds) (stairs es) =
    let t = list_tells same_z z-tells ds es in (λ e. ap stairs (t.0 e), λ e. t.1 (cc))

-- one of some
one_in : (r : Reason) (ss : List Reason) → (is_one_of r ss ≡ true) ↔ In r ss
unfolding is_one_of
one_in r [] = (λ e. let z : ◌≡◌ {A = ℕ} 0 1 = cc in absurd (omega arith), λ i. absurd i)
one_in r (s ∷ ss) = (λ e. at (same_reason r s) refl e (one_in r ss).0, λ i. back i (one_in r ss).1)
  where
    at : (b : Bool) → same_reason r s ≡ b → (b || is_one_of r ss) ≡ true → (is_one_of r ss ≡ true → In r ss) → In r (s ∷ ss)
    at true f e g = inl ((reason-tells r s).0 f)
    at false f e g = inr (g e)

    by : (b : Bool) → is_one_of r ss ≡ true → (b || is_one_of r ss) ≡ true
    by true e = refl
    by false e = e

    back : In r (s ∷ ss) → (In r ss → is_one_of r ss ≡ true) → (same_reason r s || is_one_of r ss) ≡ true
    back (inl e) g = rw ((reason-tells r s).1 e) refl
    back (inr i) g = by (same_reason r s) (g i)

-- what is kept
module _ {A : Type 0} (test : A → Bool) where
  kept_in : (xs : List A) (x : A) → In x (keep test xs) ↔ (In x xs × (test x ≡ true))
  unfolding keep
  kept_in [] x = (λ i. absurd i, λ h. absurd h.0)
  kept_in (y ∷ xs) x = at (test y) refl (kept_in xs x)
    where
      at : (b : Bool) → test y ≡ b → In x (keep test xs) ↔ (In x xs × (test x ≡ true)) →
          In x (cond b (y ∷ keep test xs) (keep test xs)) ↔ (In x (y ∷ xs) × (test x ≡ true))
      at true t r = (
        λ i. elim i [ inl e ↦ (inl e, ap test e ∙ t) | inr j ↦ let h = r.0 j in (inr h.0, h.1) ],
        λ h. elim h.0 [ inl e ↦ inl e | inr j ↦ inr (r.1 (j, h.1)) ],
      )
      at false t r = (
        λ i. let h = r.0 i in (inr h.0, h.1),
        λ h. elim h.0 [
          | inl e ↦ let z : ◌≡◌ {A = ℕ} 0 1 = cc (h.1, ap test e, t) in absurd (omega arith)
          | inr j ↦ r.1 (j, h.1)
        ],
      )

-- a list, or another where it has no member
or_else-in : {A : Type 0} (xs ys : List A) (x : A) → In x (or_else xs ys) → In x xs ⊎ ((xs ≡ []) × In x ys)
or_else-in [] ys x i = inr (refl, i)
or_else-in (y ∷ xs) ys x i = inl i

module _ (o : Order) (bound : ℤ) where
  -- the jobs listed are those over their ends
  job-listed : (j : ℕ) → In j (jobs_over_end o bound) ↔ (Numbers (job_count o) j × OverEnd bound (job_of o j))
  unfolding jobs_over_end
  job-listed j =
      let k = kept_in (λ j. lt_z (end_of bound (job_of o j)) (pos (job_of o j).time)) (tabulate (job_count o) suc) j in (
        λ i. let h = k.0 i in (All-in _ (tabulate (job_count o) suc) (numbers-are (job_count o)) j h.0, lt_z-true _ _ h.1),
        λ h. k.1 (numbers-in (job_count o) j h.0.0 h.0.1, true-lt_z _ _ h.1),
      )

  -- the staircases listed are those overfull
  stairs-listed : (dues : List ℤ) → In dues (overfull_stairs o bound) ↔ Overfull o bound dues
  unfolding overfull_stairs
  stairs-listed dues =
      let k = kept_in (is_overfull o bound) (ranked (length (classes o)) (due_times o)) dues in (
        λ i. let h = k.0 i in record { profile = ((profile-ranked o bound dues).1 h.0).0; exceeds = lt_z-true _ _ h.1 },
        λ h. k.1 ((profile-ranked o bound dues).0 (h.profile, overfull-some o bound dues h), true-lt_z _ _ h.exceeds),
      )

  -- no job is listed exactly where all are in time
  none_over : map over_end (jobs_over_end o bound) ≡ [] → (j : ℕ) → Numbers (job_count o) j → InTime bound (job_of o j)
  none_over e j n = at (lt_z (end_of bound (job_of o j)) (pos (job_of o j).time)) refl
    where
      at : (b : Bool) → lt_z (end_of bound (job_of o j)) (pos (job_of o j).time) ≡ b → InTime bound (job_of o j)
      at true t =
          absurd (subst (In (over_end j)) e (map-in over_end (jobs_over_end o bound) j ((job-listed j).1 (n, lt_z-true _ _ t))))
      at false t = lt_z-false _ _ t

  over_none : ((j : ℕ) → Numbers (job_count o) j → InTime bound (job_of o j)) → jobs_over_end o bound ≡ []
  over_none h = at (jobs_over_end o bound) (λ j i. (job-listed j).0 i)
    where
      at : (js : List ℕ) → ((j : ℕ) → In j js → Numbers (job_count o) j × OverEnd bound (job_of o j)) → js ≡ []
      at [] g = refl
      at (j ∷ js) g = let k = g j (inl refl) in absurd (clash_ℤ k.1 (h j k.0))

  listed-stands : (r : Reason) → In r (reasons_at o bound) → Stands o bound r
  unfolding reasons_at
  listed-stands r i =
      elim (or_else-in (map over_end (jobs_over_end o bound)) (map stairs (overfull_stairs o bound)) r i) [
        | inl m ↦
            let f = in_map over_end (jobs_over_end o bound) r m in
            subst (Stands o bound) (sym f.2) ((job-listed f.0).0 f.1)
        | inr m ↦
            let f = in_map stairs (overfull_stairs o bound) r m.1 in
            subst (Stands o bound) (sym f.2) (none_over m.0, (stairs-listed f.0).0 f.1)
      ]

  first-in : {A : Type 0} (xs ys : List A) (x : A) → In x xs → In x (or_else xs ys)
  first-in [] ys x i = absurd i
  first-in (y ∷ xs) ys x i = i

  stands-listed : (r : Reason) → Stands o bound r → In r (reasons_at o bound)
  unfolding reasons_at
  stands-listed (over_end j) h =
      first-in (map over_end (jobs_over_end o bound)) _ (over_end j) (map-in over_end (jobs_over_end o bound) j ((job-listed j).1 h))
  stands-listed (stairs dues) h =
      rw (over_none h.0) (map-in stairs (overfull_stairs o bound) dues ((stairs-listed dues).1 h.1))

  -- the reasons listed are those that stand
  pub reasons-are : (r : Reason) → In r (reasons_at o bound) ↔ Stands o bound r
  reasons-are r = (listed-stands r, stands-listed r)

  pub standing-is : (r : Reason) → (is_standing o bound r ≡ true) ↔ Stands o bound r
  standing-is r =
      let k = one_in r (reasons_at o bound) in (λ e. listed-stands r (k.0 e), λ h. k.1 (stands-listed r h))

-- the first of those kept is the first that passes
head-kept : {A : Type 0} (test : A → Bool) (xs : List A) → head_of (keep test xs) ≡ first_such test xs
unfolding keep first_such
head-kept test [] = refl
head-kept test (x ∷ xs) = at (test x) (head-kept test xs)
  where
    at : (b : Bool) → head_of (keep test xs) ≡ first_such test xs →
        head_of (cond b (x ∷ keep test xs) (keep test xs)) ≡ cond b (found x) (first_such test xs)
    at true e = refl
    at false e = e

module _ (o : Order) (bound : ℤ) where
  abbrev is_over : ℕ → Bool
  is_over j = lt_z (end_of bound (job_of o j)) (pos (job_of o j).time)

  -- the first job listed is the first over its end
  first-over : (j : ℕ) (js : List ℕ) → jobs_over_end o bound ≡ j ∷ js → FirstOverEnd o bound j
  unfolding jobs_over_end
  first-over j js e =
      let f : first_such is_over (tabulate (job_count o) suc) ≡ found j
      = sym (head-kept is_over (tabulate (job_count o) suc)) ∙ ap head_of e in
      let p = found-passes is_over (tabulate (job_count o) suc) j f in
      record {
        a-job = All-in _ (tabulate (job_count o) suc) (numbers-are (job_count o)) j p.0;
        over = lt_z-true _ _ p.1;
        first = λ i n l. at f i n l (is_over i) refl;
      }
    where
      at : first_such is_over (tabulate (job_count o) suc) ≡ found j → (i : ℕ) → Numbers (job_count o) i → i < j →
          (b : Bool) → is_over i ≡ b → InTime bound (job_of o i)
      at f i n l true t =
          elim (found_first is_over (λ (x y : ℕ). x < y) (tabulate (job_count o) suc) j (numbers-rise (job_count o)) f i
          (numbers-in (job_count o) i n.0 n.1) t) [
            | inl q ↦ absurd (omega arith)
            | inr q ↦ absurd (omega arith)
          ]
      at f i n l false t = lt_z-false _ _ t

  head-stairs : (xs : List (List ℤ)) (f : Found (List ℤ)) → head_of xs ≡ f → head_of (map stairs xs) ≡ reason_by clear f
  head-stairs [] nothing e = refl
  head-stairs [] (found x) e = let z : ◌≡◌ {A = ℕ} 0 1 = cc in absurd (omega arith)
  head-stairs (x ∷ xs) nothing e = let z : ◌≡◌ {A = ℕ} 0 1 = cc in absurd (omega arith)
  head-stairs (x ∷ xs) (found y) e = let q : x ≡ y = cc in ap (λ (d : List ℤ). found (stairs d)) q

  -- document 01's reason is the first of those that stand
  pub reason-first : reason_of o bound ≡ head_of (reasons_at o bound)
  unfolding reasons_at overfull_stairs first_overfull
  reason-first = at (jobs_over_end o bound) refl
    where
      stairs-first : jobs_over_end o bound ≡ [] → (f : Found (List ℤ)) → first_overfull o bound ≡ f →
          reason_of o bound ≡ reason_by clear f
      stairs-first e nothing g =
          (reason-none o bound).1 (none_over o bound (ap (map over_end) e), (first_overfull-none o bound).0 g)
      stairs-first e (found dues) g =
          (reason-found o bound (stairs dues)).1
          (record { all-in-time = none_over o bound (ap (map over_end) e); stairs = (first_overfull-found o bound dues).0 g })

      at : (js : List ℕ) → jobs_over_end o bound ≡ js →
          reason_of o bound ≡ head_of (or_else (map over_end (jobs_over_end o bound)) (map stairs (overfull_stairs o bound)))
      at [] e =
          stairs-first e (first_overfull o bound) refl
          ∙ (sym (head-stairs (overfull_stairs o bound) (first_overfull o bound)
          (head-kept (is_overfull o bound) (ranked (length (classes o)) (due_times o))))
          ∙ ap (λ (xs : List ℕ). head_of (or_else (map over_end xs) (map stairs (overfull_stairs o bound)))) (sym e))
      at (j ∷ js) e =
          (reason-found o bound (over_end j)).1 (first-over j js e)
          ∙ ap (λ (xs : List ℕ). head_of (or_else (map over_end xs) (map stairs (overfull_stairs o bound)))) (sym e)
