-- The lists that the search tries are the profiles' due times, and they stand by rank: document 01's "the fewest classes,
-- then the earliest time for class 1, then for class 2, and so on".
use Rattle.std.specs.Prelude.{ℕ, zero, suc, ◌≤◌, ◌≡◌, refl, true, List, [], ◌∷◌, map, ◌↔◌, ℤ, length, ◌≤ℤ◌, ◌<ℤ◌}
use Rattle.std.proofs.Common.{ap, subst, inl, inr, arith}
use Rattle.std.proofs.Math.Decide.{ℕ_discrete}
use Rattle.std.specs.Int.Signed.{lt_z, ≤ℤ_refl, <ℤ_irrefl, clash_ℤ}
use Rattle.sums.specs.Lists.{All, In, Pairwise}
use Rattle.sums.specs.Members.{All-map, All-in, in-All, in-append, in_left, in_right, in_map, map-in}
use Rattle.sums.specs.Pairs.{Pairwise-map, Pairwise-append, Pairwise-of-map}
use Rattle.order.specs.Whole.{lt_z-true, <ℤ-≤ℤ, ≤ℤ-<ℤ-trans}
use Rattle.profile.specs.Profile.{Earlier, RanksBefore}
use Rattle.profile.specs.Search.{choices, ranked}

-- every later member is less
abbrev pub Falls : List ℤ → Type 0
Falls dues = Pairwise (λ (d e : ℤ). lt_z e d ≡ true) dues

-- members of dues that never rise
pub record Chosen (dues es : List ℤ) : Type 0 where
  pub never-rise : Pairwise (λ (d e : ℤ). e ≤ℤ d) es
  pub members : All (λ (d : ℤ). In d dues) es

-- the first of a falling list is the largest, and what is less stands behind it
head-largest : (d : ℤ) (dues : List ℤ) → Falls (d ∷ dues) → (e : ℤ) → In e (d ∷ dues) → e ≤ℤ d
head-largest d dues h e (inl p) = rw p (≤ℤ_refl d)
head-largest d dues h e (inr i) = <ℤ-≤ℤ e d (lt_z-true e d (All-in _ dues h.0 e i))

behind-head : (d : ℤ) (dues : List ℤ) (e : ℤ) → e <ℤ d → In e (d ∷ dues) → In e dues
behind-head d dues e l (inl p) = absurd (<ℤ_irrefl (subst (λ (z : ℤ). z <ℤ d) p l))
behind-head d dues e l (inr i) = i

-- a list chosen from a longer list whose first member is less than the list's head is chosen from the tail
chosen-behind : (d : ℤ) (dues : List ℤ) (e : ℤ) (es : List ℤ) → e <ℤ d → Chosen (d ∷ dues) (e ∷ es) → Chosen dues (e ∷ es)
chosen-behind d dues e es l c = record {
  never-rise = c.never-rise;
  members = in-All _ (e ∷ es) (λ x i.
      behind-head d dues x (≤ℤ-<ℤ-trans x e d (at_most x i) l) (All-in _ (e ∷ es) c.members x i));
}
  where
    at_most : (x : ℤ) → In x (e ∷ es) → x ≤ℤ e
    at_most x (inl p) = rw p (≤ℤ_refl e)
    at_most x (inr i) = All-in _ es c.never-rise.0 x i

-- what is tried is chosen
choices-chosen : (k : ℕ) (dues : List ℤ) → Falls dues → (es : List ℤ) → In es (choices k dues) →
    (length es ≡ k) × Chosen dues es
unfolding choices
choices-chosen zero dues h es (inl p) = rw p (refl, record { never-rise = tt; members = tt })
choices-chosen zero dues h es (inr i) = absurd i
choices-chosen (suc k) [] h es i = absurd i
choices-chosen (suc k) (d ∷ dues) h es i =
    elim (in-append (choices (suc k) dues) (map (λ (xs : List ℤ). d ∷ xs) (choices k (d ∷ dues))) es i) [
      | inl m ↦
          let r = choices-chosen (suc k) dues h.1 es m in
          (r.0, record { never-rise = r.1.never-rise; members = All-map _ _ es (λ x j. inr j) r.1.members })
      | inr m ↦
          let f = in_map (λ (xs : List ℤ). d ∷ xs) (choices k (d ∷ dues)) es m in
          let r = choices-chosen k (d ∷ dues) h f.0 f.1 in
          rw f.2 (
            ap suc r.0,
            record {
              never-rise = (All-map _ _ f.0 (head-largest d dues h) r.1.members, r.1.never-rise);
              members = (inl refl, r.1.members);
            },
          )
    ]

-- what is chosen is tried
chosen-choices : (k : ℕ) (dues : List ℤ) → Falls dues → (es : List ℤ) → length es ≡ k → Chosen dues es →
    In es (choices k dues)
unfolding choices
chosen-choices zero dues h [] l c = inl refl
chosen-choices zero dues h (e ∷ es) l c = absurd (omega arith)
chosen-choices (suc k) dues h [] l c = absurd (omega arith)
chosen-choices (suc k) [] h (e ∷ es) l c = absurd c.members.0
chosen-choices (suc k) (d ∷ dues) h (e ∷ es) l c =
    elim c.members.0 [
      | inl p ↦
          in_right (choices (suc k) dues) _ (e ∷ es)
          (rw p (map-in (λ (xs : List ℤ). d ∷ xs) (choices k (d ∷ dues)) es
          (chosen-choices k (d ∷ dues) h es (omega arith)
          (record { never-rise = c.never-rise.1; members = c.members.1 }))))
      | inr m ↦
          in_left (choices (suc k) dues) _ (e ∷ es)
          (chosen-choices (suc k) dues h.1 (e ∷ es) l
          (chosen-behind d dues e es (lt_z-true e d (All-in _ dues h.0 e m)) c))
    ]

-- the lists tried of k classes are those of length k that never rise, of the due times given
pub choices-in : (k : ℕ) (dues : List ℤ) → Falls dues → (es : List ℤ) →
    In es (choices k dues) ↔ ((length es ≡ k) × Chosen dues es)
choices-in k dues h es = (choices-chosen k dues h es, λ c. chosen-choices k dues h es c.0 c.1)

ranked-chosen : (k : ℕ) (dues : List ℤ) → Falls dues → (es : List ℤ) → In es (ranked k dues) →
    (1 ≤ length es) × (length es ≤ k) × Chosen dues es
unfolding ranked
ranked-chosen zero dues h es i = absurd i
ranked-chosen (suc k) dues h es i =
    elim (in-append (ranked k dues) (choices (suc k) dues) es i) [
      | inl m ↦ let r = ranked-chosen k dues h es m in (r.0, omega (arith, r.1), r.2)
      | inr m ↦ let r = choices-chosen (suc k) dues h es m in (omega (arith, r.0), omega (arith, r.0), r.1)
    ]

chosen-ranked : (k : ℕ) (dues : List ℤ) → Falls dues → (es : List ℤ) → 1 ≤ length es → length es ≤ k → Chosen dues es →
    In es (ranked k dues)
unfolding ranked
chosen-ranked zero dues h es l m c = absurd (omega arith)
chosen-ranked (suc k) dues h es l m c =
    elim (ℕ_discrete (length es) (suc k)) [
      | yes e ↦ in_right (ranked k dues) _ es (chosen-choices (suc k) dues h es e c)
      | no e ↦ in_left (ranked k dues) _ es (chosen-ranked k dues h es l (omega arith) c)
    ]

-- the lists tried of at most k classes: those of 1 to k members
pub ranked-in : (k : ℕ) (dues : List ℤ) → Falls dues → (es : List ℤ) →
    In es (ranked k dues) ↔ ((1 ≤ length es) × (length es ≤ k) × Chosen dues es)
ranked-in k dues h es = (ranked-chosen k dues h es, λ c. chosen-ranked k dues h es c.0 c.1 c.2)

-- the lists of k classes stand by the time of class 1, then of class 2, ..
choices-sorted : (k : ℕ) (dues : List ℤ) → Falls dues → Pairwise Earlier (choices k dues)
unfolding choices
choices-sorted zero dues h = (tt, tt)
choices-sorted (suc k) [] h = tt
choices-sorted (suc k) (d ∷ dues) h =
    Pairwise-append Earlier (choices (suc k) dues) (map (λ (xs : List ℤ). d ∷ xs) (choices k (d ∷ dues)))
    (choices-sorted (suc k) dues h.1)
    (Pairwise-of-map (λ (xs : List ℤ). d ∷ xs) Earlier (choices k (d ∷ dues))
    (Pairwise-map _ _ (choices k (d ∷ dues)) (λ x y e. inr (refl, e)) (choices-sorted k (d ∷ dues) h)))
    (λ x y i j.
    let r = choices-chosen (suc k) dues h.1 x i in
    let f = in_map (λ (xs : List ℤ). d ∷ xs) (choices k (d ∷ dues)) y j in
    rw f.2 (below x f.0 r.0 r.1.members))
  where
    below : (x y : List ℤ) → length x ≡ suc k → All (λ (e : ℤ). In e dues) x → Earlier x (d ∷ y)
    below [] y l m = absurd (omega arith)
    below (e ∷ es) y l m = inl (lt_z-true e d (All-in _ dues h.0 e m.0))

-- the lists stand in ranking order
pub ranked-sorted : (k : ℕ) (dues : List ℤ) → Falls dues → Pairwise RanksBefore (ranked k dues)
unfolding ranked
ranked-sorted zero dues h = tt
ranked-sorted (suc k) dues h =
    Pairwise-append RanksBefore (ranked k dues) (choices (suc k) dues)
    (ranked-sorted k dues h)
    (same_length (choices (suc k) dues) (choices-sorted (suc k) dues h)
    (in-All _ (choices (suc k) dues) (λ es i. (choices-chosen (suc k) dues h es i).0)))
    (λ x y i j. inl (omega (arith, (ranked-chosen k dues h x i).1, (choices-chosen (suc k) dues h y j).0)))
  where
    same_length : (xs : List (List ℤ)) → Pairwise Earlier xs → All (λ (es : List ℤ). length es ≡ suc k) xs →
        Pairwise RanksBefore xs
    same_length [] p l = tt
    same_length (x ∷ xs) p l = (
      in-All _ xs (λ y i. inr (omega (arith, l.0, All-in _ xs l.1 y i), All-in _ xs p.0 y i)),
      same_length xs p.1 l.1,
    )

-- of two lists at most one ranks before the other
earlier-once : (ds es : List ℤ) → Earlier ds es → Earlier es ds → ⊥
earlier-once [] [] h k = h
earlier-once [] (e ∷ es) h k = h
earlier-once (d ∷ ds) [] h k = h
earlier-once (d ∷ ds) (e ∷ es) (inl h) (inl k) = clash_ℤ h (<ℤ-≤ℤ e d k)
earlier-once (d ∷ ds) (e ∷ es) (inl h) (inr k) = <ℤ_irrefl (subst (λ (z : ℤ). d <ℤ z) k.0 h)
earlier-once (d ∷ ds) (e ∷ es) (inr h) (inl k) = <ℤ_irrefl (subst (λ (z : ℤ). e <ℤ z) h.0 k)
earlier-once (d ∷ ds) (e ∷ es) (inr h) (inr k) = earlier-once ds es h.1 k.1

pub ranks-once : (ds es : List ℤ) → RanksBefore ds es → ¬ RanksBefore es ds
ranks-once ds es (inl h) (inl k) = omega arith
ranks-once ds es (inl h) (inr k) = omega (arith, k.0)
ranks-once ds es (inr h) (inl k) = omega (arith, h.0)
ranks-once ds es (inr h) (inr k) = earlier-once ds es h.1 k.1

-- no list ranks before itself
pub ranks-not-itself : (ds : List ℤ) → ¬ RanksBefore ds ds
ranks-not-itself ds h = ranks-once ds ds h h
