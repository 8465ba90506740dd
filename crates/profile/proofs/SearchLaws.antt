-- The search by trying finds document 01's staircase: "in that order the search stops at the first overfull staircase". For
-- every order and every whole number as the bound.
use Rattle.std.specs.Prelude.{ℕ, zero, suc, ◌≤◌, ◌<◌, Bool, ◌⊎◌, ◌↔◌, ℤ, length}
use Rattle.std.proofs.Math.Path.{◌≡◌, refl, ap, subst}
use Rattle.std.proofs.Common.{sym, ◌∙◌, le_of_suc-le-suc}
use Rattle.std.proofs.Math.Bool.{true, false, cond}
use mathlib.Core.List.{List, [], ◌∷◌, map}
use Rattle.std.proofs.Math.Logic.{inl, inr}
use native.Mathlib.Omega.{arith}
use Rattle.std.specs.Int.Signed.{lt_z, <ℤ_irrefl}
use Rattle.sums.specs.Lists.{In, Pairwise, tabulate}
use Rattle.sums.specs.Members.{All-map, All-in, in-at, at_in, in_map, map-in}
use Rattle.sums.specs.Pairs.{Pairwise-map}
use Rattle.order.specs.Order.{Job, Order, job_count, Numbers, no_job, job_of, end_at, end_of}
use Rattle.order.specs.Sorted.{due_times}
use Rattle.order.specs.SortedLaws.{lt_z-strict, distinct-falls, in-distinct, distinct-in}
use Rattle.order.specs.Class.{classes}
use Rattle.order.proofs.EndLaws.{end-le, end-le-of, end_cancel}
use Rattle.order.specs.Whole.{lt_z-true, true-lt_z}
use Rattle.profile.specs.Profile.{owed_from, on_hand_from, Profile, Overfull, RanksBefore, FirstOverfull}
use Rattle.profile.specs.Search.{ranked, Found, nothing, found, first_such, is_overfull, first_overfull}
use Rattle.profile.proofs.Ranking.{Falls, Chosen, ranked-in, ranked-sorted, ranks-once, ranks-not-itself}

-- the first that passes: it is a member and passes, and every other that passes stands behind it
module _ {A : Type 0} (test : A → Bool) where
  pub found-passes : (xs : List A) (x : A) → first_such test xs ≡ found x → In x xs × (test x ≡ true)
  unfolding first_such
  found-passes [] x e = let z : ◌≡◌ {A = ℕ} 0 1 = cc in absurd (omega arith)
  found-passes (y ∷ xs) x e = go (test y) refl e (found-passes xs x)
    where
      go : (b : Bool) → test y ≡ b → cond b (found y) (first_such test xs) ≡ found x →
          (first_such test xs ≡ found x → In x xs × (test x ≡ true)) → In x (y ∷ xs) × (test x ≡ true)
      go true t e f = let q : x ≡ y = cc in (inl q, ap test q ∙ t)
      go false t e f = let r = f e in (inr r.0, r.1)

  pub found_first : (R : A → A → Type 0) (xs : List A) (x : A) → Pairwise R xs → first_such test xs ≡ found x →
      (y : A) → In y xs → test y ≡ true → (y ≡ x) ⊎ R x y
  unfolding first_such
  found_first R [] x s e y i p = absurd i
  found_first R (z ∷ xs) x s e y i p = go (test z) refl e i (found_first R xs x s.1)
    where
      go : (b : Bool) → test z ≡ b → cond b (found z) (first_such test xs) ≡ found x → In y (z ∷ xs) →
          (first_such test xs ≡ found x → (y : A) → In y xs → test y ≡ true → (y ≡ x) ⊎ R x y) → (y ≡ x) ⊎ R x y
      go true t e (inl q) f = inl (cc)
      go true t e (inr m) f = let q : z ≡ x = cc in inr (subst (λ (w : A). R w y) q (All-in (R z) xs s.0 y m))
      go false t e (inl q) f = let w : ◌≡◌ {A = ℕ} 0 1 = cc (ap test q) in absurd (omega arith)
      go false t e (inr m) f = f e y m p

  pub nothing-passes : (xs : List A) → first_such test xs ≡ nothing → (x : A) → In x xs → test x ≡ false
  unfolding first_such
  nothing-passes [] e x i = absurd i
  nothing-passes (y ∷ xs) e x i = go (test y) refl e i (nothing-passes xs)
    where
      go : (b : Bool) → test y ≡ b → cond b (found y) (first_such test xs) ≡ nothing → In x (y ∷ xs) →
          (first_such test xs ≡ nothing → (x : A) → In x xs → test x ≡ false) → test x ≡ false
      go true t e i f = let w : ◌≡◌ {A = ℕ} 0 1 = cc in absurd (omega arith)
      go false t e (inl q) f = ap test q ∙ t
      go false t e (inr m) f = f e x m

-- a search through a list given by its places: the first that passes, or that none does
pub data Searched {A : Type 0} (test : A → Bool) (n : ℕ) (f : ℕ → A) : Type 0 where
  stops_at : (k : ℕ) → k < n → first_such test (tabulate n f) ≡ found (f k) → test (f k) ≡ true →
      ((i : ℕ) → i < k → test (f i) ≡ false) → Searched test n f
  stops_nowhere : first_such test (tabulate n f) ≡ nothing → ((i : ℕ) → i < n → test (f i) ≡ false) → Searched test n f

pub searched : {A : Type 0} (test : A → Bool) (n : ℕ) (f : ℕ → A) → Searched test n f
unfolding first_such
searched test zero f = stops_nowhere refl (λ i l. absurd (omega arith))
searched test (suc n) f = go (test (f 0)) refl (searched test n (λ i. f (suc i)))
  where
    before : (m : ℕ) → test (f 0) ≡ false → ((i : ℕ) → i < m → test (f (suc i)) ≡ false) → (i : ℕ) → i < suc m → test (f i) ≡ false
    before m t h zero l = t
    before m t h (suc i) l = h i (le_of_suc-le-suc l)

    go : (b : Bool) → test (f 0) ≡ b → Searched test n (λ i. f (suc i)) → Searched test (suc n) f
    go true t r = stops_at 0 (omega arith) (rw t refl) t (λ i l. absurd (omega arith))
    go false t (stops_at k l e p h) = stops_at (suc k) (omega arith) (rw t e) p (before k t h)
    go false t (stops_nowhere e h) = stops_nowhere (rw t e) (before n t h)

-- the due times fall, and they are those of the jobs
pub due_times-fall : (o : Order) → Falls (due_times o)
unfolding due_times
due_times-fall o = distinct-falls lt_z lt_z-strict (map (λ (job : Job). job.due) o.jobs)

pub due_in : (o : Order) (j : ℕ) → Numbers (job_count o) j → In (job_of o j).due (due_times o)
unfolding due_times
due_in o zero b = absurd (omega (arith, b.0))
due_in o (suc j) b =
    in-distinct lt_z lt_z-strict _ (map (λ (job : Job). job.due) o.jobs)
    (map-in (λ (job : Job). job.due) o.jobs (job_of o (suc j)) (at_in o.jobs no_job j b.1))

pub in-due : (o : Order) (d : ℤ) → In d (due_times o) → (j : ℕ) × Numbers (job_count o) j × (d ≡ (job_of o j).due)
unfolding due_times
in-due o d i =
    let m = in_map (λ (job : Job). job.due) o.jobs d
    (distinct-in lt_z lt_z-strict d (map (λ (job : Job). job.due) o.jobs) i) in
    let p = in-at o.jobs no_job m.0 m.1 in
    (suc p.0, (omega arith, p.1), m.2 ∙ ap (λ (job : Job). job.due) (sym p.2))

module _ (o : Order) (bound : ℤ) where
  -- the ends of a profile never rise exactly if its due times do not, and an end is a job's exactly if its due time is
  pub profile-chosen : (dues : List ℤ) → Profile o bound dues → Chosen (due_times o) dues
  unfolding end_of
  profile-chosen dues p = record {
    never-rise = Pairwise-map _ _ dues (λ (d e : ℤ) h. end-le-of bound e d h) p.never-rise;
    members = All-map _ _ dues
        (λ (d : ℤ) h. subst (λ (z : ℤ). In z (due_times o)) (sym (end_cancel bound d (job_of o h.0).due h.2))
        (due_in o h.0 h.1)) p.of-jobs;
  }

  pub chosen-profile : (dues : List ℤ) → length dues ≤ length (classes o) → Chosen (due_times o) dues → Profile o bound dues
  unfolding end_of
  chosen-profile dues l c = record {
    of-classes = l;
    never-rise = Pairwise-map _ _ dues (λ (d e : ℤ) h. end-le bound e d h) c.never-rise;
    of-jobs = All-map _ _ dues
        (λ (d : ℤ) h. let j = in-due o d h in (j.0, j.1, ap (end_at bound) j.2)) c.members;
  }

  -- the profiles of one class or more are the lists that the search tries
  pub profile-ranked : (dues : List ℤ) →
      (Profile o bound dues × (1 ≤ length dues)) ↔ In dues (ranked (length (classes o)) (due_times o))
  profile-ranked dues =
      let r = ranked-in (length (classes o)) (due_times o) (due_times-fall o) dues in (
        λ p. r.1 (p.1, p.0.of-classes, profile-chosen dues p.0),
        λ i. let c = r.0 i in (chosen-profile dues c.1 c.2, c.0),
      )

  -- a profile of no class is not overfull
  pub overfull-some : (dues : List ℤ) → Overfull o bound dues → 1 ≤ length dues
  unfolding owed_from on_hand_from
  overfull-some [] h = absurd (<ℤ_irrefl h.exceeds)
  overfull-some (d ∷ dues) h = omega arith

  overfull-tried : (dues : List ℤ) → Overfull o bound dues →
      In dues (ranked (length (classes o)) (due_times o)) × (is_overfull o bound dues ≡ true)
  overfull-tried dues h =
      ((profile-ranked dues).0 (h.profile, overfull-some dues h), true-lt_z _ _ h.exceeds)

  tried-overfull : (dues : List ℤ) → first_overfull o bound ≡ found dues → Overfull o bound dues
  unfolding first_overfull
  tried-overfull dues e =
      let p = found-passes (is_overfull o bound) (ranked (length (classes o)) (due_times o)) dues e in
      record { profile = ((profile-ranked dues).1 p.0).0; exceeds = lt_z-true _ _ p.1 }

  -- every other overfull profile ranks behind the one found
  tried-first : (dues others : List ℤ) → first_overfull o bound ≡ found dues → Overfull o bound others →
      (others ≡ dues) ⊎ RanksBefore dues others
  unfolding first_overfull
  tried-first dues others e h =
      let t = overfull-tried others h in
      found_first (is_overfull o bound) RanksBefore (ranked (length (classes o)) (due_times o)) dues
      (ranked-sorted (length (classes o)) (due_times o) (due_times-fall o)) e others t.0 t.1

  none-overfull : first_overfull o bound ≡ nothing → (dues : List ℤ) → ¬ Overfull o bound dues
  unfolding first_overfull
  none-overfull e dues h =
      let t = overfull-tried dues h in
      let f = nothing-passes (is_overfull o bound) (ranked (length (classes o)) (due_times o)) e dues t.0 in
      let z : ◌≡◌ {A = ℕ} 0 1 = cc (t.1, f) in
      omega arith

  not-before : (dues others : List ℤ) → (others ≡ dues) ⊎ RanksBefore dues others → ¬ RanksBefore others dues
  not-before dues others (inl q) k = ranks-not-itself dues (subst (λ (es : List ℤ). RanksBefore es dues) q k)
  not-before dues others (inr l) k = ranks-once dues others l k

  -- what is found is the first overfull profile
  pub first_overfull-found : (dues : List ℤ) → (first_overfull o bound ≡ found dues) ↔ FirstOverfull o bound dues
  first_overfull-found dues = (
    λ e. record {
      overfull = tried-overfull dues e;
      first = λ others h. not-before dues others (tried-first dues others e h);
    },
    λ h. go h (first_overfull o bound) refl,
  )
    where
      same : FirstOverfull o bound dues → (z : List ℤ) → first_overfull o bound ≡ found z → (dues ≡ z) ⊎ RanksBefore z dues →
          first_overfull o bound ≡ found dues
      same h z e (inl q) = e ∙ ap found (sym q)
      same h z e (inr l) = absurd (h.first z (tried-overfull z e) l)

      go : FirstOverfull o bound dues → (f : Found (List ℤ)) → first_overfull o bound ≡ f →
          first_overfull o bound ≡ found dues
      go h nothing e = absurd (none-overfull e dues h.overfull)
      go h (found z) e = same h z e (tried-first z dues e h.overfull)

  -- nothing is found exactly if no profile is overfull
  pub first_overfull-none : (first_overfull o bound ≡ nothing) ↔ ((dues : List ℤ) → ¬ Overfull o bound dues)
  first_overfull-none = (none-overfull, λ h. go h (first_overfull o bound) refl)
    where
      go : ((dues : List ℤ) → ¬ Overfull o bound dues) → (f : Found (List ℤ)) → first_overfull o bound ≡ f →
          first_overfull o bound ≡ nothing
      go h nothing e = e
      go h (found z) e = absurd (h z (tried-overfull z e))
