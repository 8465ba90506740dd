-- The refusal table as sentences: a refusal is returned exactly if its condition holds and that of no earlier row does; an
-- order is accepted exactly if its counts, times, due times and makers are in range and each job fits some processor.
use Rattle.std.specs.Prelude.{ℕ, zero, suc, ◌+◌, ◌≤◌, ◌<◌, ◌≡◌, refl, Bool, true, false, cond, not, ◌&&◌, ◌||◌, List, [], ◌∷◌, ◌++◌, ◌↔◌, ◌⊎◌, T, leb, length, get_or, ℤ, pos, negsuc, ◌≤ℤ◌}
use Rattle.std.proofs.Common.{sym, ap, ◌∙◌, inl, inr, arith, le_of_suc-le-suc, leb-true, le-leb, ltb-false, le-ltb, ne_eqb}
use Rattle.std.proofs.lemmas.Bool.{not-false, eqb-false}
use Rattle.std.specs.Int.Signed.{le_z}
use Rattle.sums.specs.Lists.{All, nth, tabulate}
use Rattle.sums.specs.Members.{All-map, All-from}
use Rattle.sums.specs.Places.{length-tabulate, get_d_tabulate}
use Rattle.order.specs.Order.{Job, Order, Numbers, Fits, processor_count, job_count, memory_of}
use Rattle.order.specs.Refusals.{limits, Finding, clear, holds, TableRow, Verdict, accepted, refused, verdict_of, judge, whole, first_after, first, due_in_range, most_makers, fits_some, count_rows, order_rows, Accepted}

-- row number k is returned with what it carries: its condition holds, and that of no earlier row does
pub record Returned (rows : List TableRow) (number carried : ℕ) : Type 0 where
  pub earlier : List TableRow
  pub returned : TableRow
  pub later : List TableRow
  pub split : rows ≡ earlier ++ (returned ∷ later)
  pub none-earlier : All (λ (r : TableRow). r.finding ≡ clear) earlier
  pub its-number : returned.number ≡ number
  pub its-condition : returned.finding ≡ holds carried

pub clear≢holds : {c : ℕ} → clear ≡ holds c → ⊥
clear≢holds e = let z : ◌≡◌ {A = ℕ} 0 1 = cc in omega arith

-- a verdict tells its finding
accepted-clear : (n : ℕ) (f : Finding) (v : Verdict) → verdict_of n f v ≡ accepted → (f ≡ clear) × (v ≡ accepted)
accepted-clear n clear v e = (refl, e)
accepted-clear n (holds c) v e = let z : ◌≡◌ {A = ℕ} 0 1 = cc in absurd (omega arith)

all-clear : (rows : List TableRow) → judge rows ≡ accepted → All (λ (r : TableRow). r.finding ≡ clear) rows
unfolding judge
all-clear [] e = tt
all-clear (r ∷ rs) e =
    let h = accepted-clear r.number r.finding (judge rs) e in
    (h.0, all-clear rs h.1)

clear-all : (rows : List TableRow) → All (λ (r : TableRow). r.finding ≡ clear) rows → judge rows ≡ accepted
unfolding judge
clear-all [] h = refl
clear-all (r ∷ rs) h = rw h.0 (clear-all rs h.1)

-- accepted: no row's condition holds
pub judge-accepted : (rows : List TableRow) → (judge rows ≡ accepted) ↔ All (λ (r : TableRow). r.finding ≡ clear) rows
judge-accepted rows = (all-clear rows, clear-all rows)

-- the first row whose condition holds is returned
found-row : (number carried : ℕ) (r : TableRow) (rs : List TableRow) (f : Finding) → r.finding ≡ f →
    verdict_of r.number f (judge rs) ≡ refused number carried →
    (judge rs ≡ refused number carried → Returned rs number carried) → Returned (r ∷ rs) number carried
found-row number carried r rs clear e h later =
    let t = later h in
    record {
      earlier = r ∷ t.earlier;
      returned = t.returned;
      later = t.later;
      split = ap (λ (l : List TableRow). r ∷ l) t.split;
      none-earlier = (e, t.none-earlier);
      its-number = t.its-number;
      its-condition = t.its-condition;
    }
found-row number carried r rs (holds c) e h later =
    record {
      earlier = [];
      returned = r;
      later = rs;
      split = refl;
      none-earlier = tt;
      its-number = cc;
      its-condition = cc;
    }

returned-of : (number carried : ℕ) (rows : List TableRow) → judge rows ≡ refused number carried → Returned rows number carried
unfolding judge
returned-of number carried [] e = let z : ◌≡◌ {A = ℕ} 0 1 = cc in absurd (omega arith)
returned-of number carried (r ∷ rs) e = found-row number carried r rs r.finding refl e (returned-of number carried rs)

-- rows whose conditions do not hold are passed over
pub judge-clear : (earlier later : List TableRow) → All (λ (r : TableRow). r.finding ≡ clear) earlier → judge
    (earlier ++ later) ≡ judge later
unfolding judge
judge-clear [] later h = refl
judge-clear (r ∷ rs) later h = rw h.0 (judge-clear rs later h.1)

judge-row : (r : TableRow) (rs : List TableRow) (c : ℕ) → r.finding ≡ holds c → judge (r ∷ rs) ≡ refused r.number c
unfolding judge
judge-row r rs c e = rw e

-- refused: the row's condition holds, and that of no earlier row does
pub judge-refused : (rows : List TableRow) (number carried : ℕ) → (judge rows ≡ refused number carried) ↔ Returned rows number carried
judge-refused rows number carried = (
  returned-of number carried rows,
  λ t. rw (
    t.split,
    judge-clear t.earlier (t.returned ∷ t.later) t.none-earlier,
    judge-row t.returned t.later carried
        t.its-condition,
  )
      (ap (λ (n : ℕ). refused n carried) t.its-number),
)

-- a refusal among the first rows stands, whatever follows
pub judge-refused-append : (rows later : List TableRow) (number carried : ℕ) → judge rows ≡ refused number carried → judge
    (rows ++ later) ≡ refused number carried
unfolding judge
judge-refused-append [] later number carried e = let z : ◌≡◌ {A = ℕ} 0 1 = cc in absurd (omega arith)
judge-refused-append (r ∷ rs) later number carried e = go r.finding e (judge-refused-append rs later number carried)
  where
    go : (f : Finding) → verdict_of r.number f (judge rs) ≡ refused number carried →
        (judge rs ≡ refused number carried → judge (rs ++ later) ≡ refused number carried) →
        verdict_of r.number f (judge (rs ++ later)) ≡ refused number carried
    go clear h k = k h
    go (holds c) h k = h

pub accepted≢refused : {n c : ℕ} → accepted ≡ refused n c → ⊥
accepted≢refused e = let z : ◌≡◌ {A = ℕ} 0 1 = cc in omega arith

-- a refusal whose number none of the first rows has is one of the later rows'
pub later-numbered : (number carried : ℕ) (rows later : List TableRow) → All (λ (r : TableRow). r.number ≡ number → ⊥) rows →
    judge (rows ++ later) ≡ refused number carried → judge later ≡ refused number carried
unfolding judge
later-numbered number carried [] later h e = e
later-numbered number carried (r ∷ rs) later h e = go r.finding e (later-numbered number carried rs later h.1)
  where
    go : (f : Finding) → verdict_of r.number f (judge (rs ++ later)) ≡ refused number carried →
        (judge (rs ++ later) ≡ refused number carried → judge later ≡ refused number carried) →
        judge later ≡ refused number carried
    go clear t rest = rest t
    go (holds c) t rest = absurd (h.0 cc)

-- where a table accepts, so do its first rows
pub accepted-first : (rows later : List TableRow) → judge (rows ++ later) ≡ accepted → judge rows ≡ accepted
accepted-first rows later e = decided (judge rows) refl
  where
    decided : (v : Verdict) → judge rows ≡ v → judge rows ≡ accepted
    decided accepted f = f
    decided (refused n c) f = absurd (accepted≢refused (sym e ∙ judge-refused-append rows later n c f))

-- where the first rows accept, the others decide
pub judge-accepted-append : (rows later : List TableRow) → judge rows ≡ accepted → judge (rows ++ later) ≡ judge later
judge-accepted-append rows later e = judge-clear rows later (all-clear rows e)

-- a condition about the whole does not hold
pub whole-clear : (b : Bool) → whole b ≡ clear → b ≡ false
whole-clear true e = absurd (clear≢holds (sym e))
whole-clear false e = refl

-- the first for which a test holds: found at the place i, every earlier one passing by; or nowhere
pub first-at : {A : Type 0} (test : A → Bool) (xs : List A) (d : A) (k i : ℕ) → i < length xs →
    ((e : ℕ) → e < i → test (get_or xs e d) ≡ false) → test (get_or xs i d) ≡ true → first_after k test xs ≡ holds (suc (k + i))
unfolding first_after
first-at test [] d k i l before here = absurd (omega arith)
first-at test (x ∷ xs) d k zero l before here = rw here (ap (λ (n : ℕ). holds (suc n)) (omega arith))
first-at test (x ∷ xs) d k (suc i) l before here =
    rw (before 0 (omega arith))
    (first-at test xs d (suc k) i (le_of_suc-le-suc l) (λ e b. before (suc e) (omega arith)) here
    ∙ ap (λ (n : ℕ). holds (suc n)) (omega arith))

pub first-none : {A : Type 0} (test : A → Bool) (xs : List A) (k : ℕ) → All (λ x. test x ≡ false) xs → first_after k test xs ≡ clear
unfolding first_after
first-none test [] k h = refl
first-none test (x ∷ xs) k h = rw h.0 (first-none test xs (suc k) h.1)

pub first-clear : {A : Type 0} (test : A → Bool) (xs : List A) (k : ℕ) → first_after k test xs ≡ clear → All (λ x. test x ≡ false) xs
unfolding first_after
first-clear test [] k e = tt
first-clear test (x ∷ xs) k e = go (test x) refl e (first-clear test xs (suc k))
  where
    go : (b : Bool) → test x ≡ b → cond b (holds (suc k)) (first_after (suc k) test xs) ≡ clear →
        (first_after (suc k) test xs ≡ clear → All (λ x. test x ≡ false) xs) → (test x ≡ false) × All (λ x. test x ≡ false) xs
    go true t h f = absurd (clear≢holds (sym h))
    go false t h f = (t, f h)

-- tests as facts
false-not : (b : Bool) → b ≡ true → not b ≡ false
false-not b e = rw e

pub both_true : (a b : Bool) → (a && b) ≡ true → (a ≡ true) × (b ≡ true)
both_true true b e = (refl, e)
both_true false b e = let z : ◌≡◌ {A = ℕ} 0 1 = cc in absurd (omega arith)

pub true-both : (a b : Bool) → a ≡ true → b ≡ true → (a && b) ≡ true
true-both a b e f = rw (e, f)

pub true-or-false : (b : Bool) → (b ≡ true) ⊎ (b ≡ false)
true-or-false true = inl refl
true-or-false false = inr refl

pub either_true : (a b : Bool) → (a || b) ≡ true → (a ≡ true) ⊎ (b ≡ true)
either_true true b e = inl refl
either_true false b e = inr e

pub le_z-true : (a b : ℤ) → le_z a b ≡ true → a ≤ℤ b
le_z-true a b e = record { le = rw e tt }

pub true-le_z : (a b : ℤ) → a ≤ℤ b → le_z a b ≡ true
true-le_z a b h = go (le_z a b) h.le
  where
    go : (t : Bool) → T t → t ≡ true
    go true x = refl
    go false x = absurd x

-- some processor of the list has the memory
pub fits_some-true : (need : ℕ) (ms : List ℕ) → fits_some need ms ≡ true → (i : ℕ) × (i < length ms) × (need ≤ get_or ms i 0)
unfolding fits_some
fits_some-true need [] e = let z : ◌≡◌ {A = ℕ} 0 1 = cc in absurd (omega arith)
fits_some-true need (m ∷ ms) e = go (leb need m) refl e (fits_some-true need ms)
  where
    go : (b : Bool) → leb need m ≡ b → cond b true (fits_some need ms) ≡ true →
        (fits_some need ms ≡ true → (i : ℕ) × (i < length ms) × (need ≤ get_or ms i 0)) →
        (i : ℕ) × (i < suc (length ms)) × (need ≤ get_or (m ∷ ms) i 0)
    go true t h f = (0, omega arith, leb-true need m t)
    go false t h f = let r = f h in (suc r.0, omega (arith, r.1), r.2)

pub true-fits_some : (need : ℕ) (ms : List ℕ) (i : ℕ) → i < length ms → need ≤ get_or ms i 0 → fits_some need ms ≡ true
unfolding fits_some
true-fits_some need [] i l h = absurd (omega arith)
true-fits_some need (m ∷ ms) zero l h = rw (le-leb need m h)
true-fits_some need (m ∷ ms) (suc i) l h = rw (true-fits_some need ms i (le_of_suc-le-suc l) h) (either (leb need m))
  where
    either : (b : Bool) → cond b true true ≡ true
    either true = refl
    either false = refl

-- what an accepted order is, in the words of the papers' ranges
pub record Acceptable (o : Order) : Type 0 where
  pub some-processor : 1 ≤ processor_count o
  pub few-processors : processor_count o ≤ 16
  pub some-job : 1 ≤ job_count o
  pub few-jobs : job_count o ≤ 48
  pub times : All (λ (job : Job). (1 ≤ job.time) × (job.time ≤ 100000)) o.jobs
  pub dues : All (λ (job : Job). (negsuc 999999 ≤ℤ job.due) × (job.due ≤ℤ pos 1000000)) o.jobs
  pub makers : All (λ (job : Job). (1 ≤ job.maker) × (job.maker ≤ most_makers)) o.jobs
  pub fit : All (λ (job : Job). (i : ℕ) × Numbers (processor_count o) i × Fits job (memory_of o i)) o.jobs

-- rows 1 to 4 do not hold: the counts are within the limits
pub counts-in-limits : (m n : ℕ) → judge (count_rows limits m n) ≡ accepted → (1 ≤ m) × (m ≤ 16) × (1 ≤ n) × (n ≤ 48)
counts-in-limits m n a =
    let c = (judge-accepted (count_rows limits m n)).0 a in (
      omega (arith, eqb-false m 0 (whole-clear _ c.0)),
      ltb-false 16 m (whole-clear _ c.1.0),
      omega (arith, eqb-false n 0 (whole-clear _ c.1.1.0)),
      ltb-false 48 n (whole-clear _ c.1.1.1.0),
    )

acceptable-of : (o : Order) → Accepted o → Acceptable o
acceptable-of o a =
    let c = (judge-accepted (order_rows limits o)).0 a in
    record {
      some-processor = omega (arith, eqb-false (processor_count o) 0 (whole-clear _ c.0));
      few-processors = ltb-false 16 (processor_count o) (whole-clear _ c.1.0);
      some-job = omega (arith, eqb-false (job_count o) 0 (whole-clear _ c.1.1.0));
      few-jobs = ltb-false 48 (job_count o) (whole-clear _ c.1.1.1.0);
      times = All-map _ _ o.jobs
          (λ (job : Job) e. let h = both_true (leb 1 job.time) (leb job.time 100000) (not-false _ e) in
          (leb-true 1 job.time h.0, leb-true job.time 100000 h.1))
          (first-clear _ o.jobs 0 c.1.1.1.1.0);
      dues = All-map _ _ o.jobs
          (λ (job : Job) e. let h = both_true (le_z (negsuc 999999) job.due) (le_z job.due (pos 1000000)) (not-false _ e) in
          (le_z-true _ _ h.0, le_z-true _ _ h.1))
          (first-clear _ o.jobs 0 c.1.1.1.1.1.0);
      makers = All-map _ _ o.jobs
          (λ (job : Job) e. let h = both_true (leb 1 job.maker) (leb job.maker most_makers) (not-false _ e) in
          (leb-true 1 job.maker h.0, leb-true job.maker most_makers h.1))
          (first-clear _ o.jobs 0 c.1.1.1.1.1.1.0);
      fit = All-map _ _ o.jobs
          (λ (job : Job) e. let h = fits_some-true job.need o.memories (not-false _ e) in (suc h.0, (omega arith, h.1), h.2))
          (first-clear _ o.jobs 0 c.1.1.1.1.1.1.1.0);
    }

accepted-of : (o : Order) → Acceptable o → Accepted o
accepted-of o a =
    clear-all (order_rows limits o) (
      rw (ne_eqb (processor_count o) 0 (λ e. omega (arith, a.some-processor))) refl,
      (
        rw (le-ltb 16 (processor_count o) a.few-processors) refl,
        (
          rw (ne_eqb (job_count o) 0 (λ e. omega (arith, a.some-job))) refl,
          (
            rw (le-ltb 48 (job_count o) a.few-jobs) refl,
            (
              first-none _ o.jobs 0 (All-map _ _ o.jobs
                  (λ (job : Job) h. false-not _ (true-both _ _ (le-leb 1 job.time h.0) (le-leb job.time 100000 h.1)))
                  a.times),
              (
                first-none _ o.jobs 0 (All-map _ _ o.jobs
                    (λ (job : Job) h. false-not _ (true-both _ _ (true-le_z _ _ h.0) (true-le_z _ _ h.1))) a.dues),
                (
                  first-none _ o.jobs 0 (All-map _ _ o.jobs
                      (λ (job : Job) h. false-not _
                      (true-both _ _ (le-leb 1 job.maker h.0) (le-leb job.maker most_makers h.1))) a.makers),
                  (
                    first-none _ o.jobs 0 (All-map _ _ o.jobs
                        (λ (job : Job) h. false-not _ (fits-place job.need o.memories h.0 h.1 h.2)) a.fit),
                    tt,
                  ),
                ),
              ),
            ),
          ),
        ),
      ),
    )
  where
    fits-place : (need : ℕ) (ms : List ℕ) (i : ℕ) → Numbers (length ms) i → need ≤ nth ms i 0 → fits_some need ms ≡ true
    fits-place need ms zero b h = absurd (omega arith)
    fits-place need ms (suc i) b h = true-fits_some need ms i b.1 h

-- an order is accepted exactly if it is acceptable
pub accepted-iff : (o : Order) → Accepted o ↔ Acceptable o
accepted-iff o = (acceptable-of o, accepted-of o)

-- its due times are in range
pub dues-in-range : (o : Order) → Acceptable o → All (λ (job : Job). due_in_range job.due ≡ true) o.jobs
dues-in-range o a =
    All-map _ _ o.jobs (λ (job : Job) h. true-both _ _ (true-le_z _ _ h.0) (true-le_z _ _ h.1)) a.dues

-- the same of a list that is given by its places
module _ {A : Type 0} (test : A → Bool) (n : ℕ) (f : ℕ → A) where
  pub first-tabulate : (i : ℕ) → i < n → ((e : ℕ) → e < i → test (f e) ≡ false) → test (f i) ≡ true → first test (tabulate n f) ≡ holds
      (suc i)
  first-tabulate i l before here =
      first-at test (tabulate n f) (f i) 0 i (rw length-tabulate l)
      (λ e b. ap test (get_d_tabulate n f (f i) e (omega arith)) ∙ before e b)
      (ap test (get_d_tabulate n f (f i) i l) ∙ here)
      ∙ ap (λ (k : ℕ). holds (suc k)) (omega arith)

  pub none-tabulate : ((e : ℕ) → e < n → test (f e) ≡ false) → first test (tabulate n f) ≡ clear
  none-tabulate h =
      first-none test (tabulate n f) 0
      (All-from _ (tabulate n f) (f 0)
      (λ i l. let b : i < n = rw length-tabulate at l in ap test (get_d_tabulate n f (f 0) i b) ∙ h i b))

module _ (need n : ℕ) (f : ℕ → ℕ) where
  pub fits_some-tabulate : (i : ℕ) → i < n → need ≤ f i → fits_some need (tabulate n f) ≡ true
  fits_some-tabulate i l h =
      true-fits_some need (tabulate n f) i (rw length-tabulate l) (rw (get_d_tabulate n f 0 i l) h)

pub fits_none-tabulate : (need n : ℕ) (f : ℕ → ℕ) → ((e : ℕ) → e < n → leb need (f e) ≡ false) → fits_some need (tabulate n f) ≡ false
unfolding fits_some
fits_none-tabulate need zero f h = refl
fits_none-tabulate need (suc n) f h = rw (h 0 (omega arith)) (fits_none-tabulate need n (λ i. f (suc i)) (λ e l. h (suc e) (omega arith)))
