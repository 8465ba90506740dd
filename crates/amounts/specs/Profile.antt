-- The common start in the words of the order. Profile: document 01's staircase. A violating cut gives an overfull one,
-- whose times are deadlines; feasible amounts, in any parts, leave none, and where there is none they exist.
-- The stretches lie between marks of time: the distinct deadlines, or the single minutes.
use Rattle.std.specs.Prelude.{◌≡◌}
use Rattle.std.proofs.Common.{sym, ◌∙◌, arith}
use Rattle.std.proofs.Math.Path.{ap}
use Rattle.std.proofs.Math.Logic.{inl, inr}
use Prim.Native.Nat.{ℕ, zero, suc, ◌*◌, ◌-◌, ◌≤◌, ◌<◌}
use Rattle.std.proofs.Math.Nat.{mul-le-mul_right}
use Rattle.std.proofs.Math.Decide.{dec_le, dec_lt}
use Rattle.sums.specs.Sum.{sum, sum-cong}
use Rattle.sums.specs.Gate.{at, sum_mono}
use Rattle.amounts.specs.Flow.{Feasible, Cut, cut-not-feasible}
use Rattle.amounts.specs.Complete.{complete}
use Rattle.amounts.specs.Exchange.{Stretches, common_flow, cut-falls}
use Rattle.amounts.specs.Steps.{upto, owed, Sound, Steps, cut-steps, steps-cut}

-- n jobs; `count i` processors have the class i + 1; q stretches, s from `mark s` to `mark (s + 1)`;
-- the deadline of job j is the mark `index j`
pub record Jobs : Type 0 where
  pub q : ℕ
  pub n : ℕ
  pub time : ℕ → ℕ
  pub class : ℕ → ℕ
  pub deadline : ℕ → ℕ
  pub count : ℕ → ℕ
  pub mark : ℕ → ℕ
  pub index : ℕ → ℕ

-- the marks rise from 0, and each job has a class and its deadline among them
pub record OnMarks (a : Jobs) : Type 0 where
  pub start : a.mark 0 ≡ 0
  pub rises : (s : ℕ) → s < a.q → a.mark s < a.mark (suc s)
  pub some : 0 < a.q
  pub classed : (j : ℕ) → j < a.n → 0 < a.class j
  pub indexed : (j : ℕ) → j < a.n → (0 < a.index j) × (a.index j ≤ a.q) × (a.mark (a.index j) ≡ a.deadline j)

abbrev pub stretches_of : Jobs → Stretches
stretches_of a =
    record {
      q = a.q;
      n = a.n;
      length = λ s. a.mark (suc s) - a.mark s;
      time = a.time;
      class = a.class;
      ends = a.index;
      count = a.count;
    }

-- an overfull profile of at most S classes: at the times T the classes 1 to k owe more than there is on hand
pub record Profile (a : Jobs) (S : ℕ) : Type 0 where
  pub k : ℕ
  pub T : ℕ → ℕ
  pub few : k ≤ S
  pub an-end : (i : ℕ) → i < k → (j : ℕ) × (j < a.n) × (T (suc i) ≡ a.deadline j)
  pub falling : (i : ℕ) → suc i < k → T (suc (suc i)) ≤ T (suc i)
  pub more : sum k (λ i. a.count i * T (suc i))
      < sum k (λ i. sum a.n (λ j. at (a.class j) (suc i) (a.time j - (a.deadline j - T (suc i)))))

-- no job's time is beyond its deadline
abbrev pub NoneTooLong : Jobs → Type 0
NoneTooLong a = (j : ℕ) → j < a.n → a.time j ≤ a.deadline j

-- every mark but the first is a deadline
abbrev pub Met : Jobs → Type 0
Met a = (p : ℕ) → 0 < p → p ≤ a.q → (j : ℕ) × (j < a.n) × (a.deadline j ≡ a.mark p)

-- the time t is the mark p
abbrev Marked : Jobs → ℕ → ℕ → Type 0
Marked a t p = (0 < p) × (p ≤ a.q) × (t ≡ a.mark p)

module _ (a : Jobs) (F : OnMarks a) where
  upto-mark : (p : ℕ) → p ≤ a.q → upto (stretches_of a) p ≡ a.mark p
  unfolding upto sum
  upto-mark zero b = omega (arith, F.start)
  upto-mark (suc p) b = omega (arith, upto-mark p (omega arith), F.rises p b)

  mark-mono : (p p' : ℕ) → p ≤ p' → p' ≤ a.q → a.mark p ≤ a.mark p'
  mark-mono p zero b c = let e : p ≡ 0 = omega arith in omega (arith, ap a.mark e)
  mark-mono p (suc p') b c =
      elim (dec_le p p') [
        | yes h ↦ omega (arith, mark-mono p p' h (omega arith), F.rises p' c)
        | no h ↦ let e : p ≡ suc p' = omega arith in omega (arith, ap a.mark e)
      ]

  sound : Sound (stretches_of a)
  sound =
      record {
        some = F.some;
        pos = λ s b. omega (arith, F.rises s b);
        fits = λ j b. (F.indexed j b).1;
        classed = F.classed;
      }

  -- the two sums at the times T are those at the steps p
  sides : (k : ℕ) (p T : ℕ → ℕ) → ((i : ℕ) → i < k → upto (stretches_of a) (p (suc i)) ≡ T (suc i)) →
      (sum k (λ i. a.count i * upto (stretches_of a) (p (suc i))) ≡ sum k (λ i. a.count i * T (suc i)))
      × (sum k (λ i. sum a.n (λ j.
      at (a.class j) (suc i) (owed (stretches_of a) j (upto (stretches_of a) (p (suc i))))))
      ≡ sum k (λ i. sum a.n (λ j. at (a.class j) (suc i) (a.time j - (a.deadline j - T (suc i))))))
  unfolding owed
  sides k p T h = (
    sum-cong k _ _ (λ i b. ap (λ x. a.count i * x) (h i b)),
    sum-cong k _ _ (λ i b. sum-cong a.n _ _ (λ j c.
        ap (λ x. at (a.class j) (suc i) (a.time j - x))
        (omega (arith, h i b, upto-mark (a.index j) (F.indexed j c).1, (F.indexed j c).2)))),
  )

  module _ (S : ℕ) where
    pub cut-profile : NoneTooLong a → Met a → Cut (common_flow (stretches_of a)) (suc S) → Profile a S
    cut-profile in-time met C =
        steps-profile (cut-steps (stretches_of a) sound
        (λ j b. omega (arith, in-time j b, (F.indexed j b).2, upto-mark (a.index j) (F.indexed j b).1)) S
        (cut-falls (stretches_of a) sound.pos (suc S) C))
      where
        steps-profile : Steps (stretches_of a) S → Profile a S
        steps-profile f =
            record {
              k = f.k;
              T = λ i. a.mark (f.p i);
              few = f.few;
              an-end = λ i h.
                  let m = met (f.p (suc i)) (f.step i h).0 (f.step i h).1 in
                  (m.0, m.1, sym m.2);
              falling = λ i h.
                  mark-mono (f.p (suc (suc i))) (f.p (suc i)) (f.falling i h) (f.step i (omega arith)).1;
              more =
                  omega (
                    arith,
                    f.more,
                    sides f.k f.p (λ i. a.mark (f.p i)) (λ i h. upto-mark (f.p (suc i)) (f.step i h).1),
                  );
            }

    profile-steps : Profile a S → Steps (stretches_of a) S
    profile-steps t =
        record {
          k = t.k;
          p = p;
          few = t.few;
          step = λ i h. (((at-job i).1 h).0, ((at-job i).1 h).1);
          falling = λ i h. down i ((at-job i).1 (omega arith)) ((at-job (suc i)).1 h) (t.falling i h);
          more =
              omega (
                arith,
                t.more,
                sides t.k p t.T (λ i h. omega (
                  arith,
                  ((at-job i).1 h).2,
                  upto-mark (p (suc i)) ((at-job i).1 h).1,
                )),
              );
        }
      where
        at-job : (i : ℕ) → (p : ℕ) × (i < t.k → Marked a (t.T (suc i)) p)
        at-job i =
            elim (dec_lt i t.k) [
              | yes h ↦
                  let e = t.an-end i h in
                  let x = F.indexed e.0 e.1 in
                  (a.index e.0, λ _. (x.0, x.1, e.2 ∙ sym x.2))
              | no h ↦ (0, λ c. absurd (h c))
            ]

        p : ℕ → ℕ
        p zero = 0
        p (suc i) = (at-job i).0

        down : (i : ℕ) → Marked a (t.T (suc i)) (p (suc i)) → Marked a (t.T (suc (suc i))) (p (suc (suc i))) →
            t.T (suc (suc i)) ≤ t.T (suc i) → p (suc (suc i)) ≤ p (suc i)
        down i x y h =
            elim (dec_le (p (suc (suc i))) (p (suc i))) [
              | yes c ↦ c
              | no c ↦
                  omega (
                    arith,
                    F.rises (p (suc i)) (omega arith),
                    mark-mono (suc (p (suc i))) (p (suc (suc i))) (omega arith) y.1,
                  )
            ]

    pub profile-cut : Profile a S → Cut (common_flow (stretches_of a)) (suc S)
    profile-cut t = steps-cut (stretches_of a) sound S (profile-steps t)

    -- where besides the jobs' classes are 1 to S: amounts in whole minutes, if no profile is overfull
    pub no-profile-feasible : NoneTooLong a → Met a → ((j : ℕ) → j < a.n → a.class j ≤ S) → ¬ Profile a S →
        (w : ℕ → ℕ → ℕ) × Feasible (common_flow (stretches_of a)) 1 w
    unfolding sum
    no-profile-feasible in-time met high no-profile =
        elim (complete (common_flow (stretches_of a)) (suc S)
        (record {
          some = omega arith;
          low = F.classed;
          high = λ j b. omega (arith, high j b);
          room-none = λ s _. omega arith;
          room-high = λ s k _ l.
              mul-le-mul_right ((stretches_of a).length s) (sum_mono (suc S - 1) k a.count (omega arith));
        })) [
          | inl w ↦ w
          | inr C ↦ absurd (no-profile (cut-profile in-time met C))
        ]

    pub feasible-no-profile : {p : ℕ} {w : ℕ → ℕ → ℕ} → Feasible (common_flow (stretches_of a)) p w → ¬ Profile a S
    feasible-no-profile f t = cut-not-feasible (profile-cut t) f
