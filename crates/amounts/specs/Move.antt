-- One move of the engine for a job with something left: it displaces one minute of a job one below it, or is barred.
-- Found by trying all stretches and jobs: enough to prove that the engine ends, though code would take larger moves.
use Rattle.std.specs.Prelude.{◌≡◌, refl, ◌≢◌, ℕ, suc, ◌+◌, ◌-◌, ◌≤◌, ◌<◌}
use Rattle.std.proofs.Common.{◌∙◌, arith}
use Rattle.std.proofs.Math.Logic.Dec.{and as dec_and}
use Rattle.std.proofs.Math.Decide.{dec_lt, ℕ_discrete}
use Rattle.sums.specs.Gate.{gate, gate-in, gate-out, gate-≤, put, put_same, put_other}
use Rattle.amounts.specs.Flow.{Flow}
use Rattle.amounts.specs.Below.{first, none, first_below, Free, free-dec}
use Rattle.amounts.specs.State.{Fill, Able, able-differ, Barred, Moved}

-- f with v at j and u at i
abbrev two : (ℕ → ℕ) → ℕ → ℕ → ℕ → ℕ → ℕ → ℕ
two f j v i u = put (put f j v) i u

two-first : (f : ℕ → ℕ) (j v i u : ℕ) → j ≢ i → two f j v i u j ≡ v
two-first f j v i u ne = put_other (put f j v) i u j ne ∙ put_same f j v

two-second : (f : ℕ → ℕ) (j v i u : ℕ) → two f j v i u i ≡ u
two-second f j v i u = put_same (put f j v) i u

two-other : (f : ℕ → ℕ) (j v i u a : ℕ) → a ≢ j → a ≢ i → two f j v i u a ≡ f a
two-other f j v i u a nj ni = put_other (put f j v) i u a ni ∙ put_other f j v a nj

-- the amounts and the slacks in s after j has displaced one minute of i there
abbrev amounts-after : Fill → ℕ → ℕ → ℕ → ℕ → ℕ
amounts-after x j i s = two (λ a. x.w a s) j (suc (x.w j s)) i (x.w i s - 1)

abbrev slack-after : Flow → Fill → ℕ → ℕ → ℕ → ℕ → ℕ
slack-after o x j i s k = x.slack s k + gate (o.class i) (suc k) 1 - gate (o.class j) (suc k) 1

abbrev pub pushed : Flow → Fill → ℕ → ℕ → ℕ → Fill
pushed o x j i s =
    record {
      w = λ a. put (x.w a) s (amounts-after x j i s a);
      slack = λ b k. put (λ b. x.slack b k) s (slack-after o x j i s k) b;
      left = two x.left j (x.left j - 1) i (suc (x.left i));
      h = x.h;
    }

module _ (o : Flow) (m : ℕ) (x : Fill) (j i s : ℕ) (A : Able o x j i s) (some : 0 < x.left j) where
  -- a slack that falls is one of those that Able has free
  slack-enough : (k : ℕ) → gate (o.class j) (suc k) 1 ≤ x.slack s k + gate (o.class i) (suc k) 1
  slack-enough k =
      elim (dec_lt k (o.class j)) [
        | yes l ↦ omega (arith, gate-out (o.class j) (suc k) 1 (omega arith))
        | no l ↦
            elim (dec_lt k (o.class i)) [
              | yes r ↦ omega (arith, gate-≤ (o.class j) (suc k) 1, A.free k (omega arith) r)
              | no r ↦ omega (arith, gate-≤ (o.class j) (suc k) 1, gate-in (o.class i) (suc k) 1 (omega arith))
            ]
      ]

  pub pushed-moved : Moved o m x (pushed o x j i s) j i s 1
  pushed-moved =
      let f : ℕ → ℕ = λ a. x.w a s in
      record {
        w-up = put_same (x.w j) s _ ∙ two-first f j _ i _ (able-differ A) ∙ omega arith;
        w-down =
            omega (
              arith,
              put_same (x.w i) s (amounts-after x j i s i),
              two-second f j (suc (x.w j s)) i (x.w i s - 1),
              A.some,
            );
        w-row = λ a b _ ne. put_other (x.w a) s _ b ne;
        w-col = λ a nj ni. put_same (x.w a) s _ ∙ two-other f j _ i _ a nj ni;
        left_down = omega (arith, two-first x.left j (x.left j - 1) i (suc (x.left i)) (able-differ A));
        left_up = two-second x.left j _ i _ ∙ omega arith;
        left-else = λ a nj ni. two-other x.left j _ i _ a nj ni;
        slack-at = λ k _. omega (arith, put_same (λ b. x.slack b k) s (slack-after o x j i s k), slack-enough k);
        slack-else = λ b k _ ne _. put_other (λ b. x.slack b k) s _ b ne;
        h-same = λ a. refl;
      }

pub data Choice (o : Flow) (x : Fill) (j : ℕ) : Type 0 where
  push : (i s : ℕ) → Able o x j i s → Choice o x j
  rise : Barred o x j 0 → Choice o x j

module _ (o : Flow) (x : Fill) (j : ℕ) where
  -- what is left of Able inside the bounds
  abbrev Way : ℕ → ℕ → Type 0
  Way i s =
      (x.w j s < o.cap j s)
      × ((0 < x.w i s) × (Free (x.slack s) (o.class j) (o.class i) × (x.h j ≡ suc (x.h i))))

  way-dec : (i s : ℕ) → Dec (Way i s)
  way-dec i s =
      dec_and (dec_lt (x.w j s) (o.cap j s))
      (dec_and (dec_lt 0 (x.w i s))
      (dec_and (free-dec (x.slack s) (o.class j) (o.class i)) (ℕ_discrete (x.h j) (suc (x.h i)))))

  way_in : (s : ℕ) → Dec ((i : ℕ) × (i < suc o.n) × Way i s)
  way_in s =
      elim (first_below (λ i. Way i s) (λ i. way-dec i s) (suc o.n)) [
        | first i b p _ ↦ yes (i, b, p)
        | none f ↦ no (λ z. f z.0 z.1 z.2)
      ]

  pub choose : j < o.n → Choice o x j
  choose lj =
      elim (first_below (λ s. (i : ℕ) × (i < suc o.n) × Way i s) way_in o.q) [
        | first s b p _ ↦
            push p.0 s
            (record {
              j-job = lj;
              i-any = omega (arith, p.1);
              s-any = b;
              spare = p.2.0;
              some = p.2.1.0;
              free = p.2.1.1.0;
              lower = p.2.1.1.1;
            })
        | none f ↦
            rise (record { none = λ i s li _ ls sp has fr e. f s ls (i, omega arith, (sp, (has, (fr, e)))) })
      ]
