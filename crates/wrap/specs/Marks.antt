-- The marks between the stretches: minute 0, then the distinct ends upwards, cut off at 0. They never fall, and they rise
-- where the ends are behind minute 0.
use Rattle.std.specs.Prelude.{ℕ, zero, suc, ◌≤◌, ◌<◌, ◌≡◌, true, List, reverse, ℤ, pos, get_or, ◌<ℤ◌}
use Rattle.std.proofs.Math.Path.{refl}
use Rattle.std.proofs.Common.{sym, ap, subst, arith}
use Rattle.std.proofs.Math.Decide.{ℕ_discrete}
use Rattle.std.proofs.Math.ListN.{length-reverse}
use Rattle.std.specs.Int.Signed.{lt_z}
use Rattle.sums.specs.Lists.{Pairwise}
use Rattle.sums.specs.Reversed.{Pairwise-reverse}
use Rattle.sums.specs.Pairs.{Pairwise-at}
use Rattle.sums.specs.Places.{get_d_map}
use Rattle.order.specs.Order.{Order, end_at}
use Rattle.order.specs.Sorted.{due_times}
use Rattle.order.specs.SortedLaws.{lt_z-strict, distinct-falls}
use Rattle.order.specs.Deadline.{cut}
use Rattle.order.specs.Ends.{cut-≤, <-cut}
use Rattle.order.proofs.EndLaws.{end-le, end_lt}
use Rattle.order.specs.Whole.{lt_z-true, pos-cut, <ℤ-≤ℤ}
use Rattle.wrap.specs.Stretches.{stretch_count, ends, mark}

module _ (bound x y : ℤ) (less : lt_z x y ≡ true) where
  -- a later due time has a later end, where that is behind minute 0
  pub cut-rises : 0 < cut (end_at bound x) → cut (end_at bound x) < cut (end_at bound y)
  cut-rises h =
      <-cut (cut (end_at bound x)) (end_at bound y)
      (subst (λ (z : ℤ). z <ℤ end_at bound y) (sym (pos-cut (end_at bound x) h)) (end_lt bound x y (lt_z-true x y less)))

  pub cut-never-falls : cut (end_at bound x) ≤ cut (end_at bound y)
  cut-never-falls = cut-≤ (end_at bound x) (end_at bound y) (end-le bound x y (<ℤ-≤ℤ x y (lt_z-true x y less)))

-- the distinct due times upwards
abbrev pub dues_up : Order → List ℤ
dues_up o = reverse (due_times o)

-- the due time at place s among them
abbrev pub due_up : Order → ℕ → ℤ
due_up o s = get_or (dues_up o) s (pos 0)

pub dues_up-rise : (o : Order) → Pairwise (λ x y. lt_z x y ≡ true) (dues_up o)
unfolding due_times
dues_up-rise o = Pairwise-reverse _ (due_times o) (distinct-falls lt_z lt_z-strict _)

module _ (o : Order) (bound : ℤ) where
  pub mark-zero : mark o bound 0 ≡ 0
  unfolding mark
  mark-zero = refl

  -- the mark s + 1 is the end, cut off at 0, of the due time at place s
  pub mark-is : (s : ℕ) → s < stretch_count o → mark o bound (suc s) ≡ cut (end_at bound (due_up o s))
  unfolding mark ends
  mark-is s l =
      get_d_map (λ (due : ℤ). cut (end_at bound due)) (dues_up o) 0 (pos 0) s (rw length-reverse l)

  due-before : (s : ℕ) → suc s < stretch_count o →
      lt_z (due_up o s) (due_up o (suc s)) ≡ true
  due-before s l =
      Pairwise-at _ (dues_up o) (pos 0) (dues_up-rise o) s (suc s) (omega arith) (rw length-reverse l)

  -- marks never fall
  pub mark-up : (s : ℕ) → s < stretch_count o → mark o bound s ≤ mark o bound (suc s)
  mark-up zero l = omega (arith, mark-zero)
  mark-up (suc s) l =
      omega (
        arith,
        mark-is s (omega arith),
        mark-is (suc s) l,
        cut-never-falls bound (due_up o s) (due_up o (suc s)) (due-before s l),
      )

  -- and they rise behind minute 0
  pub mark-rises : (s : ℕ) → suc s < stretch_count o → 0 < mark o bound (suc s) →
      mark o bound (suc s) < mark o bound (suc (suc s))
  mark-rises s l h =
      omega (
        arith,
        mark-is s (omega arith),
        mark-is (suc s) l,
        cut-rises bound (due_up o s) (due_up o (suc s)) (due-before s l) (omega (arith, mark-is s (omega arith))),
      )

  pub mark-mono : (i k : ℕ) → i ≤ k → k ≤ stretch_count o → mark o bound i ≤ mark o bound k
  mark-mono i zero h l = let e : i ≡ 0 = omega arith in omega (arith, ap (mark o bound) e)
  mark-mono i (suc k) h l =
      elim (ℕ_discrete i (suc k)) [
        | yes e ↦ omega (arith, ap (mark o bound) e)
        | no e ↦ omega (arith, mark-mono i k (omega arith) (omega arith), mark-up k l)
      ]
