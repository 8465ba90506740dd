-- Two rows do not overlap exactly if they are apart by their jobs and by their processors.
use Prim.Native.Nat.{ℕ, zero, suc, ◌+◌, ◌*◌, ◌/◌, ◌≤◌, ◌<◌}
use mathlib.Core.Path.{◌≡◌, refl, sym, ap, ◌∙◌}
use mathlib.Core.Bool.{Bool, true, false}
use mathlib.Core.List.{List}
use mathlib.Core.Logic.{◌↔◌}
use native.Mathlib.Omega.{arith}
use lib.ListN.{length, get_or}
use Rattle.spans.specs.Line.{key_of, Spans, AllApart}
use Rattle.spans.specs.LineLaws.{true-is-not}
use Rattle.plan.specs.Plan.{Apart}
use Rattle.plan.specs.Check.{row_at, rows_of, every_two, no_overlap}
use Rattle.plan.specs.EveryLaws.{every_two-places, every_two-at}
use Rattle.plan.proofs.RuleLaws.{no-overlap-iff}
use Rattle.plan.specs.Inside.{Ranged}

-- two tests that pass for the same are the same
both_ways : (t b : Bool) → (t ≡ true → b ≡ true) → (b ≡ true → t ≡ true) → t ≡ b
both_ways true b f g = sym (f refl)
both_ways false true f g = g refl
both_ways false false f g = refl

module _ (numbers : List ℕ) where
  key-job : (x : ℕ) → key_of numbers 0 x ≡ (row_at numbers x).job
  key-job x = let e : 4 * x + 0 ≡ 4 * x = omega arith in ap (λ (i : ℕ). get_or numbers i 0) e

  module _ (ranged : Ranged numbers) where
    job-spans : Spans numbers 0
    job-spans k l = let r = ranged k l in record {
      whole = omega arith;
      forward = r.forward;
      short = r.short;
      some = omega (arith, key-job k, r.a-job);
      few = omega (arith, key-job k, r.a-job);
    }

    processor-spans : Spans numbers 1
    processor-spans k l = let r = ranged k l in record {
      whole = omega arith;
      forward = r.forward;
      short = r.short;
      some = r.a-processor.0;
      few = omega (arith, r.a-processor);
    }

    pub spans-by : (by : ℕ) → by ≤ 1 → Spans numbers by
    spans-by zero l = job-spans
    spans-by (suc zero) l = processor-spans
    spans-by (suc (suc n)) l = absurd (omega arith)

  abbrev none_overlap : Bool
  none_overlap = every_two no_overlap (rows_of numbers)

  both-apart : AllApart numbers 0 → AllApart numbers 1 → none_overlap ≡ true
  both-apart h k =
      every_two-places no_overlap (length numbers / 4) (row_at numbers) (λ x y l m.
      (no-overlap-iff (row_at numbers x) (row_at numbers y)).1 ((λ e. h x y l m (key-job x ∙ e ∙ sym (key-job y))), k x y l m))

  two-apart : none_overlap ≡ true → (x y : ℕ) → x < y → y < length numbers / 4 →
      let r = row_at numbers x in
      let s = row_at numbers y in
      (r.job ≡ s.job → Apart r s) × (r.processor ≡ s.processor → Apart r s)
  two-apart h x y l m =
      (no-overlap-iff (row_at numbers x) (row_at numbers y)).0
      (every_two-at no_overlap (length numbers / 4) (row_at numbers) h x y l m)

  apart-both : none_overlap ≡ true → AllApart numbers 0 × AllApart numbers 1
  apart-both h = (
    (λ x y l m e. (two-apart h x y l m).0 (sym (key-job x) ∙ e ∙ key-job y)),
    λ x y l m. (two-apart h x y l m).1,
  )

  -- the answers for the jobs and for the processors
  module _ (jobs : Bool) (h : (jobs ≡ true) ↔ AllApart numbers 0) where
    pub jobs-overlap : jobs ≡ false → false ≡ none_overlap
    jobs-overlap e = both_ways false none_overlap true-is-not (λ b. sym e ∙ h.1 (apart-both b).0)

    pub processors-decide : jobs ≡ true → (processors : Bool) → (processors ≡ true) ↔ AllApart numbers 1 →
        processors ≡ none_overlap
    processors-decide e processors k =
        both_ways processors none_overlap (λ p. both-apart (h.0 e) (k.0 p)) (λ b. k.1 (apart-both b).1)
