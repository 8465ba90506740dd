-- One store at a time, from a place on.
use Rattle.std.specs.Prelude.{ℕ, ◌+◌, ◌<◌, ◌≡◌, refl, List, length, set}
use Rattle.std.proofs.Common.{◌∙◌, arith, get_or-set_same, get_or-set_other}
use Rattle.std.proofs.Math.Decide.{ℕ_discrete}
use Rattle.allot.specs.Tables.{Put}

pub put-none : (xs : List ℕ) (at : ℕ) (f : ℕ → ℕ) → Put xs xs at 0 f
put-none xs at f = record { inside = λ i l. absurd (omega arith); before = λ i l. refl }

pub put-more : (xs ys : List ℕ) (at k v : ℕ) (f : ℕ → ℕ) → at + k < length ys → v ≡ f k → Put xs ys at k f →
    Put xs (set ys (at + k) v) at (k + 1) f
put-more xs ys at k v f l e P =
    record {
      inside = λ i b.
          elim (ℕ_discrete i k) [
            | yes z ↦ rw z (get_or-set_same ys (at + k) v 0 l ∙ e)
            | no z ↦ get_or-set_other ys (at + k) (at + i) v 0 (λ x. omega arith) ∙ P.inside i (omega arith)
          ];
      before = λ i b. get_or-set_other ys (at + k) i v 0 (λ x. omega arith) ∙ P.before i b;
    }
