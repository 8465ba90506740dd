use Prim.Native.Nat.{ℕ, suc, ◌+◌}
use mathlib.Core.Path.{◌≡◌, refl, sym}
use native.Mathlib.Omega.{arith}
use native.Mathlib.Numerals.{add-one}
use borrow.Author.Rules.{rules}
use lib.ListN.{get_or}
use Rattle.sums.specs.Most.{most, most-none, most-suc}
use Rattle.sums.specs.Arrays.{fill-at}
use Rattle.stairs.proofs.completion.above.Goals as goal

pub loop-d-init : goal.loop-d-init
loop-d-init c = (refl, sym (most-none _), record { at = λ e h. absurd (omega arith) })

pub loop-d-preserved : goal.loop-d-preserved
loop-d-preserved c =
    let l = c.loop-d in
    let a = c.args in
    let f : ℕ → ℕ = λ x. get_or a.w.now x 0 + get_or a.rest.now x 0 in
    let e : c.max-top.result ≡ most (suc l.d) f = omega (arith, c.max-top.ensures, l.invariant.1, most-suc l.d f) in (
      search rules,
      rw add-one e,
      record {
        at = fill-at (λ (k v : ℕ). v ≡ most (suc k) f) 0 l.row l.d
            c.max-top.result (search rules) l.invariant.2.at e;
      },
    )
