use Prim.Native.Nat.{ℕ, suc, ◌+◌, ◌<◌, max}
use mathlib.Core.Path.{◌≡◌, sym, ap, ◌∙◌}
use native.Mathlib.Omega.{arith}
use native.Mathlib.Numerals.{add-one}
use lib.ListN.{get_or}
use Rattle.sums.specs.Most.{most, most-none, most-suc}
use Rattle.stairs.specs.Places.{best}
use Rattle.stairs.specs.Tables.{cell}
use Rattle.stairs.specs.CompletionLaws.{best-cong}
use Rattle.reason.specs.Asked.{weight, procs_to, latest_of, least_for, least_reach_of}
use Rattle.reason.specs.WeightLaws.{procs-none, procs-suc, procs-le, procs-pos, small-table, reach-most}
use Rattle.reason.proofs.StdWords.{ceiling-as}
use Rattle.reason.proofs.least.least_reach.Goals as goal

pub loop-k-init : goal.loop-k-init
loop-k-init c = (sym (procs-none _), omega (arith, c.latest-reach.ensures.0, most-none (λ k. least_for c.args.o (suc k))))

pub overflow_add-procs : goal.overflow_add-procs
overflow_add-procs c =
    let l = c.loop-k in
    let b : l.k < 16 = omega (arith, c.requires.classed) in
    omega (arith, l.invariant.0, procs-le c.args.o c.requires l.k (omega arith), c.requires.procs l.k b)

pub heaviest-requires : goal.heaviest-requires
heaviest-requires c =
    (omega (arith, c.requires.classed), c.requires.dues, c.requires.some-due, small-table _ _ c.requires c.table-t.ensures)

pub loop-k-preserved : goal.loop-k-preserved
loop-k-preserved c =
    let l = c.loop-k in
    let o = c.args.o in
    let m : l.procs + get_or o.procs l.k 0 ≡ procs_to o (suc l.k) = omega (arith, l.invariant.0, procs-suc o l.k) in
    let w = c.table-t in
    let b : c.heaviest.result ≡ best (weight o) (suc l.k) o.q
    = c.heaviest.ensures.0
    ∙ best-cong (cell w.result) (weight o) (suc l.k) o.q
    (λ x d h p. (w.ensures x (omega (arith, c.requires.classed))).at d (omega (arith, c.requires.dues))) in
    let some : 0 < l.procs + get_or o.procs l.k 0 = omega (arith, m, procs-pos o c.requires l.k (omega arith)) in
    let d : c.div_ceil.result ≡ least_for o (suc l.k) = ceiling-as c.div_ceil.ensures some c.heaviest.result (omega arith) ∙ rw (m, b) in
    let f : ℕ → ℕ = λ k. least_for o (suc k) in
    let e : c.max-reach.result ≡ max (latest_of o) (most (suc l.k) f) =
    omega (arith, c.max-reach.ensures, l.invariant.1, d, most-suc l.k f) in
    (rw add-one m, rw add-one e)

pub returns : goal.returns
unfolding least_reach_of
returns c =
    let o = c.args.o in
    let e : c.loop-k.k ≡ o.s = omega arith in
    let r : c.loop-k.reach ≡ least_reach_of o
    = c.loop-k.invariant.1 ∙ ap (λ (x : ℕ). max (latest_of o) (most x (λ k. least_for o (suc k)))) e in
    (r, omega (arith, r, reach-most o c.requires))
