use Prim.Native.Nat.{ℕ, ◌*◌}
use mathlib.Core.Path.{◌≡◌, ap, ◌∙◌}
use mathlib.Core.List.{List, ◌++◌}
use lib.ListN.{get_or, drop}
use Rattle.table.specs.declared.Listing.{Listing}
use Rattle.highboyrobin.specs.ClassCalls.{pairs_to}
use Rattle.highboyrobin.proofs.ClassesTold.{none-paired, next-paired}
use native.Mathlib.Omega.{arith}
use Rattle.highboyrobin.proofs.classing.put_classes.Goals as goal

-- the pairs of the first k classes
abbrev pairs : Listing → ℕ → List ℕ
pairs found k = pairs_to (λ i. get_or found.memories i 0) (λ i. get_or found.procs i 0) k

pub loop-i-init : goal.loop-i-init
loop-i-init c = none-paired _ _ _

pub loop-i-preserved : goal.loop-i-preserved
loop-i-preserved c = next-paired _ _ c.args.list.now c.loop-i.list c.loop-i.i c.loop-i.invariant (omega (arith, c.requires))

pub returns : goal.returns
returns c =
    let l = c.loop-i in
    let e : l.i ≡ c.args.found.count = omega arith in
    l.invariant ∙ ap (λ (k : ℕ). pairs c.args.found k ++ drop (2 * k) c.args.list.now) e
