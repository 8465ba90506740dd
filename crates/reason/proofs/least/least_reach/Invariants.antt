use Prim.Native.Nat.{suc, max}
use mathlib.Core.Path.{◌≡◌}
use Rattle.sums.specs.Most.{most}
use Rattle.reason.specs.Asked.{procs_to, latest_of, least_for}
use Rattle.reason.proofs.least.least_reach.Given as goal

-- the least reach for the jobs and the first k class counts
abbrev pub invariant-loop-k : goal.invariant-loop-k
invariant-loop-k l = (l.procs ≡ procs_to l.o l.k) × (l.reach ≡ max (latest_of l.o) (most l.k (λ k. least_for l.o (suc k))))
