use Prim.Native.Nat.{ℕ, suc, ◌+◌, ◌*◌, ◌≤◌}
use mathlib.Core.Path.{◌≡◌, refl, sym, ap}
use native.Mathlib.Omega.{arith}
use native.Mathlib.Nat.{mul-le-mul}
use native.Mathlib.Numerals.{add-one}
use borrow.Author.Rules.{rules}
use lib.ListN.{get_or}
use Rattle.sums.specs.Arrays.{fill-at}
use Rattle.order.specs.Lead.{most_reach}
use Rattle.reason.specs.Asked.{procs_to}
use Rattle.reason.specs.WeightLaws.{procs-none, procs-suc, procs-le}
use Rattle.reason.proofs.overfull.rooms_at.Goals as goal

pub loop-k-init : goal.loop-k-init
loop-k-init c = (refl, sym (procs-none _), record { at = λ k h. absurd (omega arith) })

pub overflow_add-procs : goal.overflow_add-procs
overflow_add-procs c =
    let l = c.loop-k in
    omega (arith, l.invariant.1, procs-le c.args.o c.requires.fine l.k (omega arith), c.requires.fine.procs l.k (omega arith))

pub overflow_mul-room : goal.overflow_mul-room
overflow_mul-room c =
    let l = c.loop-k in
    let m : l.procs + get_or c.args.o.procs l.k 0 ≤ 256 =
    omega (
      arith,
      l.invariant.1,
      procs-suc c.args.o l.k,
      procs-le c.args.o c.requires.fine (suc l.k)
          (omega arith),
    ) in
    let p : (l.procs + get_or c.args.o.procs l.k 0) * c.args.reach ≤ 256 * most_reach = mul-le-mul m c.requires.reach_le_most_reach in
    omega (arith, p)

pub loop-k-preserved : goal.loop-k-preserved
loop-k-preserved c =
    let l = c.loop-k in
    let e : l.procs + get_or c.args.o.procs l.k 0 ≡ procs_to c.args.o (suc l.k) =
    omega (arith, l.invariant.1, procs-suc c.args.o l.k) in (
      search rules,
      rw add-one e,
      record {
        at = fill-at (λ (k v : ℕ). v ≡ procs_to c.args.o (suc k) * c.args.reach) 0 l.room-items l.k _
            (search rules) l.invariant.2.at (ap (λ (x : ℕ). x * c.args.reach) e);
      },
    )
