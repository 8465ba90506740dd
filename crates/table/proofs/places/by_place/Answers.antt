use Rattle.std.proofs.Common.{rules, arith, ℕ, ◌≡◌}
use Rattle.sums.specs.Arrays.{fill-at}
use Rattle.sums.specs.Lists.{nth}
use Rattle.table.specs.Held.{beside}
use Rattle.table.proofs.Scattered.{named}
use Rattle.table.proofs.places.by_place.Goals as goal

pub loop-k-preserved : goal.loop-k-preserved
loop-k-preserved c =
    let l = c.loop-k in (
      search rules,
      record {
        at = fill-at (λ (k v : ℕ). v ≡ nth c.args.values (beside c.args.numbers k) 0) 0 l.r l.k _ (omega (arith, c.requires.0, l.invariant.0))
            l.invariant.1.at (named c.args.values (beside c.args.numbers l.k) (c.requires.1.are l.k (omega arith)).0);
      },
    )
