use Rattle.std.proofs.Common.{rules, arith, ℕ, ℤ, ◌≡◌, get_or, pos}
use Rattle.sums.specs.Arrays.{fill-at}
use Rattle.order_file.specs.Bytes.{signed}
use Rattle.order_file.proofs.bytes.all_signed.Goals as goal

pub loop-i-preserved : goal.loop-i-preserved
loop-i-preserved c =
    let l = c.loop-i in (
      search rules,
      fill-at (λ (k : ℕ) (v : ℤ). v ≡ signed (get_or c.args.raw.now k 0)) (pos 0) l.out l.i _
          (omega (arith, l.invariant.0)) l.invariant.1 (search rules),
    )
