use mathlib.Core.Path.{ap, sym}
use Rattle.sentence.specs.Line.{between}
use Rattle.text.specs.TextLaws.{put-none, put_as}
use Rattle.sentence.proofs.Jobs.{between-some}
use native.Mathlib.Omega.{arith}
use Rattle.sentence.proofs.line.put_between.Goals as goal

pub returns-then-before-eq0 : goal.returns-then-before-eq0
returns-then-before-eq0 c =
    (put_as (ap between (sym c.if-before-eq0.true)) (put-none c.args.out.now c.args.at (omega arith)), omega arith)

pub returns : goal.returns
returns c =
    let q = c.put_bytes.ensures in
    (put_as (between-some c.args.before c.if-before-eq0.false) q, omega (arith, q.next-is))
