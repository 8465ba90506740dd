use Rattle.std.proofs.Common.{arith, ap}
use Rattle.std.specs.Prelude.{pos}
use Rattle.highboyrobin.proofs.Stored.{nineteen-stored}
use Rattle.highboyrobin.proofs.ReasonTold.{kind-small}
use Rattle.highboyrobin.proofs.answers.put_reason.Goals as goal

pub put_three-requires : goal.put_three-requires
put_three-requires c =
    rw c.numbers_of-kind.ensures (kind-small c.args.why.reason, c.requires.0, c.requires.1, omega (arith, c.requires.2))

pub returns : goal.returns
returns c =
    let e = c.numbers_of-kind.ensures in
    nineteen-stored c.args.answer.now c.args.why.dues _ _ _ _ _ _ _ _ (ap (λ t. pos t.0) e) (ap (λ t. pos t.1) e)
    (ap (λ t. pos t.2) e) c.put_three.ensures c.put_dues.ensures
