use mir.ValLaws.{to_z-of_z}
use mir.Syntax.{w32}
use Rattle.highboyrobin.proofs.Stored.{two-stored}
use Rattle.highboyrobin.proofs.answers.put_two.Goals as goal

pub returns : goal.returns
returns c =
    two-stored c.args.answer.now _ _ _ _ (to_z-of_z w32 _ c.ranges.low) (to_z-of_z w32 _ c.ranges.high) c.requires
