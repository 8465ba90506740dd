use Rattle.std.proofs.Common.{arith}
use Rattle.std.proofs.lemmas.Grind.{common_steps}
use Rattle.needs.specs.MeetLaws.{same_lines}
use Rattle.needs.proofs.meeting.lines_of.Goals as goal

pub returns : goal.returns
returns c = same_lines _ _ c.args.n (λ k l. rw c.copy_from_slice.ensures.after (grind (arith, common_steps)))
