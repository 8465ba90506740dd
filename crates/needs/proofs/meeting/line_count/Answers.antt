use Rattle.std.proofs.Common.{arith}
use Rattle.needs.specs.MeetLaws.{counted-first}
use Rattle.needs.proofs.meeting.line_count.Goals as goal

pub returns : goal.returns
returns c = (rw c.min.ensures (counted-first c.args.table.now), omega (arith, c.min.ensures), omega (arith, c.min.ensures))
