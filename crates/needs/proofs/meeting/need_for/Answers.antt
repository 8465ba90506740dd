use Rattle.needs.specs.MeetLaws.{need-of, no-need}
use Rattle.needs.proofs.meeting.need_for.Goals as goal

pub returns-in-Some : goal.returns-in-Some
returns-in-Some c = let s = c.args in need-of s.table.now s.n s.x _ c.in-Some.ensures

pub returns-in-None : goal.returns-in-None
returns-in-None c = let s = c.args in no-need s.table.now s.n s.x c.in-None.ensures
