use Rattle.std.proofs.Common.{rules, ◌≡◌, true, false}
use Rattle.std.proofs.lemmas.Iterator.{first_from_Range}
use Rattle.needs.specs.NeedTable.{line_at, meets}
use Rattle.needs.specs.MeetLaws.{first-line}
use Rattle.needs.proofs.meeting.line_for.Goals as goal

pub returns : goal.returns
returns c =
    let s = c.args in
    first-line s.table.now s.n s.x c.find.result
    (first_from_Range _ _ _ _ (λ k. meets (line_at s.table.now k) s.x ≡ true) (λ k. meets (line_at s.table.now k) s.x ≡ false)
    c.find.ensures.ran (λ k q h. search rules) (λ k q h. search rules))
