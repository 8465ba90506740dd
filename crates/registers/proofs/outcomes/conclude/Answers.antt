use Rattle.registers.specs.MemoryLaws.{concluded-done, concluded-refused}
use borrow.Author.Rules.{rules}
use Rattle.registers.proofs.outcomes.conclude.Goals as goal

pub returns-in-Ok : goal.returns-in-Ok
returns-in-Ok c =
    concluded-done c.args.bytes.now _ _ _ _
    c.in-Ok.is (search rules) c.finish.ensures

pub returns-in-Err : goal.returns-in-Err
returns-in-Err c =
    concluded-refused c.args.bytes.now _ _ _
    c.in-Err.is c.refuse.ensures
