use Rattle.registers.specs.MemoryLaws.{allow-moved}
use Rattle.registers.proofs.writing.allow.Goals as goal

pub returns : goal.returns
returns c =
    allow-moved c.args.bytes.now c.requires c.args.written _ c.with_allowed.ensures
