use lib.ListN.{get_or}
use Rattle.std.specs.Prelude.{◌≡◌, not, ◌&&◌}
use Rattle.std.proofs.Common.{rules}
use Rattle.registers.specs.Memory.{flags_in}
use Rattle.registers.specs.MemoryLaws.{acknowledge-moved}
use Rattle.registers.proofs.writing.acknowledge.Goals as goal

pub returns : goal.returns
returns c =
    let xs = c.args.bytes.now in
    let held = flags_in (get_or xs 1 0) in
    let ones = flags_in c.args.written in
    let done : c.if-held.flags ≡ (held.done && not ones.done) = search rules in
    let refused : c.if-held-2.flags ≡ (held.refused && not ones.refused) = search rules in
    let interrupt : c.if-held-3.flags ≡ (held.interrupt && not ones.interrupt) = search rules in
    acknowledge-moved xs c.requires _ c.with_flags.result c.with_flags.ensures c.args.written done refused interrupt
