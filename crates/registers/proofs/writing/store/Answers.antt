use Rattle.registers.specs.MemoryLaws.{store-moved}
use native.Mathlib.Omega.{arith}
use Rattle.registers.proofs.writing.store.Goals as goal

pub bounds-bytes-address : goal.bounds-bytes-address
bounds-bytes-address c = omega (arith, c.requires.0, c.ranges.address.fits)

pub returns : goal.returns
returns c =
    store-moved c.args.bytes.now c.requires.0 c.args.address c.args.value c.ranges.address.fits c.requires.1
