use lib.Seq.{lt-length-set}
use lib.ListN.{length}
use Prim.Native.Nat.{◌<◌}
use mathlib.Core.Path.{refl, ap}
use Rattle.registers.specs.declared.Flags.{Flags}
use Rattle.registers.specs.MemoryLaws.{begin-moved}
use native.Mathlib.Omega.{arith}
use Rattle.registers.proofs.outcomes.begin.Goals as goal

pub bounds-bytes-2 : goal.bounds-bytes-2
bounds-bytes-2 c =
    let xs = c.args.bytes.now in
    let h : 2 < length xs = omega (arith, c.requires) in
    lt-length-set xs 1 _ h

pub returns : goal.returns
returns c =
    let held = c.flags_in-held in
    let made = c.with_flags in
    begin-moved c.args.bytes.now c.requires _ made.result made.ensures refl refl
    (ap (λ (w : Flags). w.interrupt) held.ensures) _ c.put_lateness.ensures
