use Rattle.registers.specs.Registers.{is_set}
use lib.Seq.{lt-length-set}
use lib.ListN.{length, get_or}
use Prim.Native.Nat.{◌<◌}
use mathlib.Core.Bool.{◌||◌}
use mathlib.Core.Path.{◌≡◌, refl, ap}
use Rattle.std.proofs.Common.{rules}
use Rattle.registers.specs.Memory.{flags_in}
use Rattle.registers.specs.declared.Flags.{Flags}
use Rattle.registers.specs.MemoryLaws.{refuse-moved}
use native.Mathlib.Omega.{arith}
use Rattle.registers.proofs.outcomes.refuse.Goals as goal

pub bounds-bytes-2 : goal.bounds-bytes-2
bounds-bytes-2 c =
    let xs = c.args.bytes.now in
    let h : 2 < length xs = omega (arith, c.requires) in
    lt-length-set xs 1 _ h

pub returns : goal.returns
returns c =
    let held = c.flags_in-held in
    let xs = c.args.bytes.now in
    let interrupt : c.if-held.flags ≡ ((flags_in (get_or xs 1 0)).interrupt || is_set (get_or xs 3 0)) = search rules in
    refuse-moved c.args.bytes.now c.requires _ c.with_flags.result c.with_flags.ensures
    (ap (λ (w : Flags). w.done) held.ensures) refl
    interrupt _
