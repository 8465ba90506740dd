use mir.Syntax.{w32}
use mir.ValLaws.{to_z-of_z}
use Rattle.order_file.specs.Bytes.{pattern}
use Rattle.registers.specs.Memory.{flags_in, lateness_put}
use Rattle.registers.specs.Registers.{is_set}
use lib.ListN.{get_or, set}
use mathlib.Core.Bool.{◌||◌}
use mathlib.Core.Path.{◌≡◌, refl, ap, ◌∙◌}
use Rattle.std.proofs.Common.{rules}
use Rattle.registers.specs.declared.Flags.{Flags}
use Rattle.registers.specs.MemoryLaws.{finish-moved}
use Rattle.registers.proofs.outcomes.finish.Goals as goal

pub returns : goal.returns
returns c =
    let held = c.flags_in-held in
    let made = c.with_flags in
    let xs = c.args.bytes.now in
    let interrupt : c.if-held.flags ≡ ((flags_in (get_or xs 1 0)).interrupt || is_set (get_or xs 3 0)) = search rules in
    let z = c.args.lateness in
    finish-moved c.args.bytes.now c.requires _ made.result made.ensures refl
    (ap (λ (w : Flags). w.refused) held.ensures)
    interrupt
    z c.ranges.lateness.sfits _
    (c.put_lateness.ensures ∙ ap (lateness_put (set c.args.bytes.now 1 made.result))
    (c.to_pattern.ensures ∙ ap pattern (to_z-of_z w32 z c.ranges.lateness)))
