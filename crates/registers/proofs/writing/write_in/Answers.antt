use Rattle.registers.specs.CommandLaws.{command-in, place_in}
use Rattle.registers.specs.Memory.{rows_held}
use mathlib.Core.Path.{refl, sym, ◌∙◌}
use native.Mathlib.Omega.{arith}
use Rattle.registers.proofs.writing.write_in.Goals as goal

pub store-requires : goal.store-requires
store-requires c = (
  c.requires.0,
  sym
      c.place_of-place.ensures ∙ c.in-Stored.is,
)

pub returns-in-Command : goal.returns-in-Command
returns-in-Command c =
    command-in c.args.address c.args.value c.place_of-place.result c.place_of-place.ensures c.args.bytes.now
    c.args.rows.now _ _ c.in-Command.is
    c.command.ensures

pub returns-in-Flag : goal.returns-in-Flag
returns-in-Flag c =
    let m = c.acknowledge.ensures in
    place_in c.args.address c.args.value c.place_of-place.result c.place_of-place.ensures c.args.bytes.now
    c.args.rows.now _ _ _ c.in-Flag.is (omega arith)
    (m.block (rows_held c.args.rows.now)) m.spare m.beyond refl

pub returns-in-Allow : goal.returns-in-Allow
returns-in-Allow c =
    let m = c.allow.ensures in
    place_in c.args.address c.args.value c.place_of-place.result c.place_of-place.ensures c.args.bytes.now
    c.args.rows.now _ _ _ c.in-Allow.is (omega arith)
    (m.block (rows_held c.args.rows.now)) m.spare m.beyond refl

pub returns-in-Stored : goal.returns-in-Stored
returns-in-Stored c =
    let m = c.store.ensures in
    place_in c.args.address c.args.value c.place_of-place.result c.place_of-place.ensures c.args.bytes.now
    c.args.rows.now _ _ _ c.in-Stored.is (omega arith)
    (m.block (rows_held c.args.rows.now)) m.spare m.beyond refl

pub returns-in-Number : goal.returns-in-Number
returns-in-Number c =
    place_in c.args.address c.args.value c.place_of-place.result c.place_of-place.ensures
    c.args.bytes.now c.args.rows.now _ _ _ c.in-Number.is (omega arith) refl (λ k. refl) refl refl

pub returns-in-Lateness : goal.returns-in-Lateness
returns-in-Lateness c =
    place_in c.args.address c.args.value c.place_of-place.result c.place_of-place.ensures
    c.args.bytes.now c.args.rows.now _ _ _ c.in-Lateness.is (omega arith) refl (λ k. refl) refl refl

pub returns-in-Held : goal.returns-in-Held
returns-in-Held c =
    place_in c.args.address c.args.value c.place_of-place.result c.place_of-place.ensures
    c.args.bytes.now c.args.rows.now _ _ _ c.in-Held.is (omega arith) refl (λ k. refl) refl refl

pub returns-in-Nothing : goal.returns-in-Nothing
returns-in-Nothing c =
    place_in c.args.address c.args.value c.place_of-place.result c.place_of-place.ensures
    c.args.bytes.now c.args.rows.now _ _ _ c.in-Nothing.is (omega arith) refl (λ k. refl) refl refl
