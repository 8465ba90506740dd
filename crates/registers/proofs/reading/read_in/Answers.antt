use Rattle.registers.proofs.ReadAt.{read_as, flags-read, allowed-read, stored-read, lateness-read, row_read}
use Rattle.registers.specs.PlaceLaws.{lateness-from, row_from, row_below}
use mathlib.Core.Path.{refl, sym, ◌∙◌}
use borrow.Author.Rules.{rules}
use native.Mathlib.Omega.{arith}
use Rattle.registers.proofs.reading.read_in.Goals as goal

pub overflow_sub-at : goal.overflow_sub-at
overflow_sub-at c =
    let p = c.place_of-place in
    let l = lateness-from c.args.address (sym p.ensures ∙ c.in-Lateness.is) in
    search (rules, l)

pub overflow_sub-at-in-Held : goal.overflow_sub-at-in-Held
overflow_sub-at-in-Held c =
    let p = c.place_of-place in
    let l = row_from c.args.address (sym p.ensures ∙ c.in-Held.is) in
    search (rules, l)

pub row_number-requires : goal.row_number-requires
row_number-requires c =
    let p = c.place_of-place in
    let e = sym p.ensures ∙ c.in-Held.is in
    (c.requires.1, omega (arith, row_from c.args.address e, row_below c.args.address e))

pub overflow_sub-at-in-Held-2 : goal.overflow_sub-at-in-Held-2
overflow_sub-at-in-Held-2 c =
    let p = c.place_of-place in
    let l = row_from c.args.address (sym p.ensures ∙ c.in-Held.is) in
    search (rules, l)

pub returns-in-Command : goal.returns-in-Command
returns-in-Command c =
    read_as c.args.bytes.now c.args.rows.now c.args.address c.place_of-place.result
    c.place_of-place.ensures _ c.in-Command.is _ refl

pub returns-in-Flag : goal.returns-in-Flag
returns-in-Flag c =
    flags-read c.args.bytes.now c.args.rows.now c.args.address c.place_of-place.result c.place_of-place.ensures
    c.in-Flag.is

pub returns-in-Number : goal.returns-in-Number
returns-in-Number c =
    read_as c.args.bytes.now c.args.rows.now c.args.address c.place_of-place.result c.place_of-place.ensures _
    c.in-Number.is _ refl

pub returns-in-Allow : goal.returns-in-Allow
returns-in-Allow c =
    allowed-read c.args.bytes.now c.args.rows.now c.args.address c.place_of-place.result c.place_of-place.ensures
    c.in-Allow.is

pub returns-in-Stored : goal.returns-in-Stored
returns-in-Stored c =
    stored-read c.args.bytes.now c.args.rows.now c.args.address c.place_of-place.result c.place_of-place.ensures
    c.in-Stored.is

pub returns-in-Lateness : goal.returns-in-Lateness
returns-in-Lateness c =
    let n = c.read4 in
    lateness-read c.args.bytes.now c.args.rows.now c.args.address c.place_of-place.result c.place_of-place.ensures
    c.in-Lateness.is n.result n.ensures n.type_inv _ c.byte_of.ensures

pub returns-in-Held : goal.returns-in-Held
returns-in-Held c =
    row_read c.args.bytes.now c.args.rows.now c.args.address c.place_of-place.result c.place_of-place.ensures
    c.in-Held.is c.read2-row.result c.row_number.result _
    c.read2-row.ensures.0 c.row_number.ensures c.byte_of-in-Held.ensures

pub returns-in-Nothing : goal.returns-in-Nothing
returns-in-Nothing c =
    read_as c.args.bytes.now c.args.rows.now c.args.address c.place_of-place.result
    c.place_of-place.ensures _ c.in-Nothing.is _ refl
