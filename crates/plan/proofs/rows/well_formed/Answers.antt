-- A row that names no job or no processor is not well formed; of one that does, the need, the memory and the minutes decide.
use Rattle.std.specs.Prelude.{◌≡◌, true, false, ◌&&◌, leb}
use Rattle.std.proofs.Common.{rules, ◌∙◌}
use Rattle.std.proofs.lemmas.Bool.{lt-leb}
use Rattle.plan.specs.Inside.{row_of}
use Rattle.plan.proofs.RowTests.{no-job, no-processor, unfit, fit}
use Rattle.plan.proofs.rows.well_formed.Goals.{then-not-contains-via-then-not-contains, then-not-contains-via-else-not-contains+then-not-contains-2}
use Rattle.plan.proofs.rows.well_formed.Goals as goal

pub returns-then-not-contains : goal.returns-then-not-contains
returns-then-not-contains c =
    let t = c.args.order in
    let r = row_of c.args.piece in
    elim c.then-not-contains.branch [
      | then-not-contains-via-then-not-contains w ↦
          let none : (leb 1 r.job && leb r.job t.jobs) ≡ false = search rules in
          no-job t r none
      | then-not-contains-via-else-not-contains+then-not-contains-2 w ↦
          let none : (leb 1 r.processor && leb r.processor t.processors) ≡ false = search rules in
          no-processor t r none
    ]

pub returns-then-need-memory : goal.returns-then-need-memory
returns-then-need-memory c =
    let t = c.args.order in
    let r = row_of c.args.piece in
    let job : (leb 1 r.job && leb r.job t.jobs) ≡ true = search rules in
    let processor : (leb 1 r.processor && leb r.processor t.processors) ≡ true = search rules in
    fit t r job processor c.if-need-memory.true

pub returns-else-need-memory : goal.returns-else-need-memory
returns-else-need-memory c =
    let t = c.args.order in
    let r = row_of c.args.piece in
    let job : (leb 1 r.job && leb r.job t.jobs) ≡ true = search rules in
    let processor : (leb 1 r.processor && leb r.processor t.processors) ≡ true = search rules in
    lt-leb _ _ c.if-need-memory.false ∙ unfit t r job processor c.if-need-memory.false
