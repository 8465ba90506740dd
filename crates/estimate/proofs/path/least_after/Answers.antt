use Rattle.estimate.specs.Told.{estimate_of}
use Rattle.estimate.proofs.Answers.{along-read}
use Rattle.estimate.proofs.Ordered.{along-accepted, along-fine, along-least}
use Rattle.estimate.proofs.path.least_after.Goals as goal

pub table_of-requires : goal.table_of-requires
table_of-requires c =
    along-accepted c.args.estimate c.requires c.args.k _ c.order_after.ensures

pub least_in-requires : goal.least_in-requires
least_in-requires c =
    along-fine c.args.estimate c.requires c.args.k _ c.order_after.ensures _ c.table_of.ensures

pub returns : goal.returns
returns c =
    along-read (estimate_of c.args.estimate) c.requires c.args.k _
    (along-least c.args.estimate c.requires c.args.k _ c.order_after.ensures _ c.table_of.ensures _
    c.least_in.ensures)
