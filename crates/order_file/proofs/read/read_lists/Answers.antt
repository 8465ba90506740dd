-- `read_lists`: the columns of the two parts of the file are those of the file's order.
use Rattle.order_file.proofs.Columns.{columns-read}
use Rattle.order_file.proofs.Padded.{padded-map}
use Rattle.order_file.specs.Bytes.{signed}
use Rattle.order_file.proofs.read.read_lists.Goals as goal

pub returns : goal.returns
returns c =
    columns-read _ _ _ _ _ c.requires.placed _ _ _ _ _
    c.column.ensures c.column-2.ensures
    (padded-map signed 48 _ 0 _ _ _ c.column-3.ensures c.all_signed.ensures.0 c.all_signed.ensures.1)
    c.column-4.ensures c.column-5.ensures
