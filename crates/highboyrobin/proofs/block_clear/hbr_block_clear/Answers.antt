use lib.ListN.{length}
use Rattle.highboyrobin.proofs.BlockTold.{bytes-short, numbers-short, both_long, clear-refused, clear-done}
use Rattle.highboyrobin.proofs.block_clear.hbr_block_clear.Goals as goal

pub returns-then-block-lt256 : goal.returns-then-block-lt256
returns-then-block-lt256 c =
    let t = clear-refused c.args.block.now c.args.rows.now (bytes-short (length c.args.block.now) (length c.args.rows.now)
    c.if-block-lt256.true) in
    record { value = t.0; block_after = t.1.0; rows_after = t.1.1 }

pub returns-then-rows-lt720 : goal.returns-then-rows-lt720
returns-then-rows-lt720 c =
    let t = clear-refused c.args.block.now c.args.rows.now (numbers-short (length c.args.block.now) (length
    c.args.rows.now) c.if-block-lt256.false c.if-rows-lt720.true) in
    record { value = t.0; block_after = t.1.0; rows_after = t.1.1 }

pub returns : goal.returns
returns c =
    let t = clear-done c.args.block.now c.args.rows.now (both_long (length c.args.block.now) (length c.args.rows.now)
    c.if-block-lt256.false
    c.if-rows-lt720.false) _ _
    c.clear_bytes.ensures c.clear_rows.ensures in
    record { value = t.0; block_after = t.1.0; rows_after = t.1.1 }
