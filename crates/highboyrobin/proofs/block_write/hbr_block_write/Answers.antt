use lib.ListN.{length}
use Rattle.highboyrobin.proofs.BlockTold.{bytes-short, numbers-short, both_long, write-refused, write_done}
use Rattle.highboyrobin.proofs.block_write.hbr_block_write.Goals as goal

pub returns-then-block-lt256 : goal.returns-then-block-lt256
returns-then-block-lt256 c =
    let t = write-refused c.args.block.now c.args.rows.now c.args.address c.args.value (bytes-short (length
    c.args.block.now) (length c.args.rows.now) c.if-block-lt256.true) in
    record { value = t.0; block_by = t.1 }

pub returns-then-rows-lt720 : goal.returns-then-rows-lt720
returns-then-rows-lt720 c =
    let t = write-refused c.args.block.now c.args.rows.now c.args.address c.args.value (numbers-short (length
    c.args.block.now) (length c.args.rows.now) c.if-block-lt256.false c.if-rows-lt720.true) in
    record { value = t.0; block_by = t.1 }

pub returns : goal.returns
returns c =
    let t = write_done c.args.block.now c.args.rows.now c.args.address c.args.value (both_long (length
    c.args.block.now) (length c.args.rows.now)
    c.if-block-lt256.false
    c.if-rows-lt720.false) _ _ c.write_in.ensures in
    record { value = t.0; block_by = t.1 }
