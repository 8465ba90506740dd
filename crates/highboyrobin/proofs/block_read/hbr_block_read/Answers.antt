use lib.ListN.{length}
use lib.IntN.{pos}
use mathlib.Core.List.{[], ◌∷◌}
use mathlib.Core.Path.{ap}
use Prim.Native.Nat.{ℕ}
use Rattle.highboyrobin.proofs.BlockTold.{bytes-short, numbers-short, both_long, answer-short, read-refused, read_done}
use Rattle.highboyrobin.proofs.block_read.hbr_block_read.Goals as goal

pub returns-then-answer-lt1 : goal.returns-then-answer-lt1
returns-then-answer-lt1 c =
    let t = answer-short c.args.block.now c.args.rows.now c.args.address c.args.answer.now c.if-answer-lt1.true in
    record { value = t.0; answer_after = t.1 }

pub returns-then-block-lt256 : goal.returns-then-block-lt256
returns-then-block-lt256 c =
    let t = read-refused c.args.block.now c.args.rows.now c.args.address c.args.answer.now c.if-answer-lt1.false
    (bytes-short (length c.args.block.now) (length c.args.rows.now) c.if-block-lt256.true) in
    record { value = t.0; answer_after = t.1 }

pub returns-then-rows-lt720 : goal.returns-then-rows-lt720
returns-then-rows-lt720 c =
    let t = read-refused c.args.block.now c.args.rows.now c.args.address c.args.answer.now c.if-answer-lt1.false
    (numbers-short (length c.args.block.now) (length c.args.rows.now) c.if-block-lt256.false c.if-rows-lt720.true) in
    record { value = t.0; answer_after = t.1 }

pub returns : goal.returns
returns c =
    let t = read_done c.args.block.now c.args.rows.now c.args.address c.args.answer.now
    c.if-answer-lt1.false (both_long (length c.args.block.now) (length
    c.args.rows.now) c.if-block-lt256.false c.if-rows-lt720.false)
    _ (ap (λ (byte : ℕ). pos byte ∷ []) c.read_in.ensures) _ c.put_count.ensures in
    record { value = t.0; answer_after = t.1 }
