use Rattle.std.proofs.Common.{ℕ, ◌≡◌, ◌-◌, ◌*◌, ◌≤◌, length, ap, arith, rules, ◌∙◌, subst, sym}
use Rattle.sums.specs.Sum.{sum}
use Rattle.allot.proofs.Shares.{room_small, sum-taken, taken-few}
use Rattle.allot.proofs.Writing.{row_more}
use Rattle.allot.specs.Tables.{count_of}
use Rattle.allot.proofs.tables.put_rooms_row.Goals as goal

pub processors_in-requires : goal.processors_in-requires
processors_in-requires c =
    let a = c.args in
    let size : 16 ≤ length a.counts.now = search rules in
    taken-few _ _ (length a.row.now - 1) (omega arith) (omega arith) c.requires.1

pub overflow_mul-room : goal.overflow_mul-room
overflow_mul-room c =
    let a = c.args in
    let size : 16 ≤ length a.counts.now = search rules in
    let few : c.processors_in.result ≤ 16 =
    subst (λ (n : ℕ). n ≤ 16) (sym c.processors_in.ensures) (taken-few _ _ (length a.row.now - 1) (omega arith) (omega arith) c.requires.1) in
    omega (arith, room_small c.processors_in.result a.minutes few (omega arith))

pub loop-k-preserved : goal.loop-k-preserved
loop-k-preserved c =
    let a = c.args in
    let k = c.loop-k.k in
    let size : 16 ≤ length a.counts.now = search rules in
    let e : c.processors_in.result ≡ sum k (count_of a.counts.now) =
    c.processors_in.ensures
    ∙ sum-taken a.counts.now _ (omega arith)
    ∙ ap (λ (n : ℕ). sum n (count_of a.counts.now)) (omega arith) in
    row_more k _ (omega (arith, c.loop-k.auto.row, c.loop-k-test.true)) (ap (λ (p : ℕ). p * a.minutes) e) c.loop-k.invariant
