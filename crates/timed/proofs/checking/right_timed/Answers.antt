-- Good rows name jobs and processors that are there.
use Rattle.std.proofs.Common.{true, ◌≡◌, sym, ◌∙◌, rules}
use Rattle.order.proofs.StructLaws.{few-jobs}
use Rattle.order.specs.Table.{order_of}
use Rattle.plan.proofs.RowRanges.{good-back, good-ranged}
use Rattle.timed.proofs.checking.right_timed.Goals as goal

pub rows_in_times-requires : goal.rows_in_times-requires
rows_in_times-requires c =
    let o = order_of c.args.order in
    let r = c.args.rows.now in
    let good : c.rows_good.result ≡ true = search rules in
    let is = sym (c.rows_good.ensures ∙ good-back o c.args.bound r c.ranges.bound) ∙ good in
    (c.requires.2, good-ranged o c.args.bound c.requires.0 c.requires.1 r is)

pub many_apart-requires : goal.many_apart-requires
many_apart-requires c =
    let o = order_of c.args.order in
    let r = c.args.rows.now in
    let good : c.rows_good.result ≡ true = search rules in
    let is = sym (c.rows_good.ensures ∙ good-back o c.args.bound r c.ranges.bound) ∙ good in
    (c.requires.2, good-ranged o c.args.bound c.requires.0 c.requires.1 r is)

pub jobs_whole-requires : goal.jobs_whole-requires
jobs_whole-requires c =
    let o = order_of c.args.order in
    let r = c.args.rows.now in
    let good : c.rows_good.result ≡ true = search rules in
    let is = sym (c.rows_good.ensures ∙ good-back o c.args.bound r c.ranges.bound) ∙ good in
    (few-jobs c.args.order c.requires.0, c.requires.2, good-ranged o c.args.bound c.requires.0 c.requires.1 r is)
