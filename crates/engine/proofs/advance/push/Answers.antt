use borrow.Author.Rules.{rules}
use native.Mathlib.Omega.{arith}
use mathlib.Core.Path.{refl}
use Rattle.engine.proofs.Steps.{places, left-fits, raise-fits, lower-fits, ready-next, pushed, displaced}
use Rattle.engine.proofs.advance.push.Goals as goal

pub overflow_add-between-2 : goal.overflow_add-between-2
overflow_add-between-2 c =
    let p = places _ _ _ _ _ _ _ _ _ _ _ c.requires.ready _ _ _ c.requires.able in
    omega (arith, p.to-slack)

pub offset_bounds-slack-base : goal.offset_bounds-slack-base
offset_bounds-slack-base c =
    let p = places _ _ _ _ _ _ _ _ _ _ _ c.requires.ready _ _ _ c.requires.able in
    omega (arith, p.to-slack, c.min.ensures)

pub slice_bounds-between-end : goal.slice_bounds-between-end
slice_bounds-between-end c =
    let p = places _ _ _ _ _ _ _ _ _ _ _ c.requires.ready _ _ _ c.requires.able in
    search (rules, p.to-slack)

pub transfer-requires-clause-up_in_bounds : goal.transfer-requires-clause-up_in_bounds
transfer-requires-clause-up_in_bounds c =
    let p = places _ _ _ _ _ _ _ _ _ _ _ c.requires.ready _ _ _ c.requires.able in
    (p.up-w, p.down-w, p.apart)

pub transfer-requires-2-clause-d_bound : goal.transfer-requires-2-clause-d_bound
transfer-requires-2-clause-d_bound c =
    let D = c.amount-d.ensures in
    (left-fits _ _ _ _ _ _ _ _ _ _ _ c.requires.ready _ _ _ c.requires.able _ _ c.min.ensures D, D.left-fits)

pub reslack-requires-clause-c_in_bounds : goal.reslack-requires-clause-c_in_bounds
reslack-requires-clause-c_in_bounds c =
    let p = places _ _ _ _ _ _ _ _ _ _ _ c.requires.ready _ _ _ c.requires.able in
    (p.from-slack, p.to-slack)

pub reslack-requires-clause-by_index : goal.reslack-requires-clause-by_index
reslack-requires-clause-by_index c =
    lower-fits _ _ _ _ _ _ _ _ _ _ _ c.requires.ready _ _ _ c.requires.able _ _ c.min.ensures c.amount-d.ensures

pub reslack-requires-clause-by_index_2 : goal.reslack-requires-clause-by_index_2
reslack-requires-clause-by_index_2 c =
    raise-fits _ _ _ _ _ _ _ _ _ _ _ c.requires.ready _ _ _ c.requires.able _ _ c.min.ensures c.amount-d.ensures

pub returns-clause-ready_after : goal.returns-clause-ready_after
returns-clause-ready_after c =
    let P =
    pushed _ _ _ _ _ _ _ _ _ _ _ c.requires.ready _ _ _ c.requires.able _ _ c.min.ensures c.amount-d.ensures _ _ _
    c.transfer.ensures c.transfer-2.ensures c.reslack.ensures c.requires.nonzero in
    ready-next _ _ _ _ _ _ _ _ _ _ _ _ _ _ _ c.requires.ready c.transfer.auto.xs c.reslack.auto.xs c.transfer-2.auto.xs refl
    P.advanced.state

pub returns-clause-pushed : goal.returns-clause-pushed
returns-clause-pushed c =
    pushed _ _ _ _ _ _ _ _ _ _ _ c.requires.ready _ _ _ c.requires.able _ _ c.min.ensures c.amount-d.ensures _ _ _ c.transfer.ensures
    c.transfer-2.ensures c.reslack.ensures c.requires.nonzero

pub returns-clause-displaced : goal.returns-clause-displaced
returns-clause-displaced c =
    displaced _ _ _ _ _ _ _ _ _ _ _ c.requires.ready _ _ _ c.requires.able _ _ c.min.ensures c.amount-d.ensures _ _ _ c.transfer.ensures
    c.transfer-2.ensures c.reslack.ensures
