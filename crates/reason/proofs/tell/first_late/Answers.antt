use Rattle.std.proofs.Common.{rules, tests, true, ℕ, ◌<◌, ◌≤◌, ◌≡◌, get_or, Some}
use Rattle.std.specs.List.{filter}
use Rattle.std.specs.Option.{IfSome, IfNone, option_map}
use Rattle.std.specs.Iterator.Runs.{AllItems}
use Rattle.std.proofs.iter.runs.Sources.{ranges}
use Rattle.reason.specs.Asked.{late_at}
use Rattle.reason.proofs.StdWords.{kept}
use Rattle.reason.proofs.LateFirst.{first-late}
use Rattle.reason.proofs.tell.first_late.Goals as goal

pub returns : goal.returns
returns c =
    let o = c.args.o in
    let reach = c.args.reach in
    let place = c.min_by_key.result in
    let p = c.min_by_key.ensures.runs.0 in
    let q = c.filter.ensures.runs p p.seen c.min_by_key.ensures.runs.1 in
    let none : IfNone place (p.len ≡ 0) = search (rules, ranges) in
    let is : IfSome place (λ k. (k < o.n) × (late_at o reach k ≡ true)) = search (rules, ranges) in
    let least : IfSome place (λ k. AllItems p (λ j. get_or o.by_need k 0 ≤ get_or o.by_need j 0)) = search (rules, ranges) in
    let items : p.items ≡ filter (late_at o reach) q.0.items = q.2.4 (late_at o reach) (λ x r f h. search (rules, tests)) in
    let all : (j : ℕ) → j < o.n → (j < q.0.len) × (option_map (λ y. y) (q.0.at j) ≡ Some j) = λ j l. search (rules, ranges) in
    first-late o reach p place none is least (λ j l h. kept p q.0 (late_at o reach) items j j (all j l).0 (all j l).1 h)
