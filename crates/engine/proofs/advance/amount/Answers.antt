use borrow.Author.Rules.{rules}
use native.Mathlib.Omega.{arith}
use mathlib.Core.Path.{◌≡◌}
use Prim.Native.Nat.{ℕ, min}
use Rattle.std.specs.List.{fold}
use Rattle.std.proofs.iter.runs.Made.{chains}
use Rattle.engine.proofs.Laws.{least-start, least-under, least-greatest}
use Rattle.engine.proofs.advance.amount.Goals as goal

pub returns : goal.returns
returns c =
    let most = c.min-most.result in
    let xs = c.args.slack.now in
    let e : c.fold.result ≡ fold (λ (a x : ℕ). min a x) most xs = search (rules, chains) in
    record {
      left-fits = omega (arith, e, least-start most xs);
      cap-fits = omega (arith, e, least-start most xs);
      w_fits = omega (arith, e, least-start most xs);
      slack-fits = λ k l. omega (arith, e, least-under most xs k l);
      greatest = λ v x y z f. omega (arith, e, least-greatest most xs v (omega arith) f);
    }
