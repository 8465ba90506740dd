use Prim.Native.Nat.{◌≤◌}
use mathlib.Core.Path.{◌≡◌, ap, ◌∙◌}
use native.Mathlib.Omega.{arith}
use lib.IntN.{ℤ}
use lib.ListN.{length}
use mir.Syntax.{w32}
use mir.ValLaws.{to_z-of_z}
use Rattle.order.specs.Class.{classes}
use Rattle.order.specs.Lead.{reach_at, last_due}
use Rattle.order.proofs.RefusalLaws.{accepted-iff}
use Rattle.order.specs.Table.{order_of}
use Rattle.table.specs.Making.{fine_of}
use Rattle.reason.specs.Asked.{told_of}
use Rattle.reason.specs.Telling.{told_is}
use Rattle.reason.specs.ToldLaws.{why-told}
use Rattle.reason.proofs.tell.reason_at.Goals as goal

pub tell-requires : goal.tell-requires
tell-requires c =
    let o = order_of c.args.order in
    let f = c.table_of-o in record {
      fine = fine_of o f.result f.ensures ((accepted-iff o).0 c.requires.0);
      reach_le_most_reach = c.reach_of.ensures.1;
    }

pub returns : goal.returns
returns c =
    let o = order_of c.args.order in
    let f = c.table_of-o in
    let e : c.reach_of.result ≡ reach_at last_due c.args.bound
    = c.reach_of.ensures.0 ∙ ap (λ (z : ℤ). reach_at last_due z) (to_z-of_z w32 c.args.bound c.ranges.bound) in
    let is = c.tell.ensures
    ∙ (ap (told_of f.result) e
    ∙ told_is o f.result f.ensures ((accepted-iff o).0 c.requires.0) c.args.bound) in
    let few : length (classes o) ≤ 16 = omega (arith, f.ensures.classed, f.ensures.few-classes) in record {
      result_value = why-told o c.args.bound few c.tell.result is;
      value = is;
    }
